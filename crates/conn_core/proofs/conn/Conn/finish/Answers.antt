use Rattle.talk_core.specs.Tail.{voice_of}
use Rattle.conn_steps.proofs.CallerLemmas.{end_of, plain_end_of, ends_over}
use Rattle.conn_core.proofs.conn.Conn.finish.Goals as goal

pub returns-clause-ended : goal.returns-clause-ended
returns-clause-ended g c = λ S h.
    end_of g.L.Link.seen (voice_of g.H.Hijack) S c.args.self.number c.args.self.link c.args.self.inside.value
    c.into_inner-lives.result c.in-Over.why c.into_inner-lives.ensures c.in-Over.is h.lives_are h.stands

pub returns-clause-plainly : goal.returns-clause-plainly
returns-clause-plainly g c = λ S h.
    plain_end_of g.L.Link.seen (voice_of g.H.Hijack) S c.args.self.number c.args.self.link c.args.self.inside.value
    c.into_inner-lives.result c.in-Over.why c.into_inner-lives.ensures c.in-Over.is h.stands

pub returns-clause-any : goal.returns-clause-any
returns-clause-any g c = λ T h.
    ends_over g.L.Link.seen (voice_of g.H.Hijack) T c.args.self.number c.args.self.link c.args.self.inside.value
    c.into_inner-lives.result c.in-Over.why c.into_inner-lives.ensures c.in-Over.is h
