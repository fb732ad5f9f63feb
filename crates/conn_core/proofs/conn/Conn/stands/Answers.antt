use Rattle.talk_core.specs.Tail.{voice_of}
use Rattle.conn_steps.proofs.CallerLemmas.{live_stands}
use Rattle.conn_steps.proofs.CallerLemmas.{has_answered}
use Rattle.conn_core.proofs.NextRequest.{begins_rightly}
use Rattle.conn_core.proofs.conn.Conn.stands.Goals as goal

pub returns-clause-talk : goal.returns-clause-talk
returns-clause-talk g c = λ S live h.
    live_stands (voice_of g.H.Hijack) S (g.L.Link.seen c.args.self.now.link) c.args.self.now.inside.value live h.lives_are h.stands

pub returns-clause-begun : goal.returns-clause-begun
returns-clause-begun g c = λ T h.
    begins_rightly (voice_of g.H.Hijack) T (g.L.Link.seen c.args.self.now.link) c.args.self.now.inside.value h

pub returns-clause-answered : goal.returns-clause-answered
returns-clause-answered g c = λ T may h.
    has_answered (voice_of g.H.Hijack) T (g.L.Link.seen c.args.self.now.link) c.args.self.now.inside.value may h
