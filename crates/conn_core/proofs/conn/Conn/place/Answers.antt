use Rattle.conn_steps.proofs.CallerLemmas.{placed_holds}
use Rattle.conn_core.proofs.conn.Conn.place.Goals as goal

pub returns-clause-holds : goal.returns-clause-holds
returns-clause-holds g c = λ V S h.
    let s = g.L.Link.seen c.args.self.now.link in
    let both = placed_holds V S c.args.self.now.inside.value c.deref_mut-inside.result.now c.place.new.self s c.args.phase
    c.deref_mut-inside.ensures.value c.requires.room c.requires.none_above c.place.ensures.placed (λ T x. c.place.ensures.holds V T s x) h.lives_are h.stands in
    record { lives_are = both.0; stands = both.1 }
