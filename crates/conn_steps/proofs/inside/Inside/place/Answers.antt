use Rattle.conn_steps.proofs.DrainLemmas.{rests_told}
use Rattle.conn_steps.proofs.PlacedLemmas.{untold_placed}
use Rattle.conn_steps.proofs.inside.Inside.place.Goals as goal

pub invariant_of-self : goal.invariant_of-self
invariant_of-self g c =
    let p = c.args.self.now in
    record {
      room = p.room;
      reserved = c.put_phase.ensures.reserved;
      rests = rests_told p.at p.intake p.unfed p.ring.items p.calls p.ending 0 p.rests;
      begins = p.begins;
    }

pub returns-clause-holds : goal.returns-clause-holds
returns-clause-holds g c = λ V T s h. untold_placed V T s c.args.self.now 0 c.requires.may h
