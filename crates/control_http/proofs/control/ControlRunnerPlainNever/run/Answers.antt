use Rattle.std.proofs.Common.{ap, sym, ◌∙◌, length}
use Rattle.control_http.proofs.RunsLemmas.{serves-slots, served_more, served_none}
use Rattle.control_http.proofs.control.ControlRunnerPlainNever.run.Goals as goal

pub invariant_of-self : goal.invariant_of-self
invariant_of-self g c =
    let old = c.args.self.now in
    record {
      slots = old.slots ∙ ap length (sym (serves-slots _ _ _ _ _ _ c.in-Ok.ensures.serves));
      served = rw (c.and-well.ensures, c.and-self.ensures)
          (served_more old.token.now old.seen.now old.asked.items c.args.env.now old.answered.items c.in-Ok.answer _ _ old.given.value _ _ old.served c.in-Ok.ensures.serves);
    }

pub invariant_of-self-in-Err : goal.invariant_of-self-in-Err
invariant_of-self-in-Err g c =
    let old = c.args.self.now in
    record {
      slots = rw c.in-Err.ensures.unchanged old.slots;
      served = rw c.and-badly.ensures
          (served_none old.token.now old.seen.now old.asked.items c.args.env.now old.answered.items old.given.value _ _ old.served c.in-Err.ensures.unchanged);
    }
