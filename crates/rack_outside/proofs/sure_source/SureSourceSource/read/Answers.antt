use Rattle.std.proofs.Common.{◌≡◌, ◌≤◌, length, ◌-◌, take, drop, ap, ◌∙◌, arith, length-drop}
use Rattle.std.proofs.lemmas.Grind.{common_steps}
use Rattle.rack_outside.specs.Supply.{unread}
use Rattle.rack_outside.proofs.SupplyLemmas.{supply_at, unread_at, moved_on_at, gives_at}
use Rattle.rack_outside.proofs.sure_source.SureSourceSource.read.Goals as goal

pub returns-clause-exact : goal.returns-clause-exact
returns-clause-exact c =
    let f = c.self.inside in
    let within : f.given ≤ length f.input = c.self.invariant.0 in
    let rest : unread (supply_at f.input f.cuts f.given f.pieces) ≡ drop f.given f.input = unread_at f.input f.cuts f.given f.pieces within in
    let left : length (unread (supply_at f.input f.cuts f.given f.pieces)) ≡ length f.input - f.given = ap length rest ∙ length-drop f.given f.input in
    let next = moved_on_at f.input f.cuts f.given f.pieces c.min-size.result within in
    rw (← c.self.view_is) (grind (arith, common_steps), grind (arith, common_steps), grind (arith, common_steps), grind (arith, common_steps))

pub returns-clause-gives : goal.returns-clause-gives
returns-clause-gives c =
    let f = c.self.inside in
    let within : f.given ≤ length f.input = c.self.invariant.0 in
    let n = c.min-size.result in
    let copied : c.copy_from_slice.new.self ≡ take n (drop f.given f.input) = grind (arith, common_steps) in
    let held = ap length c.get-input.ensures in
    rw (← c.self.view_is) (gives_at f.input c.args.room.now c.copy_from_slice.new.self f.given n (omega arith) (omega arith) (omega (arith, held)) copied)
