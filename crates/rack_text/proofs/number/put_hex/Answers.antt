use Rattle.std.proofs.Common.{◌≤◌, ◌∙◌, arith, ap, false, length}
use Rattle.std.proofs.lemmas.List.{drop_all}
use Rattle.std.specs.Fmt.{digits_onto}
use Rattle.rack_text.proofs.HexLemmas.{digits_from_none}
use Rattle.rack_text.proofs.number.put_hex.Goals as goal

pub loop-start-init : goal.loop-start-init
loop-start-init c =
    let short : length c.args.room.now ≤ 64 = omega (arith, c.told-room) in
    record {
      within = omega arith;
      size = c.told-room;
      digits_are = ap (digits_onto 64 16 false c.args.n) (drop_all 64 c.args.room.now short) ∙ digits_from_none c.args.n;
    }
