use Rattle.std.proofs.Common.{◌++◌, arith}
use Rattle.rack_types.specs.Headers.{values_at}
use Rattle.reply_framing.specs.Head.{value_line}
use Rattle.std.specs.List.{flat_map}
use Rattle.reply_framing.proofs.LineLemmas.{drop_at, text_more}
use Rattle.reply_framing.proofs.head.write_values.Goals as goal

pub loop-j-preserved : goal.loop-j-preserved
loop-j-preserved c =
    let values = values_at c.args.i c.args.headers.now in
    record {
      text = text_more (value_line c.args.name.now) values c.loop-j.j c.value.result.now c.loop-j.head.items c.write_value.new.head.items
          (c.args.head.now.items ++ flat_map (value_line c.args.name.now) values)
          (drop_at values c.loop-j.j c.value.result.now c.value.ensures) c.in_ok-write_value.ensures.text c.loop-j.invariant.text;
      room = omega (arith, c.loop-j.invariant.room, c.in_ok-write_value.ensures.room);
    }
