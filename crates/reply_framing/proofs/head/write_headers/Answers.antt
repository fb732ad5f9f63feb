use Rattle.std.proofs.Common.{◌++◌, arith}
use Rattle.rack_types.specs.Headers.{values_at}
use Rattle.reply_framing.specs.Head.{header_line, header_lines}
use Rattle.reply_framing.proofs.LineLemmas.{header_at, text_more}
use Rattle.reply_framing.proofs.head.write_headers.Goals as goal

pub loop-i-preserved : goal.loop-i-preserved
loop-i-preserved c =
    let headers = c.args.headers.now in
    record {
      text = text_more (header_line c.args.part) headers c.loop-i.i (c.name.result.now, values_at c.loop-i.i headers) c.loop-i.head.items c.write_header.new.head.items
          (c.args.head.now.items ++ header_lines c.args.part headers)
          (header_at headers c.loop-i.i c.name.result.now c.name.ensures) c.in_ok-write_header.ensures.text c.loop-i.invariant.text;
      room = omega (arith, c.loop-i.invariant.room, c.in_ok-write_header.ensures.room);
    }
