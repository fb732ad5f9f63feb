use Rattle.std.proofs.Common.{arith, ap, sym, []}
use Rattle.message_framing.specs.Chunks.{line_end, After}
use Rattle.message_framing.proofs.chunks.Chunks.new.Goals as goal

pub returns : goal.returns
unfolding line_end After
returns c = record {
  pieces = [];
  after = sym c.new-2.ensures.items;
  data_is = c.new.ensures.items;
  sum = omega arith;
  unended = ap line_end c.new-2.ensures.items;
  within = omega (arith, c.new-2.ensures.len);
}
