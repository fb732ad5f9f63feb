use Rattle.std.proofs.Common.{length, take, ap, sym, ◌∙◌, arith, length-take-le}
use Rattle.std.proofs.Math.Seq.{take-append_seam}
use Rattle.rack_outside.specs.Source.{IsPrefix}
use Rattle.rack_outside.proofs.LinkLemmas.{still_whole}
use Rattle.rack_outside.proofs.pair_link.PairLinkLink.read.Goals as goal

pub invariant_of-self : goal.invariant_of-self
invariant_of-self g c = record {
  front = λ xs ys e d.
      let prefix : IsPrefix (g.S.Source.given c.read.new.self) (g.S.Source.input c.args.self.now.source.now) = c.in-Bytes.ensures.gives.3 in
      let p = prefix xs ys e (sym c.read.ensures.same ∙ d) in
      ap (take (length xs)) p.1 ∙ take-append_seam xs p.0;
  whole = λ over.
      let gives = c.in-Bytes.ensures.gives in
      let room = c.read.new.room in
      let n = c.in-Bytes.n in
      let input = g.S.Source.input c.args.self.now.source.now in
      let prefix : IsPrefix (g.S.Source.given c.read.new.self) (g.S.Source.input c.args.self.now.source.now) = gives.3 in
      let whole = still_whole (g.S.Source.given c.args.self.now.source.now) (g.S.Source.given c.read.new.self) (g.S.Source.input c.args.self.now.source.now)
      (take n room) (omega (arith, length-take-le n room gives.1, gives.0)) gives.2 prefix (c.args.self.now.whole over) in
      λ xs ys e d. whole xs ys e (sym c.read.ensures.same ∙ d);
}
