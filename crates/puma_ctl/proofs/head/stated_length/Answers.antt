use Rattle.std.proofs.Common.{◌≤◌, length, map, take, ap, subst, sym, ◌∙◌, arith, List, ℕ}
use Rattle.std.proofs.lemmas.List.{take_all}
use Rattle.std.specs.Prelude.{codes}
use Rattle.httparse.specs.Spans.{header_bytes}
use Rattle.rack_types.specs.Fields.{values_of}
use Rattle.puma_ctl.specs.Back.{OccursAs}
use Rattle.puma_ctl.specs.Reply.{stated_length}
use Rattle.puma_ctl.proofs.FieldLemmas.{fields_more}
use Rattle.puma_ctl.proofs.head.stated_length.Goals as goal

pub loop-i-preserved : goal.loop-i-preserved
loop-i-preserved c =
    subst (λ (fs : List (List ℕ × List ℕ)). OccursAs c.with-found.result (values_of (codes "content-length") fs))
    (sym (fields_more c.args.text.now c.args.places.now c.loop-i.i _ _ _ c.loop-i-test.true c.of.ensures c.of-in-loop-i.ensures))
    (c.with-found.ensures (map (header_bytes c.args.text.now) (take c.loop-i.i c.args.places.now)) c.loop-i.invariant)

pub returns : goal.returns
returns c =
    let past : length c.args.places.now ≤ c.loop-i.i = omega (arith, c.loop-i-test.false) in
    c.length.ensures _ c.loop-i.invariant ∙ ap (λ ps. stated_length (map (header_bytes c.args.text.now) ps)) (take_all c.loop-i.i c.args.places.now past)
