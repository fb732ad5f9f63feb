use Rattle.std.proofs.Common.{◌≤◌, length, map, ap, subst, sym, arith, List, ℕ}
use Rattle.std.proofs.lemmas.List.{take_all}
use Rattle.httparse.specs.Spans.{header_bytes}
use Rattle.message_framing.specs.Found.{FoundAs}
use Rattle.message_framing.proofs.FieldLemmas.{fields_more}
use Rattle.message_framing.proofs.fields.find.Goals as goal

pub loop-i-preserved : goal.loop-i-preserved
loop-i-preserved c =
    subst (λ (fs : List (List ℕ × List ℕ)). FoundAs c.with-found.result fs)
    (sym (fields_more c.args.text.now c.args.places.now c.loop-i.i _ _ _ c.loop-i-test.true c.of.ensures c.of-in-loop-i.ensures))
    (c.with-found.ensures _ c.loop-i.invariant)

pub returns : goal.returns
returns c =
    let past : length c.args.places.now ≤ c.loop-i.i = omega (arith, c.loop-i-test.false) in
    subst (λ (fs : List (List ℕ × List ℕ)). FoundAs c.loop-i.found fs) (ap (map (header_bytes c.args.text.now)) (take_all c.loop-i.i c.args.places.now past)) c.loop-i.invariant
