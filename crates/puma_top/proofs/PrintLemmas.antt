-- What writing a text piece by piece leaves.
use Rattle.std.proofs.Common.{◌≡◌, ◌≢◌, ℕ, ◌+◌, ◌-◌, ◌<◌, ◌≤◌, List, [], ◌++◌, length, take, drop, Option, None, Some, ap, sym, ◌∙◌, subst, arith}
use Rattle.std.proofs.lemmas.List.{take-append-drop, take_rest, length-drop, length-take-le}
use Rattle.std.proofs.Math.Seq.{take-append-add, take-length}
use Rattle.rack_outside.specs.Link.{Tells}
use Rattle.rack_outside.specs.Told.{appended}
use Rattle.puma_top.specs.Seen.{SinkSeen}
use Rattle.puma_top.specs.QuietSteps.{WroteFront}

size_taken : (text : List ℕ) (from : ℕ) → from ≤ length text → length (take from text) ≡ from
size_taken text from fits = length-take-le from text fits

more_taken : (text : List ℕ) (from n : ℕ) → from ≤ length text → take (from + n) text ≡ take from text ++ take n (drop from text)
more_taken text from n fits =
    ap (λ (k : ℕ). take (k + n) text) (sym (size_taken text from fits))
    ∙ ap (λ (t : List ℕ). take (length (take from text) + n) t) (sym (take-append-drop from text))
    ∙ take-append-add (take from text) (drop from text) n

pub took_more : (text piece : List ℕ) (from n : ℕ) (old new : Option (List ℕ)) → from ≤ length text → piece ≡ take (length text - from) (drop from text)
    → Tells old (take from text) → new ≡ appended old (take n piece) → Tells new (take (from + n) text)
took_more text piece from n None new fits is told adds = subst (λ (o : Option (List ℕ)). Tells o (take (from + n) text)) (sym adds) tt
took_more text piece from n (Some before) new fits is told adds =
    let rest : piece ≡ drop from text = is ∙ take_rest text from in
    let all : before ++ take n piece ≡ take (from + n) text =
    ap (λ (x : List ℕ). x ++ take n piece) told ∙ ap (λ (x : List ℕ). take from text ++ take n x) rest ∙ sym (more_taken text from n fits) in
    subst (λ (o : Option (List ℕ)). Tells o (take (from + n) text)) (sym adds) all

-- some is left before the end
some_left : (text : List ℕ) (from : ℕ) → from < length text → drop from text ≡ [] → ⊥
some_left text from less none =
    let size : length (drop from text) ≡ length text - from = length-drop from text in
    let zero : length (drop from text) ≡ 0 = ap length none in
    omega (arith, size, zero, less)

-- where no more is taken
pub front_is : (text : List ℕ) (from : ℕ) (sink : SinkSeen) → Tells sink.written (take from text) → WroteFront text sink
front_is text from sink told = record {
  front = take from text;
  more = drop from text;
  begins = sym (take-append-drop from text);
  wrote = told;
}

pub front_less : (text : List ℕ) (from : ℕ) (sink : SinkSeen) → Tells sink.written (take from text) → from < length text
    → (h : WroteFront text sink) × (h.more ≢ [])
front_less text from sink told less = (
  record { front = take from text; more = drop from text; begins = sym (take-append-drop from text); wrote = told },
  some_left text from less,
)

-- the same, where the sink tells no other
pub same_told : (text : List ℕ) (from : ℕ) (old new : Option (List ℕ)) → Tells old (take from text) → new ≡ old → Tells new (take from text)
same_told text from old new told same = subst (λ (o : Option (List ℕ)). Tells o (take from text)) (sym same) told

pub all_taken : (text : List ℕ) (from : ℕ) (o : Option (List ℕ)) → Tells o (take from text) → ¬ (from < length text) → from ≤ length text → Tells o text
all_taken text from o told done within =
    let is : from ≡ length text = omega (arith, done, within) in
    subst (λ (t : List ℕ). Tells o t) (ap (λ (k : ℕ). take k text) is ∙ take-length text) told

-- the next place
pub within_more : (text piece : List ℕ) (from n : ℕ) → from ≤ length text → piece ≡ take (length text - from) (drop from text) → n ≤ length piece
    → from + n ≤ length text
within_more text piece from n within is few =
    let size : length piece ≡ length text - from = ap length (is ∙ take_rest text from) ∙ length-drop from text in
    omega (arith, size, few, within)
