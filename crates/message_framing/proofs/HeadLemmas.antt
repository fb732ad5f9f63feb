-- The parts of a target, at the places that memchr found.
use Rattle.std.proofs.Common.{◌≡◌, ℕ, ◌+◌, ◌-◌, ◌≤◌, Bool, List, length, take, drop, min, inl, inr, ap, sym, ◌∙◌, arith, length-drop}
use Rattle.std.specs.List.{slice_range, position_or_len, before_first, after_first}
use Rattle.std.proofs.lemmas.Bool.{cases_lt}
use Rattle.std.proofs.lemmas.List.{drop_all, drop-drop, take_all}
use Rattle.std.proofs.lemmas.List.Sums.{position_or_len_is}
use Rattle.memchr.specs.Find.{Nowhere, NoneBefore, Passes}
use Rattle.message_framing.specs.Target.{is_question}
use Rattle.message_framing.proofs.ScanPieceLemmas.{not_true}
use Rattle.message_framing.proofs.SliceLemmas.{slice_front}

-- the first place whose byte passes a test, as memchr found it
pub place_found : (p : ℕ → Bool) (w : List ℕ) (k : ℕ) → NoneBefore (Passes p w) 0 (length w) k → Passes p w k
    → k ≡ position_or_len p w
place_found p w k first here =
    let fits : k ≤ length w = omega (arith, first.high) in
    sym (position_or_len_is p w k 0 fits (λ j below. not_true _ (first.before j (omega arith) below)) (λ _. here))

-- memchr found none
pub place_missing : (p : ℕ → Bool) (w : List ℕ) → Nowhere (Passes p w) 0 (length w) → length w ≡ position_or_len p w
place_missing p w none =
    sym (position_or_len_is p w (length w) 0 (omega arith) (λ j below. not_true _ (none j (omega arith) below)) (λ past. absurd (omega (arith, past))))

-- the rest of a list, up to its end
pub whole_rest : (w : List ℕ) (s : ℕ) → s ≤ length w → slice_range w s (length w) ≡ drop s w
whole_rest w s fits = take_all (length w - s) (drop s w) (omega (arith, length-drop s w))

-- a path that begins at `from` and ends at its first `?`
pub path_at : (w : List ℕ) (from n : ℕ) → from ≤ length w → n ≡ position_or_len is_question (drop from w) → n ≤ length (drop from w)
    → slice_range w from (from + n) ≡ before_first is_question (drop from w)
path_at w from n fits place within =
    let inside : from + n ≤ length w = omega (arith, within, length-drop from w) in
    slice_front w from (length w) n inside ∙ ap (take n) (whole_rest w from fits) ∙ ap (λ k. take k (drop from w)) place

-- the query behind it
pub query_at : (w : List ℕ) (from n q : ℕ) → from ≤ length w → n ≡ position_or_len is_question (drop from w) → n ≤ length (drop from w)
    → q ≡ min (length w) (from + n + 1) → slice_range w q (length w) ≡ after_first is_question (drop from w)
query_at w from n q fits place within cut = elim (cases_lt (length w) (from + n + 1)) [
  | inr inside ↦
      let here : q ≡ from + (n + 1) = omega (arith, cut, inside) in
      let room : from + (n + 1) ≤ length w = omega (arith, inside) in
      ap (λ k. slice_range w k (length w)) here ∙ whole_rest w (from + (n + 1)) room
      ∙ sym (drop-drop (n + 1) from w) ∙ ap (λ k. drop (k + 1) (drop from w)) place
  | inl past ↦
      let here : q ≡ length w = omega (arith, cut, past) in
      let past_end : length (drop from w) ≤ n + 1 = omega (arith, past, length-drop from w) in
      let order : length w ≤ length w = omega arith in
      ap (λ k. slice_range w k (length w)) here ∙ whole_rest w (length w) order ∙ drop_all (length w) w order
      ∙ sym (drop_all (n + 1) (drop from w) past_end) ∙ ap (λ k. drop (k + 1) (drop from w)) place
]
