-- The rules that `bad` breaks.
use Rattle.std.proofs.Common.{◌≡◌, ℕ, false, List, [], ◌∷◌, All, codes, refl}
use Rattle.std.proofs.lemmas.List.Elements.{All-cons, All-nil}
use Rattle.httparse.specs.Grammar.{is_token_byte}
use Rattle.rack_types.specs.AnswerRules.{broken_head_rule}
use Rattle.rack_types.specs.Env.{Pairs}
use Rattle.rack_types.specs.RuleWords.{has_value}
use Rattle.stock_apps.specs.Laws.{BreaksIts}

module _ (pairs : Pairs) (input : List ℕ) where
  breaks_1 : BreaksIts 1 pairs input
  unfolding broken_head_rule is_token_byte
  breaks_1 = refl

  breaks_2 : BreaksIts 2 pairs input
  unfolding broken_head_rule is_token_byte
  breaks_2 = refl

  breaks_3 : BreaksIts 3 pairs input
  unfolding broken_head_rule is_token_byte
  breaks_3 = refl

  breaks_4 : BreaksIts 4 pairs input
  unfolding broken_head_rule is_token_byte
  breaks_4 = refl

  breaks_5 : BreaksIts 5 pairs input
  unfolding broken_head_rule is_token_byte
  breaks_5 = refl

  breaks_6 : BreaksIts 6 pairs input
  unfolding broken_head_rule is_token_byte
  breaks_6 = refl

  breaks_7 : BreaksIts 7 pairs input
  unfolding broken_head_rule is_token_byte
  breaks_7 = refl

  breaks_8 : BreaksIts 8 pairs input
  unfolding broken_head_rule is_token_byte
  breaks_8 = refl

  pub breaks_10 : has_value (codes "REQUEST_METHOD") (codes "HEAD") pairs ≡ false → BreaksIts 10 pairs input
  unfolding broken_head_rule is_token_byte
  breaks_10 other = rw other refl

  pub breaks_each : All (λ n. BreaksIts n pairs input) (1 ∷ 2 ∷ 3 ∷ 4 ∷ 5 ∷ 6 ∷ 7 ∷ 8 ∷ [])
  breaks_each =
      let P : ℕ → Type 0 = λ n. BreaksIts n pairs input in
      let from_8 : All P (8 ∷ []) = All-cons P 8 ([]) breaks_8 (All-nil P) in
      let from_7 : All P (7 ∷ 8 ∷ []) = All-cons P 7 (8 ∷ []) breaks_7 from_8 in
      let from_6 : All P (6 ∷ 7 ∷ 8 ∷ []) = All-cons P 6 (7 ∷ 8 ∷ []) breaks_6 from_7 in
      let from_5 : All P (5 ∷ 6 ∷ 7 ∷ 8 ∷ []) = All-cons P 5 (6 ∷ 7 ∷ 8 ∷ []) breaks_5 from_6 in
      let from_4 : All P (4 ∷ 5 ∷ 6 ∷ 7 ∷ 8 ∷ []) = All-cons P 4 (5 ∷ 6 ∷ 7 ∷ 8 ∷ []) breaks_4 from_5 in
      let from_3 : All P (3 ∷ 4 ∷ 5 ∷ 6 ∷ 7 ∷ 8 ∷ []) = All-cons P 3 (4 ∷ 5 ∷ 6 ∷ 7 ∷ 8 ∷ []) breaks_3 from_4 in
      let from_2 : All P (2 ∷ 3 ∷ 4 ∷ 5 ∷ 6 ∷ 7 ∷ 8 ∷ []) = All-cons P 2 (3 ∷ 4 ∷ 5 ∷ 6 ∷ 7 ∷ 8 ∷ []) breaks_2 from_3 in
      let from_1 : All P (1 ∷ 2 ∷ 3 ∷ 4 ∷ 5 ∷ 6 ∷ 7 ∷ 8 ∷ []) = All-cons P 1 (2 ∷ 3 ∷ 4 ∷ 5 ∷ 6 ∷ 7 ∷ 8 ∷ []) breaks_1 from_2 in
      from_1
