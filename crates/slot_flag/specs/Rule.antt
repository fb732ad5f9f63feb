-- The rule of a flag: what stands of its word and its seats between any two steps. It serves inner
-- contracts alone.
use Rattle.std.specs.Prelude.{◌≡◌, ℕ, suc, ◌+◌, ◌≤◌, max, true, List, [], ◌∷◌, sum_by}
use mathlib.Core.Option.{some}
use lib.ListN.{get_elem?}
use Rattle.atomic_table.specs.Table.{Me, Step}
use Rattle.slot_flag.specs.declared.view.SeatView.{SeatView}
use Rattle.slot_flag.specs.Seat.{IsWhole}

-- the greatest level that a seat shows as raised
abbrev pub highest : List SeatView → ℕ
highest [] = 0
highest (v ∷ vs) = max v.raised (highest vs)

-- what one seat shows fits the rest: a spent one raised nothing, none saw more than the word, the
-- first has this number and counts those that are out
pub record Fits (word home out id : ℕ) (v : SeatView) : Type 0 where
  pub once : v.live ≤ 1
  pub spent : v.live ≡ 0 → v.raised ≡ 0
  pub seen : v.seen ≤ word
  pub level : v.raised ≤ 2
  pub first : v.first ≡ true → (id ≡ home) × (v.out ≡ out) × (v.live ≡ 1)

-- the word is the greatest level that the seats show as raised, each seat fits, and the first and those
-- that are out are all that are not spent
pub record Kept (words : List ℕ) (views : List SeatView) : Type 0 where
  pub word : ℕ
  pub first : ℕ
  pub out : ℕ
  pub is_word : words ≡ word ∷ []
  pub greatest : highest views ≡ word
  pub count : sum_by (λ v. v.live) views ≡ suc out
  pub each : (id : ℕ) (v : SeatView) → get_elem? views id ≡ some v → Fits word first out id v

-- what a step that found this word tells of it
pub record Tells (v : SeatView) (found : ℕ) : Type 0 where
  pub seen : v.seen ≤ found
  pub raised : v.raised ≤ found
  pub level : found ≤ 2
  pub whole : IsWhole v → found ≡ v.raised

-- the seat, having seen this word, with a level that it raised and so many looks more
abbrev pub stepped : ℕ → ℕ → ℕ → SeatView → SeatView
stepped word level looks v =
    record {
      first = v.first;
      live = v.live;
      out = v.out;
      raised = max v.raised level;
      seen = word;
      loads = v.loads + looks;
    }

module _ {S : Type 0} where
  -- a raise makes the word at least its level, and the seat saw the new word
  abbrev pub Raises : Step S → Me S SeatView → ℕ → Me S SeatView → Type 0
  Raises s me found after =
      (after.1 ≡ me.1) × (after.0 ≡ stepped (max found s.first) s.first 0 me.0) × Tells me.0 found

  -- a look sees the word
  abbrev pub Looks : Step S → Me S SeatView → ℕ → Me S SeatView → Type 0
  Looks s me found after = (after.1 ≡ me.1) × (after.0 ≡ stepped found 0 1 me.0) × Tells me.0 found

  -- so does a load that doesn't count
  abbrev pub Learns : Step S → Me S SeatView → ℕ → Me S SeatView → Type 0
  Learns s me found after = (after.1 ≡ me.1) × (after.0 ≡ stepped found 0 0 me.0) × Tells me.0 found
