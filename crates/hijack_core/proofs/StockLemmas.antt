-- What the search for the byte that ends tells of what upper says.
use Rattle.std.proofs.Common.{◌≡◌, ℕ, suc, Bool, true, false, not, ◌||◌, List, [], ◌∷◌, map, take, Some, None, slice_index, refl, sym, ap, ◌∙◌, arith}
use Rattle.std.specs.Char.{to_ascii_uppercase}
use Rattle.std.specs.List.{list_any}
use Rattle.std.proofs.lemmas.List.Folds.{list_any_at}
use Rattle.std.proofs.lemmas.List.Sums.{prefix_len_is}
use Rattle.memchr.specs.Find.{IsFirstByte, is_byte}
use Rattle.hijack_core.specs.declared.hijack.Said.{Said}
use Rattle.hijack_core.specs.declared.stock.Stock.{Stock}
use Rattle.hijack_core.specs.Said.{GoesOnAs}
use Rattle.hijack_core.specs.Stock.{is_end, before_end, uppered, stock_says, stock_ends}
use Rattle.hijack_core.specs.StockLaws.{before-none, stock-joins}

-- a search that finds no byte that ends
pub search-none : (bytes : List ℕ) → IsFirstByte (is_byte 4) bytes None → list_any is_end bytes ≡ false
search-none [] h = refl
search-none (x ∷ xs) h = by (is_end x) refl (search-none xs (λ k low high passes. h (suc k) (omega arith) (omega arith) passes))
  where
    by : (b : Bool) → is_end x ≡ b → list_any is_end xs ≡ false → list_any is_end (x ∷ xs) ≡ false
    by true e rest = absurd (h 0 (omega arith) (omega arith) e)
    by false e rest = ap (λ b. b || list_any is_end xs) e ∙ rest

fails : (b : Bool) → ¬ (b ≡ true) → not b ≡ true
fails true h = absurd (h refl)
fails false h = refl

-- a search that finds one
pub search-some : (bytes : List ℕ) (place : ℕ) → IsFirstByte (is_byte 4) bytes (Some place)
    → (list_any is_end bytes ≡ true) × (before_end bytes ≡ take place bytes)
search-some bytes place h =
    let high = h.0.high in
    let before = h.0.before in (
      list_any_at is_end bytes place 0 high h.1,
      ap (λ n. take n bytes) (prefix_len_is (λ b. not (is_end b)) bytes place 0 (omega (arith, high))
          (λ k l. fails (is_end (slice_index bytes k)) (before k (omega arith) l)) (λ l. ap not h.1)),
    )

-- these bytes in capitals, and on where none ends
cased : List ℕ → Bool → Said
cased bytes ends = record { bytes = map to_ascii_uppercase bytes; go_on = not ends }

-- what upper says where the search finds nothing, and where it finds a place
pub upper-none : (bytes : List ℕ) → IsFirstByte (is_byte 4) bytes None → record { bytes = map to_ascii_uppercase bytes; go_on = true } ≡ uppered bytes
unfolding cased
upper-none bytes h =
    let none = search-none bytes h in
    ap (λ text. cased text false) (sym (before-none bytes none)) ∙ ap (cased (before_end bytes)) (sym none)

pub upper-some : (bytes : List ℕ) (place : ℕ) → IsFirstByte (is_byte 4) bytes (Some place)
    → record { bytes = map to_ascii_uppercase (take place bytes); go_on = false } ≡ uppered bytes
unfolding cased
upper-some bytes place h =
    let some = search-some bytes place h in
    ap (λ text. cased text true) (sym some.1) ∙ ap (cased (before_end bytes)) (sym some.0)

-- whoever says what the stock hijacker says goes on as it does
pub goes_on-as : (stock : Stock) (piece : List ℕ) (said : Said) → said ≡ stock_says stock piece → said.go_on ≡ true
    → GoesOnAs (stock_says stock) (stock_ends stock) piece (stock_says stock) (stock_ends stock)
goes_on-as stock piece said same goes = stock-joins stock piece (sym (ap (λ s. s.go_on) same) ∙ goes)
