-- Looking for the last `run` or `cascade`.
use Rattle.std.proofs.Common.{◌≡◌, ℕ, zero, suc, ◌+◌, ◌<◌, true, false, List, [], ◌∷◌, ◌++◌, length, take, get_or, Option, Some, None, is_some, option_map, slice_get, refl, sym, ap, ◌∙◌}
use Rattle.std.specs.List.{remove}
use Rattle.builder_core.specs.Tree.{Tree, Row}
use Rattle.builder_core.specs.Build.{Part, Block, Wears, Ends, At, last_end}
use Rattle.builder_core.specs.Counts.{part}
use Rattle.builder_core.specs.Spread.{IsLastEnd, end_of, parts, spread_over}
use Rattle.stock_middleware.specs.declared.ware.Ware.{Ware}
use Rattle.builder_core.specs.declared.steps.Line.{Line}
use Rattle.builder_core.proofs.Spreading.{last_end-append, spread-without}
use Rattle.std.proofs.lemmas.List.{take_more, map-append, length-map}
use Rattle.std.proofs.lemmas.Option.{slice_get-map, slice_get_read, slice_get_within}

last-other : {E : Type 0} (d : Option (Tree E)) (front : List (Part E)) (x : Part E) → is_some (end_of x) ≡ false → last_end d (front ++ x ∷ []) ≡ last_end d front
last-other d front (Wears w) e = last_end-append d front (Wears w ∷ [])
last-other d front (Ends t) e = cc
last-other d front (At p block) e = last_end-append d front (At p block ∷ [])

other : {E : Type 0} (all front : List (Part E)) (x : Part E) (f : Option ℕ) → is_some (end_of x) ≡ false → IsLastEnd all front f → IsLastEnd all (front ++ x ∷ []) f
other all front x None e h = λ d. last-other d front x e ∙ h d
other all front x (Some k) e h = (h.0, h.1, λ d. last-other d front x e ∙ h.2 d)

end : {E : Type 0} (all front : List (Part E)) (x : Part E) (i : ℕ) → is_some (end_of x) ≡ true → slice_get all i ≡ Some x → IsLastEnd all (front ++ x ∷ []) (Some i)
end all front (Wears w) i e is = cc
end all front (Ends t) i e is = (t, is, λ d. last_end-append d front (Ends t ∷ []))
end all front (At p block) i e is = cc

parts_more : {E : Type 0} (lines : List (Line E)) (i : ℕ) (x : Line E) → i < length lines → x ≡ get_or lines i x → parts (take (i + 1) lines) ≡ parts (take i lines) ++ part x ∷ []
parts_more lines i x h e =
    ap parts (take_more lines i x h)
    ∙ map-append part (take i lines) (get_or lines i x ∷ [])
    ∙ ap (λ y. parts (take i lines) ++ part y ∷ []) (sym e)

part_at : {E : Type 0} (lines : List (Line E)) (i : ℕ) (x : Line E) → i < length lines → x ≡ get_or lines i x → slice_get (parts lines) i ≡ Some (part x)
part_at lines i x h e =
    slice_get-map part lines i ∙ ap (option_map part) (slice_get_read lines (length lines) i x refl h e)

pub other_line : {E : Type 0} (lines : List (Line E)) (i : ℕ) (x : Line E) (f : Option ℕ) → i < length lines → x ≡ get_or lines i x → is_some (end_of (part x)) ≡ false → IsLastEnd (parts lines) (parts (take i lines)) f → IsLastEnd (parts lines) (parts (take (i + 1) lines)) f
other_line lines i x f h e not_end last =
    rw (parts_more lines i x h e) (other (parts lines) (parts (take i lines)) (part x) f not_end last)

pub end_line : {E : Type 0} (lines : List (Line E)) (i : ℕ) (x : Line E) → i < length lines → x ≡ get_or lines i x → is_some (end_of (part x)) ≡ true → IsLastEnd (parts lines) (parts (take (i + 1) lines)) (Some i)
end_line lines i x h e is_end =
    rw (parts_more lines i x h e) (end (parts lines) (parts (take i lines)) (part x) i is_end (part_at lines i x h e))

parts-remove : {E : Type 0} (lines : List (Line E)) (i : ℕ) → parts (remove lines i) ≡ remove (parts lines) i
parts-remove [] zero = refl
parts-remove [] (suc i) = refl
parts-remove (x ∷ lines) zero = refl
parts-remove (x ∷ lines) (suc i) = ap (λ ps. part x ∷ ps) (parts-remove lines i)

ends-same : {E : Type 0} (t u : Tree E) → Ends t ≡ Ends u → t ≡ u
ends-same t u e = cc

some-same : {A : Type 0} (x y : A) → Some x ≡ Some y → x ≡ y
some-same x y e = cc

-- the line that was found and is taken out
pub record Taken {E : Type 0} (lines : List (Line E)) (i : ℕ) (x : Line E) : Type 0 where
  pub last : (t : Tree E) → part x ≡ Ends t → (d : Option (Tree E)) → last_end d (parts lines) ≡ Some t
  pub is_end : (t : Tree E) × (part x ≡ Ends t)
  pub left : (o : Option (Option (Tree E) × Row E)) → spread_over (parts (remove lines i)) o ≡ spread_over (parts lines) o

pub taken : {E : Type 0} (lines : List (Line E)) (i : ℕ) (x : Line E) → IsLastEnd (parts lines) (parts lines) (Some i) → x ≡ get_or lines i x → Taken lines i x
taken lines i x h e =
    let within : i < length lines = rw (← length-map lines part) (slice_get_within (parts lines) i (Ends h.0) h.1) in
    let is : part x ≡ Ends h.0 = some-same (part x) (Ends h.0) (sym (part_at lines i x within e) ∙ h.1) in
    record {
      last = λ t q d. h.2 d ∙ ap (λ u. Some u) (ends-same h.0 t (sym is ∙ q));
      is_end = (h.0, is);
      left = λ o. ap (λ ps. spread_over ps o) (parts-remove lines i) ∙ spread-without o (parts lines) i h.0 h.1;
    }

pub never-wears : {E : Type 0} (w : Ware) (t : Tree E) → Wears w ≡ Ends t → ⊥
never-wears w t e = cc

pub never-at : {E : Type 0} (p : List ℕ) (block : Block E) (t : Tree E) → At p block ≡ Ends t → ⊥
never-at p block t e = cc
