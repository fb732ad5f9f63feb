-- Building from the last line to the first gives what `around` says.
use Rattle.std.proofs.Common.{◌≡◌, ℕ, List, [], ◌∷◌, ◌++◌, Option, Some, None, option_map, option_and_then, refl, sym, ap, subst, ◌∙◌, slice_get, zero, suc}
use Rattle.std.specs.List.{remove}
use Rattle.std.proofs.lemmas.Option.{same_Some}
use Rattle.stock_middleware.specs.declared.ware.Ware.{Ware}
use Rattle.std.specs.Prelude.{⊤}
use Rattle.builder_core.specs.Tree.{Tree, Wraps, ByPlace, Row, NoPlace, Place}
use Rattle.builder_core.specs.Build.{Part, Wears, Ends, At, Block, around, behind, places, last_end}
use Rattle.builder_core.specs.Spread.{ending, closed, spread_step, spread_over, spread}

-- a block without an application stands in the row at the front, or the rest has none
abbrev Fails : {E : Type 0} → Option (Option (Tree E)) → List (Part E) → Type 0
Fails None ps = ⊤
Fails (Some d) ps = places d ps ≡ None

abbrev Agrees : {E : Type 0} → Option (Tree E) → List (Part E) → Option (Option (Tree E) × Row E) → Type 0
Agrees {E} r ps None = (around E r ps ≡ None) × Fails (behind E r ps) ps
Agrees {E} r ps (Some s) =
    (behind E r ps ≡ Some s.0) × (places s.0 ps ≡ Some (ending s.1 s.0)) × (around E r ps ≡ closed s)

module _ (E : Type 0) (r : Option (Tree E)) where
  none-wears : (w : Ware) (ps : List (Part E)) → around E r ps ≡ None → Agrees r (Wears w ∷ ps) None
  none-wears w ps e = (
    ap (option_map (λ t. Wraps w t)) e,
    subst (λ (o : Option (Option (Tree E))). Fails o (Wears w ∷ ps)) (sym (ap (option_map (λ t. Some (Wraps w t))) e)) tt,
  )

  agrees-wears : (w : Ware) (ps : List (Part E)) (o : Option (Option (Tree E) × Row E)) → Agrees r ps o → Agrees r (Wears w ∷ ps) (option_and_then (spread_step (Wears w)) o)
  agrees-wears w ps None h = none-wears w ps h.0
  agrees-wears w ps (Some s) h = by (closed s) h.2
    where
      by : (o : Option (Tree E)) → around E r ps ≡ o → Agrees r (Wears w ∷ ps) (option_map (λ t. (Some (Wraps w t), NoPlace)) o)
      by None e = none-wears w ps e
      by (Some t) e =
          (ap (option_map (λ t. Some (Wraps w t))) e, refl, ap (option_map (λ t. Wraps w t)) e)

  fails-ends : (t : Tree E) (ps : List (Part E)) (o : Option (Option (Tree E))) → Fails o ps → Fails o (Ends t ∷ ps)
  fails-ends t ps None h = tt
  fails-ends t ps (Some d) h = h

  agrees-ends : (t : Tree E) (ps : List (Part E)) (o : Option (Option (Tree E) × Row E)) → Agrees r ps o → Agrees r (Ends t ∷ ps) (option_and_then (spread_step (Ends t)) o)
  agrees-ends t ps None h = (h.0, fails-ends t ps (behind E r ps) h.1)
  agrees-ends t ps (Some s) h = h

  -- what `around` says at a place, by what stands behind it
  at_front : List ℕ → Block E → List (Part E) → Option (Option (Tree E)) → Option (Tree E)
  at_front p block ps o =
      option_and_then (λ d. option_and_then (λ t. option_map (λ row. ByPlace (Place p t row)) (places d ps)) (block d)) o

  fails-at : (p : List ℕ) (block : Block E) (ps : List (Part E)) (o : Option (Option (Tree E))) → Fails o ps → (at_front p block ps o ≡ None) × Fails o (At p block ∷ ps)
  unfolding at_front
  fails-at p block ps None h = (refl, tt)
  fails-at p block ps (Some d) h = by (block d)
    where
      by : (b : Option (Tree E)) → (option_and_then (λ t. option_map (λ row. ByPlace (Place p t row)) (places d ps)) b ≡ None) × (option_and_then (λ t. option_map (λ row. Place p t row) (places d ps)) b ≡ None)
      by None = (refl, refl)
      by (Some t) =
          (ap (option_map (λ row. ByPlace (Place p t row))) h, ap (option_map (λ row. Place p t row)) h)

  agrees-at : (p : List ℕ) (block : Block E) (ps : List (Part E)) (o : Option (Option (Tree E) × Row E)) → Agrees r ps o → Agrees r (At p block ∷ ps) (option_and_then (spread_step (At p block)) o)
  unfolding at_front
  agrees-at p block ps None h = fails-at p block ps (behind E r ps) h.1
  agrees-at p block ps (Some s) h = by (block s.0) refl
    where
      by : (b : Option (Tree E)) → block s.0 ≡ b → Agrees r (At p block ∷ ps) (option_map (λ t. (s.0, Place p t s.1)) b)
      by None e = (
        ap (at_front p block ps) h.0 ∙ ap (option_and_then (λ t. option_map (λ row. ByPlace (Place p t row)) (places s.0 ps))) e,
        subst (λ (o : Option (Option (Tree E))). Fails o (At p block ∷ ps)) (sym h.0) (ap (option_and_then (λ t. option_map (λ row. Place p t row) (places s.0 ps))) e),
      )
      by (Some t) e = (
        h.0,
        ap (option_and_then (λ t. option_map (λ row. Place p t row) (places s.0 ps))) e ∙ ap (option_map (λ row. Place p t row)) h.1,
        ap (at_front p block ps) h.0 ∙ ap (option_and_then (λ t. option_map (λ row. ByPlace (Place p t row)) (places s.0 ps))) e ∙ ap (option_map (λ row. ByPlace (Place p t row))) h.1,
      )

  agrees : (ps : List (Part E)) → Agrees r ps (spread r ps)
  agrees [] = (refl, refl, refl)
  agrees (Wears w ∷ ps) = agrees-wears w ps (spread r ps) (agrees ps)
  agrees (Ends t ∷ ps) = agrees-ends t ps (spread r ps) (agrees ps)
  agrees (At p block ∷ ps) = agrees-at p block ps (spread r ps) (agrees ps)

  -- `around` is what is closed at the front
  pub around-spread : (ps : List (Part E)) → around E r ps ≡ option_and_then closed (spread r ps)
  around-spread ps = by (spread r ps) (agrees ps)
    where
      by : (o : Option (Option (Tree E) × Row E)) → Agrees r ps o → around E r ps ≡ option_and_then closed o
      by None h = h.0
      by (Some s) h = h.2

ends-nothing : {E : Type 0} (t : Tree E) (o : Option (Option (Tree E) × Row E)) → option_and_then (spread_step (Ends t)) o ≡ o
ends-nothing t None = refl
ends-nothing t (Some s) = refl

-- a `run` or `cascade` among the lines changes nothing
pub spread-without : {E : Type 0} (o : Option (Option (Tree E) × Row E)) (ps : List (Part E)) (i : ℕ) (t : Tree E) → slice_get ps i ≡ Some (Ends t) → spread_over (remove ps i) o ≡ spread_over ps o
spread-without o [] i t e = cc
spread-without o (x ∷ ps) zero t e =
    sym (ap (λ y. option_and_then (spread_step y) (spread_over ps o)) (same_Some x (Ends t) e) ∙ ends-nothing t (spread_over ps o))
spread-without o (x ∷ ps) (suc i) t e =
    ap (option_and_then (spread_step x)) (spread-without o ps i t e)

-- None stays None
pub spread_over-none : {E : Type 0} (xs : List (Part E)) → spread_over xs None ≡ None
spread_over-none [] = refl
spread_over-none (x ∷ xs) = ap (option_and_then (spread_step x)) (spread_over-none xs)

-- one line more
pub spread_over-snoc : {E : Type 0} (xs : List (Part E)) (x : Part E) (o : Option (Option (Tree E) × Row E)) → spread_over (xs ++ x ∷ []) o ≡ spread_over xs (option_and_then (spread_step x) o)
spread_over-snoc [] x o = refl
spread_over-snoc (y ∷ xs) x o = ap (option_and_then (spread_step y)) (spread_over-snoc xs x o)

-- the last `run` or `cascade`, in parts
pub last_end-append : {E : Type 0} (r : Option (Tree E)) (xs ys : List (Part E)) → last_end r (xs ++ ys) ≡ last_end (last_end r xs) ys
last_end-append r [] ys = refl
last_end-append r (Wears w ∷ xs) ys = last_end-append r xs ys
last_end-append r (Ends t ∷ xs) ys = last_end-append (Some t) xs ys
last_end-append r (At p block ∷ xs) ys = last_end-append r xs ys
