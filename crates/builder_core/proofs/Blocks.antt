-- Building one block.
use Rattle.std.proofs.Common.{◌≡◌, ◌<◌, List, [], ◌∷◌, ◌++◌, length, Option, Some, None, option_and_then, option_map, sym, ap, ◌∙◌, arith}
use Rattle.std.proofs.lemmas.List.{map-append}
use Rattle.builder_core.specs.Tree.{Tree, Row, NoPlace, Place}
use Rattle.builder_core.specs.Build.{At, last_end, around, build}
use Rattle.builder_core.specs.Counts.{part}
use Rattle.builder_core.specs.Nodes.{tree_at}
use Rattle.builder_core.specs.Spread.{Grown, trees, onto, closed, parts, spread, spread_over, spread_step}
use Rattle.builder_core.specs.Groups.{state, IsGroup}
use Rattle.builder_core.specs.declared.steps.Steps.{Steps}
use Rattle.builder_core.specs.declared.steps.Line.{Line}
use Rattle.builder_core.specs.declared.stack.Node.{Node}
use Rattle.builder_core.specs.declared.places.Place as place
use Rattle.builder_core.specs.declared.building.Group.{Group}
use Rattle.builder_core.proofs.Folds.{build-lines}
use Rattle.builder_core.proofs.Growing.{trees-grown, onto-grown, below-more, are_below-more, onto-snoc, are_below-snoc}
use Rattle.builder_core.proofs.Spreading.{around-spread, spread_over-snoc, spread_over-none}

-- a group's trees stay
pub state-grown : {E : Type 0} {a b : List (Node E)} → Grown a b → (g : Group) → IsGroup a g → state b g ≡ state a g
state-grown {E} {a} {b} w g h =
    ap (λ t. (t, onto (tree_at b) g.places.items NoPlace)) (trees-grown w g.rest h.rest)
    ∙ ap (λ row. (trees a g.rest, row)) (onto-grown w g.places.items h.places)

pub group-grown : {E : Type 0} {a b : List (Node E)} → Grown a b → (g : Group) → IsGroup a g → IsGroup b g
group-grown {E} {a} {b} w g h = record {
  places = are_below-more (length a) (length b) g.places.items w.longer h.places;
  rest = below-more (length a) (length b) g.rest w.longer h.rest;
}

-- one place more in the group
pub state-hung : {E : Type 0} (nodes : List (Node E)) (g h : Group) (p : place.Place) → h.rest ≡ g.rest → h.places.items ≡ g.places.items ++ p ∷ [] → state nodes h ≡ ((state nodes g).0, Place p.path (tree_at nodes p.node) (state nodes g).1)
state-hung nodes g h p rest places =
    ap (λ o. (trees nodes o, onto (tree_at nodes) h.places.items NoPlace)) rest
    ∙ ap (λ ps. (trees nodes g.rest, onto (tree_at nodes) ps NoPlace)) places
    ∙ ap (λ row. (trees nodes g.rest, row)) (onto-snoc (tree_at nodes) g.places.items p NoPlace)

-- the last line goes over into what is built
pub spread-pop : {E : Type 0} (rest : List (Line E)) (x : Line E) (s : Option (Tree E) × Row E) → spread_over (parts (rest ++ x ∷ [])) (Some s) ≡ spread_over (parts rest) (spread_step (part x) s)
spread-pop rest x s =
    ap (λ ps. spread_over ps (Some s)) (map-append part rest (x ∷ []))
    ∙ spread_over-snoc (parts rest) (part x) (Some s)

-- what the block builds, once all lines are gone over, or one of them gave None
pub built-by : {E : Type 0} (block : Steps E) (d r : Option (Tree E)) (ls : List (Line E)) (o : Option (Option (Tree E) × Row E)) → r ≡ last_end d (parts block.lines.items) → ((s : Option (Option (Tree E) × Row E)) → spread_over (parts ls) s ≡ spread_over (parts block.lines.items) s) → o ≡ spread r (parts ls) → option_and_then closed o ≡ build block d
built-by {E} block d r ls o end left is =
    ap (option_and_then closed) (is ∙ left (Some (r, NoPlace)))
    ∙ sym (around-spread E r (parts block.lines.items))
    ∙ ap (λ q. around E q (parts block.lines.items)) end
    ∙ sym (build-lines block d)

-- a line whose block is built
pub group-hung : {E : Type 0} {a b : List (Node E)} → Grown a b → (g h : Group) (p : place.Place) → IsGroup a g → h.rest ≡ g.rest → h.places.items ≡ g.places.items ++ p ∷ [] → p.node < length b → IsGroup b h
group-hung {E} {a} {b} w g h p is rest places low =
    let all = group-grown w g is in
    record {
      places = rw places (are_below-snoc (length b) g.places.items p all.places low);
      rest = rw rest all.rest;
    }

pub step-hung : {E : Type 0} {a b : List (Node E)} → Grown a b → (g h : Group) (p : place.Place) (line : Line E) (block : Steps E) → IsGroup a g → h.rest ≡ g.rest → h.places.items ≡ g.places.items ++ p ∷ [] → part line ≡ At p.path (build block) → Some (tree_at b p.node) ≡ build block (trees a g.rest) → Some (state b h) ≡ spread_step (part line) (state a g)
step-hung {E} {a} {b} w g h p line block is rest places at built =
    ap (λ s. Some s) (state-hung b g h p rest places)
    ∙ ap (λ s. Some (s.0, Place p.path (tree_at b p.node) s.1)) (state-grown w g is)
    ∙ ap (option_map (λ t. ((state a g).0, Place p.path t (state a g).1))) built
    ∙ ap (λ x. spread_step x (state a g)) (sym at)

-- one turn of the loop
pub turn : {E : Type 0} (lines rest : List (Line E)) (x : Line E) (s : Option (Tree E) × Row E) (o r : Option (Option (Tree E) × Row E)) → lines ≡ rest ++ x ∷ [] → o ≡ spread_step (part x) s → spread_over (parts lines) (Some s) ≡ r → spread_over (parts rest) o ≡ r
turn lines rest x s o r popped step built =
    ap (spread_over (parts rest)) step
    ∙ sym (spread-pop rest x s)
    ∙ ap (λ ls. spread_over (parts ls) (Some s)) (sym popped)
    ∙ built

-- and its end
pub over : {E : Type 0} (lines : List (Line E)) (s : Option (Tree E) × Row E) (r : Option (Option (Tree E) × Row E)) → length lines ≡ 0 → spread_over (parts lines) (Some s) ≡ r → Some s ≡ r
over [] s r none built = built
over (x ∷ lines) s r none built = absurd (omega arith)

pub stopped : {E : Type 0} (rest : List (Line E)) (r : Option (Option (Tree E) × Row E)) → spread_over (parts rest) None ≡ r → None ≡ r
stopped rest r e = sym (spread_over-none (parts rest)) ∙ e
