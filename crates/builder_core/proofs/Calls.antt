-- What the nodes of a list answer, by what they are.
use Rattle.std.proofs.Common.{◌≡◌, ℕ, ◌<◌, List, length, get_or, Option, Some, None, IfSome, option_map, slice_get, refl, sym, ap, subst, ◌∙◌}
use Rattle.std.specs.Prelude.{Vec}
use Rattle.std.specs.declared.alloc.Global.{Global}
use Rattle.std.proofs.lemmas.Option.{slice_get_read}
use Rattle.rack_types.specs.declared.answer.Answer.{Answer}
use Rattle.rack_types.specs.Body.{Content}
use Rattle.rack_types.specs.Env.{Pairs}
use Rattle.stock_middleware.specs.declared.ware.Ware.{Ware}
use Rattle.stock_middleware.specs.Wares.{before, after, refusal}
use Rattle.builder_core.specs.Places.{path_of, best, inside}
use Rattle.builder_core.specs.Meaning.{Answering, meaning, worn, at_place, not_found, tried}
use Rattle.builder_core.specs.Nodes.{tree_at, numbered, IsFalling}
use Rattle.builder_core.specs.declared.stack.Node.{Node}
use Rattle.builder_core.specs.declared.stack.Node.TheVariants as node
use Rattle.builder_core.specs.declared.places.Place as place
use Rattle.builder_core.proofs.Trees.{tree_at-node}
use Rattle.builder_core.proofs.Finding.{second, best-map, best_is, meanings-row, IsFit}

-- a node that was read
pub at_node : {E : Type 0} (nodes : List (Node E)) (n : ℕ) (r x : Node E) → n < length nodes → r ≡ get_or nodes n r → r ≡ x → slice_get nodes n ≡ Some x
at_node nodes n r x within read is =
    slice_get_read nodes (length nodes) n r refl within read ∙ ap (λ y. Some y) is

-- what a middleware answers, by what it does before
pub worn-refused : {H : Type 0} (w : Ware) (inner : Answering H) (ps : Pairs) (input : List ℕ) (a : Answer Content H) → refusal w ps ≡ Some a → worn w inner ps input ≡ a
worn-refused {H} w inner ps input a e = rw e refl

pub worn-called : {H : Type 0} (w : Ware) (inner : Answering H) (ps : Pairs) (input : List ℕ) → refusal {H = H} w ps ≡ None → worn w inner ps input ≡ after w ps (inner (before w ps input) input)
worn-called {H} w inner ps input e = rw e refl

module _ {E H : Type 0} (answer : E → Answering H) (nodes : List (Node E)) (falls : IsFalling nodes) (n : ℕ) (ps : Pairs) (input : List ℕ) where
  pub means-run : (e : E) → slice_get nodes n ≡ Some (node.Run e) → meaning answer (tree_at nodes n) ps input ≡ answer e ps input
  means-run e is = ap (λ t. meaning answer t ps input) (tree_at-node nodes falls n (node.Run e) is)

  pub means-use : (w : Ware) (k : ℕ) → slice_get nodes n ≡ Some (node.Use w k) → meaning answer (tree_at nodes n) ps input ≡ worn w (meaning answer (tree_at nodes k)) ps input
  means-use w k is =
      ap (λ t. meaning answer t ps input) (tree_at-node nodes falls n (node.Use w k) is)

  pub means-map : (places : Vec place.Place Global) → slice_get nodes n ≡ Some (node.Map places) → meaning answer (tree_at nodes n) ps input ≡ at_place (option_map (second (λ k. meaning answer (tree_at nodes k))) (best (path_of ps) (numbered places.items))) ps input
  means-map places is =
      ap (λ t. meaning answer t ps input) (tree_at-node nodes falls n (node.Map places) is)
      ∙ ap (λ qs. at_place (best (path_of ps) qs) ps input) (meanings-row answer (tree_at nodes) places.items)
      ∙ ap (λ o. at_place o ps input) (best-map (λ k. meaning answer (tree_at nodes k)) (path_of ps) (numbered places.items))

  pub means-cascade : (es : Vec E Global) → slice_get nodes n ≡ Some (node.Cascade es) → meaning answer (tree_at nodes n) ps input ≡ tried answer es.items ps input
  means-cascade es is =
      ap (λ t. meaning answer t ps input) (tree_at-node nodes falls n (node.Cascade es) is)

  -- a map's place that was found, and where none was
  pub means-found : (places : Vec place.Place Global) (q : List ℕ × ℕ) → slice_get nodes n ≡ Some (node.Map places) → Some q ≡ best (path_of ps) (numbered places.items) → meaning answer (tree_at nodes n) ps input ≡ meaning answer (tree_at nodes q.1) (inside q.0 ps) input
  means-found places q is found =
      means-map places is
      ∙ ap (λ o. at_place (option_map (second (λ k. meaning answer (tree_at nodes k))) o) ps input) (sym found)

  pub means-unfound : (places : Vec place.Place Global) → slice_get nodes n ≡ Some (node.Map places) → None ≡ best (path_of ps) (numbered places.items) → meaning answer (tree_at nodes n) ps input ≡ not_found ps
  means-unfound places is found =
      means-map places is
      ∙ ap (λ o. at_place (option_map (second (λ k. meaning answer (tree_at nodes k))) o) ps input) (sym found)

-- a found place fits, and its node is below
pub found_is : {E : Type 0} (nodes : List (Node E)) (falls : IsFalling nodes) (n : ℕ) (path : List ℕ) (places : Vec place.Place Global) (q : List ℕ × ℕ) → slice_get nodes n ≡ Some (node.Map places) → Some q ≡ best path (numbered places.items) → IsFit path n q
found_is nodes falls n path places q is found =
    subst (λ (o : Option (List ℕ × ℕ)). IfSome o (IsFit path n)) (sym found) (best_is path n places.items (falls n (node.Map places) is))
