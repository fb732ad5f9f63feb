-- Building from the last line to the first, and lists of nodes that grow; of private functions alone.
use Rattle.std.specs.Prelude.{◌≡◌, ℕ, ◌<◌, ◌≤◌, List, [], ◌∷◌, map, length, Option, Some, None, option_map, option_and_then, slice_get, ⊤}
use Rattle.builder_core.specs.Tree.{Tree, Calls, Tries, Wraps, ByPlace, Row, NoPlace, Place}
use Rattle.builder_core.specs.Build.{Part, Wears, Ends, At, default_row, last_end}
use Rattle.builder_core.specs.Counts.{part}
use Rattle.builder_core.specs.Nodes.{tree_at, IsFalling}
use Rattle.builder_core.specs.declared.steps.Line.{Line}
use Rattle.builder_core.specs.declared.stack.Node.{Node}
use Rattle.builder_core.specs.declared.stack.Node.TheVariants as node
use Rattle.builder_core.specs.declared.places.Place as place

-- a row with a default behind it
abbrev pub ending : {E : Type 0} → Row E → Option (Tree E) → Row E
ending NoPlace d = default_row d
ending (Place p t row) d = Place p t (ending row d)

-- what stands there: the row with the default behind it, or the default alone where there is no place
abbrev pub closed : {E : Type 0} → Option (Tree E) × Row E → Option (Tree E)
closed (d, NoPlace) = d
closed (d, Place p t row) = Some (ByPlace (Place p t (ending row d)))

-- One line more at the front: the default and the row of places in front of it.
abbrev pub spread_step : {E : Type 0} → Part E → Option (Tree E) × Row E → Option (Option (Tree E) × Row E)
spread_step (Wears w) s = option_map (λ t. (Some (Wraps w t), NoPlace)) (closed s)
spread_step (Ends t) s = Some s
spread_step (At p block) s = option_map (λ t. (s.0, Place p t s.1)) (block s.0)

-- all these lines at the front
abbrev pub spread_over : {E : Type 0} → List (Part E) → Option (Option (Tree E) × Row E) → Option (Option (Tree E) × Row E)
spread_over [] o = o
spread_over (x ∷ ps) o = option_and_then (spread_step x) (spread_over ps o)

abbrev pub spread : {E : Type 0} → Option (Tree E) → List (Part E) → Option (Option (Tree E) × Row E)
spread r ps = spread_over ps (Some (r, NoPlace))

abbrev pub parts : {E : Type 0} → List (Line E) → List (Part E)
parts ls = map part ls

-- places that were put down from the last to the first, in front of a row
abbrev pub onto : {E : Type 0} → (ℕ → Tree E) → List place.Place → Row E → Row E
onto at [] row = row
onto at (p ∷ ps) row = onto at ps (Place p.path (at p.node) row)

-- A longer list of nodes, in which those of the shorter one stand for the same trees.
pub record Grown {E : Type 0} (old new : List (Node E)) : Type 0 where
  pub falls : IsFalling new
  pub longer : length old ≤ length new
  pub keeps : (n : ℕ) → n < length old → tree_at new n ≡ tree_at old n

-- the place `/` of a default
abbrev pub default_places : Option ℕ → List place.Place
default_places None = []
default_places (Some n) = record { path = []; node = n } ∷ []

-- a number below n, if any
abbrev pub IsBelow : ℕ → Option ℕ → Type 0
IsBelow n None = ⊤
IsBelow n (Some k) = k < n

-- what a number stands for
abbrev pub trees : {E : Type 0} → List (Node E) → Option ℕ → Option (Tree E)
trees nodes o = option_map (tree_at nodes) o

-- the tree of a `run` or `cascade`
abbrev pub end_tree : {E : Type 0} → Option (Node E) → Option (Tree E) → Option (Tree E)
end_tree None d = d
end_tree (Some (node.Run e)) d = Some (Calls e)
end_tree (Some (node.Use w n)) d = d
end_tree (Some (node.Map ps)) d = d
end_tree (Some (node.Cascade es)) d = Some (Tries es.items)

-- a node without children
abbrev pub IsEndNode : {E : Type 0} → Node E → Type 0
IsEndNode (node.Run e) = ⊤
IsEndNode (node.Use w n) = ⊥
IsEndNode (node.Map ps) = ⊥
IsEndNode (node.Cascade es) = ⊤

-- the tree of a line that is a `run` or `cascade`
abbrev pub end_of : {E : Type 0} → Part E → Option (Tree E)
end_of (Wears w) = None
end_of (Ends t) = Some t
end_of (At p block) = None

-- The place in all lines of the last `run` or `cascade` of the front.
abbrev pub IsLastEnd : {E : Type 0} → (all front : List (Part E)) → Option ℕ → Type 0
IsLastEnd {E} all front None = (d : Option (Tree E)) → last_end d front ≡ d
IsLastEnd {E} all front (Some k) =
    (t : Tree E) × (slice_get all k ≡ Some (Ends t)) × ((d : Option (Tree E)) → last_end d front ≡ Some t)
