-- A request's fields, read one behind the other.
use Rattle.std.proofs.Common.{◌≡◌, ℕ, ◌+◌, true, List, [], ◌∷◌, ◌++◌, map, filter, take, drop, Option, sym, ap, ◌∙◌}
use Rattle.std.proofs.lemmas.List.{map-append, take-append-drop}
use Rattle.std.proofs.lemmas.List.Elements.{filter-append}
use Rattle.std.proofs.lemmas.List.Sums.{fold-append}
use Rattle.std.specs.List.{fold}
use Rattle.rack_text.specs.Case.{same_ignoring_case}
use Rattle.rack_types.specs.Env.{Environment, Pairs, with_pairs}
use Rattle.rack_types.specs.Fields.{values_of}
use Rattle.rack_types.proofs.CallerLemmas.{IsFieldAt, take_field, values_here}
use Rattle.rack_env.specs.Fields.{join_pair}
use Rattle.rack_env.specs.Placing.{join_values, place_field}

values_of-append : (word : List ℕ) (xs ys : List (List ℕ × List ℕ)) → values_of word (xs ++ ys) ≡ values_of word xs ++ values_of word ys
values_of-append word xs ys =
    ap (map (λ (f : List ℕ × List ℕ). f.1)) (filter-append (λ (f : List ℕ × List ℕ). same_ignoring_case f.0 word) xs ys)
    ∙ map-append (λ (f : List ℕ × List ℕ). f.1) (filter (λ (f : List ℕ × List ℕ). same_ignoring_case f.0 word) xs) (filter (λ (f : List ℕ × List ℕ). same_ignoring_case f.0 word) ys)

-- the first value of a name
pub first_value : (word : List ℕ) (fields : List (List ℕ × List ℕ)) (i : ℕ) (name value : List ℕ) → IsFieldAt fields i name value
    → same_ignoring_case name word ≡ true → values_of word (take i fields) ≡ [] → (more : List (List ℕ)) × (values_of word fields ≡ value ∷ more)
first_value word fields i name value at same none = (
  values_of word (drop (i + 1) fields),
  ap (values_of word) (sym (take-append-drop (i + 1) fields))
      ∙ values_of-append word (take (i + 1) fields) (drop (i + 1) fields)
      ∙ ap (λ (vs : List (List ℕ)). vs ++ values_of word (drop (i + 1) fields)) (values_here word fields i name value at same ∙ ap (λ (vs : List (List ℕ)). vs ++ value ∷ []) none),
)

-- one value more was put
pub value_put : (word name : List ℕ) (e mid new : Environment) (given : List ℕ) (fields : List (List ℕ × List ℕ)) (i : ℕ) (field value : List ℕ)
    → mid ≡ with_pairs e (join_values name e.pairs (values_of word (take i fields)))
    → new ≡ with_pairs mid (join_pair given value mid.pairs) → given ≡ name
    → IsFieldAt fields i field value → same_ignoring_case field word ≡ true
    → new ≡ with_pairs e (join_values name e.pairs (values_of word (take (i + 1) fields)))
value_put word name e mid new given fields i field value so_far put is at same =
    put
    ∙ ap (λ (m : Environment). with_pairs m (join_pair given value m.pairs)) so_far
    ∙ ap (λ (n : List ℕ). with_pairs e (join_pair n value (join_values name e.pairs (values_of word (take i fields))))) is
    ∙ ap (with_pairs e) (sym (fold-append (λ (ps : Pairs) (v : List ℕ). join_pair name v ps) e.pairs (values_of word (take i fields)) (value ∷ [])))
    ∙ ap (λ (vs : List (List ℕ)). with_pairs e (join_values name e.pairs vs)) (sym (values_here word fields i field value at same))

-- one field more was placed
pub field_placed : (authority given : Option (List ℕ)) (e mid new : Environment) (fields : List (List ℕ × List ℕ)) (i : ℕ) (name value : List ℕ)
    → mid ≡ with_pairs e (fold (place_field authority) e.pairs (take i fields))
    → new ≡ with_pairs mid (place_field given mid.pairs (name, value)) → given ≡ authority
    → IsFieldAt fields i name value
    → new ≡ with_pairs e (fold (place_field authority) e.pairs (take (i + 1) fields))
field_placed authority given e mid new fields i name value so_far put is at =
    put
    ∙ ap (λ (m : Environment). with_pairs m (place_field given m.pairs (name, value))) so_far
    ∙ ap (λ (a : Option (List ℕ)). with_pairs e (place_field a (fold (place_field authority) e.pairs (take i fields)) (name, value))) is
    ∙ ap (with_pairs e) (sym (fold-append (place_field authority) e.pairs (take i fields) ((name, value) ∷ [])))
    ∙ ap (λ (fs : List (List ℕ × List ℕ)). with_pairs e (fold (place_field authority) e.pairs fs)) (sym (take_field fields i name value at))
