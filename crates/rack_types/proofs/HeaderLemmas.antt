-- What the words of a map of kept names and values say of the headers that it stands for.
use Rattle.std.proofs.Common.{◌≡◌, ℕ, Bool, true, false, cond, not, suc, ◌+◌, List, [], ◌∷◌, ◌++◌, length, position, Some, None, option_map, slice_get, refl, ap, sym, ◌∙◌, bytes_eq}
use Rattle.std.proofs.lemmas.Option.{slice_get-map}
use Rattle.std.specs.Cow.{cow_slice_items}
use Rattle.std.specs.List.{AllByRecursion, IsDistinct, prefix_len}
use Rattle.std.specs.Map.{keys_of, lookup, set_value}
use Rattle.indexmap.specs.IndexMap.{insert_entry}
use Rattle.rack_types.specs.Headers.{HeaderList, header_names, header_values, header_place, set_header, add_header, AreDistinctNames}
use Rattle.rack_types.specs.HeaderStore.{Text, kept_values, headers_of}
use Rattle.rack_types.specs.declared.headers.Values.{Values}

-- a kept name is this one
abbrev pub is_text : List ℕ → Text → Bool
is_text name k = bytes_eq name (cow_slice_items k)

-- two kept names are the same
abbrev pub same_text : Text → Text → Bool
same_text a b = bytes_eq (cow_slice_items a) (cow_slice_items b)

-- the header behind an entry
abbrev pub header_of : Text × Values → List ℕ × List (List ℕ)
header_of e = (cow_slice_items e.0, kept_values e.1)

pub header_values-lookup : (name : List ℕ) (es : List (Text × Values)) → header_values name (headers_of es) ≡ option_map kept_values (lookup (is_text name) es)
header_values-lookup name [] = refl
header_values-lookup name (e ∷ es) = by (is_text name e.0) (header_values-lookup name es)
  where
    by : (t : Bool) → header_values name (headers_of es) ≡ option_map kept_values (lookup (is_text name) es)
        → cond t (Some (kept_values e.1)) (header_values name (headers_of es)) ≡ option_map kept_values (cond t (Some e.1) (lookup (is_text name) es))
    by true rest = refl
    by false rest = rest

pub set_header-insert_entry : (k : Text) (v : Values) (value : List ℕ) (es : List (Text × Values)) → kept_values v ≡ value ∷ [] → headers_of (insert_entry same_text es k v) ≡ set_header (cow_slice_items k) value (headers_of es)
set_header-insert_entry k v value [] one = ap (λ vs. (cow_slice_items k, vs) ∷ []) one
set_header-insert_entry k v value (e ∷ es) one = by (same_text k e.0) (set_header-insert_entry k v value es one)
  where
    by : (t : Bool) → headers_of (insert_entry same_text es k v) ≡ set_header (cow_slice_items k) value (headers_of es)
        → headers_of (cond t ((e.0, v) ∷ es) (e ∷ insert_entry same_text es k v)) ≡ cond t ((cow_slice_items e.0, value ∷ []) ∷ headers_of es) (header_of e ∷ set_header (cow_slice_items k) value (headers_of es))
    by true rest = ap (λ vs. (cow_slice_items e.0, vs) ∷ headers_of es) one
    by false rest = ap (λ hs. header_of e ∷ hs) rest

-- one more value at a name that is there
pub add_header-set_value : (name value : List ℕ) (v old : Values) (es : List (Text × Values)) → lookup (is_text name) es ≡ Some old → kept_values v ≡ kept_values old ++ value ∷ []
    → headers_of (set_value (is_text name) es v) ≡ add_header name value (headers_of es)
add_header-set_value name value v old [] there more = cc
add_header-set_value name value v old (e ∷ es) there more =
    by (is_text name e.0) (λ at. add_header-set_value name value v old es at more) there
  where
    by : (t : Bool) → (lookup (is_text name) es ≡ Some old → headers_of (set_value (is_text name) es v) ≡ add_header name value (headers_of es)) → cond t (Some e.1) (lookup (is_text name) es) ≡ Some old
        → headers_of (cond t ((e.0, v) ∷ es) (e ∷ set_value (is_text name) es v)) ≡ cond t ((cow_slice_items e.0, kept_values e.1 ++ value ∷ []) ∷ headers_of es) (header_of e ∷ add_header name value (headers_of es))
    by true rest there =
        let same : e.1 ≡ old = cc in
        ap (λ (vs : List (List ℕ)). (cow_slice_items e.0, vs) ∷ headers_of es) (more ∙ ap (λ (o : Values). kept_values o ++ value ∷ []) (sym same))
    by false rest there = ap (λ hs. header_of e ∷ hs) (rest there)

-- a write of the same values
pub same_values-set_value : (name : List ℕ) (v old : Values) (es : List (Text × Values)) → lookup (is_text name) es ≡ Some old → kept_values v ≡ kept_values old → headers_of (set_value (is_text name) es v) ≡ headers_of es
same_values-set_value name v old [] there same = refl
same_values-set_value name v old (e ∷ es) there same =
    by (is_text name e.0) (λ at. same_values-set_value name v old es at same) there
  where
    by : (t : Bool) → (lookup (is_text name) es ≡ Some old → headers_of (set_value (is_text name) es v) ≡ headers_of es) → cond t (Some e.1) (lookup (is_text name) es) ≡ Some old
        → headers_of (cond t ((e.0, v) ∷ es) (e ∷ set_value (is_text name) es v)) ≡ header_of e ∷ headers_of es
    by true rest there =
        let first : e.1 ≡ old = cc in
        ap (λ (vs : List (List ℕ)). (cow_slice_items e.0, vs) ∷ headers_of es) (same ∙ ap (λ (o : Values). kept_values o) (sym first))
    by false rest there = ap (λ hs. header_of e ∷ hs) (rest there)

-- a name that is not there goes last
pub add_header-absent : (name value : List ℕ) (headers : HeaderList) → header_values name headers ≡ None → add_header name value headers ≡ set_header name value headers
add_header-absent name value [] absent = refl
add_header-absent name value (h ∷ headers) absent =
    by (bytes_eq name h.0) (add_header-absent name value headers) absent
  where
    by : (t : Bool) → (header_values name headers ≡ None → add_header name value headers ≡ set_header name value headers) → cond t (Some h.1) (header_values name headers) ≡ None
        → cond t ((h.0, h.1 ++ value ∷ []) ∷ headers) (h ∷ add_header name value headers) ≡ cond t ((h.0, value ∷ []) ∷ headers) (h ∷ set_header name value headers)
    by true rest absent = cc
    by false rest absent = ap (λ hs. h ∷ hs) (rest absent)

absent_from_apart : (k : Text) (es : List (Text × Values)) → AllByRecursion (λ y. same_text k y ≡ false) (keys_of es) → header_values (cow_slice_items k) (headers_of es) ≡ None
absent_from_apart k [] apart = refl
absent_from_apart k (e ∷ es) apart =
    ap (λ b. cond b (Some (kept_values e.1)) (header_values (cow_slice_items k) (headers_of es))) apart.0 ∙ absent_from_apart k es apart.1

-- the names of a map are distinct
pub AreDistinctNames-from_keys : (es : List (Text × Values)) → IsDistinct same_text (keys_of es) → AreDistinctNames (headers_of es)
unfolding IsDistinct
AreDistinctNames-from_keys [] distinct = tt
AreDistinctNames-from_keys (e ∷ es) distinct =
    (absent_from_apart e.0 es distinct.0, AreDistinctNames-from_keys es distinct.1)

run_of_others : (name : List ℕ) (es : List (Text × Values)) → prefix_len (λ k. not (is_text name k)) (keys_of es) ≡ prefix_len (λ k. not (bytes_eq name k)) (header_names (headers_of es))
run_of_others name [] = refl
run_of_others name (e ∷ es) =
    ap (λ n. cond (not (is_text name e.0)) (1 + n) 0) (run_of_others name es)

as_many : (es : List (Text × Values)) → length (keys_of es) ≡ length (header_names (headers_of es))
as_many [] = refl
as_many (e ∷ es) = ap suc (as_many es)

-- where a kept name stands
pub header_place-position : (name : List ℕ) (es : List (Text × Values)) → position (is_text name) (keys_of es) ≡ header_place name (headers_of es)
header_place-position name es =
    rw (run_of_others name es, as_many es) refl

module _ (es : List (Text × Values)) (i : ℕ) (k : Text) (v : Values) (at : slice_get es i ≡ Some (k, v)) where
  -- the name at a place
  pub header_name_at : slice_get (header_names (headers_of es)) i ≡ Some (cow_slice_items k)
  header_name_at = rw (slice_get-map, slice_get-map, at)
