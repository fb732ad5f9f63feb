-- Fields read one behind the other.
use Rattle.std.proofs.Common.{◌≡◌, ℕ, ◌+◌, ◌<◌, Bool, true, false, ◌||◌, if◌then◌else◌, List, [], ◌∷◌, ◌++◌, length, map, filter, take, slice_get, Some, arith, ap, sym, ◌∙◌, refl, get_or}
use Rattle.std.specs.Option.{option_map}
use Rattle.std.proofs.lemmas.List.{take_more, length-map, append-nil}
use Rattle.std.proofs.lemmas.Option.{slice_get-map, slice_get_within, slice_get-get_or}
use Rattle.rack_text.specs.Case.{same_ignoring_case}
use Rattle.rack_text.specs.Lists.{list_has}
use Rattle.rack_types.specs.Fields.{values_of, some_list_has}

-- the field at a place, which was read by its name and by its value
pub record IsFieldAt (fields : List (List ℕ × List ℕ)) (i : ℕ) (name value : List ℕ) : Type 0 where
  pub name_is : slice_get (map (λ f. f.0) fields) i ≡ Some name
  pub value_is : slice_get (map (λ f. f.1) fields) i ≡ Some value

-- one field more
pub take_field : (fields : List (List ℕ × List ℕ)) (i : ℕ) (name value : List ℕ) → IsFieldAt fields i name value
    → take (i + 1) fields ≡ take i fields ++ (name, value) ∷ []
take_field fields i name value h =
    let below : i < length fields = omega (arith, slice_get_within (map (λ f. f.0) fields) i name h.name_is, length-map fields (λ (f : List ℕ × List ℕ). f.0)) in
    let here = get_or fields i (name, value) in
    let read : slice_get fields i ≡ Some here = slice_get-get_or fields i (name, value) below in
    let left : Some here.0 ≡ Some name = sym (slice_get-map (λ (f : List ℕ × List ℕ). f.0) fields i ∙ ap (option_map (λ (f : List ℕ × List ℕ). f.0)) read) ∙ h.name_is in
    let right : Some here.1 ≡ Some value = sym (slice_get-map (λ (f : List ℕ × List ℕ). f.1) fields i ∙ ap (option_map (λ (f : List ℕ × List ℕ). f.1)) read) ∙ h.value_is in
    let same_name : here.0 ≡ name = cc in
    let same_value : here.1 ≡ value = cc in
    let whole : here ≡ (name, value) = ap (λ x. (x, here.1)) same_name ∙ ap (λ y. (name, y)) same_value in
    take_more fields i (name, value) below ∙ ap (λ f. take i fields ++ f ∷ []) whole

-- the values of one name, with one field more
pub values_more : (word : List ℕ) (fields : List (List ℕ × List ℕ)) (name value : List ℕ)
    → values_of word (fields ++ (name, value) ∷ [])
    ≡ values_of word fields ++ (if same_ignoring_case name word then value ∷ [] else [])
values_more word [] name value = last (same_ignoring_case name word) value
  where
    last : (test : Bool) (value : List ℕ) → map (λ (f : List ℕ × List ℕ). f.1) (if test then ((name, value) ∷ []) else []) ≡ (if test then value ∷ [] else [])
    last true value = refl
    last false value = refl
values_more word (f ∷ fields) name value = more (same_ignoring_case f.0 word) (values_more word fields name value)
  where
    more : (test : Bool) → values_of word (fields ++ (name, value) ∷ []) ≡ values_of word fields ++ (if same_ignoring_case name word then value ∷ [] else [])
        → map (λ (g : List ℕ × List ℕ). g.1) (if test then f ∷ filter (λ g. same_ignoring_case g.0 word) (fields ++ (name, value) ∷ []) else filter (λ g. same_ignoring_case g.0 word) (fields ++ (name, value) ∷ []))
        ≡ map (λ (g : List ℕ × List ℕ). g.1) (if test then f ∷ filter (λ g. same_ignoring_case g.0 word) fields else filter (λ g. same_ignoring_case g.0 word) fields) ++ (if same_ignoring_case name word then value ∷ [] else [])
    more true e = ap (λ w. f.1 ∷ w) e
    more false e = e

-- some value has a word, with one value more
pub list_has_more : (word : List ℕ) (values : List (List ℕ)) (value : List ℕ)
    → some_list_has word (values ++ value ∷ []) ≡ (some_list_has word values || list_has value word)
list_has_more word [] value = or_false (list_has value word)
  where
    or_false : (a : Bool) → (a || false) ≡ a
    or_false true = refl
    or_false false = refl
list_has_more word (v ∷ values) value = more (list_has v word) _ _ _ (list_has_more word values value)
  where
    more : (a b c d : Bool) → b ≡ (c || d) → (a || b) ≡ (a || c || d)
    more true b c d e = refl
    more false b c d e = e

-- what was seen of one word in the values of one name, in the fields up to a place
pub record HasSeen (name word : List ℕ) (fields : List (List ℕ × List ℕ)) (i : ℕ) (seen : Bool) : Type 0 where
  pub is : seen ≡ some_list_has word (values_of name (take i fields))

pub seen_here : (name word : List ℕ) (fields : List (List ℕ × List ℕ)) (i : ℕ) (seen : Bool) (field value : List ℕ)
    → IsFieldAt fields i field value → HasSeen name word fields i seen → same_ignoring_case field name ≡ true
    → HasSeen name word fields (i + 1) (seen || list_has value word)
seen_here name word fields i seen field value at h same = record {
  is = ap (λ b. b || list_has value word) h.is
      ∙ sym (ap (λ fs. some_list_has word (values_of name fs)) (take_field fields i field value at)
      ∙ ap (some_list_has word) (values_more name (take i fields) field value ∙ ap (λ b. values_of name (take i fields) ++ (if b then value ∷ [] else [])) same)
      ∙ list_has_more word (values_of name (take i fields)) value);
}

pub seen_elsewhere : (name word : List ℕ) (fields : List (List ℕ × List ℕ)) (i : ℕ) (seen : Bool) (field value : List ℕ)
    → IsFieldAt fields i field value → HasSeen name word fields i seen → same_ignoring_case field name ≡ false
    → HasSeen name word fields (i + 1) seen
seen_elsewhere name word fields i seen field value at h other = record {
  is = h.is
      ∙ sym (ap (λ fs. some_list_has word (values_of name fs)) (take_field fields i field value at)
      ∙ ap (some_list_has word) (values_more name (take i fields) field value ∙ ap (λ b. values_of name (take i fields) ++ (if b then value ∷ [] else [])) other ∙ append-nil _));
}

-- a field whose value was not read has one
pub field_at_name : (fields : List (List ℕ × List ℕ)) (i : ℕ) (name : List ℕ) → slice_get (map (λ f. f.0) fields) i ≡ Some name
    → (value : List ℕ) × IsFieldAt fields i name value
field_at_name fields i name is =
    let below : i < length fields = omega (arith, slice_get_within (map (λ f. f.0) fields) i name is, length-map fields (λ (f : List ℕ × List ℕ). f.0)) in
    let read : slice_get fields i ≡ Some (get_or fields i (name, [])) = slice_get-get_or fields i (name, []) below in (
      (get_or fields i (name, [])).1,
      record {
        name_is = is;
        value_is = slice_get-map (λ (f : List ℕ × List ℕ). f.1) fields i ∙ ap (option_map (λ (f : List ℕ × List ℕ). f.1)) read;
      },
    )

-- the values of one name, with a field more that has it
pub values_here : (word : List ℕ) (fields : List (List ℕ × List ℕ)) (i : ℕ) (name value : List ℕ) → IsFieldAt fields i name value
    → same_ignoring_case name word ≡ true → values_of word (take (i + 1) fields) ≡ values_of word (take i fields) ++ value ∷ []
values_here word fields i name value at same =
    ap (values_of word) (take_field fields i name value at) ∙ values_more word (take i fields) name value
    ∙ ap (λ b. values_of word (take i fields) ++ (if b then value ∷ [] else [])) same

-- and with one that has not
pub values_elsewhere : (word : List ℕ) (fields : List (List ℕ × List ℕ)) (i : ℕ) (name : List ℕ) → slice_get (map (λ f. f.0) fields) i ≡ Some name
    → same_ignoring_case name word ≡ false → values_of word (take (i + 1) fields) ≡ values_of word (take i fields)
values_elsewhere word fields i name is other =
    let at = field_at_name fields i name is in
    ap (values_of word) (take_field fields i name at.0 at.1) ∙ values_more word (take i fields) name at.0
    ∙ ap (λ b. values_of word (take i fields) ++ (if b then at.0 ∷ [] else [])) other ∙ append-nil _
