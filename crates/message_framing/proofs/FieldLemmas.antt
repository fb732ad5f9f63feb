-- Fields and codings that are looked at one behind the other.
use Rattle.std.proofs.Common.{◌≡◌, ◌≢◌, ℕ, ◌+◌, ◌<◌, true, false, nat_lt, List, [], ◌∷◌, ◌++◌, length, take, map, get_or, if◌then◌else◌, Bor, MatchResult, Option, None, Some, Result, Ok, Err, refl, ap, sym, ◌∙◌, arith, subst, length-append, inl, inr}
use Rattle.std.proofs.lemmas.List.{append_assoc, append-nil, map-append, take_more}
use Rattle.std.proofs.lemmas.Grind.{flat_map-append}
use Rattle.std.specs.List.{flat_map}
use Rattle.std.specs.Option.{unwrap_or}
use Rattle.rack_text.specs.Lists.{elements}
use Rattle.std.proofs.lemmas.Bool.{lt-ltb, cases_lt, le-ltb}
use Rattle.rack_text.specs.Case.{same_ignoring_case}
use Rattle.rack_types.specs.Fields.{values_of}
use Rattle.rack_types.proofs.CallerLemmas.{values_more}
use Rattle.httparse.specs.declared.spans.HeaderSpan.{HeaderSpan}
use Rattle.httparse.specs.Spans.{header_bytes, span_bytes}
use Rattle.std.specs.Prelude.{codes}
use Rattle.message_framing.specs.declared.fields.Occurs.{Occurs}
use Rattle.message_framing.specs.declared.fields.Occurs.TheVariants.{Never, Once, Again}
use Rattle.message_framing.specs.declared.fields.Codings.{Codings}
use Rattle.message_framing.specs.declared.fields.Framing.{Framing}
use Rattle.message_framing.specs.declared.fields.Framing.TheVariants.{Stated, Chunked}
use Rattle.rack_types.specs.declared.fault.Fault.{Fault}
use Rattle.rack_types.specs.declared.fault.Fault.TheVariants.{F}
use Rattle.rack_types.specs.declared.limits.Version.{Version}
use Rattle.message_framing.specs.Framing.{ends_chunked, is_host_right, fields_fault, body_fault, lengths_fault, transfer_fault, length_by, framing_by, framing_of}
use Rattle.message_framing.specs.declared.fields.Found.{Found}
use Rattle.message_framing.specs.Found.{OccursAs, CodingsAs, CodingsFound, FoundAs, StatesAs}

-- the last coding of a list with one more
pub ends_chunked-push : (names : List (List ℕ)) (name : List ℕ) → ends_chunked (names ++ name ∷ []) ≡ same_ignoring_case name (codes "chunked")
ends_chunked-push [] name = refl
ends_chunked-push (n ∷ []) name = refl
ends_chunked-push (n ∷ m ∷ names) name = ends_chunked-push (m ∷ names) name

-- a test of a number and of the next
both_tests : (n m : ℕ) → m ≡ n + 1 → nat_lt 0 n ≡ nat_lt 1 m
both_tests n m is = elim (cases_lt 0 n) [
  | inl above ↦ lt-ltb 0 n above ∙ sym (lt-ltb 1 m (omega (arith, above, is)))
  | inr none ↦ le-ltb 0 n none ∙ sym (le-ltb 1 m (omega (arith, none, is)))
]

-- one coding more
pub codings_push : (c d : Codings) (names : List (List ℕ)) (name : List ℕ) → CodingsAs c names → d.some ≡ true → d.more ≡ c.some
    → d.ends_chunked ≡ same_ignoring_case name (codes "chunked") → CodingsAs d (names ++ name ∷ [])
codings_push c d names name h some more last = record {
  some_is = some ∙ sym (lt-ltb 0 (length (names ++ name ∷ [])) (omega (arith, length-append names (name ∷ []))));
  more_is = more ∙ h.some_is ∙ both_tests (length names) _ (omega (arith, length-append names (name ∷ [])));
  last_is = last ∙ sym (ends_chunked-push names name);
}

-- the codings of a value were taken up to those that are left
pub record HasTaken (first : Codings) (all left : List (List ℕ)) (now : Codings) : Type 0 where
  pub taken : List (List ℕ)
  pub split : all ≡ taken ++ left
  pub codings : (names : List (List ℕ)) → CodingsAs first names → CodingsAs now (names ++ taken)

pub taken_begins : (first : Codings) (all left : List (List ℕ)) → left ≡ all → HasTaken first all left first
taken_begins first all left is = record {
  taken = [];
  split = sym is;
  codings = λ names h. subst (λ (w : List (List ℕ)). CodingsAs first w) (sym (append-nil names)) h;
}

pub taken_more : (first now later : Codings) (all left rest : List (List ℕ)) (name : List ℕ) → HasTaken first all left now → left ≡ name ∷ rest
    → later.some ≡ true → later.more ≡ now.some → later.ends_chunked ≡ same_ignoring_case name (codes "chunked") → HasTaken first all rest later
taken_more first now later all left rest name h is some more last = record {
  taken = h.taken ++ name ∷ [];
  split = h.split ∙ ap (λ w. h.taken ++ w) is ∙ sym (append_assoc h.taken (name ∷ []) rest);
  codings = λ names before. subst (λ (w : List (List ℕ)). CodingsAs later w) (append_assoc names h.taken (name ∷ []))
      (codings_push now later (names ++ h.taken) name (h.codings names before) some more last);
}

pub taken_whole : (first now : Codings) (all left : List (List ℕ)) → HasTaken first all left now → left ≡ []
    → (names : List (List ℕ)) → CodingsAs first names → CodingsAs now (names ++ all)
taken_whole first now all left h none names before =
    let same : h.taken ≡ all = sym (h.split ∙ ap (λ w. h.taken ++ w) none ∙ append-nil h.taken) in
    subst (λ (w : List (List ℕ)). CodingsAs now (names ++ w)) same (h.codings names before)

-- the values of one name, with a field more that has it, and with one that has not
pub values_with : (word : List ℕ) (fields : List (List ℕ × List ℕ)) (name value : List ℕ) → same_ignoring_case name word ≡ true
    → values_of word (fields ++ (name, value) ∷ []) ≡ values_of word fields ++ value ∷ []
values_with word fields name value same =
    values_more word fields name value ∙ ap (λ b. values_of word fields ++ (if b then value ∷ [] else [])) same

pub values_without : (word : List ℕ) (fields : List (List ℕ × List ℕ)) (name value : List ℕ) → same_ignoring_case name word ≡ false
    → values_of word (fields ++ (name, value) ∷ []) ≡ values_of word fields
values_without word fields name value other =
    values_more word fields name value ∙ ap (λ b. values_of word fields ++ (if b then value ∷ [] else [])) other ∙ append-nil _

-- the first one
pub found_first : (seen : Occurs) (values more : List (List ℕ)) (value : Bor (List ℕ)) → seen ≡ Never → OccursAs seen values
    → more ≡ values ++ value.now ∷ [] → OccursAs (Once value) more
found_first seen values more value never found is =
    let none : values ≡ [] = subst (λ (s : Occurs). OccursAs s values) never found in
    is ∙ ap (λ w. w ++ value.now ∷ []) none

-- one that is not the first
found_some : (seen : Occurs) (values : List (List ℕ)) → OccursAs seen values → seen ≢ Never → 0 < length values
found_some Never values h other = absurd (other refl)
found_some (Once value) values h other = omega (arith, ap length h)
found_some Again values h other = omega (arith, h)

pub found_again : (seen : Occurs) (values more : List (List ℕ)) (value : List ℕ) → seen ≢ Never → OccursAs seen values
    → more ≡ values ++ value ∷ [] → OccursAs Again more
found_again seen values more value other found is =
    omega (arith, found_some seen values found other, ap length is, length-append values (value ∷ []))

-- one field more, of host and body
pub found_with : (old new : Found) (fields : List (List ℕ × List ℕ)) (name value : List ℕ) → FoundAs old fields
    → (OccursAs old.host (values_of (codes "host") fields) → OccursAs new.host (values_of (codes "host") (fields ++ (name, value) ∷ [])))
    → (OccursAs old.length (values_of (codes "content-length") fields)
    → OccursAs new.length (values_of (codes "content-length") (fields ++ (name, value) ∷ [])))
    → (CodingsFound old.codings (values_of (codes "transfer-encoding") fields)
    → CodingsFound new.codings (values_of (codes "transfer-encoding") (fields ++ (name, value) ∷ [])))
    → FoundAs new (fields ++ (name, value) ∷ [])
found_with old new fields name value h host length_is codings = record {
  host_is = host h.host_is;
  length_is = length_is h.length_is;
  codings_are = codings h.codings_are;
}

-- the fields up to a place, and the field there
pub fields_more : (text : List ℕ) (places : List HeaderSpan) (i : ℕ) (d : HeaderSpan) (name value : List ℕ) → i < length places
    → name ≡ span_bytes text (get_or places i d).name → value ≡ span_bytes text (get_or places i d).value
    → map (header_bytes text) (take (i + 1) places) ≡ map (header_bytes text) (take i places) ++ (name, value) ∷ []
fields_more text places i d name value below name_is value_is =
    ap (map (header_bytes text)) (take_more places i d below) ∙ map-append (header_bytes text) (take i places) (get_or places i d ∷ [])
    ∙ ap (λ n. map (header_bytes text) (take i places) ++ (n, span_bytes text (get_or places i d).value) ∷ []) (sym name_is)
    ∙ ap (λ v. map (header_bytes text) (take i places) ++ (name, v) ∷ []) (sym value_is)

no_codings : CodingsAs (record { some = false; more = false; ends_chunked = false }) []
no_codings = record { some_is = refl; more_is = refl; last_is = refl }

not_empty : (values : List (List ℕ)) (value : List ℕ) → values ++ value ∷ [] ≢ []
not_empty [] value = λ e. (cc)
not_empty (v ∷ values) value = λ e. (cc)

-- one value more
pub codings_more : (before : Option Codings) (start now : Codings) (values more : List (List ℕ)) (value : List ℕ) → CodingsFound before values
    → start ≡ unwrap_or before (record { some = false; more = false; ends_chunked = false })
    → more ≡ values ++ value ∷ []
    → ((names : List (List ℕ)) → CodingsAs start names → CodingsAs now (names ++ elements value)) → CodingsFound (Some now) more
codings_more None start now values more value h is longer step =
    let begin : CodingsAs start [] = subst (λ (c : Codings). CodingsAs c []) (sym is) no_codings in
    let all : more ≡ value ∷ [] = longer ∙ ap (λ w. w ++ value ∷ []) h in (
      subst (λ (w : List (List ℕ)). w ≢ []) (sym longer) (not_empty values value),
      subst (λ (w : List (List ℕ)). CodingsAs now (flat_map elements w)) (sym all) (subst (λ (w : List (List ℕ)). CodingsAs now w) (sym (append-nil (elements value))) (step [] begin)),
    )
codings_more (Some c) start now values more value h is longer step =
    let begin : CodingsAs start (flat_map elements values) = subst (λ (d : Codings). CodingsAs d (flat_map elements values)) (sym is) h.1 in (
      subst (λ (w : List (List ℕ)). w ≢ []) (sym longer) (not_empty values value),
      subst (λ (w : List (List ℕ)). CodingsAs now w)
          (ap (λ w. flat_map elements values ++ w) (sym (append-nil (elements value))) ∙ sym (flat_map-append elements values (value ∷ [])) ∙ ap (flat_map elements) (sym longer))
          (step (flat_map elements values) begin),
    )

-- the refusal of the fields, by its parts
pub fields_host : (version : Version) (fields : List (List ℕ × List ℕ)) → is_host_right version (values_of (codes "host") fields) ≡ false
    → fields_fault version fields ≡ Some (F 6)
unfolding fields_fault
fields_host version fields wrong = rw wrong refl

pub fields_plain : (version : Version) (fields : List (List ℕ × List ℕ)) → is_host_right version (values_of (codes "host") fields) ≡ true
    → values_of (codes "transfer-encoding") fields ≡ []
    → fields_fault version fields ≡ lengths_fault (values_of (codes "content-length") fields)
unfolding fields_fault
fields_plain version fields right none = rw (right, none) refl

body_transfer : (version : Version) (values lengths : List (List ℕ)) → values ≢ []
    → body_fault version values lengths ≡ transfer_fault version (flat_map elements values) lengths
body_transfer version [] lengths some = absurd (some refl)
body_transfer version (v ∷ values) lengths some = refl

pub fields_transfer : (version : Version) (fields : List (List ℕ × List ℕ)) → is_host_right version (values_of (codes "host") fields) ≡ true
    → values_of (codes "transfer-encoding") fields ≢ []
    → fields_fault version fields
    ≡ transfer_fault version (flat_map elements (values_of (codes "transfer-encoding") fields)) (values_of (codes "content-length") fields)
unfolding fields_fault
fields_transfer version fields right some = rw right (body_transfer version _ _ some)

-- the framing of the fields, by their parts
framing_plain : (fields : List (List ℕ × List ℕ)) → values_of (codes "transfer-encoding") fields ≡ []
    → framing_of fields ≡ Stated (length_by (values_of (codes "content-length") fields))
unfolding framing_of
framing_plain fields none = rw none refl

framing_some : (values lengths : List (List ℕ)) → values ≢ [] → framing_by values lengths ≡ Chunked
framing_some [] lengths some = absurd (some refl)
framing_some (v ∷ values) lengths some = refl

framing_chunked : (fields : List (List ℕ × List ℕ)) → values_of (codes "transfer-encoding") fields ≢ [] → Chunked ≡ framing_of fields
unfolding framing_of
framing_chunked fields some = sym (framing_some _ _ some)

-- what Content-Length states, where there is no Transfer-Encoding
pub stated_tell : (found : Result Framing Fault) (version : Version) (fields : List (List ℕ × List ℕ))
    → is_host_right version (values_of (codes "host") fields) ≡ true → values_of (codes "transfer-encoding") fields ≡ []
    → StatesAs found (values_of (codes "content-length") fields)
    → MatchResult found (λ g. (fields_fault version fields ≡ None) × (g ≡ framing_of fields)) (λ f. fields_fault version fields ≡ Some f)
stated_tell (Ok g) version fields right none h = (fields_plain version fields right none ∙ h.0, h.1 ∙ sym (framing_plain fields none))
stated_tell (Err f) version fields right none h = fields_plain version fields right none ∙ h

-- what Transfer-Encoding earns
pub transfer_none : (version : Version) (fields : List (List ℕ × List ℕ)) → is_host_right version (values_of (codes "host") fields) ≡ true
    → values_of (codes "transfer-encoding") fields ≢ []
    → None ≡ transfer_fault version (flat_map elements (values_of (codes "transfer-encoding") fields)) (values_of (codes "content-length") fields)
    → (fields_fault version fields ≡ None) × (Chunked ≡ framing_of fields)
transfer_none version fields right some h = (fields_transfer version fields right some ∙ sym h, framing_chunked fields some)

pub transfer_some : (version : Version) (fields : List (List ℕ × List ℕ)) (f : Fault) → is_host_right version (values_of (codes "host") fields) ≡ true
    → values_of (codes "transfer-encoding") fields ≢ []
    → Some f ≡ transfer_fault version (flat_map elements (values_of (codes "transfer-encoding") fields)) (values_of (codes "content-length") fields)
    → fields_fault version fields ≡ Some f
transfer_some version fields f right some h = fields_transfer version fields right some ∙ sym h
