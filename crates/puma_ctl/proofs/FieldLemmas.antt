-- The fields of a head that are looked at one behind the other.
use Rattle.std.proofs.Common.{◌≡◌, ◌≢◌, ℕ, ◌+◌, ◌<◌, ◌≤◌, List, [], ◌∷◌, ◌++◌, length, take, map, get_or, if◌then◌else◌, true, false, Option, None, Some, Bor, refl, ap, sym, ◌∙◌, subst}
use Rattle.std.proofs.lemmas.List.{append-nil, map-append, take_more}
use Rattle.rack_text.specs.Case.{same_ignoring_case}
use Rattle.rack_types.specs.Fields.{values_of}
use Rattle.rack_types.proofs.CallerLemmas.{values_more}
use Rattle.httparse.specs.declared.spans.HeaderSpan.{HeaderSpan}
use Rattle.httparse.specs.Spans.{header_bytes, span_bytes}
use Rattle.puma_ctl.specs.declared.head.Occurs.{Occurs}
use Rattle.puma_ctl.specs.declared.head.Occurs.TheVariants.{Never, Once, Again}
use Rattle.puma_ctl.specs.Back.{OccursAs, ReadsHead}
use Rattle.puma_ctl.specs.Reply.{stated_length, IsReplyHead}
use Rattle.httparse.specs.Grammar.{ResponseHead}
use Rattle.httparse.specs.Spans.{name_and_value}
use Rattle.httparse.specs.declared.spans.ResponseSpans.{ResponseSpans}
use Rattle.httparse.proofs.GrammarLemmas.{response_unique}

-- the fields up to a place, and the field there
pub fields_more : (text : List ℕ) (places : List HeaderSpan) (i : ℕ) (d : HeaderSpan) (name value : List ℕ) → i < length places
    → name ≡ span_bytes text (get_or places i d).name → value ≡ span_bytes text (get_or places i d).value
    → map (header_bytes text) (take (i + 1) places) ≡ map (header_bytes text) (take i places) ++ (name, value) ∷ []
fields_more text places i d name value below name_is value_is =
    ap (map (header_bytes text)) (take_more places i d below) ∙ map-append (header_bytes text) (take i places) (get_or places i d ∷ [])
    ∙ ap (λ n. map (header_bytes text) (take i places) ++ (n, span_bytes text (get_or places i d).value) ∷ []) (sym name_is)
    ∙ ap (λ v. map (header_bytes text) (take i places) ++ (name, v) ∷ []) (sym value_is)

-- one value more
two_values : (values : List (List ℕ)) (value : List ℕ) (seen : Occurs) → seen ≢ Never → OccursAs seen values → OccursAs Again (values ++ value ∷ [])
two_values values value Never other found = absurd (other refl)
two_values values value (Once first) other found = (first.now, value, [], ap (λ (w : List (List ℕ)). w ++ value ∷ []) found)
two_values values value Again other found =
    (found.0, found.1, found.2 ++ value ∷ [], ap (λ (w : List (List ℕ)). w ++ value ∷ []) found.3)

pub found_again : (word : List ℕ) (seen : Occurs) (fields : List (List ℕ × List ℕ)) (name value : List ℕ) → seen ≢ Never
    → same_ignoring_case name word ≡ true → OccursAs seen (values_of word fields) → OccursAs Again (values_of word (fields ++ (name, value) ∷ []))
found_again word seen fields name value other same found =
    let more : values_of word (fields ++ (name, value) ∷ []) ≡ values_of word fields ++ value ∷ [] =
    values_more word fields name value ∙ ap (λ b. values_of word fields ++ (if b then value ∷ [] else [])) same in
    subst (λ (w : List (List ℕ)). OccursAs Again w) (sym more) (two_values (values_of word fields) value seen other found)

-- a head whose fields state no length is no head of a reply
pub no_length : (text : List ℕ) (places part : List HeaderSpan) (s : ResponseSpans) (m : ℕ) → ReadsHead text places s → m ≡ s.headers
    → part ≡ take m places → None ≡ stated_length (map (header_bytes text) part) → (status count : ℕ) → IsReplyHead text status count → ⊥
no_length text places part s m reads m_is part_is none status count x =
    let h = reads.head.0 in
    let same : h ≡ x.head = (response_unique text h x.head [] [] reads.head.1.0 x.reads.0).0 in
    let fields : map (header_bytes text) part ≡ map name_and_value h.fields =
    ap (map (header_bytes text)) (part_is ∙ ap (λ (k : ℕ). take k places) m_is) ∙ reads.head.2.fields in
    let clash : None ≡ Some count =
    none ∙ ap stated_length fields ∙ ap (λ (k : ResponseHead). stated_length (map name_and_value k.fields)) same ∙ x.states in
    cc
