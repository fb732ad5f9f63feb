-- A field that is lent is the one of the parts.
use Rattle.std.proofs.Common.{◌≡◌, ℕ, ◌<◌, ◌≤◌, Bool, List, length, map, take, get_or, slice_get, Some, arith, ap, sym, ◌∙◌, length-take, subst}
use Rattle.std.proofs.lemmas.List.{get_or-take, length-map, length-take-le}
use Rattle.std.proofs.lemmas.Option.{slice_get-map, slice_get-get_or}
use Rattle.std.specs.Option.{option_map}
use Rattle.httparse.specs.declared.spans.HeaderSpan.{HeaderSpan}
use Rattle.httparse.specs.Spans.{header_bytes}
use Rattle.rack_types.specs.declared.request.Spans.{Spans}
use Rattle.rack_types.specs.Request.{Parts, parts_at}

-- the span at a place below n covers what the parts have there
pub field_at : (f : List ℕ × List ℕ → List ℕ) (head : List ℕ) (fields : List HeaderSpan) (n i : ℕ) (x : HeaderSpan)
    → i < n → n ≤ length fields → x ≡ get_or fields i x
    → slice_get (map f (map (header_bytes head) (take n fields))) i ≡ Some (f (header_bytes head x))
field_at f head fields n i x below fits is =
    let short : i < length (take n fields) = omega (arith, length-take n fields) in
    slice_get-map f (map (header_bytes head) (take n fields)) i
    ∙ ap (option_map f) (slice_get-map (header_bytes head) (take n fields) i)
    ∙ ap (λ o. option_map f (option_map (header_bytes head) o)) (slice_get-get_or (take n fields) i x short)
    ∙ ap (λ y. Some (f (header_bytes head y))) (get_or-take n fields i x below ∙ sym is)

-- a request has as many fields as were read
pub field_count_is : (head : List ℕ) (fields : List HeaderSpan) (n : ℕ) → n ≤ length fields
    → length (map (header_bytes head) (take n fields)) ≡ n
field_count_is head fields n fits = length-map (take n fields) (header_bytes head) ∙ length-take-le n fields fits

-- a place below the count of the parts is below the count that was read
pub field_below : (head : List ℕ) (fields : List HeaderSpan) (spans : Spans) (body : List ℕ) (chunked : Bool) (parts : Parts) (i : ℕ)
    → parts_at head fields spans body chunked ≡ parts → spans.fields ≤ length fields → i < length parts.fields → i < spans.fields
field_below head fields spans body chunked parts i is fits below =
    let P : Parts → Type 0 = λ p. i < length p.fields in
    let here : i < length (map (header_bytes head) (take spans.fields fields)) = subst P (sym is) below in
    omega (arith, field_count_is head fields spans.fields fits)
