-- Which method a POST asks for in its own place (after Rack's MethodOverride; that the body is looked at only
-- where it is an encoded form is this project's own). Bodies are read by the URL Standard, section 5.1.
use Rattle.std.specs.Prelude.{ℕ, Bool, ◌==◌, List, [], ◌∷◌, map, reverse, Option, Some, None, option_and_then, codes, bytes_eq, if◌then◌else◌}
use Rattle.std.specs.Char.{to_ascii_uppercase}
use Rattle.std.specs.Borrow.{Bor}
use Rattle.std.specs.List.{list_all, list_any, before_first}
use Rattle.httparse.specs.Grammar.{trim_ows}
use Rattle.form_urlencoded.specs.Form.{parse}
use Rattle.rack_text.specs.Case.{same_ignoring_case}
use Rattle.rack_types.specs.Env.{Pairs, get_pair, set_pair}
use Rattle.rack_types.specs.RuleWords.{has_value, if_there}

-- the text with its ASCII letters in upper case
abbrev pub in_upper_case : List ℕ → List ℕ
in_upper_case text = map to_ascii_uppercase text

-- the methods that may be asked for
abbrev pub verbs : List (List ℕ)
verbs =
    codes "GET" ∷ codes "HEAD" ∷ codes "PUT" ∷ codes "POST" ∷ codes "DELETE" ∷ codes "OPTIONS" ∷ codes "PATCH"
    ∷ codes "LINK" ∷ codes "UNLINK" ∷ []

-- the text in upper case, where that is one of these
abbrev pub named_by : List ℕ → List (List ℕ) → Option (List ℕ)
named_by text words = if list_any (bytes_eq (in_upper_case text)) words then Some (in_upper_case text) else None

-- the method that the text names in any case of its letters, none where it names none of them
abbrev pub verb_of : List ℕ → Option (List ℕ)
verb_of text = named_by text verbs

-- of a private function alone: all of these are in upper case
abbrev pub are_upper : List (Bor (List ℕ)) → Bool
are_upper words = list_all (λ word. bytes_eq (in_upper_case word.now) word.now) words

-- the byte is `;`
abbrev pub is_semicolon : ℕ → Bool
is_semicolon b = b == 59

-- a content type without its parameters: what stands before the first `;`, without the spaces and tabs at its ends
-- (RFC 9110, section 8.3.1)
abbrev pub media_type : List ℕ → List ℕ
media_type value = trim_ows (before_first is_semicolon value)

-- the content type is that of an encoded form
abbrev pub is_form_type : List ℕ → Bool
is_form_type value = same_ignoring_case (media_type value) (codes "application/x-www-form-urlencoded")

-- the body is an encoded form
abbrev pub is_form : Pairs → Bool
is_form ps = if_there is_form_type (get_pair (codes "CONTENT_TYPE") ps)

-- the value of the last pair `_method` of a form
abbrev pub asked_in_form : List ℕ → Option (List ℕ)
asked_in_form input = get_pair (codes "_method") (reverse (parse input))

-- the same, where the body is a form
abbrev pub asked_in_body : Pairs → List ℕ → Option (List ℕ)
asked_in_body ps input = if is_form ps then asked_in_form input else None

-- what the body asks for, or, where it asks for nothing, what the header does
abbrev pub asked_for : Pairs → List ℕ → Option (List ℕ)
asked_for ps input = body_or_header (asked_in_body ps input)
  where
    body_or_header : Option (List ℕ) → Option (List ℕ)
    body_or_header None = get_pair (codes "HTTP_X_HTTP_METHOD_OVERRIDE") ps
    body_or_header (Some text) = Some text

-- the method that a request gets in the place of POST, none where its method stays
abbrev pub new_method : Pairs → List ℕ → Option (List ℕ)
new_method ps input =
    if has_value (codes "REQUEST_METHOD") (codes "POST") ps then option_and_then verb_of (asked_for ps input) else None

-- the pairs with this method, and with the one that it had
abbrev pub with_method : List ℕ → Pairs → Pairs
with_method verb ps =
    set_pair (codes "REQUEST_METHOD") verb (set_pair (codes "rack.methodoverride.original_method") (codes "POST") ps)

-- the pairs with the method that the request asks for
abbrev pub overridden : Pairs → List ℕ → Pairs
overridden ps input = by_method (new_method ps input)
  where
    by_method : Option (List ℕ) → Pairs
    by_method None = ps
    by_method (Some verb) = with_method verb ps
