-- What one walk through the headers of an answer finds.
use Rattle.std.specs.Prelude.{ℕ, Bool, true, false, not, ◌&&◌, ◌||◌, if◌then◌else◌, List, [], ◌∷◌, Option, None, Some, is_some, codes, bytes_eq}
use Rattle.std.specs.List.{list_any}
use Rattle.httparse.specs.Grammar.{is_token}
use Rattle.rack_types.specs.declared.rules.Rule.{Rule}
use Rattle.rack_types.specs.declared.rules.Set.{Set}
use Rattle.rack_types.specs.Env.{Pairs}
use Rattle.rack_types.specs.RuleWords.{has_value}
use Rattle.rack_types.specs.AnswerRules.{rule, breaks_L2, breaks_L3, breaks_L4, breaks_L5, breaks_L11, is_full, is_upper, is_control, one_length}
use Rattle.rack_types.specs.Headers.{HeaderList, header_values}
use Rattle.lint_core.specs.declared.found.Found.{Found}
use Rattle.lint_core.specs.declared.found.Stated.{Stated}
use Rattle.lint_core.specs.declared.found.Stated.TheVariants.{Absent, Bad, Is}

-- what a number that may not be there states
abbrev pub stated_number : Option ℕ → Stated
stated_number None = Bad
stated_number (Some n) = Is n

-- what the values of `content-length` state
abbrev pub stated_by : Option (List (List ℕ)) → Stated
stated_by None = Absent
stated_by (Some values) = stated_number (one_length values)

-- what is found in the headers
abbrev pub found_in : HeaderList → Found
found_in headers = record {
  no_token = breaks_L2 headers;
  status = breaks_L3 headers;
  upper = breaks_L4 headers;
  control = breaks_L5 headers;
  kind = is_some (header_values (codes "content-type") headers);
  length = stated_by (header_values (codes "content-length") headers);
}

-- what is found with one more header before those
abbrev pub with_header : List ℕ → List (List ℕ) → Found → Found
with_header name values behind = record {
  no_token = not (is_token name) || behind.no_token;
  status = bytes_eq name (codes "status") || behind.status;
  upper = list_any is_upper name || behind.upper;
  control = list_any (list_any is_control) values || behind.control;
  kind = if bytes_eq (codes "content-type") name then true else behind.kind;
  length = if bytes_eq (codes "content-length") name then stated_by (Some values) else behind.length;
}

-- the number that is stated
abbrev pub number_of : Stated → Option ℕ
number_of Absent = None
number_of Bad = None
number_of (Is n) = Some n

-- something is stated, and what is stated is no number
abbrev pub is_stated : Stated → Bool
is_stated Absent = false
is_stated Bad = true
is_stated (Is n) = true

abbrev pub is_stated_badly : Stated → Bool
is_stated_badly Absent = false
is_stated_badly Bad = true
is_stated_badly (Is n) = false

-- L2 to L5 by what was found
abbrev pub name_rules : Found → List (Rule × Bool)
name_rules found = (rule 2, found.no_token) ∷ (rule 3, found.status) ∷ (rule 4, found.upper) ∷ (rule 5, found.control) ∷ []

-- L6 to L8 by what was found, and by whether the status is bare
abbrev pub length_rules : Found → Bool → List (Rule × Bool)
length_rules found bare =
    (rule 6, bare && found.kind) ∷ (rule 7, bare && is_stated found.length) ∷ (rule 8, is_stated_badly found.length) ∷ []

-- L10 and L11 by whether another length than the known one is stated where there is a body
abbrev pub method_rules : Set → Pairs → Bool → Option ℕ → List (Rule × Bool)
method_rules set env other known =
    (rule 10, other && not (has_value (codes "REQUEST_METHOD") (codes "HEAD") env)) ∷ (rule 11, is_full set && breaks_L11 env known) ∷ []
