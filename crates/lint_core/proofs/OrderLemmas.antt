-- The first of several rules that is broken, and the rules of a reply by what was found in its headers.
use Rattle.std.proofs.Common.{◌≡◌, ℕ, Bool, true, false, cond, not, ◌&&◌, List, [], ◌∷◌, ◌++◌, Option, Some, None, is_some, refl, ap, sym, ◌∙◌, codes}
use Rattle.rack_types.specs.declared.rules.EnvRule.{EnvRule}
use Rattle.rack_types.specs.declared.rules.Rule.{Rule}
use Rattle.rack_types.specs.declared.rules.Set.{Set}
use Rattle.rack_types.specs.AnswerRules.{broken_head_rule, broken_taken_rule, rule, breaks_L1, breaks_L9, differ, is_bare, is_bad_length, stated_length, one_length}
use Rattle.rack_types.specs.Env.{Pairs}
use Rattle.rack_types.specs.EnvRules.{broken_env_rule, env_rule, breaks_E1, breaks_E2, breaks_E3, breaks_E4, breaks_E5, breaks_E6, breaks_E7, breaks_E8, breaks_E9, breaks_E10}
use Rattle.rack_types.specs.Headers.{HeaderList, header_values}
use Rattle.rack_types.specs.RuleWords.{first_broken, has_value}
use Rattle.lint_core.specs.declared.found.Found.{Found}
use Rattle.lint_core.specs.Found.{found_in, stated_by, stated_number, number_of, is_stated, is_stated_badly, name_rules, length_rules, method_rules}

-- the first of two, where it is there
abbrev pub or_else : {R : Type 0} → Option R → Option R → Option R
or_else (Some r) later = Some r
or_else None later = later

-- the first of all rules is that of the first ones, or of the others
pub first_broken-append : {R : Type 0} (xs ys : List (R × Bool)) → first_broken (xs ++ ys) ≡ or_else (first_broken xs) (first_broken ys)
first_broken-append [] ys = refl
first_broken-append (x ∷ xs) ys = by x.1 (first_broken-append xs ys)
  where
    by : (t : Bool) → first_broken (xs ++ ys) ≡ or_else (first_broken xs) (first_broken ys) → cond t (Some x.0) (first_broken (xs ++ ys)) ≡ or_else (cond t (Some x.0) (first_broken xs)) (first_broken ys)
    by true rest = refl
    by false rest = rest

stated_number-is : (o : Option ℕ) → (is_stated (stated_number o) ≡ true) × (is_stated_badly (stated_number o) ≡ not (is_some o)) × (number_of (stated_number o) ≡ o)
stated_number-is None = (refl, refl, refl)
stated_number-is (Some n) = (refl, refl, refl)

is_stated-is : (o : Option (List (List ℕ))) → is_stated (stated_by o) ≡ is_some o
is_stated-is None = refl
is_stated-is (Some values) = (stated_number-is (one_length values)).0

is_stated_badly-is : (o : Option (List (List ℕ))) → is_stated_badly (stated_by o) ≡ is_bad_length o
is_stated_badly-is None = refl
is_stated_badly-is (Some values) = (stated_number-is (one_length values)).1

number_of-is : (o : Option (List (List ℕ))) → number_of (stated_by o) ≡ stated_length o
number_of-is None = refl
number_of-is (Some values) = (stated_number-is (one_length values)).2

-- the order of the last two tests of L10 is free
turned : (a b c : Bool) → ((a && b) && c) ≡ ((a && c) && b)
turned true true true = refl
turned true true false = refl
turned true false true = refl
turned true false false = refl
turned false b c = refl

-- the rule of a full hijack
pub taken_is : (env : Pairs) → broken_taken_rule env ≡ cond (breaks_L9 true env) (Some (rule 9)) None
unfolding broken_taken_rule
taken_is env = refl

-- the rules of an environment in two halves
abbrev pub first_half : Pairs → List (EnvRule × Bool)
first_half env =
    (env_rule 1, breaks_E1 env) ∷ (env_rule 2, breaks_E2 env) ∷ (env_rule 3, breaks_E3 env) ∷ (env_rule 4, breaks_E4 env) ∷ (env_rule 5, breaks_E5 env) ∷ []

abbrev pub second_half : Pairs → List (EnvRule × Bool)
second_half env =
    (env_rule 6, breaks_E6 env) ∷ (env_rule 7, breaks_E7 env) ∷ (env_rule 8, breaks_E8 env) ∷ (env_rule 9, breaks_E9 env) ∷ (env_rule 10, breaks_E10 env) ∷ []

pub env_by_halves : (env : Pairs) → broken_env_rule env ≡ or_else (first_broken (first_half env)) (first_broken (second_half env))
unfolding broken_env_rule
env_by_halves env = first_broken-append (first_half env) (second_half env)

-- the parts of a reply's rules, in order: L1, those of names, those of lengths, L9, those of the method
abbrev pub parts : Bool → Option Rule → Option Rule → Bool → Option Rule → Option Rule
parts status names lengths hijack methods =
    cond status (Some (rule 1)) (or_else names (or_else lengths (cond hijack (Some (rule 9)) methods)))

part_status : (w : Bool) (n l : Option Rule) (h : Bool) (m : Option Rule) → w ≡ true → Some (rule 1) ≡ parts w n l h m
part_status w n l h m a = rw (a) refl

part_names : (w : Bool) (n l : Option Rule) (h : Bool) (m : Option Rule) (r : Rule) → w ≡ false → n ≡ Some r → Some r ≡ parts w n l h m
part_names w n l h m r a b = rw (a, b) refl

part_lengths : (w : Bool) (n l : Option Rule) (h : Bool) (m : Option Rule) (r : Rule) → w ≡ false → n ≡ None → l ≡ Some r → Some r ≡ parts w n l h m
part_lengths w n l h m r a b c = rw (a, b, c) refl

part_hijack : (w : Bool) (n l : Option Rule) (h : Bool) (m : Option Rule) → w ≡ false → n ≡ None → l ≡ None → h ≡ true → Some (rule 9) ≡ parts w n l h m
part_hijack w n l h m a b c d = rw (a, b, c, d) refl

part_methods : (w : Bool) (n l : Option Rule) (h : Bool) (m r : Option Rule) → w ≡ false → n ≡ None → l ≡ None → h ≡ false → r ≡ m → r ≡ parts w n l h m
part_methods w n l h m r a b c d e = rw (a, b, c, d) e

module _ (set : Set) (env : Pairs) (status : ℕ) (headers : HeaderList) (known : Option ℕ) (part : Bool) where
  -- what comes behind the rules of names, by what is found in the headers
  abbrev later_rules : Found → List (Rule × Bool)
  later_rules found =
      (rule 9, breaks_L9 part env) ∷ method_rules set env (differ (number_of found.length) known && not (is_bare status)) known

  abbrev by_parts : Found → Option Rule
  by_parts found =
      parts (breaks_L1 status) (first_broken (name_rules found)) (first_broken (length_rules found (is_bare status))) (breaks_L9 part env)
      (first_broken (method_rules set env (differ (number_of found.length) known && not (is_bare status)) known))

  abbrev rules_found : Found → List (Rule × Bool)
  rules_found found =
      (rule 1, breaks_L1 status) ∷ (name_rules found ++ (length_rules found (is_bare status) ++ later_rules found))

  head_by_found : broken_head_rule set env status headers known part ≡ first_broken (rules_found (found_in headers))
  unfolding broken_head_rule
  head_by_found =
      let values = header_values (codes "content-length") headers in
      rw (is_stated-is values, is_stated_badly-is values, number_of-is values, turned (differ (stated_length values) known) (not (is_bare status)) (not (has_value (codes "REQUEST_METHOD") (codes "HEAD") env))) refl

  head_by_parts : broken_head_rule set env status headers known part ≡ by_parts (found_in headers)
  head_by_parts =
      let found = found_in headers in
      head_by_found
      ∙ ap (λ later. cond (breaks_L1 status) (Some (rule 1)) later)
      (first_broken-append (name_rules found) (length_rules found (is_bare status) ++ later_rules found)
      ∙ ap (or_else (first_broken (name_rules found))) (first_broken-append (length_rules found (is_bare status)) (later_rules found)))

  -- the parts behind L1 by what was found
  abbrev names : Found → Option Rule
  names found = first_broken (name_rules found)

  abbrev lengths : Found → Option Rule
  lengths found = first_broken (length_rules found (is_bare status))

  abbrev methods : Found → Option Rule
  methods found = first_broken (method_rules set env (differ (number_of found.length) known && not (is_bare status)) known)

  -- which part decides
  pub status_decides : breaks_L1 status ≡ true → Some (rule 1) ≡ broken_head_rule set env status headers known part
  status_decides a =
      let found = found_in headers in
      part_status (breaks_L1 status) (names found) (lengths found) (breaks_L9 part env) (methods found) a ∙ sym head_by_parts

  module _ (found : Found) (is : found ≡ found_in headers) (right : breaks_L1 status ≡ false) where
    turn : (result : Option Rule) → result ≡ by_parts found → result ≡ broken_head_rule set env status headers known part
    turn result by = by ∙ ap by_parts is ∙ sym head_by_parts

    pub names_decide : (r : Rule) → first_broken (name_rules found) ≡ Some r → Some r ≡ broken_head_rule set env status headers known part
    names_decide r a =
        turn (Some r) (part_names (breaks_L1 status) (names found) (lengths found) (breaks_L9 part env) (methods found) r right a)

    pub lengths_decide : (r : Rule) → first_broken (name_rules found) ≡ None → first_broken (length_rules found (is_bare status)) ≡ Some r → Some r ≡ broken_head_rule set env status headers known part
    lengths_decide r a b =
        turn (Some r) (part_lengths (breaks_L1 status) (names found) (lengths found) (breaks_L9 part env) (methods found) r right a b)

    pub hijack_decides : first_broken (name_rules found) ≡ None → first_broken (length_rules found (is_bare status)) ≡ None → breaks_L9 part env ≡ true
        → Some (rule 9) ≡ broken_head_rule set env status headers known part
    hijack_decides a b c =
        turn (Some (rule 9)) (part_hijack (breaks_L1 status) (names found) (lengths found) (breaks_L9 part env) (methods found) right a b c)

    pub methods_decide : (r : Option Rule) → first_broken (name_rules found) ≡ None → first_broken (length_rules found (is_bare status)) ≡ None → breaks_L9 part env ≡ false
        → r ≡ first_broken (method_rules set env (differ (number_of found.length) known && not (is_bare status)) known) → r ≡ broken_head_rule set env status headers known part
    methods_decide r a b c d =
        turn r (part_methods (breaks_L1 status) (names found) (lengths found) (breaks_L9 part env) (methods found) r right a b c d)
