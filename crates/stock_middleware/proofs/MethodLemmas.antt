-- What MethodOverride does to the pairs, and how that is undone; texts in upper case.
use Rattle.std.proofs.Common.{◌≡◌, ◌≢◌, ℕ, Bool, true, false, cond, List, [], ◌∷◌, map, Option, Some, None, IsSome, Bor, find, refl, sym, ap, subst, ◌∙◌, bytes_eq, codes, arith}
use Rattle.std.specs.Char.{to_ascii_lowercase, to_ascii_uppercase}
use Rattle.std.specs.Option.{option_copied}
use Rattle.std.proofs.lemmas.Bool.{and_parts}
use Rattle.std.proofs.lemmas.Bool.Decides.{nat_tests}
use Rattle.std.proofs.lemmas.Slice.Eq.{bytes_eq-Decides}
use Rattle.std.proofs.lemmas.Str.Ascii.{lowercase-uppercase}
use Rattle.rack_text.specs.Case.{lowered, same_ignoring_case}
use Rattle.rack_types.specs.Env.{Pairs, get_pair, set_pair, HasName}
use Rattle.rack_types.specs.RuleWords.{has_value}
use Rattle.rack_types.proofs.CallerLemmas.{get_pair-set_pair-same, get_pair-set_pair-other}
use Rattle.stock_middleware.specs.Override.{are_upper, in_upper_case, named_by}
use Rattle.stock_middleware.specs.Undo.{put_back, CanPutBack}
use Rattle.stock_middleware.proofs.UndoLemmas.{put_back-set_pair}

abbrev pub method_name : List ℕ
method_name = codes "REQUEST_METHOD"

abbrev pub original_name : List ℕ
original_name = codes "rack.methodoverride.original_method"

names_differ : method_name ≢ original_name
names_differ e = cc

-- a name with a value is there
pub HasName-has_value : (name value : List ℕ) (ps : Pairs) → has_value name value ps ≡ true → HasName name ps
HasName-has_value name value ps has = by (get_pair name ps) refl
  where
    by : (o : Option (List ℕ)) → get_pair name ps ≡ o → IsSome (get_pair name ps)
    by None e = let no = rw e at has in cc
    by (Some found) e = subst (λ (o : Option (List ℕ)). IsSome o) (sym e) refl

-- the method is there still behind a change of the other name
pub HasName-set_pair-other : (value : List ℕ) (ps : Pairs) → HasName method_name ps → HasName method_name (set_pair original_name value ps)
HasName-set_pair-other value ps has =
    subst (λ (o : Option (List ℕ)). IsSome o) (sym (get_pair-set_pair-other method_name original_name value ps names_differ)) has

-- a pair that was set to a value, and then to the one before
pub set_pair-back : (name value was : List ℕ) (ps : Pairs) → get_pair name ps ≡ Some was → set_pair name was (set_pair name value ps) ≡ ps
set_pair-back name value was ps had =
    subst (λ (o : Option (List ℕ)). put_back name o (set_pair name value ps) ≡ ps) had (put_back-set_pair name value ps)

-- that can be done
pub HasName-set_pair-same : (name value : List ℕ) (ps : Pairs) → HasName name (set_pair name value ps)
HasName-set_pair-same name value ps =
    subst (λ (o : Option (List ℕ)). IsSome o) (sym (get_pair-set_pair-same name value ps)) refl

-- ---- texts in upper case

lower_upper : (b : ℕ) → to_ascii_lowercase (to_ascii_uppercase b) ≡ to_ascii_lowercase b
lower_upper b = lowercase-uppercase b

upper_lower : (b : ℕ) → to_ascii_uppercase (to_ascii_lowercase b) ≡ to_ascii_uppercase b
upper_lower b = grind (arith, nat_tests)

lowered-upper : (text : List ℕ) → lowered (in_upper_case text) ≡ lowered text
lowered-upper [] = refl
lowered-upper (b ∷ text) = rw (lower_upper b, lowered-upper text) refl

upper-lowered : (text : List ℕ) → in_upper_case (lowered text) ≡ in_upper_case text
upper-lowered [] = refl
upper-lowered (b ∷ text) = rw (upper_lower b, upper-lowered text) refl

both_ways : (r s : Bool) → (r ≡ true → s ≡ true) → (s ≡ true → r ≡ true) → r ≡ s
both_ways true true f g = refl
both_ways true false f g = sym (f refl)
both_ways false true f g = g refl
both_ways false false f g = refl

-- a text is one in upper case but for its case, where it is so in upper case
same_in_upper : (text verb : List ℕ) → in_upper_case verb ≡ verb → same_ignoring_case text verb ≡ bytes_eq (in_upper_case text) verb
same_in_upper text verb upper =
    both_ways _ _
    (λ same. (bytes_eq-Decides (in_upper_case text) verb).1
    (sym (upper-lowered text) ∙ ap in_upper_case ((bytes_eq-Decides (lowered text) (lowered verb)).0 same) ∙ upper-lowered verb ∙ upper))
    (λ same. (bytes_eq-Decides (lowered text) (lowered verb)).1
    (sym (lowered-upper text) ∙ ap lowered ((bytes_eq-Decides (in_upper_case text) verb).0 same)))

-- the first of them that the text is but for its case is the text in upper case
pub find-upper : (text : List ℕ) (verbs : List (Bor (List ℕ))) → are_upper verbs ≡ true
    → option_copied (find (λ v. same_ignoring_case text v.now) verbs) ≡ named_by text (map (λ v. v.now) verbs)
find-upper text [] upper = refl
find-upper text (v ∷ verbs) upper =
    by (bytes_eq (in_upper_case text) v.now) refl (find-upper text verbs (and_parts (bytes_eq (in_upper_case v.now) v.now) (are_upper verbs) upper).1)
  where
    here : in_upper_case v.now ≡ v.now
    here = (bytes_eq-Decides (in_upper_case v.now) v.now).0 (and_parts (bytes_eq (in_upper_case v.now) v.now) (are_upper verbs) upper).0

    by : (t : Bool) → bytes_eq (in_upper_case text) v.now ≡ t
        → option_copied (find (λ v. same_ignoring_case text v.now) verbs) ≡ named_by text (map (λ v. v.now) verbs)
        → option_copied (find (λ v. same_ignoring_case text v.now) (v ∷ verbs)) ≡ named_by text (map (λ v. v.now) (v ∷ verbs))
    by true e rest =
        rw (same_in_upper text v.now here, e) (ap Some (sym ((bytes_eq-Decides (in_upper_case text) v.now).0 e)))
    by false e rest = rw (same_in_upper text v.now here, e) rest
