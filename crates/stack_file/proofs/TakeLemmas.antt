-- The lines `run` with a hijacker's name that are written for what was read.
use Rattle.std.proofs.Common.{◌≡◌, ℕ, ◌+◌, ◌≤◌, Bool, true, false, List, [], ◌∷◌, Option, None, Some, Ok, decimal, refl, ap, subst, arith, rules}
use Rattle.std.specs.Prelude.{if◌then◌else◌, codes, bytes_eq, option_map}
use Rattle.std.proofs.lemmas.Slice.Eq.{bytes_eq-Decides}
use Rattle.rack_text.specs.Escaped as text
use Rattle.stock_apps.specs.declared.app.App.{App}
use Rattle.stock_apps.specs.declared.app.App.TheVariants.{Take, Part}
use Rattle.stock_apps.specs.Words.{in_status, status_of, upper_of, formed, part_of, take_words, part_words, name_of, app_of}
use Rattle.stack_file.specs.Canon.{arguments, hijacker_name}
use Rattle.stack_file.specs.Said.{RunLine, texts_of, run_line}
use Rattle.stack_file.proofs.EscapeLemmas.{AllVisible}
use Rattle.stack_file.proofs.UseLemmas.{AreRead, are_read}
use Rattle.stack_file.proofs.WordLemmas.{AllWords, total}
use Rattle.stack_file.proofs.NumberLemmas.{AppAgain, run_says, number_first, InRange, status_parts, read_number}

visible_take : AllVisible (codes "take")
visible_take = search rules

visible_part : AllVisible (codes "part")
visible_part = search rules

-- a text that names a hijacker is its name
same_text : (xs ys : List ℕ) → bytes_eq xs ys ≡ true → xs ≡ ys
same_text xs ys e = (bytes_eq-Decides xs ys).0 e

its_name : (name : List ℕ) (upper : Bool) → upper_of name ≡ Some upper → name ≡ hijacker_name upper
its_name name upper e = by_echo (bytes_eq name (codes "echo")) refl e
  where
    by_upper : (c : Bool) → bytes_eq name (codes "upper") ≡ c → (if c then Some true else None) ≡ Some upper → name ≡ hijacker_name upper
    by_upper true is f = let same : true ≡ upper = cc f in subst (λ (u : Bool). name ≡ hijacker_name u) same (same_text name (codes "upper") is)
    by_upper false is f = cc f

    by_echo : (c : Bool) → bytes_eq name (codes "echo") ≡ c → (if c then Some false else if bytes_eq name (codes "upper") then Some true else None) ≡ Some upper → name ≡ hijacker_name upper
    by_echo true is f = let same : false ≡ upper = cc f in subst (λ (u : Bool). name ≡ hijacker_name u) same (same_text name (codes "echo") is)
    by_echo false is f = by_upper (bytes_eq name (codes "upper")) refl f

-- a name is its own escaped text
name_is : (upper : Bool) → arguments (hijacker_name upper ∷ []) ≡ hijacker_name upper ∷ []
unfolding text.escaped text.spelling
name_is true = refl
name_is false = refl

-- take
take_made : (upper : Bool) → app_of (codes "take") (hijacker_name upper ∷ []) ≡ Ok (Take upper)
unfolding name_of
take_made true = refl
take_made false = refl

take_again : (ws : List (List ℕ)) (upper : Bool) → 9 + total ws ≤ 4097 → AreRead ws (hijacker_name upper ∷ []) → AppAgain (Take upper)
take_again ws upper fits r =
    let name = hijacker_name upper in
    let size : total (name ∷ []) ≤ total ws = subst (λ (x : List (List ℕ)). total x ≤ total ws) (name_is upper) r.size in
    record {
      size = omega (arith, fits, size);
      are = (record { some = omega arith; visible = visible_take }, subst (λ (x : List (List ℕ)). AllWords x) (name_is upper) r.are);
      says = run_says (codes "take") (name ∷ []) (name ∷ []) (Take upper) (subst (λ (x : List (List ℕ)). texts_of x ≡ Some (name ∷ [])) (name_is upper) r.again) (take_made upper);
    }

take_formed : (ws : List (List ℕ)) (name : List ℕ) (app : App) (o : Option Bool) → upper_of name ≡ o → 9 + total ws ≤ 4097 → texts_of ws ≡ Some (name ∷ []) → formed (option_map Take o) ≡ Ok app → AppAgain app
take_formed ws name app None is fits e f = cc f
take_formed ws name app (Some upper) is fits e f =
    let same : Take upper ≡ app = cc f in
    let read = subst (λ (x : List ℕ). AreRead ws (x ∷ [])) (its_name name upper is) (are_read ws (name ∷ []) e) in
    subst (λ (a : App). AppAgain a) same (take_again ws upper fits read)

pub take_cases : (ws texts : List (List ℕ)) (app : App) → 9 + total ws ≤ 4097 → texts_of ws ≡ Some texts → take_words texts ≡ Ok app → AppAgain app
take_cases ws [] app fits e f = cc f
take_cases ws (name ∷ []) app fits e f = take_formed ws name app (upper_of name) refl fits e f
take_cases ws (name ∷ t ∷ ts) app fits e f = cc f

-- part
part_made : (n : ℕ) (status : List ℕ) (upper : Bool) → InRange in_status status n → app_of (codes "part") (decimal n ∷ hijacker_name upper ∷ []) ≡ Ok (Part n upper)
unfolding name_of
part_made n status true r = ap (λ o. formed (part_of o (Some true))) (read_number in_status status n r)
part_made n status false r = ap (λ o. formed (part_of o (Some false))) (read_number in_status status n r)

part_again : (ws : List (List ℕ)) (status : List ℕ) (n : ℕ) (upper : Bool) → 9 + total ws ≤ 4097 → texts_of ws ≡ Some (status ∷ hijacker_name upper ∷ []) → InRange in_status status n → AppAgain (Part n upper)
part_again ws status n upper fits e r =
    let small = r.small in
    let name = hijacker_name upper in
    let first = number_first ws status n (name ∷ []) e r.number (omega (arith, small)) in
    let size = first.size in
    let same : decimal n ∷ arguments (name ∷ []) ≡ decimal n ∷ name ∷ [] = ap (λ x. decimal n ∷ x) (name_is upper) in
    record {
      size = subst (λ (x : List (List ℕ)). 4 + total (codes "part" ∷ x) ≤ 4097) same (omega (arith, fits, size));
      are = (record { some = omega arith; visible = visible_part }, subst (λ (x : List (List ℕ)). AllWords x) same first.are);
      says = subst (λ (x : List (List ℕ)). run_line (codes "part" ∷ x) ≡ RunLine (Part n upper)) same
          (run_says (codes "part") (decimal n ∷ arguments (name ∷ [])) (decimal n ∷ name ∷ []) (Part n upper) first.again (part_made n status upper r));
    }

part_formed : (ws : List (List ℕ)) (status name : List ℕ) (app : App) (o : Option ℕ) (u : Option Bool) → status_of status ≡ o → upper_of name ≡ u → 9 + total ws ≤ 4097
    → texts_of ws ≡ Some (status ∷ name ∷ []) → formed (part_of o u) ≡ Ok app → AppAgain app
part_formed ws status name app None u is named fits e f = cc f
part_formed ws status name app (Some n) None is named fits e f = cc f
part_formed ws status name app (Some n) (Some upper) is named fits e f =
    let same : Part n upper ≡ app = cc f in
    let texts = subst (λ (x : List ℕ). texts_of ws ≡ Some (status ∷ x ∷ [])) (its_name name upper named) e in
    subst (λ (a : App). AppAgain a) same (part_again ws status n upper fits texts (status_parts status n is))

pub part_cases : (ws texts : List (List ℕ)) (app : App) → 9 + total ws ≤ 4097 → texts_of ws ≡ Some texts → part_words texts ≡ Ok app → AppAgain app
part_cases ws [] app fits e f = cc f
part_cases ws (status ∷ []) app fits e f = cc f
part_cases ws (status ∷ name ∷ []) app fits e f = part_formed ws status name app (status_of status) (upper_of name) refl refl fits e f
part_cases ws (status ∷ name ∷ t ∷ ts) app fits e f = cc f
