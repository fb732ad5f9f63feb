-- Numbers of rules, read one behind the other.
use Rattle.std.proofs.Common.{◌≡◌, ℕ, ◌+◌, ◌<◌, List, [], ◌∷◌, ◌++◌, length, drop, get_or, Option, None, Some, refl, ap, sym, ◌∙◌, append_assoc, append-nil, ◌≤◌}
use Rattle.std.specs.Prelude.{option_map}
use Rattle.std.proofs.lemmas.List.{drop_more, drop_all}
use Rattle.stock_apps.specs.Words.{before, rule_of, rules_of}

-- numbers that are there stand behind these
abbrev pub behind_all : List ℕ → Option (List ℕ) → Option (List ℕ)
behind_all done numbers = option_map (λ ns. done ++ ns) numbers

more : (done : List ℕ) (n : ℕ) (numbers : Option (List ℕ)) → behind_all done (before (Some n) numbers) ≡ behind_all (done ++ n ∷ []) numbers
more done n None = refl
more done n (Some numbers) = ap Some (sym (append_assoc done (n ∷ []) numbers))

-- one number more
pub rules_more : (texts : List (List ℕ)) (i n : ℕ) (done text : List ℕ) → i < length texts → Some n ≡ rule_of (get_or texts i text)
    → rules_of texts ≡ behind_all done (rules_of (drop i texts)) → rules_of texts ≡ behind_all (done ++ n ∷ []) (rules_of (drop (i + 1) texts))
rules_more texts i n done text within is so_far =
    so_far ∙ ap (λ rest. behind_all done (rules_of rest)) (drop_more texts i text within)
    ∙ ap (λ number. behind_all done (before number (rules_of (drop (i + 1) texts)))) (sym is)
    ∙ more done n (rules_of (drop (i + 1) texts))

-- a text that writes none
pub rules_none : (texts : List (List ℕ)) (i : ℕ) (done text : List ℕ) → i < length texts → None ≡ rule_of (get_or texts i text)
    → rules_of texts ≡ behind_all done (rules_of (drop i texts)) → rules_of texts ≡ None
rules_none texts i done text within is so_far =
    so_far ∙ ap (λ rest. behind_all done (rules_of rest)) (drop_more texts i text within)
    ∙ ap (λ number. behind_all done (before number (rules_of (drop (i + 1) texts)))) (sym is)

-- at the end these are all
pub rules_end : (texts : List (List ℕ)) (i : ℕ) (done : List ℕ) → length texts ≤ i → rules_of texts ≡ behind_all done (rules_of (drop i texts))
    → Some done ≡ rules_of texts
rules_end texts i done end so_far =
    ap Some (sym (append-nil done)) ∙ ap (λ rest. behind_all done (rules_of rest)) (sym (drop_all i texts end)) ∙ sym so_far
