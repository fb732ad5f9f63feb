-- Requests one behind the other, and the replies to them joined.
use Rattle.std.proofs.Common.{◌≡◌, ℕ, ◌+◌, suc, List, [], ◌∷◌, ◌++◌, length, refl, sym, ap, subst, ◌∙◌, append_assoc, arith}
use Rattle.std.proofs.lemmas.List.{append-nil}
use Rattle.rack_types.specs.Request.{Parts}
use Rattle.message_framing.specs.Request.{IsRequest}
use Rattle.reply_framing.specs.declared.types.After.TheVariants.{Keep}
use Rattle.talk_core.specs.Teller.{Teller, Fates}
use Rattle.talk_core.specs.Talk.{Asks, AllKeep, replies_to}

-- one more request
pub asks_snoc : (rs : List Parts) (b mid front rest : List ℕ) (r : Parts) → Asks b rs mid → mid ≡ front ++ rest → IsRequest front r
    → Asks b (rs ++ r ∷ []) rest
asks_snoc [] b mid front rest r a e is = (front, rest, a ∙ e, is, refl)
asks_snoc (q ∷ rs) b mid front rest r a e is = (a.0, a.1, a.2, a.3, asks_snoc rs a.1 mid front rest r a.4 e is)

-- more bytes
pub asks_more : (rs : List Parts) (b rest more : List ℕ) → Asks b rs rest → Asks (b ++ more) rs (rest ++ more)
asks_more [] b rest more a = ap (λ x. x ++ more) a
asks_more (q ∷ rs) b rest more a =
    (a.0, a.1 ++ more, ap (λ x. x ++ more) a.2 ∙ append_assoc a.0 a.1 more, a.3, asks_more rs a.1 rest more a.4)

-- one more reply
pub replies_snoc : {H : Type 0} (T : Teller H) (rs : List Parts) (k : ℕ) (r : Parts)
    → replies_to T k (rs ++ r ∷ []) ≡ replies_to T k rs ++ (T (k + length rs) r).bytes
replies_snoc T [] k r =
    let e : k ≡ k + 0 = omega arith in append-nil _ ∙ ap (λ n. (T n r).bytes) e
replies_snoc T (q ∷ rs) k r =
    let e : k + 1 + length rs ≡ k + suc (length rs) = omega arith in
    ap (λ x. (T k q).bytes ++ x) (replies_snoc T rs (k + 1) r ∙ ap (λ n. replies_to T (k + 1) rs ++ (T n r).bytes) e)
    ∙ sym (append_assoc (T k q).bytes (replies_to T (k + 1) rs) (T (k + suc (length rs)) r).bytes)

-- the replies to requests one behind the other
pub replies_append : {H : Type 0} (T : Teller H) (xs ys : List Parts) (k : ℕ)
    → replies_to T k (xs ++ ys) ≡ replies_to T k xs ++ replies_to T (k + length xs) ys
replies_append T [] ys k = let e : k ≡ k + 0 = omega arith in ap (λ n. replies_to T n ys) e
replies_append T (x ∷ xs) ys k =
    let e : k + 1 + length xs ≡ k + suc (length xs) = omega arith in
    ap (λ z. (T k x).bytes ++ z) (replies_append T xs ys (k + 1) ∙ ap (λ n. replies_to T (k + 1) xs ++ replies_to T n ys) e)
    ∙ sym (append_assoc (T k x).bytes (replies_to T (k + 1) xs) (replies_to T (k + suc (length xs)) ys))

-- one more request behind which the connection goes on
pub keep_snoc : (fates : Fates) (rs : List Parts) (k : ℕ) (r : Parts) → AllKeep fates k rs → fates (k + length rs) r ≡ Keep
    → AllKeep fates k (rs ++ r ∷ [])
keep_snoc fates [] k r all keeps =
    let e : k + 0 ≡ k = omega arith in (subst (λ (n : ℕ). fates n r ≡ Keep) e keeps, tt)
keep_snoc fates (q ∷ rs) k r all keeps =
    let e : k + suc (length rs) ≡ k + 1 + length rs = omega arith in
    (all.0, keep_snoc fates rs (k + 1) r all.1 (subst (λ (n : ℕ). fates n r ≡ Keep) e keeps))
