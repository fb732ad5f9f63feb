-- Tellers by answers that were given one by one, the lists of these answers and of what was asked for them, and the
-- requests that were asked.
use Rattle.std.proofs.Common.{◌≡◌, ℕ, zero, suc, ◌+◌, ◌<◌, ◌≤◌, Bool, true, false, nat_lt, if◌then◌else◌, List, [], ◌∷◌, ◌++◌, length, drop, refl, sym, ap, subst, ◌∙◌, append_assoc, arith, Option, Some, None, length-append, ◌⊎◌, inl, inr, ⊎_elim}
use Rattle.std.proofs.lemmas.Bool.Decides.{nat_tests}
use Rattle.std.proofs.lemmas.List.{append-nil}
use Rattle.rack_types.specs.declared.answer.Answer.{Answer}
use Rattle.rack_types.specs.declared.peer.Local.{Local}
use Rattle.rack_types.specs.Body.{Content}
use Rattle.rack_types.specs.Request.{Parts}
use Rattle.rack_types.specs.Runner.{Asked, also}
use Rattle.rack_env.specs.Environment.{env_pairs}
use Rattle.rack_outside.specs.Link.{Seen, Tells}
use Rattle.rack_outside.specs.Told.{appended}
use Rattle.message_framing.specs.Request.{IsRequest}
use Rattle.reply_framing.specs.Reply.{reply}
use Rattle.talk_core.specs.Answered.{Answers, tell_by, tell_from, answers_to, asked_as, asked_for, HasAsked}
use Rattle.talk_core.specs.Talk.{Asks}
use Rattle.talk_core.specs.Teller.{Teller, AgreesBelow, ask_of, is_last}
use Rattle.talk_core.proofs.CompareLemmas.{GoesFurther, GoesLess, asks_compare}
use Rattle.talk_core.proofs.ShowsLemmas.{tells_appended}
use Rattle.talk_core.proofs.TalkLemmas.{asks_snoc, asks_more}

below : (k n : ℕ) → k < n → nat_lt k n ≡ true
below k n lt = grind (arith, nat_tests)

not_below : (k n : ℕ) → n ≤ k → nat_lt k n ≡ false
not_below k n le = grind (arith, nat_tests)

-- the answers of one below this number, and of the other from it on
abbrev pub joined : {H : Type 0} → ℕ → Answers H → Answers H → Answers H
joined n a b k = if nat_lt k n then a k else b k

pub joined_below : {H : Type 0} (n : ℕ) (a b : Answers H) (k : ℕ) → k < n → joined n a b k ≡ a k
joined_below {H} n a b k lt = ap (λ (t : Bool). if t then a k else b k) (below k n lt)

pub joined_from : {H : Type 0} (n : ℕ) (a b : Answers H) (k : ℕ) → n ≤ k → joined n a b k ≡ b k
joined_from {H} n a b k le = ap (λ (t : Bool). if t then a k else b k) (not_below k n le)

module _ {H : Type 0} (T : Teller H) (first : ℕ) (answers : Answers H) (local : Local) (peer : List ℕ) (closing : Option ℕ) where
  -- below that number it is as before
  pub from_before : AgreesBelow first T (tell_from T first answers local peer closing)
  from_before k lt r = sym (ap (λ (t : Bool). if t then T k r else tell_by answers local peer closing k r) (below k first lt))

  -- and from there on by the answers
  pub from_here : (k : ℕ) (r : Parts) → first ≤ k → tell_from T first answers local peer closing k r ≡ tell_by answers local peer closing k r
  from_here k r le = ap (λ (t : Bool). if t then T k r else tell_by answers local peer closing k r) (not_below k first le)

  -- one that agrees so far with either is it so far
  pub from_agrees : (U : Teller H) (end : ℕ) → AgreesBelow first T U
      → ((k : ℕ) → first ≤ k → k < end → (r : Parts) → U k r ≡ tell_by answers local peer closing k r)
      → AgreesBelow end U (tell_from T first answers local peer closing)
  from_agrees U end before tells k lt r = go (nat_lt k first) refl
    where
      go : (t : Bool) → nat_lt k first ≡ t → U k r ≡ tell_from T first answers local peer closing k r
      go true is = let few : k < first = grind (arith, nat_tests, is) in sym (before k few r) ∙ from_before k few r
      go false is = let from : first ≤ k = grind (arith, nat_tests, is) in tells k from lt r ∙ sym (from_here k r from)

-- the reply by other answers that are the same there
pub tell_same : {H : Type 0} (a b : Answers H) (local : Local) (peer : List ℕ) (before closing : Option ℕ) (k : ℕ) (r : Parts)
    → a k ≡ b k → is_last closing k ≡ is_last before k → tell_by a local peer before k r ≡ tell_by b local peer closing k r
tell_same {H} a b local peer before closing k r same last =
    ap (λ (x : Answer Content H). reply (ask_of r) (env_pairs r peer local) x (is_last before k)) same
    ∙ ap (λ (l : Bool). reply (ask_of r) (env_pairs r peer local) (b k) l) (sym last)

-- behind some answers more were given: they are the replies by all of them
pub from_joined : {H : Type 0} (a b : Answers H) (local : Local) (peer : List ℕ) (before closing : Option ℕ) (first end : ℕ)
    → ((k : ℕ) → k < first → is_last closing k ≡ is_last before k)
    → AgreesBelow end (tell_from (tell_by a local peer before) first b local peer closing) (tell_by (joined first a b) local peer closing)
from_joined {H} a b local peer before closing first end last k lt r = go (nat_lt k first) refl
  where
    T : Teller H
    T = tell_by a local peer before

    go : (t : Bool) → nat_lt k first ≡ t → tell_from T first b local peer closing k r ≡ tell_by (joined first a b) local peer closing k r
    go true is =
        let few : k < first = grind (arith, nat_tests, is) in
        sym (from_before T first b local peer closing k few r)
        ∙ tell_same a (joined first a b) local peer before closing k r (sym (joined_below first a b k few)) (last k few)
    go false is =
        let from : first ≤ k = grind (arith, nat_tests, is) in
        from_here T first b local peer closing k r from
        ∙ tell_same b (joined first a b) local peer closing closing k r (sym (joined_from first a b k from)) refl

-- the lists of answers
pub answers_same : {H : Type 0} (a b : Answers H) (k n : ℕ) → ((i : ℕ) → k ≤ i → i < k + n → a i ≡ b i) → answers_to a k n ≡ answers_to b k n
answers_same {H} a b k zero same = refl
answers_same {H} a b k (suc n) same =
    let here : a k ≡ b k = same k (omega arith) (omega arith) in
    let rest : answers_to a (k + 1) n ≡ answers_to b (k + 1) n = answers_same a b (k + 1) n (λ i from lt. same i (omega (arith, from)) (omega (arith, lt))) in
    ap (λ (x : Answer Content H). x ∷ answers_to a (k + 1) n) here ∙ ap (λ (xs : List (Answer Content H)). b k ∷ xs) rest

pub answers_append : {H : Type 0} (a : Answers H) (k n m : ℕ) → answers_to a k (n + m) ≡ answers_to a k n ++ answers_to a (k + n) m
answers_append {H} a k zero m =
    let none : zero + m ≡ m = omega arith in
    let start : k ≡ k + zero = omega arith in
    ap (λ (j : ℕ). answers_to a k j) none ∙ ap (λ (j : ℕ). answers_to a j m) start
answers_append {H} a k (suc n) m =
    let one : suc n + m ≡ suc (n + m) = omega arith in
    let next : k + 1 + n ≡ k + suc n = omega arith in
    ap (λ (j : ℕ). answers_to a k j) one
    ∙ ap (λ (xs : List (Answer Content H)). a k ∷ xs) (answers_append a (k + 1) n m ∙ ap (λ (j : ℕ). answers_to a (k + 1) n ++ answers_to a j m) next)

-- behind so many answers more were given, or no more
pub answers_joined : {H : Type 0} (a b : Answers H) (first end n m : ℕ) → (first + n ≡ end) ⊎ ((first + n ≤ end) × (m ≡ 0))
    → answers_to (joined end a b) first (n + m) ≡ answers_to a first n ++ answers_to b end m
answers_joined {H} a b first end n m is =
    let few : first + n ≤ end = ⊎_elim (λ e. omega (arith, e)) (λ e. e.0) is in
    let before : answers_to (joined end a b) first n ≡ answers_to a first n =
    answers_same (joined end a b) a first n (λ i from lt. joined_below end a b i (omega (arith, lt, few))) in
    let behind : answers_to (joined end a b) end m ≡ answers_to b end m =
    answers_same (joined end a b) b end m (λ i from lt. joined_from end a b i from) in
    answers_append (joined end a b) first n m
    ∙ ap (λ (xs : List (Answer Content H)). xs ++ answers_to (joined end a b) (first + n) m) before
    ∙ ap (λ (xs : List (Answer Content H)). answers_to a first n ++ xs) (start is ∙ behind)
  where
    start : (first + n ≡ end) ⊎ ((first + n ≤ end) × (m ≡ 0)) → answers_to (joined end a b) (first + n) m ≡ answers_to (joined end a b) end m
    start (inl e) = ap (λ (j : ℕ). answers_to (joined end a b) j m) e
    start (inr e) =
        ap (λ (j : ℕ). answers_to (joined end a b) (first + n) j) e.1 ∙ ap (λ (j : ℕ). answers_to (joined end a b) end j) (sym e.1)

-- the lists of what was asked: all of these were Ok, and then some more were made
pub asked_append : (local : Local) (peer : List ℕ) (rs qs : List Parts) (n m : ℕ) → n ≡ length rs
    → asked_for local peer (n + m) (rs ++ qs) ≡ asked_for local peer n rs ++ asked_for local peer m qs
asked_append local peer [] qs n m is =
    let none : n + m ≡ m = omega (arith, is) in ap (λ (j : ℕ). asked_for local peer j qs) none
asked_append local peer (r ∷ rs) qs zero m is = absurd (omega (arith, is))
asked_append local peer (r ∷ rs) qs (suc n) m is =
    let size : n ≡ length rs = omega (arith, is) in
    let one : suc n + m ≡ suc (n + m) = omega arith in
    ap (λ (x : ℕ). asked_for local peer x (r ∷ (rs ++ qs))) one
    ∙ ap (λ (xs : List (Asked × Bool)). (asked_as local peer r, true) ∷ xs) (asked_append local peer rs qs n m size)

-- a list that is told
pub appended_none : {A : Type 0} (o : Option (List A)) → o ≡ appended o []
appended_none {A} None = refl
appended_none {A} (Some xs) = ap Some (sym (append-nil xs))

pub appended_twice : {A : Type 0} (o : Option (List A)) (xs ys : List A) → appended (appended o xs) ys ≡ appended o (xs ++ ys)
appended_twice {A} None xs ys = refl
appended_twice {A} (Some zs) xs ys = ap Some (append_assoc zs xs ys)

pub also_appended : {A : Type 0} (x : A) (o : Option (List A)) → also x o ≡ appended o (x ∷ [])
also_appended {A} x None = refl
also_appended {A} x (Some xs) = refl

-- requests that were asked: more bytes came
pub has_more : (s s' : Seen) (calls : ℕ) (rs : List Parts) (came : List ℕ) → s'.given ≡ appended s.given came → HasAsked s calls rs → HasAsked s' calls rs
has_more s s' calls rs came is h = record {
  given = h.given ++ came;
  rest = h.rest ++ came;
  tells = subst (λ (o : Option (List ℕ)). Tells o (h.given ++ came)) (sym is) (tells_appended s.given h.given came h.tells);
  asks = asks_more rs h.given h.rest came h.asks;
  count = h.count;
}

-- what stands in front of the rest
asked_front : (rs : List Parts) (b rest : List ℕ) → Asks b rs rest → (front : List ℕ) × Asks front rs []
asked_front [] b rest a = ([], refl)
asked_front (r ∷ rs) b rest a =
    let more = asked_front rs a.1 rest a.4 in (a.0 ++ more.0, (a.0, more.0, refl, a.3, more.1))

-- two readings of the same bytes, of as many requests
pub asked_same : (rs qs : List Parts) (b rest end : List ℕ) → Asks b rs rest → Asks b qs end → length rs ≡ length qs → (rs ≡ qs) × (rest ≡ end)
asked_same rs qs b rest end x y size =
    ⊎_elim further less (asks_compare rs qs b rest end x y)
  where
    no_more : (more : List Parts) → length qs ≡ length rs + length more → Asks rest more end → qs ≡ rs ++ more → (rs ≡ qs) × (rest ≡ end)
    no_more [] e a longer = (sym (append-nil rs) ∙ sym longer, a)
    no_more (m ∷ more) e a longer = absurd (omega (arith, e, size))

    further : GoesFurther rs qs rest end → (rs ≡ qs) × (rest ≡ end)
    further f = no_more f.more (ap length f.longer ∙ length-append rs f.more) f.asks f.longer

    less : GoesLess rs qs rest end → (rs ≡ qs) × (rest ≡ end)
    less f = absurd (omega (arith, ap length f.longer, length-append qs (f.next ∷ f.more), size))

-- and the next one was
pub has_next : (s : Seen) (calls : ℕ) (rs : List Parts) (given now behind : List ℕ) (whole : List Parts) (r : Parts) → HasAsked s calls rs
    → Tells s.given given → Asks given whole (now ++ behind) → calls ≡ length whole → IsRequest now r → HasAsked s (calls + 1) (rs ++ r ∷ [])
has_next s calls rs given now behind whole r h tells asks count is = go s.given h.tells tells refl
  where
    size : calls + 1 ≡ length (rs ++ r ∷ [])
    size = omega (arith, h.count, length-append rs (r ∷ []))

    go : (o : Option (List ℕ)) → Tells o h.given → Tells o given → s.given ≡ o → HasAsked s (calls + 1) (rs ++ r ∷ [])
    go None x y e =
        let f = asked_front rs h.given h.rest h.asks in
        record {
          given = f.0 ++ now;
          rest = [];
          tells = subst (λ (o : Option (List ℕ)). Tells o (f.0 ++ now)) (sym e) tt;
          asks = asks_snoc rs (f.0 ++ now) now now [] r (asks_more rs f.0 [] now f.1) (sym (append-nil now)) is;
          count = size;
        }
    go (Some y) x z e =
        let same : h.given ≡ given = sym x ∙ z in
        let one : (rs ≡ whole) × (h.rest ≡ now ++ behind) =
        asked_same rs whole given h.rest (now ++ behind) (subst (λ (b : List ℕ). Asks b rs h.rest) same h.asks) asks (sym h.count ∙ count) in
        record {
          given = h.given;
          rest = behind;
          tells = h.tells;
          asks = asks_snoc rs h.given h.rest now behind r h.asks one.1 is;
          count = size;
        }
