-- Two readings of one list of bytes: one goes on from the other.
use Rattle.std.proofs.Common.{◌≡◌, ℕ, suc, ◌+◌, ◌≤◌, List, [], ◌∷◌, ◌++◌, length, take, drop, refl, sym, ap, subst, ◌∙◌, arith, ◌⊎◌, inl, inr, ⊎_elim, length-append}
use Rattle.std.proofs.lemmas.List.{append-nil}
use Rattle.std.proofs.Math.Seq.{take-append_seam, drop-append_seam}
use Rattle.rack_types.specs.Request.{Parts}
use Rattle.message_framing.specs.Request.{IsRequest, Begins}
use Rattle.message_framing.proofs.CallerLemmas.{begins_unique, begins_not_refused, refusal_unique}
use Rattle.reply_framing.specs.declared.types.After.{After}
use Rattle.reply_framing.specs.declared.types.After.TheVariants.{Keep, Close, Hijack}
use Rattle.talk_core.specs.Teller.{Fates}
use Rattle.talk_core.specs.Talk.{Asks, AllKeep, EndsAs, Stop, wanting, refused, closed, hijacked, StopsAs, Talk}
use Rattle.talk_core.specs.Laws.{IsOneTalk}

-- a request in front begins the bytes
pub begins_front : (front next : List ℕ) (r : Parts) → IsRequest front r → Begins (front ++ next) (length front) r
begins_front front next r is =
    (omega (arith, length-append front next), subst (λ (x : List ℕ). IsRequest x r) (sym (take-append_seam front next)) is)

-- the request in front is one
pub record SameFront (a b : List ℕ) (r q : Parts) (x y : List ℕ) : Type 0 where
  pub front : a ≡ b
  pub request : r ≡ q
  pub rest : x ≡ y

pub front_unique : (a b : List ℕ) (r q : Parts) (x y : List ℕ) → IsRequest a r → IsRequest b q → a ++ x ≡ b ++ y → SameFront a b r q x y
front_unique a b r q x y is so e =
    let one : (length a ≡ length b) × (r ≡ q) = begins_unique (b ++ y) (length a) (length b) r q
    (subst (λ (z : List ℕ). Begins z (length a) r) e (begins_front a x r is)) (begins_front b y q so) in
    record {
      front = sym (take-append_seam a x) ∙ ap (take (length a)) e ∙ ap (λ (n : ℕ). take n (b ++ y)) one.0 ∙ take-append_seam b y;
      request = one.1;
      rest = sym (drop-append_seam a x) ∙ ap (drop (length a)) e ∙ ap (λ (n : ℕ). drop n (b ++ y)) one.0 ∙ drop-append_seam b y;
    }

-- of two readings of the same bytes one goes on from the other
pub record GoesFurther (rs qs : List Parts) (rest end : List ℕ) : Type 0 where
  pub more : List Parts
  pub longer : qs ≡ rs ++ more
  pub asks : Asks rest more end

pub record GoesLess (rs qs : List Parts) (rest end : List ℕ) : Type 0 where
  pub next : Parts
  pub more : List Parts
  pub longer : rs ≡ qs ++ next ∷ more
  pub asks : Asks end (next ∷ more) rest

pub asks_compare : (rs qs : List Parts) (b rest end : List ℕ) → Asks b rs rest → Asks b qs end
    → GoesFurther rs qs rest end ⊎ GoesLess rs qs rest end
asks_compare [] qs b rest end x y =
    inl (record { more = qs; longer = refl; asks = subst (λ (z : List ℕ). Asks z qs end) x y })
asks_compare (r ∷ rs) [] b rest end x y =
    inr (record { next = r; more = rs; longer = refl; asks = subst (λ (z : List ℕ). Asks z (r ∷ rs) rest) y x })
asks_compare (r ∷ rs) (q ∷ qs) b rest end x y =
    let same : SameFront x.0 y.0 r q x.1 y.1 = front_unique x.0 y.0 r q x.1 y.1 x.3 y.3 (sym x.2 ∙ y.2) in
    ⊎_elim
    (λ f. inl (record { more = f.more; longer = heads q r (qs) (rs ++ f.more) (sym same.request) f.longer; asks = f.asks }))
    (λ f. inr (record { next = f.next; more = f.more; longer = heads r q rs (qs ++ f.next ∷ f.more) same.request f.longer; asks = f.asks }))
    (asks_compare rs qs x.1 rest end x.4 (subst (λ (z : List ℕ). Asks z qs end) (sym same.rest) y.4))
  where
    heads : (a c : Parts) (xs ys : List Parts) → a ≡ c → xs ≡ ys → a ∷ xs ≡ c ∷ ys
    heads a c xs ys e f = cc

-- a request begins where one is asked
pub asked_begins : (b : List ℕ) (r : Parts) (rs : List Parts) (rest : List ℕ) (a : Asks b (r ∷ rs) rest) → Begins b (length a.0) r
asked_begins b r rs rest a =
    subst (λ (z : List ℕ). Begins z (length a.0) r) (sym a.2) (begins_front a.0 a.1 r a.3)

-- all but at most the last of a talk's requests keep the connection
pub record KeepsFront (fates : Fates) (asked : List Parts) : Type 0 where
  pub whole : List Parts
  pub w : List Parts
  pub few : length w ≤ 1
  pub is : asked ≡ whole ++ w
  pub keeps : AllKeep fates 0 whole

-- where a talk goes on, it keeps
pub keep_at : (fates : Fates) (front whole w more : List Parts) (last next : Parts) (k : ℕ) → length w ≤ 1
    → whole ++ w ≡ (front ++ last ∷ []) ++ next ∷ more → AllKeep fates k whole → fates (k + length front) last ≡ Keep
keep_at fates [] [] w more last next k few e all =
    absurd (omega (arith, ap length e))
keep_at fates [] (q ∷ whole) w more last next k few e all =
    let same : q ≡ last = cc in
    let n : k ≡ k + 0 = omega arith in
    subst (λ (j : ℕ). fates j last ≡ Keep) n (subst (λ (r : Parts). fates k r ≡ Keep) same all.0)
keep_at fates (p ∷ front) [] w more last next k few e all =
    absurd (omega (arith, ap length e, length-append (front ++ last ∷ []) (next ∷ more), length-append front (last ∷ [])))
keep_at fates (p ∷ front) (q ∷ whole) w more last next k few e all =
    let tails : whole ++ w ≡ (front ++ last ∷ []) ++ next ∷ more = cc in
    let n : k + 1 + length front ≡ k + suc (length front) = omega arith in
    subst (λ (j : ℕ). fates j last ≡ Keep) n (keep_at fates front whole w more last next (k + 1) few tails all.1)

pub keep_last : (fates : Fates) (front : List Parts) (last : Parts) (k : ℕ) → AllKeep fates k (front ++ last ∷ [])
    → fates (k + length front) last ≡ Keep
keep_last fates [] last k all =
    let n : k ≡ k + 0 = omega arith in subst (λ (j : ℕ). fates j last ≡ Keep) n all.0
keep_last fates (p ∷ front) last k all =
    let n : k + 1 + length front ≡ k + suc (length front) = omega arith in
    subst (λ (j : ℕ). fates j last ≡ Keep) n (keep_last fates front last (k + 1) all.1)

close_is_no_keep : (a : After) → a ≡ Keep → a ≡ Close → ⊥
close_is_no_keep a x y = cc

hijack_is_no_keep : (a : After) → a ≡ Keep → a ≡ Hijack → ⊥
hijack_is_no_keep a x y = cc

close_is_no_hijack : (a : After) → a ≡ Close → a ≡ Hijack → ⊥
close_is_no_hijack a x y = cc

-- behind the last request of such a talk none is asked
never_behind : (fates : Fates) (after : After) (asked whole w more : List Parts) (next : Parts) → ((a : After) → a ≡ Keep → a ≡ after → ⊥)
    → EndsAs after fates asked → length w ≤ 1 → AllKeep fates 0 whole → whole ++ w ≡ asked ++ next ∷ more → ⊥
never_behind fates after asked whole w more next differs c few all longer =
    differs _
    (keep_at fates c.front whole w more c.last next 0 few (longer ∙ ap (λ (z : List Parts). z ++ next ∷ more) c.asked_is) all)
    (subst (λ (j : ℕ). fates j c.last ≡ after) (let n : length c.front ≡ 0 + length c.front = omega arith in n) c.fate)

-- a talk does not stop where requests go on that were answered
pub never_less : (fates : Fates) (given : List ℕ) (asked whole w : List Parts) (stop : Stop) (end rest : List ℕ) → length w ≤ 1
    → AllKeep fates 0 whole → Talk fates given asked stop end → GoesLess (whole ++ w) asked rest end → ⊥
never_less fates given asked whole w wanting end rest few all t f =
    t.stops.1.0 (length f.asks.0) f.next (asked_begins end f.next f.more rest f.asks)
never_less fates given asked whole w (refused n) end rest few all t f =
    begins_not_refused end (length f.asks.0) f.next n (asked_begins end f.next f.more rest f.asks) t.stops.1
never_less fates given asked whole w closed end rest few all t f =
    never_behind fates Close asked whole w f.more f.next close_is_no_keep t.stops few all f.longer
never_less fates given asked whole w hijacked end rest few all t f =
    never_behind fates Hijack asked whole w f.more f.next hijack_is_no_keep t.stops few all f.longer

front_keeps : (fates : Fates) (after : After) (asked : List Parts) → EndsAs after fates asked → KeepsFront fates asked
front_keeps fates after asked c =
    record { whole = c.front; w = c.last ∷ []; few = omega arith; is = c.asked_is; keeps = c.keeps }

pub talk_keeps : (fates : Fates) (given rest : List ℕ) (asked : List Parts) (stop : Stop) → Talk fates given asked stop rest → KeepsFront fates asked
talk_keeps fates given rest asked wanting t = record { whole = asked; w = []; few = omega arith; is = sym (append-nil asked); keeps = t.stops.0 }
talk_keeps fates given rest asked (refused f) t = record { whole = asked; w = []; few = omega arith; is = sym (append-nil asked); keeps = t.stops.0 }
talk_keeps fates given rest asked closed t = front_keeps fates Close asked t.stops
talk_keeps fates given rest asked hijacked t = front_keeps fates Hijack asked t.stops

-- one stop
ends_not_keeps : (fates : Fates) (after : After) (asked : List Parts) → ((a : After) → a ≡ Keep → a ≡ after → ⊥)
    → EndsAs after fates asked → AllKeep fates 0 asked → ⊥
ends_not_keeps fates after asked differs c all =
    differs _
    (keep_last fates c.front c.last 0 (subst (λ (z : List Parts). AllKeep fates 0 z) c.asked_is all))
    (subst (λ (j : ℕ). fates j c.last ≡ after) (let n : length c.front ≡ 0 + length c.front = omega arith in n) c.fate)

-- lists with the same last member have the same front
pub record SameEnd (xs ys : List Parts) (x y : Parts) : Type 0 where
  pub front : xs ≡ ys
  pub last : x ≡ y

pub same_end : (xs ys : List Parts) (x y : Parts) → xs ++ x ∷ [] ≡ ys ++ y ∷ [] → SameEnd xs ys x y
same_end [] [] x y e = record { front = refl; last = cc }
same_end [] (b ∷ ys) x y e = absurd (omega (arith, ap length e, length-append ys (y ∷ [])))
same_end (a ∷ xs) [] x y e = absurd (omega (arith, ap length e, length-append xs (x ∷ [])))
same_end (a ∷ xs) (b ∷ ys) x y e =
    let tails : xs ++ x ∷ [] ≡ ys ++ y ∷ [] = cc in
    let s : SameEnd xs ys x y = same_end xs ys x y tails in
    record { front = heads a b xs ys (cc) s.front; last = s.last }
  where
    heads : (a b : Parts) (xs ys : List Parts) → a ≡ b → xs ≡ ys → a ∷ xs ≡ b ∷ ys
    heads a b xs ys e f = cc

one_end : (fates : Fates) (asked : List Parts) → EndsAs Close fates asked → EndsAs Hijack fates asked → ⊥
one_end fates asked c h =
    let s : SameEnd c.front h.front c.last h.last = same_end c.front h.front c.last h.last (sym c.asked_is ∙ h.asked_is) in
    close_is_no_hijack (fates (length h.front) h.last)
    (subst (λ (q : Parts). fates (length h.front) q ≡ Close) s.last (subst (λ (xs : List Parts). fates (length xs) c.last ≡ Close) s.front c.fate))
    h.fate

pub stop_unique : (fates : Fates) (asked : List Parts) (rest : List ℕ) (s t : Stop) → StopsAs s fates asked rest → StopsAs t fates asked rest → s ≡ t
stop_unique fates asked rest wanting wanting x y = refl
stop_unique fates asked rest wanting (refused f) x y = absurd (x.1.1 f y.1)
stop_unique fates asked rest wanting closed x y = absurd (ends_not_keeps fates Close asked close_is_no_keep y x.0)
stop_unique fates asked rest wanting hijacked x y = absurd (ends_not_keeps fates Hijack asked hijack_is_no_keep y x.0)
stop_unique fates asked rest (refused f) wanting x y = absurd (y.1.1 f x.1)
stop_unique fates asked rest (refused f) (refused g) x y = ap refused (refusal_unique rest f g x.1 y.1)
stop_unique fates asked rest (refused f) closed x y = absurd (ends_not_keeps fates Close asked close_is_no_keep y x.0)
stop_unique fates asked rest (refused f) hijacked x y = absurd (ends_not_keeps fates Hijack asked hijack_is_no_keep y x.0)
stop_unique fates asked rest closed wanting x y = absurd (ends_not_keeps fates Close asked close_is_no_keep x y.0)
stop_unique fates asked rest closed (refused g) x y = absurd (ends_not_keeps fates Close asked close_is_no_keep x y.0)
stop_unique fates asked rest closed closed x y = refl
stop_unique fates asked rest closed hijacked x y = absurd (one_end fates asked x y)
stop_unique fates asked rest hijacked wanting x y = absurd (ends_not_keeps fates Hijack asked hijack_is_no_keep x y.0)
stop_unique fates asked rest hijacked (refused g) x y = absurd (ends_not_keeps fates Hijack asked hijack_is_no_keep x y.0)
stop_unique fates asked rest hijacked closed x y = absurd (one_end fates asked y x)
stop_unique fates asked rest hijacked hijacked x y = refl

-- what was answered begins what a talk asks
pub answered_begins : (fates : Fates) (given : List ℕ) (asked whole w : List Parts) (stop : Stop) (end rest : List ℕ) → length w ≤ 1
    → AllKeep fates 0 whole → Asks given (whole ++ w) rest → Talk fates given asked stop end → GoesFurther (whole ++ w) asked rest end
answered_begins fates given asked whole w stop end rest few all asks t =
    ⊎_elim (λ f. f) (λ f. absurd (never_less fates given asked whole w stop end rest few all t f))
    (asks_compare (whole ++ w) asked given rest end asks t.asks)

pub one_talk : (fates : Fates) (given : List ℕ) → IsOneTalk fates given
one_talk fates given asked asked' stop stop' rest rest' x y =
    let k = talk_keeps fates given rest asked stop x in
    let a : Asks given (k.whole ++ k.w) rest = subst (λ (z : List Parts). Asks given z rest) k.is x.asks in
    let f : GoesFurther (k.whole ++ k.w) asked' rest rest' = answered_begins fates given asked' k.whole k.w stop' rest' rest k.few k.keeps a y in
    go f.more (f.longer ∙ ap (λ (z : List Parts). z ++ f.more) (sym k.is)) f.asks
  where
    k' : KeepsFront fates asked'
    k' = talk_keeps fates given rest' asked' stop' y

    go : (more : List Parts) → asked' ≡ asked ++ more → Asks rest more rest' → (asked ≡ asked') × (stop ≡ stop') × (rest ≡ rest')
    go [] e a =
        let same : asked ≡ asked' = sym (append-nil asked) ∙ sym e in (
          same,
          stop_unique fates asked rest stop stop' x.stops
              (subst (λ (z : List ℕ). StopsAs stop' fates asked z) (sym a) (subst (λ (z : List Parts). StopsAs stop' fates z rest') (sym same) y.stops)),
          a,
        )
    go (m ∷ more) e a =
        absurd (never_less fates given asked k'.whole k'.w stop rest rest' k'.few k'.keeps x
        (record { next = m; more = more; longer = sym k'.is ∙ e; asks = a }))
