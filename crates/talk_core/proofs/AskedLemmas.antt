-- The requests that were asked, counted by what they say themselves, where each was answered by one answer.
use Rattle.std.proofs.Common.{◌≡◌, ◌≢◌, ℕ, suc, ◌+◌, ◌<◌, ◌≤◌, Bool, true, false, not, ◌||◌, ◌&&◌, if◌then◌else◌, List, [], ◌∷◌, ◌++◌, length, refl, sym, ap, subst, ◌∙◌, arith, ◌==◌, Option, Some, None, length-append, ⊎_elim}
use Rattle.std.proofs.lemmas.Bool.Decides.{nat_tests}
use Rattle.std.specs.Prelude.{nat_lt}
use Rattle.rack_types.specs.declared.answer.Answer.{Answer}
use Rattle.rack_types.specs.declared.answer.Answer.TheVariants as answer
use Rattle.rack_types.specs.declared.peer.Local.{Local}
use Rattle.rack_types.specs.declared.rules.BodyRule.{BodyRule}
use Rattle.rack_types.specs.declared.rules.Rule.{Rule}
use Rattle.rack_types.specs.declared.rules.Set.TheVariants.{Server}
use Rattle.rack_types.specs.AnswerRules.{broken_rule, rule}
use Rattle.rack_types.specs.Body.{Content}
use Rattle.rack_types.specs.Env.{Pairs}
use Rattle.rack_types.specs.Fields.{persists}
use Rattle.rack_types.specs.Headers.{HeaderList}
use Rattle.rack_types.specs.Request.{Parts}
use Rattle.rack_env.specs.Environment.{env_pairs}
use Rattle.reply_framing.specs.declared.types.After.{After}
use Rattle.reply_framing.specs.declared.types.After.TheVariants.{Keep, Close, Hijack}
use Rattle.reply_framing.specs.declared.types.Ask.{Ask}
use Rattle.reply_framing.specs.Form.{wants_close, is_closing, form_of}
use Rattle.reply_framing.specs.Reply.{body_after, reply, reply_by, sound_reply, body_reply, broken_headers, no_body}
use Rattle.talk_core.specs.Answered.{Answers, tell_by}
use Rattle.talk_core.specs.Asked.{fates_by_request, AllButLastKeep, IsAsked}
use Rattle.talk_core.specs.Ended.{Past, SentWhole}
use Rattle.talk_core.specs.Stands.{Word, silent, replies, refuses, times_out, hands_over, asked_by, Fits, IsHijack, ClosesAt, Partly}
use Rattle.talk_core.specs.Tail.{Voice}
use Rattle.talk_core.specs.Talk.{Asks, AllKeep, Stop, wanting, refused, closed, hijacked, EndsAs, StopsAs, Talk}
use Rattle.talk_core.specs.Teller.{Teller, Fates, ask_of, fates_of, is_last}
use Rattle.talk_core.proofs.CompareLemmas.{GoesFurther, KeepsFront, talk_keeps, keep_at, answered_begins}
use Rattle.talk_core.proofs.EndedLemmas.{closes_for}
use Rattle.talk_core.proofs.LastLemmas.{reply_keeps}
use Rattle.talk_core.proofs.TalkLemmas.{asks_more}

by_gone : (p l w n c : Bool) → p ≡ false → (if not p || l || w || n || c then Close else Keep) ≡ Close
by_gone true l w n c e = cc
by_gone false l w n c e = refl

close_stays : (rule : Option BodyRule) (a : After) → a ≡ Close → body_after rule a ≡ Close
close_stays None a e = e
close_stays (Some rule) a e = refl

close_is_no_keep : (a : After) → a ≡ Close → a ≢ Keep
close_is_no_keep a x y = cc

body_gone : (H : Type 0) (ask : Ask) (status : ℕ) (headers : HeaderList) (body : Content) (last : Bool) → ask.persists ≡ false
    → (body_reply {H = H} ask status headers body last).after ≢ Keep
body_gone H ask status headers body last e =
    close_is_no_keep _ (close_stays _ _ (by_gone ask.persists last _ _ _ e))

sound_gone : {H : Type 0} (ask : Ask) (a : Answer Content H) (last : Bool) → ask.persists ≡ false → (sound_reply ask a last).after ≢ Keep
sound_gone {H} ask (answer.Reply status headers body None) last e = body_gone H ask status headers body last e
sound_gone {H} ask (answer.Reply status headers body (Some h)) last e = λ x. cc
sound_gone {H} ask (answer.Raised text) last e = body_gone H ask 500 (broken_headers (rule 0)) no_body last e
sound_gone {H} ask (answer.Taken h) last e = λ x. cc

gone_by : {H : Type 0} (o : Option Rule) (ask : Ask) (a : Answer Content H) (last : Bool) → ask.persists ≡ false → (reply_by o ask a last).after ≢ Keep
gone_by {H} None ask a last e = sound_gone ask a last e
gone_by {H} (Some broken) ask a last e = body_gone H ask 500 (broken_headers broken) no_body last e

-- a request whose reply keeps the connection persists
pub reply_persists : {H : Type 0} (ask : Ask) (env : Pairs) (a : Answer Content H) (last : Bool) → (reply ask env a last).after ≡ Keep → ask.persists ≡ true
reply_persists {H} ask env a last keeps = go ask.persists refl
  where
    go : (b : Bool) → ask.persists ≡ b → b ≡ true
    go true e = refl
    go false e = absurd (gone_by (broken_rule Server env a) ask a last e keeps)

-- what keeps by these fates does by those
pub keep_by : (f g : Fates) (rs : List Parts) (k : ℕ) → ((i : ℕ) (r : Parts) → f i r ≡ Keep → g i r ≡ Keep) → AllKeep f k rs → AllKeep g k rs
keep_by f g [] k by all = tt
keep_by f g (r ∷ rs) k by all = (by k r all.0, keep_by f g rs (k + 1) by all.1)

but_next : (g : Fates) (k : ℕ) (r : Parts) (rs : List Parts) → g k r ≡ Keep → AllButLastKeep g (k + 1) rs → AllButLastKeep g k (r ∷ rs)
but_next g k r [] keeps all = tt
but_next g k r (next ∷ rs) keeps all = (keeps, all)

pub but_last : (g : Fates) (k : ℕ) (whole w : List Parts) → length w ≤ 1 → AllKeep g k whole → AllButLastKeep g k (whole ++ w)
but_last g k [] [] few all = tt
but_last g k [] (q ∷ []) few all = tt
but_last g k [] (q ∷ p ∷ w) few all = absurd (omega (arith, few))
but_last g k (r ∷ whole) w few all = but_next g k r (whole ++ w) all.0 (but_last g (k + 1) whole w few all.1)

few_asked : {H : Type 0} (word : Word H) → length (asked_by word) ≤ 1
few_asked {H} silent = omega arith
few_asked {H} (replies r) = omega arith
few_asked {H} (refuses f) = omega arith
few_asked {H} times_out = omega arith
few_asked {H} (hands_over r h) = omega arith

module _ {H : Type 0} (answers : Answers H) (local : Local) (peer : List ℕ) (closing : Option ℕ) where
  -- a request that keeps by its reply does by itself
  keeps_itself : (k : ℕ) (r : Parts) → (tell_by answers local peer closing k r).after ≡ Keep → fates_by_request closing k r ≡ Keep
  keeps_itself k r keeps =
      let last : is_last closing k ≡ false = reply_keeps (ask_of r) (env_pairs r peer local) (answers k) (is_last closing k) keeps in
      let goes : persists r ≡ true = reply_persists (ask_of r) (env_pairs r peer local) (answers k) (is_last closing k) keeps in
      ap (λ (p : Bool). if p && not (is_last closing k) then Keep else Close) goes ∙ ap (λ (l : Bool). if true && not l then Keep else Close) last

  -- of what stands in part
  pub part_asked : (V : Voice H) (over : Bool) (given sent : List ℕ) (calls : ℕ) (word : Word H) (lacks : List ℕ)
      → ((k : ℕ) → k < calls → (r : Parts) → (tell_by answers local peer closing k r).after ≢ Hijack)
      → Partly V (tell_by answers local peer closing) over given sent calls closing word lacks
      → (asked : List Parts) × (rest : List ℕ) × IsAsked closing given calls asked rest
  part_asked V over given sent calls word lacks none h = (
    h.stands.whole ++ asked_by word,
    h.rest,
    record {
      asks = h.stands.asks;
      calls_is = omega (arith, h.calls_is, h.stands.count, length-append h.stands.whole (asked_by word));
      goes_on = but_last (fates_by_request closing) 0 h.stands.whole (asked_by word) (few_asked word)
          (keep_by (fates_of (tell_by answers local peer closing)) (fates_by_request closing) h.stands.whole 0 keeps_itself h.stands.keeps);
      closes = closes_for closing calls (IsHijack (tell_by answers local peer closing) h.k word) ⊥ h.rest
          (untaken word h.calls_is h.stands.fits) h.closes;
    },
  )
    where
      untaken : (w : Word H) → calls ≡ h.k + length (asked_by w) → Fits (tell_by answers local peer closing) h.k w h.rest
          → IsHijack (tell_by answers local peer closing) h.k w → ⊥
      untaken silent count fits is = is
      untaken (replies r) count fits is = none h.k (omega (arith, count)) r is
      untaken (refuses f) count fits is = is
      untaken times_out count fits is = is
      untaken (hands_over r x) count fits is = none h.k (omega (arith, count)) r fits.0

  -- and of what was sent whole
  pub whole_asked : (p : Past) (stop : Stop) (rest said : List ℕ) → p.closing ≡ closing
      → ((k : ℕ) → k < p.calls → (r : Parts) → (tell_by answers local peer closing k r).after ≢ Hijack)
      → SentWhole (tell_by answers local peer closing) p stop rest said → (asked : List Parts) × IsAsked closing p.given p.calls asked rest
  whole_asked p stop rest said same none h =
      let T : Teller H = tell_by answers local peer closing in
      let f = talk_keeps (fates_of T) p.given rest h.asked stop h.talk in (
        h.asked,
        record {
          asks = h.talk.asks;
          calls_is = h.calls_is;
          goes_on = subst (λ (rs : List Parts). AllButLastKeep (fates_by_request closing) 0 rs) (sym f.is)
              (but_last (fates_by_request closing) 0 f.whole f.w f.few (keep_by (fates_of T) (fates_by_request closing) f.whole 0 keeps_itself f.keeps));
          closes = subst (λ (o : Option ℕ). ClosesAt o p.calls ⊥ rest) same
              (closes_for p.closing p.calls (stop ≡ hijacked) ⊥ rest (λ is. taken stop is h.talk.stops) h.closes);
        },
      )
    where
      taken : (s : Stop) → s ≡ hijacked → StopsAs s (fates_of (tell_by answers local peer closing)) h.asked rest → ⊥
      taken wanting is stops = cc
      taken (refused f) is stops = cc
      taken closed is stops = cc
      taken hijacked is stops =
          none (length stops.front) (omega (arith, h.calls_is, ap length stops.asked_is, length-append stops.front (stops.last ∷ []))) stops.last stops.fate

-- more bytes came: the same requests were asked
pub asked_more : (given came : List ℕ) (calls : ℕ) (asked : List Parts) (rest : List ℕ) → IsAsked None given calls asked rest → IsAsked None (given ++ came) calls asked (rest ++ came)
asked_more given came calls asked rest h = record {
  asks = asks_more asked given rest came h.asks;
  calls_is = h.calls_is;
  goes_on = h.goes_on;
  closes = tt;
}

-- all but at most the last keep
but_last_keeps : (fates : Fates) (k : ℕ) (asked : List Parts) → AllButLastKeep fates k asked
    → (whole w : List Parts) × (length w ≤ 1) × (asked ≡ whole ++ w) × AllKeep fates k whole
but_last_keeps fates k [] all = ([], [], omega arith, refl, tt)
but_last_keeps fates k (r ∷ []) all = ([], r ∷ [], omega arith, refl, tt)
but_last_keeps fates k (r ∷ next ∷ rs) all =
    let m = but_last_keeps fates (k + 1) (next ∷ rs) all.1 in (r ∷ m.0, m.1, m.2, ap (λ (xs : List Parts). r ∷ xs) m.3, (all.0, m.4))

-- the request whose reply closes by draining does not keep
last_closes : (k : ℕ) (r : Parts) → fates_by_request (Some k) k r ≢ Keep
last_closes k r keeps = go (persists r) (is_last (Some k) k) is keeps
  where
    is : is_last (Some k) k ≡ true
    is = let same : (k == k) ≡ true = grind (arith, nat_tests) in or_so (k == 9999) (k == k) same
      where
        or_so : (a b : Bool) → b ≡ true → (a || b) ≡ true
        or_so true b e = refl
        or_so false b e = e

    go : (p l : Bool) → l ≡ true → (if p && not l then Keep else Close) ≡ Keep → ⊥
    go true true e x = cc
    go false true e x = cc
    go p false e x = cc

last_of : {A : Type 0} (xs : List A) → 0 < length xs → (front : List A) × (x : A) × (xs ≡ front ++ x ∷ [])
last_of {A} [] some = absurd (omega (arith, some))
last_of {A} (x ∷ []) some = ([], x, refl)
last_of {A} (x ∷ y ∷ ys) some =
    let few : 0 < length (y ∷ ys) = omega arith in
    let m = last_of (y ∷ ys) few in (x ∷ m.0, m.1, ap (λ (zs : List A). x ∷ zs) m.2)

-- these are the first of the requests that the talk asks by what they say themselves; and where a reply closed by
-- draining they are all of them
pub asked_talk : (closing : Option ℕ) (given : List ℕ) (calls : ℕ) (asked : List Parts) (rest : List ℕ) (all : List Parts) (stop : Stop) (end : List ℕ)
    → IsAsked closing given calls asked rest → Talk (fates_by_request closing) given all stop end
    → (calls ≤ length all) × ((k : ℕ) → closing ≡ Some k → (length all ≡ k + 1) × (rest ≡ []))
asked_talk closing given calls asked rest all stop end h t =
    let m = but_last_keeps (fates_by_request closing) 0 asked h.goes_on in
    let f : GoesFurther (m.0 ++ m.1) all rest end =
    answered_begins (fates_by_request closing) given all m.0 m.1 stop end rest m.2 m.4 (subst (λ (rs : List Parts). Asks given rs rest) m.3 h.asks) t in
    let longer : all ≡ asked ++ f.more = f.longer ∙ ap (λ (rs : List Parts). rs ++ f.more) (sym m.3) in
    let size : length all ≡ length asked + length f.more = ap length longer ∙ length-append asked f.more in
    (omega (arith, h.calls_is, size), λ k is. closed k is f.more longer size)
  where
    closed : (k : ℕ) → closing ≡ Some k → (more : List Parts) → all ≡ asked ++ more → length all ≡ length asked + length more → (length all ≡ k + 1) × (rest ≡ [])
    closed k is more longer size =
        let c : ClosesAt (Some k) calls ⊥ rest = subst (λ (o : Option ℕ). ClosesAt o calls ⊥ rest) is h.closes in
        let nothing : rest ≡ [] = ⊎_elim (λ x. absurd x) (λ e. e) c.1 in
        (by more longer size c.0, nothing)
      where
        by : (more : List Parts) → all ≡ asked ++ more → length all ≡ length asked + length more → calls ≡ k + 1 → length all ≡ k + 1
        by [] longer size one = omega (arith, size, h.calls_is, one)
        by (next ∷ more) longer size one =
            let some : 0 < length asked = omega (arith, h.calls_is, one) in
            let l = last_of asked some in
            let f = talk_keeps (fates_by_request closing) given end all stop t in
            let keeps : fates_by_request closing (0 + length l.0) l.1 ≡ Keep =
            keep_at (fates_by_request closing) l.0 f.whole f.w more l.1 next 0 f.few (sym f.is ∙ longer ∙ ap (λ (xs : List Parts). xs ++ next ∷ more) l.2) f.keeps in
            let here : 0 + length l.0 ≡ k = omega (arith, ap length l.2, length-append l.0 (l.1 ∷ []), h.calls_is, one) in
            absurd (last_closes k l.1
            (subst (λ (n : ℕ). fates_by_request (Some k) n l.1 ≡ Keep) here (subst (λ (o : Option ℕ). fates_by_request o (0 + length l.0) l.1 ≡ Keep) is keeps)))
