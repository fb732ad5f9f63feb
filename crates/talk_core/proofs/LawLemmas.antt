-- The laws over talks.
use Rattle.std.proofs.Common.{◌≡◌, ◌≢◌, ℕ, zero, suc, ◌+◌, ◌<◌, ◌≤◌, Bool, true, nat_lt, if◌then◌else◌, List, [], ◌∷◌, ◌++◌, length, take, drop, refl, sym, ap, subst, ◌∙◌, append_assoc, arith, Option, Some, None, ◌⊎◌, inl, inr, ⊎_elim, length-append}
use Rattle.std.proofs.lemmas.List.{append-nil, take-append-le, take-append-drop}
use Rattle.std.proofs.Math.Seq.{take-append_seam}
use Rattle.std.proofs.lemmas.Bool.Decides.{nat_tests}
use Rattle.rack_types.specs.declared.fault.Fault.TheVariants.{T1}
use Rattle.rack_types.specs.Request.{Parts}
use Rattle.message_framing.specs.HeadText.{skipped}
use Rattle.message_framing.specs.Request.{Begins, Begun}
use Rattle.message_framing.proofs.CallerLemmas.{begins_not_refused, refusal_stays}
use Rattle.reply_framing.specs.declared.types.After.{After}
use Rattle.reply_framing.specs.declared.types.After.TheVariants.{Keep, Hijack}
use Rattle.reply_framing.specs.Fault.{fault_reply}
use Rattle.hijack_core.specs.Said.{Starts}
use Rattle.talk_core.specs.Teller.{Fates, Teller, fates_of}
use Rattle.talk_core.specs.Talk.{Asks, AllKeep, Stop, wanting, refused, closed, hijacked, StopsAs, Talk, replies_to, time_out}
use Rattle.talk_core.specs.Tail.{Voice, tail_of}
use Rattle.talk_core.specs.Stands.{Word, silent, replies, refuses, times_out, hands_over, asked_by, text_by, Stands, IsHijack, ClosesAt}
use Rattle.talk_core.specs.Laws.{Stays, HandsTo, IsEnding, PartlyStands}
use Rattle.talk_core.proofs.TalkLemmas.{asks_more, replies_snoc, replies_append}
use Rattle.talk_core.proofs.CompareLemmas.{GoesFurther, KeepsFront, keep_at, talk_keeps, asked_begins, answered_begins, stop_unique}

-- no reply keeps that closes by draining
abbrev pub NeverKeeps : {H : Type 0} → Teller H → Option ℕ → Type 0
NeverKeeps T closing = (k : ℕ) (r : Parts) → closing ≡ Some k → (T k r).after ≢ Keep

-- a talk that stopped for good stays
pub stays : (fates : Fates) (given more : List ℕ) → Stays fates given more
stays fates given more asked wanting rest final t = absurd final
stays fates given more asked (refused f) rest final t =
    record { asks = asks_more asked given rest more t.asks; stops = (t.stops.0, refusal_stays rest more f t.stops.1) }
stays fates given more asked closed rest final t = record { asks = asks_more asked given rest more t.asks; stops = t.stops }
stays fates given more asked hijacked rest final t = record { asks = asks_more asked given rest more t.asks; stops = t.stops }

-- each of these requests keeps the connection
pub keep_nth : (fates : Fates) (rs : List Parts) (k j : ℕ) → j < length rs → AllKeep fates k rs → (r : Parts) × (fates (k + j) r ≡ Keep)
keep_nth fates [] k j lt all = absurd (omega (arith, lt))
keep_nth fates (r ∷ rs) k zero lt all =
    let n : k ≡ k + 0 = omega arith in (r, subst (λ (i : ℕ). fates i r ≡ Keep) n all.0)
keep_nth fates (r ∷ rs) k (suc j) lt all =
    let q : (q : Parts) × (fates (k + 1 + j) q ≡ Keep) = keep_nth fates rs (k + 1) j (omega (arith, lt)) all.1 in
    let n : k + 1 + j ≡ k + suc j = omega arith in
    (q.0, subst (λ (i : ℕ). fates i q.0 ≡ Keep) n q.1)

pub few_asked : {H : Type 0} (word : Word H) → length (asked_by word) ≤ 1
few_asked silent = omega arith
few_asked (replies r) = omega arith
few_asked (refuses f) = omega arith
few_asked times_out = omega arith
few_asked (hands_over r h) = omega arith

-- behind a reply that does not keep nothing is asked
pub none_behind : (fates : Fates) (given end : List ℕ) (asked whole more : List Parts) (r : Parts) (stop : Stop) → Talk fates given asked stop end
    → asked ≡ (whole ++ r ∷ []) ++ more → fates (length whole) r ≢ Keep → more ≡ []
none_behind fates given end asked whole [] r stop t e never = refl
none_behind fates given end asked whole (m ∷ more) r stop t e never =
    let k : KeepsFront fates asked = talk_keeps fates given end asked stop t in
    let n : 0 + length whole ≡ length whole = omega arith in
    absurd (never (subst (λ (i : ℕ). fates i r ≡ Keep) n (keep_at fates whole k.whole k.w more r m 0 k.few (sym k.is ∙ e) k.keeps)))

-- where nothing whole begins nothing is asked
pub none_asked : (rest end : List ℕ) (more : List Parts) → ((n : ℕ) (r : Parts) → ¬ (Begins rest n r)) → Asks rest more end → more ≡ []
none_asked rest end [] none a = refl
none_asked rest end (m ∷ more) none a = absurd (none (length a.0) m (asked_begins rest m more end a))

-- what is said of a talk by what stands
record Says {H : Type 0} (V : Voice H) (T : Teller H) (over : Bool) (asked : List Parts) (stop : Stop) (rest sent : List ℕ)
    (calls : ℕ) (closing : Option ℕ) : Type 0 where
  pub ending : List ℕ
  pub ends : (ending ≡ []) ⊎ ((calls ≡ length asked) × IsEnding V T over asked stop rest ending)
  pub front : Starts sent (replies_to T 0 (take calls asked) ++ ending)
  pub closes : ClosesAt closing (length asked) (stop ≡ hijacked) rest

module _ {H : Type 0} (V : Voice H) (T : Teller H) (over : Bool) (given sent rest lacks : List ℕ) (k calls : ℕ) (closing : Option ℕ) (never : NeverKeeps T closing)
    (asked more : List Parts) (stop : Stop) (end : List ℕ) (t : Talk (fates_of T) given asked stop end) where
  -- what was sent and what is lacking
  all_said : (word : Word H) (h : Stands V T over given sent k word rest lacks)
      → sent ++ lacks ≡ replies_to T 0 h.whole ++ text_by V T over k word rest
  all_said word h = ap (λ z. z ++ lacks) h.sent_is ∙ append_assoc (replies_to T 0 h.whole) h.part lacks ∙ ap (λ z. replies_to T 0 h.whole ++ z) h.part_is

  -- where each run was answered by a reply that keeps, none closes by draining
  never_closes : (whole : List Parts) (P : Type 0) (at : List ℕ) → AllKeep (fates_of T) 0 whole → calls ≡ length whole → ClosesAt closing calls P at → closing ≡ None
  never_closes whole P at all n c = go closing refl c
    where
      go : (o : Option ℕ) → closing ≡ o → ClosesAt o calls P at → closing ≡ None
      go None e d = e
      go (Some j) e d =
          let q : (q : Parts) × (fates_of T (0 + j) q ≡ Keep) = keep_nth (fates_of T) whole 0 j (omega (arith, n, d.0)) all in
          let i : 0 + j ≡ j = omega arith in
          absurd (never j q.0 e (subst (λ (i : ℕ). (T i q.0).after ≡ Keep) i q.1))

  closes_not : (P : Type 0) (n : ℕ) (at : List ℕ) → closing ≡ None → ClosesAt closing n P at
  closes_not P n at e = subst (λ (o : Option ℕ). ClosesAt o n P at) (sym e) tt

  says_silent : (h : Stands V T over given sent k silent rest lacks) → calls ≡ k + 0 → ClosesAt closing calls ⊥ rest
      → asked ≡ (h.whole ++ []) ++ more → Says V T over asked stop end sent calls closing
  says_silent h n c e =
      let e' : asked ≡ h.whole ++ more = e ∙ ap (λ z. z ++ more) (append-nil h.whole) in
      let m : length h.whole ≡ calls = omega (arith, n, h.count) in
      let taken : take calls asked ≡ h.whole = ap (take calls) e' ∙ ap (λ (i : ℕ). take i (h.whole ++ more)) (sym m) ∙ take-append_seam h.whole more in
      record {
        ending = [];
        ends = inl refl;
        front = (lacks, ap (λ z. replies_to T 0 z ++ []) taken ∙ sym (all_said silent h));
        closes = closes_not (stop ≡ hijacked) (length asked) end (never_closes h.whole ⊥ rest h.keeps (sym m) c);
      }

  -- behind the reply to the last run, which may close by draining
  last_closes : (whole : List Parts) (r : Parts) (IsTaken : Type 0) → k ≡ length whole → AllKeep (fates_of T) 0 whole → calls ≡ k + 1
      → ClosesAt closing calls IsTaken rest → asked ≡ (whole ++ r ∷ []) ++ more → Asks rest more end → (IsTaken → (T k r).after ≡ Hijack)
      → ClosesAt closing (length asked) (stop ≡ hijacked) end
  last_closes whole r IsTaken n all m c e a taken = go closing refl c
    where
      go : (o : Option ℕ) → closing ≡ o → ClosesAt o calls IsTaken rest → ClosesAt o (length asked) (stop ≡ hijacked) end
      go None o d = tt
      go (Some j) o d =
          let i : j ≡ length whole = omega (arith, n, m, d.0) in
          let none : more ≡ [] = none_behind (fates_of T) given end asked whole more r stop t e (subst (λ (i : ℕ). (T i r).after ≢ Keep) i (never j r o)) in
          let all_asked : asked ≡ whole ++ r ∷ [] = e ∙ ap (λ z. (whole ++ r ∷ []) ++ z) none ∙ append-nil (whole ++ r ∷ []) in
          let same : rest ≡ end = subst (λ (z : List Parts). Asks rest z end) none a in (
            omega (arith, ap length all_asked, length-append whole (r ∷ []), i),
            ⊎_elim
                (λ is. inl (stop_unique (fates_of T) asked end stop hijacked t.stops
                (record { front = whole; last = r; asked_is = all_asked; keeps = all; fate = subst (λ (i : ℕ). (T i r).after ≡ Hijack) n (taken is) })))
                (λ is. inr (sym same ∙ is)) d.1,
          )

  says_reply : (r : Parts) (h : Stands V T over given sent k (replies r) rest lacks) → calls ≡ k + 1 → ClosesAt closing calls ((T k r).after ≡ Hijack) rest
      → asked ≡ (h.whole ++ r ∷ []) ++ more → Asks rest more end → Says V T over asked stop end sent calls closing
  says_reply r h n c e a =
      let m : length (h.whole ++ r ∷ []) ≡ calls = omega (arith, n, h.count, length-append h.whole (r ∷ [])) in
      let taken : take calls asked ≡ h.whole ++ r ∷ [] =
      ap (take calls) e ∙ ap (λ (i : ℕ). take i ((h.whole ++ r ∷ []) ++ more)) (sym m) ∙ take-append_seam (h.whole ++ r ∷ []) more in
      let i : 0 + length h.whole ≡ k = omega (arith, h.count) in
      record {
        ending = [];
        ends = inl refl;
        front = (
          lacks,
          ap (λ z. replies_to T 0 z ++ []) taken ∙ append-nil _ ∙ replies_snoc T h.whole 0 r
              ∙ ap (λ j. replies_to T 0 h.whole ++ (T j r).bytes) i ∙ sym (all_said (replies r) h),
        );
        closes = last_closes h.whole r ((T k r).after ≡ Hijack) h.count h.keeps n c e a (λ is. is);
      }

  -- nothing is asked behind the replies, and this is said
  says_word : (word : Word H) (whole : List Parts) (so : Stop) → k ≡ length whole → AllKeep (fates_of T) 0 whole → calls ≡ k + 0 → ClosesAt closing calls ⊥ rest
      → asked ≡ (whole ++ []) ++ more → more ≡ [] → Asks rest more end → sent ++ lacks ≡ replies_to T 0 whole ++ text_by V T over k word rest
      → StopsAs so (fates_of T) whole rest → IsEnding V T over asked so rest (text_by V T over k word rest) → Says V T over asked stop end sent calls closing
  says_word word whole so n all m c e none a said stops is =
      let all_asked : asked ≡ whole = e ∙ ap (λ z. (whole ++ []) ++ z) none ∙ append-nil (whole ++ []) ∙ append-nil whole in
      let same : rest ≡ end = subst (λ (z : List Parts). Asks rest z end) none a in
      let stop_is : stop ≡ so = stop_unique (fates_of T) asked end stop so t.stops
      (subst (λ (z : List ℕ). StopsAs so (fates_of T) asked z) same (subst (λ (z : List Parts). StopsAs so (fates_of T) z rest) (sym all_asked) stops)) in
      let count : calls ≡ length asked = omega (arith, m, n, ap length all_asked) in
      let taken : take calls asked ≡ whole =
      ap (λ (i : ℕ). take i asked) count ∙ ap (take (length asked)) (sym (append-nil asked)) ∙ take-append_seam asked [] ∙ all_asked in
      record {
        ending = text_by V T over k word rest;
        ends = inr (
          count,
          subst (λ (z : List ℕ). IsEnding V T over asked stop z (text_by V T over k word rest)) same
              (subst (λ (s : Stop). IsEnding V T over asked s rest (text_by V T over k word rest)) (sym stop_is) is),
        );
        front = (lacks, ap (λ z. replies_to T 0 z ++ text_by V T over k word rest) taken ∙ sym said);
        closes = closes_not (stop ≡ hijacked) (length asked) end (never_closes whole ⊥ rest all (omega (arith, m, n)) c);
      }

  says_handed : (r : Parts) (h : H) (s : Stands V T over given sent k (hands_over r h) rest lacks) → calls ≡ k + 1 → ClosesAt closing calls (Unit {0}) rest
      → asked ≡ (s.whole ++ r ∷ []) ++ more → Asks rest more end → Says V T over asked stop end sent calls closing
  says_handed r h s n c e a =
      let fate : (T (length s.whole) r).after ≡ Hijack = subst (λ (i : ℕ). (T i r).after ≡ Hijack) s.count s.fits.0 in
      let none : more ≡ [] = none_behind (fates_of T) given end asked s.whole more r stop t e (λ keeps. hijack_is_no_keep _ keeps fate) in
      let all_asked : asked ≡ s.whole ++ r ∷ [] = e ∙ ap (λ z. (s.whole ++ r ∷ []) ++ z) none ∙ append-nil (s.whole ++ r ∷ []) in
      let same : rest ≡ end = subst (λ (z : List Parts). Asks rest z end) none a in
      let stop_is : stop ≡ hijacked = stop_unique (fates_of T) asked end stop hijacked t.stops
      (record { front = s.whole; last = r; asked_is = all_asked; keeps = s.keeps; fate = fate }) in
      let count : calls ≡ length asked = omega (arith, n, s.count, ap length all_asked, length-append s.whole (r ∷ [])) in
      let taken : take calls asked ≡ s.whole ++ r ∷ [] =
      ap (λ (i : ℕ). take i asked) count ∙ ap (take (length asked)) (sym (append-nil asked)) ∙ take-append_seam asked [] ∙ all_asked in
      let i : 0 + length s.whole ≡ k = omega (arith, s.count) in
      let hands : HandsTo T asked h = record {
        front = s.whole;
        last = r;
        asked_is = all_asked;
        hijacker = subst (λ (i : ℕ). (T i r).hijacker ≡ Some h) s.count s.fits.1;
      } in
      record {
        ending = tail_of V h rest over;
        ends = inr (
          count,
          subst (λ (x : Stop). IsEnding V T over asked x end (tail_of V h rest over)) (sym stop_is)
              (h, hands, ap (λ z. tail_of V h z over) same),
        );
        front = (
          lacks,
          ap (λ z. replies_to T 0 z ++ tail_of V h rest over) taken
              ∙ ap (λ z. z ++ tail_of V h rest over) (replies_snoc T s.whole 0 r ∙ ap (λ j. replies_to T 0 s.whole ++ (T j r).bytes) i)
              ∙ append_assoc (replies_to T 0 s.whole) (T k r).bytes (tail_of V h rest over) ∙ sym (all_said (hands_over r h) s),
        );
        closes = last_closes s.whole r (Unit {0}) s.count s.keeps n c e a (λ is. s.fits.0);
      }
    where
      hijack_is_no_keep : (a : After) → a ≡ Keep → a ≡ Hijack → ⊥
      hijack_is_no_keep a x y = cc

  begun_times_out : Begun rest → fault_reply T1 ≡ time_out wanting rest
  begun_times_out b =
      let is : nat_lt (skipped rest) (length rest) ≡ true = grind (arith, nat_tests) in
      sym (ap (λ (b : Bool). if b then fault_reply T1 else []) is)

  says : (word : Word H) (h : Stands V T over given sent k word rest lacks) → calls ≡ k + length (asked_by word) → ClosesAt closing calls (IsHijack T k word) rest
      → asked ≡ (h.whole ++ asked_by word) ++ more → Asks rest more end → Says V T over asked stop end sent calls closing
  says silent h n c e a = says_silent h n c e
  says (replies r) h n c e a = says_reply r h n c e a
  says (refuses f) h n c e a =
      let none : more ≡ [] = none_asked rest end more (λ m r b. begins_not_refused rest m r f b h.fits) a in
      says_word (refuses f) h.whole (refused f) h.count h.keeps n c e none a (all_said (refuses f) h) (h.keeps, h.fits) refl
  says times_out h n c e a =
      let none : more ≡ [] = none_asked rest end more h.fits.0.0 a in
      says_word times_out h.whole wanting h.count h.keeps n c e none a (all_said times_out h) (h.keeps, h.fits.0) (begun_times_out h.fits.1)
  says (hands_over r x) h n c e a = says_handed r x h n c e a

-- the first j replies were sent whole
sent_whole : {H : Type 0} (V : Voice H) (T : Teller H) (over : Bool) (given sent rest lacks : List ℕ) (k j : ℕ) (word : Word H) (asked more : List Parts)
    (h : Stands V T over given sent k word rest lacks) → asked ≡ (h.whole ++ asked_by word) ++ more → j ≤ k
    → Starts (replies_to T 0 (take j asked)) sent
sent_whole V T over given sent rest lacks k j word asked more h e few =
    let inside : j ≤ length h.whole = omega (arith, h.count) in
    let front : take j asked ≡ take j h.whole =
    ap (take j) (e ∙ append_assoc h.whole (asked_by word) more) ∙ take-append-le j h.whole (asked_by word ++ more) inside in
    let rest_text : List ℕ = replies_to T (0 + length (take j h.whole)) (drop j h.whole) in (
      rest_text ++ h.part,
      h.sent_is ∙ ap (λ z. replies_to T 0 z ++ h.part) (sym (take-append-drop j h.whole))
          ∙ ap (λ z. z ++ h.part) (replies_append T (take j h.whole) (drop j h.whole) 0)
          ∙ append_assoc (replies_to T 0 (take j h.whole)) rest_text h.part
          ∙ ap (λ z. replies_to T 0 z ++ (rest_text ++ h.part)) (sym front),
    )

pub partly_stands : {H : Type 0} (V : Voice H) (T : Teller H) (over : Bool) (given sent : List ℕ) (calls : ℕ) (closing : Option ℕ)
    → NeverKeeps T closing → PartlyStands V T over given sent calls closing
partly_stands V T over given sent calls closing never word lacks asked stop end p t =
    let h = p.stands in
    let f : GoesFurther (p.stands.whole ++ asked_by word) asked p.rest end =
    answered_begins (fates_of T) given asked p.stands.whole (asked_by word) stop end p.rest (few_asked word) p.stands.keeps p.stands.asks t in
    let s : Says V T over asked stop end sent calls closing =
    says V T over given sent p.rest lacks p.k calls closing never asked f.more stop end t word p.stands p.calls_is p.closes f.longer f.asks in
    record {
      few = omega (arith, p.calls_is, p.stands.count, ap length f.longer, length-append (p.stands.whole ++ asked_by word) f.more, length-append p.stands.whole (asked_by word));
      whole = λ j lt. sent_whole V T over given sent p.rest lacks p.k j word asked f.more p.stands f.longer (omega (arith, p.calls_is, few_asked word));
      ending = s.ending;
      ends = s.ends;
      front = s.front;
      closes = s.closes;
    }
