-- What stands speaks only of the replies to requests that were run: tellers that agree on these tell the same.
use Rattle.std.proofs.Common.{◌≡◌, ◌≢◌, ℕ, suc, ◌+◌, ◌<◌, Bool, List, [], ◌∷◌, ◌++◌, length, refl, ap, subst, ◌∙◌, arith, length-append, Option, Some, None, inl, inr, ⊎_elim}
use Rattle.std.proofs.lemmas.Bool.Decides.{nat_tests}
use Rattle.rack_types.specs.declared.peer.Local.{Local}
use Rattle.rack_types.specs.Request.{Parts}
use Rattle.rack_env.specs.Environment.{env_pairs}
use Rattle.reply_framing.specs.declared.types.After.{After}
use Rattle.reply_framing.specs.declared.types.After.TheVariants.{Keep, Close, Hijack}
use Rattle.reply_framing.specs.Reply.{WholeReply}
use Rattle.talk_core.specs.declared.ended.Life.{Life}
use Rattle.talk_core.specs.declared.ended.Why.{Why}
use Rattle.talk_core.specs.declared.ended.Why.TheVariants as why
use Rattle.talk_core.specs.Teller.{Stacks, Teller, AgreesBelow, fates_of, is_last, phase_at, reply_of, tell}
use Rattle.talk_core.specs.Talk.{AllKeep, EndsAs, Stop, wanting, refused, closed, hijacked, StopsAs, replies_to, last_word}
use Rattle.talk_core.specs.Tail.{Voice, tail_of}
use Rattle.talk_core.specs.Stands.{Word, silent, replies, refuses, times_out, hands_over, asked_by, text_by, Fits, Stands, IsHijack, Partly}
use Rattle.talk_core.specs.Ended.{Past, SentWhole, SentWholeTo, Lacks, LacksToHijack, FailsReading, EndsBy}
use Rattle.talk_core.proofs.EndedLemmas.{closes_for}

module _ {H : Type 0} (T U : Teller H) where
  pub replies_agree : (rs : List Parts) (k : ℕ) → AgreesBelow (k + length rs) T U → replies_to T k rs ≡ replies_to U k rs
  replies_agree [] k same = refl
  replies_agree (r ∷ rs) k same =
      let here : T k r ≡ U k r = same k (omega arith) r in
      let there : replies_to T (k + 1) rs ≡ replies_to U (k + 1) rs = replies_agree rs (k + 1) (λ i lt q. same i (omega arith) q) in
      ap (λ (p : WholeReply H). p.bytes ++ replies_to T (k + 1) rs) here ∙ ap (λ z. (U k r).bytes ++ z) there

  pub keep_agrees : (rs : List Parts) (k : ℕ) → AgreesBelow (k + length rs) T U → AllKeep (fates_of T) k rs → AllKeep (fates_of U) k rs
  keep_agrees [] k same all = tt
  keep_agrees (r ∷ rs) k same all =
      (subst (λ (p : WholeReply H). p.after ≡ Keep) (same k (omega arith) r) all.0, keep_agrees rs (k + 1) (λ i lt q. same i (omega arith) q) all.1)

  word_agrees : (V : Voice H) (over : Bool) (k : ℕ) (word : Word H) (rest : List ℕ) → AgreesBelow (k + length (asked_by word)) T U
      → text_by V T over k word rest ≡ text_by V U over k word rest
  word_agrees V over k silent rest same = refl
  word_agrees V over k (replies r) rest same = ap (λ (p : WholeReply H). p.bytes) (same k (omega arith) r)
  word_agrees V over k (refuses f) rest same = refl
  word_agrees V over k times_out rest same = refl
  word_agrees V over k (hands_over r h) rest same = ap (λ (p : WholeReply H). p.bytes ++ tail_of V h rest over) (same k (omega arith) r)

  fits_agrees : (k : ℕ) (word : Word H) (rest : List ℕ) → AgreesBelow (k + length (asked_by word)) T U → Fits T k word rest → Fits U k word rest
  fits_agrees k silent rest same fits = tt
  fits_agrees k (replies r) rest same fits = tt
  fits_agrees k (refuses f) rest same fits = fits
  fits_agrees k times_out rest same fits = fits
  fits_agrees k (hands_over r h) rest same fits = (
    subst (λ (p : WholeReply H). p.after ≡ Hijack) (same k (omega arith) r) fits.0,
    subst (λ (p : WholeReply H). p.hijacker ≡ Some h) (same k (omega arith) r) fits.1,
  )

  hijack_agrees : (k : ℕ) (word : Word H) → AgreesBelow (k + length (asked_by word)) T U → IsHijack T k word → IsHijack U k word
  hijack_agrees k silent same is = absurd is
  hijack_agrees k (replies r) same is = subst (λ (p : WholeReply H). p.after ≡ Hijack) (same k (omega arith) r) is
  hijack_agrees k (refuses f) same is = absurd is
  hijack_agrees k times_out same is = absurd is
  hijack_agrees k (hands_over r h) same is = tt

  pub stands_agrees : (V : Voice H) (over : Bool) (given sent : List ℕ) (k : ℕ) (word : Word H) (rest lacks : List ℕ)
      → AgreesBelow (k + length (asked_by word)) T U → Stands V T over given sent k word rest lacks → Stands V U over given sent k word rest lacks
  stands_agrees V over given sent k word rest lacks same h = record {
    whole = h.whole;
    count = h.count;
    asks = h.asks;
    keeps = keep_agrees h.whole 0 (λ i lt r. same i (omega (arith, h.count)) r) h.keeps;
    part = h.part;
    sent_is = h.sent_is ∙ ap (λ z. z ++ h.part) (replies_agree h.whole 0 (λ i lt r. same i (omega (arith, h.count)) r));
    part_is = h.part_is ∙ word_agrees V over k word rest same;
    fits = fits_agrees k word rest same h.fits;
  }

  pub partly_agrees : (V : Voice H) (over : Bool) (given sent : List ℕ) (calls : ℕ) (closing : Option ℕ) (word : Word H) (lacks : List ℕ)
      → AgreesBelow calls T U → Partly V T over given sent calls closing word lacks → Partly V U over given sent calls closing word lacks
  partly_agrees V over given sent calls closing word lacks same h =
      let below : AgreesBelow (h.k + length (asked_by word)) T U = λ i lt r. same i (omega (arith, h.calls_is)) r in
      record {
        k = h.k;
        rest = h.rest;
        calls_is = h.calls_is;
        stands = stands_agrees V over given sent h.k word h.rest lacks below h.stands;
        closes = closes_for closing calls (IsHijack T h.k word) (IsHijack U h.k word) h.rest (hijack_agrees h.k word below) h.closes;
      }

  ends_as_agrees : (after : After) (asked : List Parts) → AgreesBelow (length asked) T U → EndsAs after (fates_of T) asked → EndsAs after (fates_of U) asked
  ends_as_agrees after asked same s =
      let long : length asked ≡ suc (length s.front) = omega (arith, ap length s.asked_is, length-append s.front (s.last ∷ [])) in
      record {
        front = s.front;
        last = s.last;
        asked_is = s.asked_is;
        keeps = keep_agrees s.front 0 (λ i lt r. same i (omega arith) r) s.keeps;
        fate = subst (λ (p : WholeReply H). p.after ≡ after) (same (length s.front) (omega arith) s.last) s.fate;
      }

  pub stops_agrees : (asked : List Parts) (rest : List ℕ) (stop : Stop) → AgreesBelow (length asked) T U
      → StopsAs stop (fates_of T) asked rest → StopsAs stop (fates_of U) asked rest
  stops_agrees asked rest wanting same s = (keep_agrees asked 0 (λ i lt r. same i (omega arith) r) s.0, s.1)
  stops_agrees asked rest (refused f) same s = (keep_agrees asked 0 (λ i lt r. same i (omega arith) r) s.0, s.1)
  stops_agrees asked rest closed same s = ends_as_agrees Close asked same s
  stops_agrees asked rest hijacked same s = ends_as_agrees Hijack asked same s

  pub whole_agrees : (p : Past) (stop : Stop) (rest said : List ℕ) → AgreesBelow p.calls T U → SentWhole T p stop rest said → SentWhole U p stop rest said
  whole_agrees p stop rest said same h =
      let below : AgreesBelow (length h.asked) T U = λ i lt r. same i (omega (arith, h.calls_is)) r in
      record {
        asked = h.asked;
        talk = record { asks = h.talk.asks; stops = stops_agrees h.asked rest stop below h.talk.stops };
        calls_is = h.calls_is;
        said_is = h.said_is ∙ ap (λ z. z ++ last_word stop) (replies_agree h.asked 0 (λ i lt r. below i (omega arith) r));
        closes = h.closes;
      }

  pub whole_to_agrees : (p : Past) (h : H) (rest said : List ℕ) → AgreesBelow p.calls T U → SentWholeTo T p h rest said → SentWholeTo U p h rest said
  unfolding whole_agrees stops_agrees ends_as_agrees
  whole_to_agrees p h rest said same w =
      let s = w.whole.talk.stops in
      let long : length w.whole.asked ≡ suc (length s.front) = omega (arith, ap length s.asked_is, length-append s.front (s.last ∷ [])) in
      record {
        whole = whole_agrees p hijacked rest said same w.whole;
        hijacker = subst (λ (r : WholeReply H). r.hijacker ≡ Some h) (same (length s.front) (omega (arith, w.whole.calls_is)) s.last) w.hijacker;
      }

  lacks_agrees : (V : Voice H) (p : Past) (lacks : List ℕ) → AgreesBelow p.calls T U → Lacks V T p lacks → Lacks V U p lacks
  lacks_agrees V p lacks same h =
      record { word = h.word; partly = partly_agrees V p.over p.given p.sent p.calls p.closing h.word lacks same h.partly }

  lacks_to_agrees : (V : Voice H) (p : Past) → AgreesBelow p.calls T U → LacksToHijack V T p → LacksToHijack V U p
  unfolding partly_agrees
  lacks_to_agrees V p same h = record {
    word = h.word;
    lacks = h.lacks;
    partly = partly_agrees V p.over p.given p.sent p.calls p.closing h.word h.lacks same h.partly;
    taken = hijack_agrees h.partly.k h.word (λ i lt r. same i (omega (arith, h.partly.calls_is)) r) h.taken;
  }

  pub failure_agrees : (V : Voice H) (p : Past) → AgreesBelow p.calls T U → FailsReading V T p → FailsReading V U p
  failure_agrees V p same e = (
    e.0,
    ⊎_elim (λ w. inl (w.0, w.1, w.2, whole_agrees p w.0 w.1 p.sent same w.3)) (λ l. inr (lacks_to_agrees V p same l)) e.1,
  )

  -- an end is the same by any replies that are the same as far as requests were run; but for a read that failed, which
  -- tells of the whole talk
  pub ends_agrees : (w : Why) (V : Voice H) (p : Past) → w ≢ why.ReadFailed → AgreesBelow p.calls T U → EndsBy w V T p → EndsBy w V U p
  ends_agrees why.Closed V p n same e = (e.0, e.1, e.2, whole_agrees p e.0 e.1 p.sent same e.3)
  ends_agrees why.PeerEnd V p n same e = (e.0, whole_agrees p wanting e.0 p.sent same e.1, e.2)
  ends_agrees (why.Idle by) V p n same e = (e.0, whole_agrees p wanting e.0 p.sent same e.1, e.2, e.3)
  ends_agrees (why.TimedOut since now) V p n same e = (e.0, e.1, whole_agrees p wanting e.0 e.1 same e.2, e.3, e.4, e.5)
  ends_agrees (why.Stalled since now) V p n same e = (e.0, lacks_agrees V p e.0 same e.1, e.2, e.3)
  ends_agrees (why.Unread level) V p n same e = e
  ends_agrees why.ReadFailed V p n same e = absurd (n refl)
  ends_agrees why.WriteFailed V p n same e = (e.0, (e.1.0, lacks_agrees V p e.1.0 same e.1.1, e.1.2))
  ends_agrees (why.Halted level) V p n same e = (e.0, (e.1.0, lacks_agrees V p e.1.0 same e.1.1))
  ends_agrees why.NoMemory V p n same e = (e.0, lacks_agrees V p e.0 same e.1)
  ends_agrees why.Hijacked V p n same e = (e.0, e.1, e.2, whole_to_agrees p e.0 e.1 e.2 same e.3, e.4, e.5)

-- which request closes by draining changes no reply below it
last_below : (i k : ℕ) → i < k → is_last None i ≡ is_last (Some k) i
last_below i k lt = grind (arith, nat_tests)

pub closing_agrees : {H : Type 0} (S : Stacks H) (lives : List Life) (local : Local) (peer : List ℕ) (k : ℕ)
    → AgreesBelow k (tell S lives local peer None) (tell S lives local peer (Some k))
closing_agrees S lives local peer k i lt r = ap (reply_of (S (phase_at lives i)) (env_pairs r peer local) r) (last_below i k lt)
