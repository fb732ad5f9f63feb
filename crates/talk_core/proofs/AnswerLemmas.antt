-- What answers the bytes, whole: it is one, and the end of a connection tells it.
use Rattle.std.proofs.Common.{◌≡◌, ℕ, Bool, true, false, if◌then◌else◌, List, [], ◌∷◌, ◌++◌, refl, sym, ap, subst, ◌∙◌, arith, inl, inr, ⊎_elim}
use Rattle.std.proofs.lemmas.Bool.{false≢true}
use Rattle.std.proofs.lemmas.List.{append-nil}
use Rattle.hijack_core.specs.declared.hijack.Said.{Said}
use Rattle.rack_types.specs.Request.{Parts}
use Rattle.message_framing.proofs.CallerLemmas.{refusal_stays}
use Rattle.reply_framing.specs.declared.types.After.TheVariants.{Hijack}
use Rattle.talk_core.specs.declared.ended.Why.TheVariants as why
use Rattle.talk_core.specs.Answer.{IsBehind, IsAnswer, IsHandedOver, EndsItself, IsClosedOn}
use Rattle.talk_core.specs.Ended.{Past, SentWhole, SentWholeTo, Lacks, LacksToHijack, FailsReading, EndsBy, IsClosed, IsUntaken, NeedsDrain, IsTimed}
use Rattle.talk_core.specs.Laws.{HandsTo}
use Rattle.talk_core.specs.Stands.{Word, silent, replies, refuses, times_out, hands_over, Stands, IsHijack}
use Rattle.talk_core.specs.Tail.{Voice, tail_of, goes_on}
use Rattle.talk_core.specs.Talk.{Stop, wanting, refused, closed, hijacked, IsFinal, text}
use Rattle.talk_core.specs.Teller.{Teller, fates_of}
use Rattle.talk_core.proofs.CompareLemmas.{one_talk}
use Rattle.talk_core.proofs.HijackLemmas.{goes_further}
use Rattle.talk_core.proofs.LawLemmas.{stays}
use Rattle.talk_core.proofs.TalkLemmas.{asks_more}
use Rattle.talk_core.proofs.TextLemmas.{one_hijacker}

-- one tail stands behind a text
one_tail : {H : Type 0} (V : Voice H) (T : Teller H) (asked : List Parts) (stop : Stop) (rest s t : List ℕ) → IsBehind V T asked stop rest s
    → IsBehind V T asked stop rest t → s ≡ t
one_tail V T asked wanting rest s t x y = x ∙ sym y
one_tail V T asked (refused f) rest s t x y = x ∙ sym y
one_tail V T asked closed rest s t x y = x ∙ sym y
one_tail {H} V T asked hijacked rest s t x y =
    let is : x.0 ≡ y.0 =
    one_hijacker T x.1.front y.1.front x.1.last y.1.last x.0 y.0 (sym x.1.asked_is ∙ y.1.asked_is) x.1.hijacker y.1.hijacker in
    x.2 ∙ ap (λ (h : H). tail_of V h rest true) is ∙ sym y.2

-- the bytes have one answer
pub one_answer : {H : Type 0} (V : Voice H) (T : Teller H) (bytes answer other : List ℕ) → IsAnswer V T bytes answer → IsAnswer V T bytes other
    → answer ≡ other
one_answer V T bytes answer other x y =
    let same = one_talk (fates_of T) bytes x.asked y.asked x.stop y.stop x.rest y.rest x.talk y.talk in
    let behind : IsBehind V T y.asked y.stop y.rest x.tail =
    subst (λ (z : List ℕ). IsBehind V T y.asked y.stop z x.tail) same.2
    (subst (λ (s : Stop). IsBehind V T y.asked s x.rest x.tail) same.1
    (subst (λ (z : List Parts). IsBehind V T z x.stop x.rest x.tail) same.0 x.behind)) in
    x.is ∙ ap (λ (z : List Parts). text T z x.stop ++ x.tail) same.0 ∙ ap (λ (s : Stop). text T y.asked s ++ x.tail) same.1
    ∙ ap (λ z. text T y.asked y.stop ++ z) (one_tail V T y.asked y.stop y.rest x.tail y.tail behind y.behind) ∙ sym y.is

-- behind a talk that did not stop at a hijack nothing is said
nothing_behind : {H : Type 0} (V : Voice H) (T : Teller H) (asked : List Parts) (stop : Stop) (rest : List ℕ) → IsUntaken stop
    → IsBehind V T asked stop rest []
nothing_behind V T asked wanting rest untaken = refl
nothing_behind V T asked (refused f) rest untaken = refl
nothing_behind V T asked closed rest untaken = refl
nothing_behind V T asked hijacked rest untaken = absurd untaken

closed_untaken : (stop : Stop) → IsClosed stop → IsUntaken stop
closed_untaken wanting h = absurd h
closed_untaken (refused f) h = tt
closed_untaken closed h = tt
closed_untaken hijacked h = absurd h

ends_itself : {H : Type 0} (V : Voice H) (T : Teller H) (asked : List Parts) (stop : Stop) (rest : List ℕ) → IsClosed stop → EndsItself V T asked stop rest
ends_itself V T asked wanting rest h = absurd h
ends_itself V T asked (refused f) rest h = tt
ends_itself V T asked closed rest h = tt
ends_itself V T asked hijacked rest h = absurd h

closed_final : (stop : Stop) → IsClosed stop → IsFinal stop
closed_final wanting h = absurd h
closed_final (refused f) h = tt
closed_final closed h = tt
closed_final hijacked h = absurd h

-- where it does not go on, the tail is what was said, whether the peer ended or not
tail_stopped : {H : Type 0} (V : Voice H) (h : H) (rest : List ℕ) (over : Bool) → (V.says h rest).go_on ≡ false
    → tail_of V h rest over ≡ (V.says h rest).bytes ++ []
tail_stopped V h rest over stopped =
    ap (λ (b : Bool). (V.says h rest).bytes ++ (if b then if over then V.ends h rest else [] else [])) stopped

-- the tail of a hijacker that said its last
tail_last : {H : Type 0} (V : Voice H) (h : H) (rest : List ℕ) (over : Bool) → goes_on V h rest over ≡ false
    → tail_of V h rest over ≡ tail_of V h rest true
tail_last V h rest true last = refl
tail_last V h rest false last = tail_stopped V h rest false last ∙ sym (tail_stopped V h rest true last)

-- where no drain was told, it said its last
pub undrained : (goes : Bool) → NeedsDrain goes 0 → goes ≡ false
undrained true need = absurd (omega (arith, need))
undrained false need = refl

module _ {H : Type 0} (V : Voice H) (T : Teller H) (p : Past) where
  -- the text was sent whole, of a talk that did not stop at a hijack
  pub answer_whole : (stop : Stop) (rest : List ℕ) → IsUntaken stop → SentWhole T p stop rest p.sent → IsAnswer V T p.given p.sent
  answer_whole stop rest untaken h = record {
    asked = h.asked;
    stop = stop;
    rest = rest;
    tail = [];
    talk = h.talk;
    behind = nothing_behind V T h.asked stop rest untaken;
    is = h.said_is ∙ sym (append-nil (text T h.asked stop));
  }

  -- a talk that closed answers any further bytes too
  pub answer_closed : (stop : Stop) (rest more : List ℕ) → IsClosed stop → SentWhole T p stop rest p.sent → IsAnswer V T (p.given ++ more) p.sent
  answer_closed stop rest more closes h = record {
    asked = h.asked;
    stop = stop;
    rest = rest ++ more;
    tail = [];
    talk = stays (fates_of T) p.given more h.asked stop rest (closed_final stop closes) h.talk;
    behind = nothing_behind V T h.asked stop (rest ++ more) (closed_untaken stop closes);
    is = h.said_is ∙ sym (append-nil (text T h.asked stop));
  }

  -- and it ended for good
  pub closed_on : (stop : Stop) (rest : List ℕ) → IsClosed stop → SentWhole T p stop rest p.sent → IsClosedOn V T p.given
  closed_on stop rest closes h =
      record { asked = h.asked; stop = stop; rest = rest; talk = h.talk; ends = ends_itself V T h.asked stop rest closes }

  hands_to : (h : H) (rest said : List ℕ) (s : SentWholeTo T p h rest said) → HandsTo T s.whole.asked h
  hands_to h rest said s = record {
    front = s.whole.talk.stops.front;
    last = s.whole.talk.stops.last;
    asked_is = s.whole.talk.stops.asked_is;
    hijacker = s.hijacker;
  }

  -- the text was sent whole, and all that the hijacker had to say
  pub answer_handed : (h : H) (rest said : List ℕ) → SentWholeTo T p h rest said → p.sent ≡ said ++ tail_of V h rest p.over
      → goes_on V h rest p.over ≡ false → IsAnswer V T p.given p.sent
  answer_handed h rest said s sent last = record {
    asked = s.whole.asked;
    stop = hijacked;
    rest = rest;
    tail = tail_of V h rest p.over;
    talk = s.whole.talk;
    behind = (h, hands_to h rest said s, tail_last V h rest p.over last);
    is = sent ∙ ap (λ z. z ++ tail_of V h rest p.over) s.whole.said_is;
  }

  -- where it does not go on, it ended for good
  pub stopped_on : (h : H) (rest said : List ℕ) → SentWholeTo T p h rest said → (V.says h rest).go_on ≡ false → IsClosedOn V T p.given
  stopped_on h rest said s stopped =
      record { asked = s.whole.asked; stop = hijacked; rest = rest; talk = s.whole.talk; ends = (h, hands_to h rest said s, stopped) }

  -- a hijacker that stopped says nothing to any further bytes
  pub answer_stopped : (h : H) (rest said more : List ℕ) → SentWholeTo T p h rest said → p.sent ≡ said ++ tail_of V h rest p.over
      → (V.says h rest).go_on ≡ false → V.says h (rest ++ more) ≡ V.says h rest → IsAnswer V T (p.given ++ more) p.sent
  answer_stopped h rest said more s sent stopped same = record {
    asked = s.whole.asked;
    stop = hijacked;
    rest = rest ++ more;
    tail = tail_of V h rest p.over;
    talk = stays (fates_of T) p.given more s.whole.asked hijacked rest tt s.whole.talk;
    behind = (
      h,
      hands_to h rest said s,
      tail_stopped V h rest p.over stopped ∙ ap (λ (x : Said). x.bytes ++ []) (sym same)
          ∙ sym (tail_stopped V h (rest ++ more) true (ap (λ (x : Said). x.go_on) same ∙ stopped)),
    );
    is = sent ∙ ap (λ z. z ++ tail_of V h rest p.over) s.whole.said_is;
  }

module _ {H : Type 0} (V : Voice H) (T : Teller H) (over : Bool) (given sent : List ℕ) (k : ℕ) where
  -- what is said to a hijack stands behind a talk that stopped there
  pub hijack_stops : (word : Word H) (rest lacks : List ℕ) → Stands V T over given sent k word rest lacks → IsHijack T k word → IsHandedOver T given
  hijack_stops silent rest lacks h is = absurd is
  hijack_stops (replies r) rest lacks h is = (
    h.whole ++ r ∷ [],
    rest,
    record {
      asks = h.asks;
      stops = record {
        front = h.whole;
        last = r;
        asked_is = refl;
        keeps = h.keeps;
        fate = subst (λ (n : ℕ). (T n r).after ≡ Hijack) h.count is;
      };
    },
  )
  hijack_stops (refuses f) rest lacks h is = absurd is
  hijack_stops times_out rest lacks h is = absurd is
  hijack_stops (hands_over r x) rest lacks h is = (
    h.whole ++ r ∷ [],
    rest,
    record {
      asks = h.asks;
      stops = record {
        front = h.whole;
        last = r;
        asked_is = refl;
        keeps = h.keeps;
        fate = subst (λ (n : ℕ). (T n r).after ≡ Hijack) h.count h.fits.0;
      };
    },
  )

  -- the word of a hijack is no 408
  pub hijack_untimed : (word : Word H) → IsHijack T k word → IsTimed word false
  hijack_untimed silent is = absurd is
  hijack_untimed (replies r) is = tt
  hijack_untimed (refuses f) is = absurd is
  hijack_untimed times_out is = absurd is
  hijack_untimed (hands_over r x) is = tt

  -- whatever is said stands behind more bytes too, where what a hijacker says to the rest goes on in what it says to more
  pub stands_more : (word : Word H) (rest lacks more : List ℕ) → IsTimed word false
      → ((h : H) → (longer : List ℕ) × (tail_of V h (rest ++ more) over ≡ tail_of V h rest over ++ longer))
      → Stands V T over given sent k word rest lacks → (left : List ℕ) × Stands V T over (given ++ more) sent k word (rest ++ more) left
  stands_more silent rest lacks more timed longer h = (
    lacks,
    record {
      whole = h.whole;
      count = h.count;
      asks = asks_more (h.whole ++ []) given rest more h.asks;
      keeps = h.keeps;
      part = h.part;
      sent_is = h.sent_is;
      part_is = h.part_is;
      fits = tt;
    },
  )
  stands_more (replies r) rest lacks more timed longer h = (
    lacks,
    record {
      whole = h.whole;
      count = h.count;
      asks = asks_more (h.whole ++ r ∷ []) given rest more h.asks;
      keeps = h.keeps;
      part = h.part;
      sent_is = h.sent_is;
      part_is = h.part_is;
      fits = tt;
    },
  )
  stands_more (refuses f) rest lacks more timed longer h = (
    lacks,
    record {
      whole = h.whole;
      count = h.count;
      asks = asks_more (h.whole ++ []) given rest more h.asks;
      keeps = h.keeps;
      part = h.part;
      sent_is = h.sent_is;
      part_is = h.part_is;
      fits = refusal_stays rest more f h.fits;
    },
  )
  stands_more times_out rest lacks more timed longer h = absurd (false≢true timed)
  stands_more (hands_over r x) rest lacks more timed longer h =
      let on : (longer : List ℕ) × (tail_of V x (rest ++ more) over ≡ tail_of V x rest over ++ longer) = longer x in
      (lacks ++ on.0, goes_further V T over over given sent k r x rest lacks more on.0 h on.1)

-- a read that failed before all was said is an end where a hijack stands
pub failure_ends : {H : Type 0} (V : Voice H) (T : Teller H) (p : Past) → FailsReading V T p → EndsBy why.ReadFailed V T p
failure_ends {H} V T p e = (e.0, ⊎_elim (λ w. inl w) (λ l. inr (taken l)) e.1)
  where
    taken : LacksToHijack V T p → (lacks : List ℕ) × Lacks V T p lacks × IsHandedOver T p.given
    taken l = (
      l.lacks,
      record { word = l.word; partly = l.partly },
      hijack_stops V T p.over p.given p.sent l.partly.k l.word l.partly.rest l.lacks l.partly.stands l.taken,
    )
