-- What was sent for the requests that were run, and for those from some number on.
use Rattle.std.proofs.Common.{◌≡◌, ◌≢◌, ℕ, zero, suc, ◌+◌, ◌<◌, ◌≤◌, Bool, List, [], ◌∷◌, ◌++◌, length, refl, sym, ap, subst, ◌∙◌, append_assoc, arith, length-append, Option, Some, ◌⊎◌, inl, inr, ⊎_elim, ltb}
use Rattle.std.proofs.lemmas.List.{append-nil, append_cancel_left, nil_from_length}
use Rattle.std.proofs.lemmas.Bool.Decides.{nat_tests}
use Rattle.std.specs.Prelude.{nat_lt, true, false}
use Rattle.rack_types.specs.declared.fault.Fault.TheVariants.{T1}
use Rattle.rack_types.specs.Request.{Parts}
use Rattle.message_framing.specs.Request.{Begun}
use Rattle.hijack_core.specs.Said.{Starts}
use Rattle.reply_framing.specs.declared.types.After.{After}
use Rattle.reply_framing.specs.declared.types.After.TheVariants.{Keep, Hijack}
use Rattle.reply_framing.specs.Fault.{fault_reply}
use Rattle.talk_core.specs.Answered.{SentFor, SentOf, SentSince}
use Rattle.talk_core.specs.Ended.{Past, SentWhole, SentWholeTo}
use Rattle.talk_core.specs.Stands.{Word, silent, replies, refuses, times_out, hands_over, asked_by, text_by, Fits, Partly}
use Rattle.talk_core.specs.Tail.{Voice, tail_of}
use Rattle.talk_core.specs.Talk.{Asks, AllKeep, EndsAs, Stop, wanting, refused, closed, hijacked, StopsAs, last_word, replies_to}
use Rattle.talk_core.specs.Teller.{Teller, AgreesBelow, fates_of}
use Rattle.talk_core.proofs.CompareLemmas.{GoesFurther, GoesLess, asks_compare, keep_last}
use Rattle.talk_core.proofs.RetellLemmas.{replies_agree}
use Rattle.talk_core.proofs.TalkLemmas.{asks_more, replies_snoc, replies_append}

-- of what stands in part
pub part_sent : {H : Type 0} (V : Voice H) (T : Teller H) (over : Bool) (given sent : List ℕ) (calls : ℕ) (closing : Option ℕ) (word : Word H) (lacks : List ℕ)
    → Partly V T over given sent calls closing word lacks → SentOf V T over given sent calls
part_sent {H} V T over given sent calls closing word lacks h =
    let s = h.stands in
    let here : h.k ≡ 0 + length s.whole = omega (arith, s.count) in
    record {
      requests = s.whole ++ asked_by word;
      rest = h.rest;
      asks = s.asks;
      count = omega (arith, h.calls_is, s.count, length-append s.whole (asked_by word));
      sends = record {
        whole = s.whole;
        word = word;
        requests_are = refl;
        part = s.part;
        sent_is = s.sent_is;
        part_is = (lacks, subst (λ (n : ℕ). text_by V T over n word h.rest ≡ s.part ++ lacks) here (sym s.part_is));
        fits = subst (λ (n : ℕ). Fits T n word h.rest) here s.fits;
      };
    }

-- of what was sent whole
module _ {H : Type 0} (V : Voice H) (T : Teller H) (over : Bool) (sent rest : List ℕ) (asked : List Parts) where
  front_sent : (after : After) → EndsAs after (fates_of T) asked → sent ≡ replies_to T 0 asked ++ [] → SentFor V T over 0 asked rest sent
  front_sent after e is = record {
    whole = e.front;
    word = replies e.last;
    requests_are = e.asked_is;
    part = (T (0 + length e.front) e.last).bytes;
    sent_is = is ∙ append-nil (replies_to T 0 asked) ∙ ap (replies_to T 0) e.asked_is ∙ replies_snoc T e.front 0 e.last;
    part_is = ([], sym (append-nil (T (0 + length e.front) e.last).bytes));
    fits = tt;
  }

  stop_sent : (stop : Stop) → StopsAs stop (fates_of T) asked rest → sent ≡ replies_to T 0 asked ++ last_word stop → SentFor V T over 0 asked rest sent
  stop_sent wanting s is = record {
    whole = asked;
    word = silent;
    requests_are = sym (append-nil asked);
    part = [];
    sent_is = is;
    part_is = ([], refl);
    fits = tt;
  }
  stop_sent (refused f) s is = record {
    whole = asked;
    word = refuses f;
    requests_are = sym (append-nil asked);
    part = fault_reply f;
    sent_is = is;
    part_is = ([], sym (append-nil (fault_reply f)));
    fits = s.1;
  }
  stop_sent closed s is = front_sent _ s is
  stop_sent hijacked s is = front_sent _ s is

pub whole_sent_of : {H : Type 0} (V : Voice H) (T : Teller H) (p : Past) (stop : Stop) (rest said : List ℕ) → SentWhole T p stop rest said → p.sent ≡ said
    → SentOf V T p.over p.given p.sent p.calls
whole_sent_of {H} V T p stop rest said h is = record {
  requests = h.asked;
  rest = rest;
  asks = h.talk.asks;
  count = h.calls_is;
  sends = stop_sent V T p.over p.sent rest h.asked stop h.talk.stops (is ∙ h.said_is);
}

-- and the reply that a request took too long
pub timed_sent : {H : Type 0} (V : Voice H) (T : Teller H) (p : Past) (rest said : List ℕ) → SentWhole T p wanting rest said → Begun rest
    → p.sent ≡ said ++ fault_reply T1 → SentOf V T p.over p.given p.sent p.calls
timed_sent {H} V T p rest said h begun is = record {
  requests = h.asked;
  rest = rest;
  asks = h.talk.asks;
  count = h.calls_is;
  sends = record {
    whole = h.asked;
    word = times_out;
    requests_are = sym (append-nil h.asked);
    part = fault_reply T1;
    sent_is = is ∙ ap (λ (x : List ℕ). x ++ fault_reply T1) (h.said_is ∙ append-nil (replies_to T 0 h.asked));
    part_is = ([], sym (append-nil (fault_reply T1)));
    fits = (h.talk.stops.1, begun);
  };
}

-- and what a hijacker said
pub handed_sent : {H : Type 0} (V : Voice H) (T : Teller H) (p : Past) (h : H) (rest said : List ℕ) → SentWholeTo T p h rest said
    → p.sent ≡ said ++ tail_of V h rest p.over → SentOf V T p.over p.given p.sent p.calls
handed_sent {H} V T p h rest said w is =
    let e = w.whole.talk.stops in
    let k : ℕ = 0 + length e.front in
    let here : length e.front ≡ k = omega arith in
    let bytes : List ℕ = (T k e.last).bytes in
    record {
      requests = w.whole.asked;
      rest = rest;
      asks = w.whole.talk.asks;
      count = w.whole.calls_is;
      sends = record {
        whole = e.front;
        word = hands_over e.last h;
        requests_are = e.asked_is;
        part = bytes ++ tail_of V h rest p.over;
        sent_is = is
            ∙ ap (λ (x : List ℕ). x ++ tail_of V h rest p.over)
            (w.whole.said_is ∙ append-nil (replies_to T 0 w.whole.asked) ∙ ap (replies_to T 0) e.asked_is ∙ replies_snoc T e.front 0 e.last)
            ∙ append_assoc (replies_to T 0 e.front) bytes (tail_of V h rest p.over);
        part_is = ([], sym (append-nil (bytes ++ tail_of V h rest p.over)));
        fits = (
          subst (λ (n : ℕ). (T n e.last).after ≡ Hijack) here e.fate,
          subst (λ (n : ℕ). (T n e.last).hijacker ≡ Some h) here w.hijacker,
        );
      };
    }

-- one list in two parts, twice: the longer front goes on from the shorter one
pub split_front : {A : Type 0} (xs ys zs ws : List A) → xs ++ ys ≡ zs ++ ws → length xs ≤ length zs → (more : List A) × (zs ≡ xs ++ more) × (ys ≡ more ++ ws)
split_front {A} [] ys zs ws e few = (zs, refl, e)
split_front {A} (x ∷ xs) ys [] ws e few = absurd (omega (arith, few))
split_front {A} (x ∷ xs) ys (z ∷ zs) ws e few =
    let tails : xs ++ ys ≡ zs ++ ws = cc in
    let next : length xs ≤ length zs = omega (arith, few) in
    let m = split_front xs ys zs ws tails next in
    let same : x ≡ z = cc in
    (m.0, ap (λ (y : A). y ∷ zs) (sym same) ∙ ap (λ (ts : List A). x ∷ ts) m.1, m.2)

some_hijack : (a : After) → a ≡ Keep → a ≡ Hijack → ⊥
some_hijack a x y = cc

module _ {H : Type 0} (V : Voice H) (T U : Teller H) (over : Bool) (first : ℕ) (before more : List ℕ) (earlier fresh : List Parts) (rest : List ℕ)
    (first_is : first ≡ length earlier) (keeps : AllKeep (fates_of T) 0 earlier) (before_is : before ≡ replies_to T 0 earlier)
    (same : AgreesBelow first T U) where
  -- what was sent before, by the later replies
  before_as : before ≡ replies_to U 0 earlier
  before_as = before_is ∙ replies_agree T U earlier 0 (λ i lt r. same i (omega (arith, lt, first_is)) r)

  -- these were answered whole, and more than those before
  since_more : (whole : List Parts) (word : Word H) (part : List ℕ) → earlier ++ fresh ≡ whole ++ asked_by word → before ++ more ≡ replies_to U 0 whole ++ part
      → Starts part (text_by V U over (0 + length whole) word rest) → Fits U (0 + length whole) word rest → first ≤ length whole
      → SentFor V U over first fresh rest more
  since_more whole word part split is part_is fits few =
      let m = split_front earlier fresh whole (asked_by word) split (omega (arith, few, first_is)) in
      let size : length whole ≡ length earlier + length m.0 = ap length m.1 ∙ length-append earlier m.0 in
      let here : 0 + length whole ≡ first + length m.0 = omega (arith, size, first_is) in
      let start : 0 + length earlier ≡ first = omega (arith, first_is) in
      let all : before ++ more ≡ before ++ (replies_to U first m.0 ++ part) =
      is ∙ ap (λ (rs : List Parts). replies_to U 0 rs ++ part) m.1
      ∙ ap (λ (x : List ℕ). x ++ part) (replies_append U earlier m.0 0)
      ∙ ap (λ (n : ℕ). (replies_to U 0 earlier ++ replies_to U n m.0) ++ part) start
      ∙ append_assoc (replies_to U 0 earlier) (replies_to U first m.0) part
      ∙ ap (λ (x : List ℕ). x ++ (replies_to U first m.0 ++ part)) (sym before_as) in
      record {
        whole = m.0;
        word = word;
        requests_are = m.2;
        part = part;
        sent_is = append_cancel_left before more (replies_to U first m.0 ++ part) all;
        part_is = subst (λ (n : ℕ). Starts part (text_by V U over n word rest)) here part_is;
        fits = subst (λ (n : ℕ). Fits U n word rest) here fits;
      }

  -- nothing more was
  nothing_since : fresh ≡ [] → more ≡ [] → SentFor V U over first fresh rest more
  nothing_since none no_more =
      record { whole = []; word = silent; requests_are = none; part = []; sent_is = no_more; part_is = ([], refl); fits = tt }

  -- the last of those before was answered whole then: nothing of it is sent since
  since_last : (whole : List Parts) (r : Parts) (part lacks : List ℕ) → fresh ≡ [] → earlier ≡ whole ++ r ∷ [] → before ++ more ≡ replies_to U 0 whole ++ part
      → (U (0 + length whole) r).bytes ≡ part ++ lacks → SentFor V U over first fresh rest more
  since_last whole r part lacks none last is part_is =
      let bytes : List ℕ = (U (0 + length whole) r).bytes in
      let front : before ≡ replies_to U 0 whole ++ bytes = before_as ∙ ap (replies_to U 0) last ∙ replies_snoc U whole 0 r in
      let both : replies_to U 0 whole ++ (bytes ++ more) ≡ replies_to U 0 whole ++ part =
      sym (append_assoc (replies_to U 0 whole) bytes more) ∙ ap (λ (x : List ℕ). x ++ more) (sym front) ∙ is in
      let here : bytes ++ more ≡ part = append_cancel_left (replies_to U 0 whole) (bytes ++ more) part both in
      let nil : length more ≡ 0 = omega (arith, ap length here, ap length part_is, length-append part lacks, length-append bytes more) in
      nothing_since none (nil_from_length more nil)

  -- of all that was sent
  pub since : SentFor V U over 0 (earlier ++ fresh) rest (before ++ more) → SentFor V U over first fresh rest more
  since h = go (nat_lt (length h.whole) first) refl
    where
      less : (word : Word H) → length h.whole < first → earlier ++ fresh ≡ h.whole ++ asked_by word → Starts h.part (text_by V U over (0 + length h.whole) word rest)
          → Fits U (0 + length h.whole) word rest → SentFor V U over first fresh rest more
      less word few split part_is fits = by word split part_is fits
        where
          -- there is one more
          one : (r : Parts) → earlier ++ fresh ≡ h.whole ++ r ∷ [] → (fresh ≡ []) × (earlier ≡ h.whole ++ r ∷ [])
          one r e =
              let sizes : length earlier + length fresh ≡ length h.whole + 1 =
              sym (length-append earlier fresh) ∙ ap length e ∙ length-append h.whole (r ∷ []) in
              let none : fresh ≡ [] = nil_from_length fresh (omega (arith, sizes, few, first_is)) in
              (none, sym (append-nil earlier) ∙ ap (λ (xs : List Parts). earlier ++ xs) (sym none) ∙ e)

          none : earlier ++ fresh ≡ h.whole ++ [] → ⊥
          none e = omega (arith, ap length e, length-append earlier fresh, length-append {A = Parts} h.whole [], few, first_is)

          by : (w : Word H) → earlier ++ fresh ≡ h.whole ++ asked_by w → Starts h.part (text_by V U over (0 + length h.whole) w rest)
              → Fits U (0 + length h.whole) w rest → SentFor V U over first fresh rest more
          by silent e starts f = absurd (none e)
          by (replies r) e starts f = let o = one r e in since_last h.whole r h.part starts.0 o.0 o.1 h.sent_is starts.1
          by (refuses g) e starts f = absurd (none e)
          by times_out e starts f = absurd (none e)
          by (hands_over r x) e starts f =
              let o = one r e in
              let kept : (T (0 + length h.whole) r).after ≡ Keep =
              keep_last (fates_of T) h.whole r 0 (subst (λ (rs : List Parts). AllKeep (fates_of T) 0 rs) o.1 keeps) in
              let as_later : (T (0 + length h.whole) r) ≡ (U (0 + length h.whole) r) = same (0 + length h.whole) (omega (arith, few)) r in
              absurd (some_hijack (U (0 + length h.whole) r).after (subst (λ w. w.after ≡ Keep) as_later kept) f.0)

      go : (b : Bool) → nat_lt (length h.whole) first ≡ b → SentFor V U over first fresh rest more
      go true is =
          let few : length h.whole < first = grind (arith, nat_tests, is) in less h.word few h.requests_are h.part_is h.fits
      go false is =
          let enough : first ≤ length h.whole = grind (arith, nat_tests, is) in
          since_more h.whole h.word h.part h.requests_are h.sent_is h.part_is h.fits enough

-- what was sent since so many requests were answered whole
pub sent_since : {H : Type 0} (V : Voice H) (T U : Teller H) (over : Bool) (given came before more : List ℕ) (first calls : ℕ) (earlier : List Parts) (behind : List ℕ)
    → Asks given earlier behind → first ≡ length earlier → AllKeep (fates_of T) 0 earlier → before ≡ replies_to T 0 earlier → AgreesBelow first T U → first ≤ calls
    → SentOf V U over (given ++ came) (before ++ more) calls → SentSince V U over (given ++ came) before (before ++ more) first calls
sent_since {H} V T U over given came before more first calls earlier behind asks first_is keeps before_is same few h =
    ⊎_elim further less (asks_compare earlier h.requests (given ++ came) (behind ++ came) h.rest (asks_more earlier given behind came asks) h.asks)
  where
    further : GoesFurther earlier h.requests (behind ++ came) h.rest → SentSince V U over (given ++ came) before (before ++ more) first calls
    further f = record {
      earlier = earlier;
      requests = f.more;
      rest = h.rest;
      asks = subst (λ (rs : List Parts). Asks (given ++ came) rs h.rest) f.longer h.asks;
      first_is = first_is;
      count = omega (arith, h.count, ap length f.longer, length-append earlier f.more, first_is);
      more = more;
      sent_is = refl;
      sends = since V T U over first before more earlier f.more h.rest first_is keeps before_is same
          (subst (λ (rs : List Parts). SentFor V U over 0 rs h.rest (before ++ more)) f.longer h.sends);
    }

    less : GoesLess earlier h.requests (behind ++ came) h.rest → SentSince V U over (given ++ came) before (before ++ more) first calls
    less f = absurd (omega (arith, h.count, ap length f.longer, length-append h.requests (f.next ∷ f.more), first_is, few))
