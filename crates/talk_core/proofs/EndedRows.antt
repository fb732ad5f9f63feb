-- Ends of small connections: what each why asks, at its boundaries.
use Rattle.std.proofs.Common.{◌≡◌, ◌≢◌, ℕ, Bool, true, false, List, [], ◌∷◌, ◌++◌, length, refl, sym, ap, subst, ◌∙◌, arith, None, Some, inl, inr, length-append}
use Rattle.std.proofs.lemmas.Bool.{false≢true}
use Rattle.rack_types.specs.declared.fault.Fault.{Fault}
use Rattle.rack_types.specs.declared.fault.Fault.TheVariants.{T1}
use Rattle.rack_types.specs.Request.{Parts}
use Rattle.message_framing.specs.Request.{IsRequest, Refusal, Wanting, Begun}
use Rattle.message_framing.proofs.CallerLemmas.{begins_whole, wanting_nil}
use Rattle.reply_framing.specs.declared.types.After.TheVariants.{Hijack}
use Rattle.reply_framing.specs.Fault.{fault_reply}
use Rattle.reply_framing.proofs.CallerLemmas.{fault_some}
use Rattle.rack_outside.specs.Link.{Seen}
use Rattle.talk_core.specs.declared.ended.Ended.{Ended}
use Rattle.talk_core.specs.declared.ended.IdleBy.TheVariants.{Clock, Drain}
use Rattle.talk_core.specs.declared.ended.Why.TheVariants as why
use Rattle.talk_core.specs.Answer.{IsHandedOver}
use Rattle.talk_core.specs.Ended.{Past, SentWhole, SentWholeTo, Lacks, IsClosed, IsUntaken, past_of, NeedsDrain, EndsBy, AreEndedLives, IsTimed, WhyByDrain}
use Rattle.talk_core.specs.Stands.{Word, silent, replies, refuses, times_out, hands_over, Stands}
use Rattle.talk_core.specs.Tail.{Voice}
use Rattle.talk_core.specs.Talk.{Asks, Stop, wanting, refused, closed, hijacked, Talk, text}
use Rattle.talk_core.specs.Teller.{Teller, fates_of}
use Rattle.talk_core.proofs.CompareLemmas.{one_talk}

-- a connection that was given and sent these bytes, and ran nothing
abbrev had : List ℕ → List ℕ → Bool → ℕ → ℕ → Past
had given sent over failed_reads failed_writes = record {
  given = given;
  sent = sent;
  over = over;
  failed_reads = failed_reads;
  failed_writes = failed_writes;
  calls = 0;
  told = 0;
  closing = None;
}

-- where no byte came no request is asked, nothing is refused, and no request is begun
none_asked : (r : Parts) (rs : List Parts) (rest : List ℕ) → Asks [] (r ∷ rs) rest → ⊥
none_asked r rs rest a = none a.0 a.3 (sym a.2)
  where
    none : (front : List ℕ) → IsRequest front r → front ++ a.1 ≡ [] → ⊥
    none [] is e = wanting_nil.0 (length {A = ℕ} []) r (begins_whole [] r is)
    none (x ∷ xs) is e = cc

none_asked_last : (rs : List Parts) (r : Parts) (rest : List ℕ) → Asks [] (rs ++ r ∷ []) rest → ⊥
none_asked_last [] r rest a = none_asked r [] rest a
none_asked_last (q ∷ rs) r rest a = none_asked q (rs ++ r ∷ []) rest a

none_begun : ¬ (Begun [])
none_begun b = omega (arith, b)

none_refused : (rs : List Parts) (rest : List ℕ) (f : Fault) → Asks [] rs rest → Refusal rest f → ⊥
none_refused [] rest f a is = wanting_nil.1 f (subst (λ (b : List ℕ). Refusal b f) (sym a) is)
none_refused (r ∷ rs) rest f a is = none_asked r rs rest a

some_reply : (f : Fault) → fault_reply f ≢ []
some_reply f e = omega (arith, fault_some f, ap length e)

module _ {H : Type 0} (V : Voice H) (T : Teller H) where
  -- all was said of a connection on which nothing whole stands
  all_said : (b sent : List ℕ) (over : Bool) (n m : ℕ) → Wanting b → SentWhole T (had b sent over n m) wanting b []
  all_said b sent over n m none = record { asked = []; talk = record { asks = refl; stops = (tt, none) }; calls_is = refl; said_is = refl; closes = tt }

  -- the reply that names a refusal is said
  said_of : (b : List ℕ) (f : Fault) (sent lacks : List ℕ) (over : Bool) (n m : ℕ) → Refusal b f → sent ++ lacks ≡ fault_reply f
      → Lacks V T (had b sent over n m) lacks
  said_of b f sent lacks over n m is e = record {
    word = refuses f;
    partly = record {
      k = 0;
      rest = b;
      calls_is = refl;
      stands = record { whole = []; count = refl; asks = refl; keeps = tt; part = sent; sent_is = refl; part_is = e; fits = is };
      closes = tt;
    };
  }

  -- where no byte came nothing lacks
  nothing_lacks : (sent rest lacks : List ℕ) (over : Bool) (k : ℕ) (word : Word H) → Stands V T over [] sent k word rest lacks → lacks ≡ []
  nothing_lacks sent rest lacks over k silent h = tail h.part h.part_is
    where
      tail : (part : List ℕ) → part ++ lacks ≡ [] → lacks ≡ []
      tail [] e = e
      tail (x ∷ xs) e = absurd (cc e)
  nothing_lacks sent rest lacks over k (replies r) h = absurd (none_asked_last h.whole r rest h.asks)
  nothing_lacks sent rest lacks over k (refuses f) h = absurd (none_refused (h.whole ++ []) rest f h.asks h.fits)
  nothing_lacks sent rest lacks over k times_out h = absurd (none h.whole h.asks)
    where
      none : (rs : List Parts) → Asks [] (rs ++ []) rest → ⊥
      none [] a = none_begun (subst Begun (sym a) h.fits.1)
      none (r ∷ rs) a = none_asked r (rs ++ []) rest a
  nothing_lacks sent rest lacks over k (hands_over r x) h = absurd (none_asked_last h.whole r rest h.asks)

  -- Closed: the reply to a refusal was sent whole. Not where no byte came
  closed_behind_a_refusal : (b : List ℕ) (f : Fault) → Refusal b f → EndsBy why.Closed V T (had b (fault_reply f) false 0 0)
  closed_behind_a_refusal b f is = (
    refused f,
    b,
    tt,
    record { asked = []; talk = record { asks = refl; stops = (tt, is) }; calls_is = refl; said_is = refl; closes = tt },
  )

  not_closed_at_once : (sent : List ℕ) → ¬ (EndsBy why.Closed V T (had [] sent false 0 0))
  not_closed_at_once sent e = none e.0 e.2 e.3
    where
      none : (stop : Stop) → IsClosed stop → SentWhole T (had [] sent false 0 0) stop e.1 sent → ⊥
      none wanting is s = is
      none (refused f) is s = none_refused s.asked e.1 f s.talk.asks s.talk.stops.1
      none closed is s =
          none_asked_last s.talk.stops.front s.talk.stops.last e.1
          (subst (λ (rs : List Parts). Asks [] rs e.1) s.talk.stops.asked_is s.talk.asks)
      none hijacked is s = is

  -- PeerEnd: exactly where the end was read
  ended_at_once : EndsBy why.PeerEnd V T (had [] [] true 0 0)
  ended_at_once = ([], all_said [] [] true 0 0 wanting_nil, refl)

  not_ended : (given sent : List ℕ) → ¬ (EndsBy why.PeerEnd V T (had given sent false 0 0))
  not_ended given sent e = false≢true e.2

  -- Idle by the clock: 20,000 ms, and no request is begun
  idle : EndsBy (why.Idle (Clock 7 20007)) V T (had [] [] false 0 0)
  idle = ([], all_said [] [] false 0 0 wanting_nil, none_begun, omega arith)

  not_idle_yet : (p : Past) → ¬ (EndsBy (why.Idle (Clock 7 20006)) V T p)
  not_idle_yet p e = omega (arith, e.3)

  -- Idle by a drain: bytes came, and a level was told
  idle_by_drain : (b : List ℕ) → b ≢ [] → Wanting b → ¬ (Begun b) → EndsBy (why.Idle (Drain 1)) V T (had b [] false 0 0)
  idle_by_drain b some none lines = (b, all_said b [] false 0 0 none, lines, (some, omega arith))

  not_idle_unread : (sent : List ℕ) → ¬ (EndsBy (why.Idle (Drain 1)) V T (had [] sent false 0 0))
  not_idle_unread sent e = e.3.0 refl

  not_idle_untold : (p : Past) → ¬ (EndsBy (why.Idle (Drain 0)) V T p)
  not_idle_untold p e = omega (arith, e.3.1)

  -- TimedOut: 30,000 ms, a request is begun, and the reply that says so was sent
  timed_out : (b : List ℕ) → Wanting b → Begun b → EndsBy (why.TimedOut 7 30007) V T (had b (fault_reply T1) false 0 0)
  timed_out b none begun = (b, [], all_said b (fault_reply T1) false 0 0 none, begun, refl, omega arith)

  not_timed_out_yet : (p : Past) → ¬ (EndsBy (why.TimedOut 7 30006) V T p)
  not_timed_out_yet p e = omega (arith, e.5)

  not_timed_out_silently : (b : List ℕ) → ¬ (EndsBy (why.TimedOut 7 30007) V T (had b [] false 0 0))
  not_timed_out_silently b e = omega (arith, fault_some T1, ap length e.4, length-append e.1 (fault_reply T1))

  not_timed_out_unbegun : (sent : List ℕ) → ¬ (EndsBy (why.TimedOut 7 30007) V T (had [] sent false 0 0))
  not_timed_out_unbegun sent e = unbegun e.2.asked e.2.talk.asks
    where
      unbegun : (rs : List Parts) → Asks [] rs e.0 → ⊥
      unbegun [] a = none_begun (subst Begun (sym a) e.3)
      unbegun (r ∷ rs) a = none_asked r rs e.0 a

  -- Stalled: 10,000 ms, and something lacks
  stalled : (b : List ℕ) (f : Fault) → Refusal b f → EndsBy (why.Stalled 7 10007) V T (had b [] false 0 0)
  stalled b f is = (fault_reply f, said_of b f [] (fault_reply f) false 0 0 is refl, some_reply f, omega arith)

  not_stalled_yet : (p : Past) → ¬ (EndsBy (why.Stalled 7 10006) V T p)
  not_stalled_yet p e = omega (arith, e.3)

  not_stalled_silent : (sent : List ℕ) → ¬ (EndsBy (why.Stalled 7 10007) V T (had [] sent false 0 0))
  not_stalled_silent sent e =
      let p = e.1.partly in e.2 (nothing_lacks sent p.rest e.0 false p.k e.1.word p.stands)

  -- Unread: no byte came, and a level was told
  unread : EndsBy (why.Unread 1) V T (had [] [] false 0 0)
  unread = (refl, refl, refl, refl, omega arith)

  not_unread_untold : (p : Past) → ¬ (EndsBy (why.Unread 0) V T p)
  not_unread_untold p e = omega (arith, e.4)

  not_unread_behind_a_byte : (x : ℕ) (given sent : List ℕ) → ¬ (EndsBy (why.Unread 1) V T (had (x ∷ given) sent false 0 0))
  not_unread_behind_a_byte x given sent e = let none : x ∷ given ≡ [] = e.0 in cc

  -- ReadFailed: a read failed, and all was said
  read_failed : EndsBy why.ReadFailed V T (had [] [] false 1 0)
  read_failed = (omega arith, inl (wanting, [], tt, all_said [] [] false 1 0 wanting_nil))

  no_read_failed : (given sent : List ℕ) → ¬ (EndsBy why.ReadFailed V T (had given sent false 0 1))
  no_read_failed given sent e = omega (arith, e.0)

  -- and not where something lacks of a talk that didn't stop at a hijack
  not_read_failed_short : (b : List ℕ) (f : Fault) → Refusal b f → ¬ (EndsBy why.ReadFailed V T (had b [] false 1 0))
  not_read_failed_short b f is e =
      let talk : Talk (fates_of T) b [] (refused f) b = record { asks = refl; stops = (tt, is) } in
      elim e.1 [
        | inl w ↦
            let same = one_talk (fates_of T) b w.3.asked [] w.0 (refused f) w.1 b w.3.talk talk in
            some_reply f (sym (w.3.said_is ∙ ap (λ (rs : List Parts). text T rs w.0) same.0 ∙ ap (λ (stop : Stop). text T [] stop) same.1))
        | inr l ↦
            let same : hijacked ≡ refused f = (one_talk (fates_of T) b l.2.0 [] hijacked (refused f) l.2.1 b l.2.2 talk).1 in
            cc
      ]

  -- WriteFailed: a write failed, and something lacks
  write_failed : (b : List ℕ) (f : Fault) → Refusal b f → EndsBy why.WriteFailed V T (had b [] false 0 1)
  write_failed b f is = (omega arith, (fault_reply f, said_of b f [] (fault_reply f) false 0 1 is refl, some_reply f))

  no_write_failed : (given sent : List ℕ) → ¬ (EndsBy why.WriteFailed V T (had given sent false 1 0))
  no_write_failed given sent e = omega (arith, e.0)

  not_failed_silent : (sent : List ℕ) → ¬ (EndsBy why.WriteFailed V T (had [] sent false 0 1))
  not_failed_silent sent e =
      let p = e.1.1.partly in e.1.2 (nothing_lacks sent p.rest e.1.0 false p.k e.1.1.word p.stands)

  -- Halted: the level is 2, whatever was said
  halted : (b : List ℕ) (f : Fault) → Refusal b f → EndsBy (why.Halted 2) V T (had b [] false 0 0)
  halted b f is = (refl, (fault_reply f, said_of b f [] (fault_reply f) false 0 0 is refl))

  not_halted_by_a_stop : (p : Past) → ¬ (EndsBy (why.Halted 1) V T p)
  not_halted_by_a_stop p e = omega (arith, e.0)

  -- NoMemory, whatever was said
  no_memory : (b : List ℕ) (f : Fault) → Refusal b f → EndsBy why.NoMemory V T (had b [] false 0 0)
  no_memory b f is = (fault_reply f, said_of b f [] (fault_reply f) false 0 0 is refl)

  -- a drain ends an idle connection by a drain, one that nothing was read of, and one that is halted
  by_drain_idle : (p : Past) → WhyByDrain (why.Idle (Drain 1)) V T p
  by_drain_idle p = tt

  by_drain_unread : (p : Past) → WhyByDrain (why.Unread 1) V T p
  by_drain_unread p = tt

  by_drain_halted : (p : Past) → WhyByDrain (why.Halted 2) V T p
  by_drain_halted p = tt

  -- and none of these
  by_itself_closed : (p : Past) → ¬ (WhyByDrain why.Closed V T p)
  by_itself_closed p e = e

  by_peer_end : (p : Past) → ¬ (WhyByDrain why.PeerEnd V T p)
  by_peer_end p e = e

  by_clock : (p : Past) → ¬ (WhyByDrain (why.Idle (Clock 7 20007)) V T p)
  by_clock p e = e

  by_time : (p : Past) → ¬ (WhyByDrain (why.TimedOut 7 30007) V T p)
  by_time p e = e

  by_stall : (p : Past) → ¬ (WhyByDrain (why.Stalled 7 10007) V T p)
  by_stall p e = e

  by_read : (p : Past) → ¬ (WhyByDrain why.ReadFailed V T p)
  by_read p e = e

  by_write : (p : Past) → ¬ (WhyByDrain why.WriteFailed V T p)
  by_write p e = e

  by_memory : (p : Past) → ¬ (WhyByDrain why.NoMemory V T p)
  by_memory p e = e

-- a drain was told, where it is needed
drain_told : NeedsDrain true 1
drain_told = omega arith

drain_untold : ¬ (NeedsDrain true 0)
drain_untold e = omega (arith, e)

no_drain_needed : NeedsDrain false 0
no_drain_needed = tt

-- one that could not be opened has no life, and nothing behind it
not_opened : AreEndedLives [] why.NoMemory (had [] [] false 0 0)
not_opened = (refl, refl, refl, refl)

given_unopened : ¬ (AreEndedLives [] why.NoMemory (had (71 ∷ []) [] false 0 0))
given_unopened e = omega (arith, ap length e.0)

said_unopened : ¬ (AreEndedLives [] why.NoMemory (had [] (72 ∷ []) false 0 0))
said_unopened e = omega (arith, ap length e.1)

ran_unopened : ¬ (AreEndedLives [] why.NoMemory (record (had [] [] false 0 0) { calls = 1 }))
ran_unopened e = omega (arith, e.2)

drained_unopened : ¬ (AreEndedLives [] why.NoMemory (record (had [] [] false 0 0) { closing = Some 0 }))
drained_unopened e = cc

closed_unopened : ¬ (AreEndedLives [] why.Closed (had [] [] false 0 0))
closed_unopened e = e

-- the 408 is said to a connection that was timed out
timed_word : IsTimed {H = Bool} times_out true
timed_word = refl

untimed_word : ¬ (IsTimed {H = Bool} times_out false)
untimed_word e = false≢true e

-- a hijacker that says each byte again and goes on, at the end says 9, and to which each reply hands the connection
abbrev on : Voice Bool
on = record { says = λ h bytes. record { bytes = bytes; go_on = true }; ends = λ h bytes. 9 ∷ [] }

abbrev hands : Teller Bool
hands k r = record { bytes = k ∷ []; rule = None; after = Hijack; hijacker = Some true }

-- a connection that was given and sent these bytes, and ran one request
abbrev ran : List ℕ → List ℕ → Bool → ℕ → Past
ran given sent over told = record {
  given = given;
  sent = sent;
  over = over;
  failed_reads = 0;
  failed_writes = 0;
  calls = 1;
  told = told;
  closing = None;
}

-- Hijacked: behind the reply it sent what the hijacker says to the bytes behind the request, and at the end
taken : (front : List ℕ) (r : Parts) (sent : List ℕ) (over : Bool) (told : ℕ) → IsRequest front r
    → SentWholeTo hands (ran (front ++ 1 ∷ 2 ∷ []) sent over told) true (1 ∷ 2 ∷ []) (0 ∷ [])
taken front r sent over told is = record {
  whole = record {
    asked = r ∷ [];
    talk = record {
      asks = (front, 1 ∷ 2 ∷ [], refl, is, refl);
      stops = record { front = []; last = r; asked_is = refl; keeps = tt; fate = refl };
    };
    calls_is = refl;
    said_is = refl;
    closes = tt;
  };
  hijacker = refl;
}

hijacked_to_the_end : (front : List ℕ) (r : Parts) → IsRequest front r
    → EndsBy why.Hijacked on hands (ran (front ++ 1 ∷ 2 ∷ []) (0 ∷ 1 ∷ 2 ∷ 9 ∷ []) true 0)
hijacked_to_the_end front r is = (true, 1 ∷ 2 ∷ [], 0 ∷ [], taken front r (0 ∷ 1 ∷ 2 ∷ 9 ∷ []) true 0 is, refl, tt)

-- before the peer's end only a drain ends one that goes on
hijacked_to_a_drain : (front : List ℕ) (r : Parts) → IsRequest front r
    → EndsBy why.Hijacked on hands (ran (front ++ 1 ∷ 2 ∷ []) (0 ∷ 1 ∷ 2 ∷ []) false 1)
hijacked_to_a_drain front r is = (true, 1 ∷ 2 ∷ [], 0 ∷ [], taken front r (0 ∷ 1 ∷ 2 ∷ []) false 1 is, refl, omega arith)

hijacked_undrained : (given sent : List ℕ) → ¬ (EndsBy why.Hijacked on hands (ran given sent false 0))
hijacked_undrained given sent e = omega (arith, e.5)

hijacked_by_drain : (front : List ℕ) (r : Parts) → IsRequest front r
    → WhyByDrain why.Hijacked on hands (ran (front ++ 1 ∷ 2 ∷ []) (0 ∷ 1 ∷ 2 ∷ []) false 1)
hijacked_by_drain front r is = (true, 1 ∷ 2 ∷ [], 0 ∷ [], taken front r (0 ∷ 1 ∷ 2 ∷ []) false 1 is, refl)

hijacked_by_itself : (given sent : List ℕ) (told : ℕ) → ¬ (WhyByDrain why.Hijacked on hands (ran given sent true told))
hijacked_by_itself given sent told e = false≢true e.4

-- ReadFailed: where the talk stops at a hijack nothing needs to be whole, and it is never a talk that was said whole
handed : (front : List ℕ) (r : Parts) → IsRequest front r → IsHandedOver hands (front ++ 1 ∷ 2 ∷ [])
handed front r is = (
  r ∷ [],
  1 ∷ 2 ∷ [],
  record {
    asks = (front, 1 ∷ 2 ∷ [], refl, is, refl);
    stops = record { front = []; last = r; asked_is = refl; keeps = tt; fate = refl };
  },
)

read_failed_behind_a_hijack : (front : List ℕ) (r : Parts) → IsRequest front r
    → EndsBy why.ReadFailed on hands (record (ran (front ++ 1 ∷ 2 ∷ []) (0 ∷ 1 ∷ []) false 0) { failed_reads = 1 })
read_failed_behind_a_hijack front r is = (
  omega arith,
  inr (
    2 ∷ [],
    record {
      word = hands_over r true;
      partly = record {
        k = 0;
        rest = 1 ∷ 2 ∷ [];
        calls_is = refl;
        stands = record {
          whole = [];
          count = refl;
          asks = (front, 1 ∷ 2 ∷ [], refl, is, refl);
          keeps = tt;
          part = 0 ∷ 1 ∷ [];
          sent_is = refl;
          part_is = refl;
          fits = (refl, refl);
        };
        closes = tt;
      };
    },
    handed front r is,
  ),
)

-- also where the request was not run yet
read_failed_before_a_hijack : (front : List ℕ) (r : Parts) → IsRequest front r
    → EndsBy why.ReadFailed on hands (had (front ++ 1 ∷ 2 ∷ []) [] false 1 0)
read_failed_before_a_hijack front r is = (
  omega arith,
  inr (
    [],
    record {
      word = silent;
      partly = record {
        k = 0;
        rest = front ++ 1 ∷ 2 ∷ [];
        calls_is = refl;
        stands = record { whole = []; count = refl; asks = refl; keeps = tt; part = []; sent_is = refl; part_is = refl; fits = tt };
        closes = tt;
      };
    },
    handed front r is,
  ),
)

hijack_is_taken : ¬ (IsUntaken hijacked)
hijack_is_taken e = e

-- what an ended connection has behind it is what its link counts and what it tells itself
past_is : {L : Type 0} (s : Seen) (e : Ended L) (given sent : List ℕ) (over : Bool) → past_of s e given sent over ≡ record {
  given = given;
  sent = sent;
  over = over;
  failed_reads = s.failed_reads;
  failed_writes = s.failed_writes;
  calls = e.calls;
  told = e.told;
  closing = e.closing;
}
past_is s e given sent over = refl
