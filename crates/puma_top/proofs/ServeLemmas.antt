-- How one connection ends, told of its source and its sink.
use Rattle.std.proofs.Common.{◌≡◌, ℕ, ◌≤◌, Bool, true, false, List, [], ◌++◌, length, take, drop, sym, ap, subst, ◌∙◌, refl, Option, None, Some, IfSome, codes, ◌⊎◌, inl, inr}
use Rattle.std.specs.Prelude.{is_some}
use Rattle.std.proofs.lemmas.List.{take-append-drop}
use Rattle.rack_types.specs.declared.peer.Local.{Local}
use Rattle.rack_outside.specs.Link.{Seen, Tells}
use Rattle.rack_outside.specs.Source.{IsPrefix, IsFront, IsWhole}
use Rattle.rack_outside.specs.Told.{Rose}
use Rattle.hijack_core.specs.declared.stock.Stock.{Stock}
use Rattle.hijack_core.specs.StockLaws.{stock-stops}
use Rattle.talk_core.specs.declared.ended.Life.{Life}
use Rattle.talk_core.specs.declared.ended.Why.{Why}
use Rattle.talk_core.specs.declared.ended.Why.TheVariants as why
use Rattle.talk_core.specs.Ended.{Past, Shows, IsClosed, IsUntaken}
use Rattle.talk_core.specs.Tail.{goes_on}
use Rattle.talk_core.specs.Talk.{Stop, wanting, refused, closed, hijacked}
use Rattle.talk_core.specs.Teller.{Teller, tell}
use Rattle.talk_core.proofs.CallerLemmas.{begins_answer, begins_less, undrained, answer_whole, answer_closed, closed_on, answer_handed, answer_stopped, stopped_on, hijack_stops, hijack_untimed}
use Rattle.conn_steps.specs.declared.moments.Ending.{Ending}
use Rattle.conn_steps.specs.Plain.{EndsPlainly, LacksPlainly}
use Rattle.conn_steps.specs.Opened.{opened, untold}
use Rattle.conn_steps.specs.Shown.{Shown}
use Rattle.conn_core.proofs.CallerLemmas.{EndsAt, PartAt, Part, told_to}
use Rattle.puma_top.specs.Once.{Site, once_peer, once_local, once_voice, stacks_of, once_lives, teller_of, AnsweredAll, AnsweredSoFar, ClosedOn, most_taken, ServedAll, ServedGiven, ServedPart, ServedLess, ServedLong}
use Rattle.puma_top.specs.Drive.{EndsSo, Drives}
use Rattle.puma_top.specs.OnceSteps.{Serves, status_by, source_of, sink_of}
use Rattle.puma_top.specs.Seen.{SourceSeen, SinkSeen}
use Rattle.puma_top.specs.declared.status.Status.{Status}
use Rattle.puma_top.proofs.LongLemmas.{AreOf, PartOnce, told, serves_long}

closed_untaken : (stop : Stop) → IsClosed stop → IsUntaken stop
closed_untaken wanting h = absurd h
closed_untaken (refused f) h = tt
closed_untaken closed h = tt
closed_untaken hijacked h = absurd h

-- what such a connection has behind it that nobody drains
abbrev past : Seen → ℕ → List ℕ → List ℕ → Bool → Past
past s calls given sent over = record {
  given = given;
  sent = sent;
  over = over;
  failed_reads = s.failed_reads;
  failed_writes = s.failed_writes;
  calls = calls;
  told = 0;
  closing = None;
}

-- how it ended
pub record EndsOnce (site : Site) (s : Seen) (calls : ℕ) (w : Why) : Type 0 where
  pub given : List ℕ
  pub sent : List ℕ
  pub over : Bool
  pub shows : Shows s once_peer given sent over
  pub ends : EndsPlainly untold w once_voice (teller_of site) (past s calls given sent over)

-- over the peer, the side and the life of once
module _ (site : Site) (s : Seen) (n : Shown) (peer : n.peer ≡ once_peer) (lives : n.lives ≡ once_lives) (local : n.local ≡ once_local site.hijack)
    (ending : n.ending ≡ untold) where
  teller_is : told_to (stacks_of site) n ≡ teller_of site
  teller_is =
      ap (λ (p : List ℕ). tell (stacks_of site) n.lives n.local p n.ending.closing) peer
      ∙ ap (λ (x : List Life). tell (stacks_of site) x n.local once_peer n.ending.closing) lives
      ∙ ap (λ (l : Local). tell (stacks_of site) once_lives l once_peer n.ending.closing) local
      ∙ ap (λ (e : Ending). tell (stacks_of site) once_lives (once_local site.hijack) once_peer e.closing) ending

  pub ended_at_once : (w : Why) → EndsAt s once_voice (told_to (stacks_of site) n) n w → EndsOnce site s n.calls w
  ended_at_once w h =
      let T : Teller Stock = told_to (stacks_of site) n in
      record {
        given = h.given;
        sent = h.sent;
        over = h.over;
        shows = subst (λ (p : List ℕ). Shows s p h.given h.sent h.over) peer h.shows;
        ends = subst (λ (t : Teller Stock). EndsPlainly untold w once_voice t (past s n.calls h.given h.sent h.over)) teller_is
            (subst (λ (e : Ending). EndsPlainly e w once_voice T
            (record (past s n.calls h.given h.sent h.over) { told = e.told; closing = e.closing })) ending h.ends);
      }

  pub part_at_once : PartAt s once_voice (told_to (stacks_of site) n) n → PartOnce site s n.calls n.owed
  part_at_once h =
      let T : Teller Stock = told_to (stacks_of site) n in
      record {
        given = h.given;
        sent = h.sent;
        over = h.over;
        shows = subst (λ (p : List ℕ). Shows s p h.given h.sent h.over) peer h.shows;
        part = subst (λ (t : Teller Stock). Part once_voice t h.over h.given h.sent n.calls None false n.owed) teller_is
            (subst (λ (e : Ending). Part once_voice T h.over h.given h.sent n.calls e.closing (is_some e.late) n.owed) ending h.part);
      }

module _ (site : Site) (s : Seen) (calls : ℕ) (source : SourceSeen) (sink : SinkSeen) (are : AreOf source sink s) where
  -- all of the input begins with what was given
  input_is : (given input : List ℕ) → IsFront s.given s.input → source.given ≡ Some given → source.input ≡ Some input
      → given ++ drop (length given) input ≡ input
  input_is given input front g i =
      ap (λ z. z ++ drop (length given) input) (sym (front given input (sym are.given ∙ g) (sym are.input ∙ i))) ∙ take-append-drop (length given) input

  -- and is that, where the peer ended
  all_is : (given input : List ℕ) (ended : Bool) → (s.over ≡ Some true → IsWhole s.given s.input) → (l : Bool) → s.over ≡ Some l → Tells s.over ended
      → ended ≡ true → source.given ≡ Some given → source.input ≡ Some input → given ≡ input
  all_is given input ended whole l e shows is g i =
      let same : l ≡ ended = subst (λ (o : Option Bool). Tells o ended) e shows in
      let over : s.over ≡ Some true = e ∙ ap Some (same ∙ is) in
      sym (whole over given input (sym are.given ∙ g) (sym are.input ∙ i))

  pub serves_closed : IsFront s.given s.input → EndsOnce site s calls why.Closed → ServedAll site source sink
  serves_closed front h =
      let p : Past = past s calls h.given h.sent h.over in
      record {
        given = h.given;
        written = h.sent;
        told = told source sink s once_peer h.given h.sent h.over are h.shows;
        answered = answer_whole once_voice (teller_of site) p h.ends.0 h.ends.1 (closed_untaken h.ends.0 h.ends.2) h.ends.3;
        whole = λ input g i. subst (λ (z : List ℕ). AnsweredAll site z h.sent) (input_is h.given input front g i)
            (answer_closed once_voice (teller_of site) p h.ends.0 h.ends.1 (drop (length h.given) input) h.ends.2 h.ends.3);
        ended = λ input g i. inr (closed_on once_voice (teller_of site) p h.ends.0 h.ends.1 h.ends.2 h.ends.3);
      }

  pub serves_end : (s.over ≡ Some true → IsWhole s.given s.input) → (l : Bool) → s.over ≡ Some l
      → EndsOnce site s calls why.PeerEnd → ServedAll site source sink
  serves_end whole l e h =
      let p : Past = past s calls h.given h.sent h.over in
      let all : AnsweredAll site h.given h.sent = answer_whole once_voice (teller_of site) p wanting h.ends.0 tt h.ends.1 in
      record {
        given = h.given;
        written = h.sent;
        told = told source sink s once_peer h.given h.sent h.over are h.shows;
        answered = all;
        whole = λ input g i. subst (λ (z : List ℕ). AnsweredAll site z h.sent) (all_is h.given input h.over whole l e h.shows.over_is h.ends.2 g i) all;
        ended = λ input g i. inl (all_is h.given input h.over whole l e h.shows.over_is h.ends.2 g i);
      }

  -- a hijacker ended it, or was told the peer's end
  pub serves_hijacked : IsFront s.given s.input → (s.over ≡ Some true → IsWhole s.given s.input) → (l : Bool) → s.over ≡ Some l
      → EndsOnce site s calls why.Hijacked → ServedAll site source sink
  serves_hijacked front whole l e h =
      let p : Past = past s calls h.given h.sent h.over in
      let x : Stock = h.ends.h in
      let rest : List ℕ = h.ends.rest in
      let last : goes_on once_voice x rest h.over ≡ false = undrained (goes_on once_voice x rest h.over) h.ends.drain in
      let all : AnsweredAll site h.given h.sent = answer_handed once_voice (teller_of site) p x rest h.ends.said h.ends.whole h.ends.sent last in
      record {
        given = h.given;
        written = h.sent;
        told = told source sink s once_peer h.given h.sent h.over are h.shows;
        answered = all;
        whole = λ input g i. over_input h.over refl all last input g i;
        ended = λ input g i. over_ended h.over refl last input g i;
      }
    where
      over_input : (b : Bool) → h.over ≡ b → AnsweredAll site h.given h.sent → goes_on once_voice h.ends.h h.ends.rest h.over ≡ false → (input : List ℕ)
          → source.given ≡ Some h.given → source.input ≡ Some input → AnsweredAll site input h.sent
      over_input true is all last input g i =
          subst (λ (z : List ℕ). AnsweredAll site z h.sent) (all_is h.given input h.over whole l e h.shows.over_is is g i) all
      over_input false is all last input g i =
          let more : List ℕ = drop (length h.given) input in
          let stopped : goes_on once_voice h.ends.h h.ends.rest false ≡ false = subst (λ (o : Bool). goes_on once_voice h.ends.h h.ends.rest o ≡ false) is last in
          subst (λ (z : List ℕ). AnsweredAll site z h.sent) (input_is h.given input front g i)
          (answer_stopped once_voice (teller_of site) (past s calls h.given h.sent h.over) h.ends.h h.ends.rest h.ends.said more h.ends.whole h.ends.sent stopped
          (stock-stops h.ends.h h.ends.rest more stopped))

      over_ended : (b : Bool) → h.over ≡ b → goes_on once_voice h.ends.h h.ends.rest h.over ≡ false → (input : List ℕ)
          → source.given ≡ Some h.given → source.input ≡ Some input → (h.given ≡ input) ⊎ ClosedOn site h.given
      over_ended true is last input g i = inl (all_is h.given input h.over whole l e h.shows.over_is is g i)
      over_ended false is last input g i =
          inr (stopped_on once_voice (teller_of site) (past s calls h.given h.sent h.over) h.ends.h h.ends.rest h.ends.said h.ends.whole
          (subst (λ (o : Bool). goes_on once_voice h.ends.h h.ends.rest o ≡ false) is last))

  pub serves_given : EndsOnce site s calls why.ReadFailed → ServedGiven site source sink
  serves_given h =
      let T : Teller Stock = teller_of site in
      let p : Past = past s calls h.given h.sent h.over in
      let all : AnsweredSoFar site h.given h.sent = elim h.ends.1 [
        | inl x ↦ inl (answer_whole once_voice T p x.0 x.1 x.2 x.3)
        | inr x ↦ inr (
          hijack_stops once_voice T h.over h.given h.sent x.partly.k x.word x.partly.rest x.lacks x.partly.stands x.taken,
          begins_answer once_voice T h.over h.given h.sent calls None x.word x.lacks x.partly
              (hijack_untimed once_voice T h.over h.given h.sent x.partly.k x.word x.taken),
        )
      ] in
      record { given = h.given; written = h.sent; told = told source sink s once_peer h.given h.sent h.over are h.shows; answered = all }

  pub serves_less : EndsOnce site s calls why.WriteFailed → ServedLess site source sink
  serves_less h =
      let x : LacksPlainly false once_voice (teller_of site) (past s calls h.given h.sent h.over) h.ends.1.0 = h.ends.1.1 in
      record {
        given = h.given;
        written = h.sent;
        told = told source sink s once_peer h.given h.sent h.over are h.shows;
        begins = begins_less once_voice (teller_of site) h.over h.given h.sent calls None x.word h.ends.1.0 h.ends.1.2 x.partly x.untimed;
      }

  pub serves_part : EndsOnce site s calls why.NoMemory → ServedPart site source sink
  serves_part h =
      let x : LacksPlainly false once_voice (teller_of site) (past s calls h.given h.sent h.over) h.ends.0 = h.ends.1 in
      record {
        given = h.given;
        written = h.sent;
        told = told source sink s once_peer h.given h.sent h.over are h.shows;
        begins = begins_answer once_voice (teller_of site) h.over h.given h.sent calls None x.word h.ends.0 x.partly x.untimed;
      }

rose_of : (x y a b : ℕ) → a ≡ x → b ≡ y → Rose x y → Rose a b
rose_of x y a b e f h = subst (λ (i : ℕ). Rose i b) (sym e) (subst (λ (j : ℕ). Rose x j) (sym f) h)

-- and then the status tells how
module _ (site : Site) (before s : Seen) (calls : ℕ) (old_source source : SourceSeen) (old_sink sink : SinkSeen)
    (were : AreOf old_source old_sink before) (are : AreOf source sink s) (front : IsFront s.given s.input)
    (whole : s.over ≡ Some true → IsWhole s.given s.input) (l : Bool) (over : s.over ≡ Some l) where
  pub serves_by : (w : Why) → EndsSo (Some w) before s → EndsOnce site s calls w
      → Serves (status_by w) site old_source old_sink source sink
  serves_by why.Closed e h = serves_closed site s calls source sink are front h
  serves_by why.PeerEnd e h = serves_end site s calls source sink are whole l over h
  serves_by (why.Idle by) e h = absurd e
  serves_by (why.TimedOut since moment) e h = absurd e
  serves_by (why.Stalled since moment) e h = absurd e
  serves_by (why.Unread level) e h = absurd e
  serves_by why.ReadFailed e h =
      (rose_of before.failed_reads s.failed_reads old_source.faults source.faults were.faults are.faults e, serves_given site s calls source sink are h)
  serves_by why.WriteFailed e h =
      (rose_of before.failed_writes s.failed_writes old_sink.faults sink.faults were.unwritten are.unwritten e, serves_less site s calls source sink are h)
  serves_by (why.Halted level) e h = absurd e
  serves_by why.NoMemory e h = inr (serves_part site s calls source sink are h)
  serves_by why.Hijacked e h = serves_hijacked site s calls source sink are front whole l over h

are_of : (s : Seen) → AreOf (source_of s) (sink_of s) s
are_of s = record { input = refl; given = refl; faults = refl; written = refl; unwritten = refl }

-- a connection that was driven from its start
module _ (site : Site) (o n : Shown) (before s : Seen) (start : o ≡ opened once_peer (once_local site.hijack) 0 0) (d : Drives o n before s) where
  peer_is : n.peer ≡ once_peer
  peer_is = d.moved.peer ∙ ap (λ (x : Shown). x.peer) start

  local_is : n.local ≡ once_local site.hijack
  local_is = d.moved.local ∙ ap (λ (x : Shown). x.local) start

  lives_is : n.lives ≡ once_lives
  lives_is = d.moved.lives ∙ ap (λ (x : Shown). x.lives) start

  ending_is : n.ending ≡ untold
  ending_is = d.ending ∙ ap (λ (x : Shown). x.ending) start

  -- to its end
  pub talked : IsFront s.given s.input → (s.over ≡ Some true → IsWhole s.given s.input) → (l : Bool) → s.over ≡ Some l
      → (w : Why) → n.why ≡ Some w → EndsAt s once_voice (told_to (stacks_of site) n) n w
      → Serves (status_by w) site (source_of before) (sink_of before) (source_of s) (sink_of s)
  talked front whole l over w e h =
      serves_by site before s n.calls (source_of before) (source_of s) (sink_of before) (sink_of s) (are_of before) (are_of s) front whole l over w
      (subst (λ (x : Option Why). EndsSo x before s) e d.ends)
      (ended_at_once site s n peer_is lives_is local_is ending_is w h)

  -- until it gave too many bytes
  pub talked_long : Tells before.given [] → most_taken ≤ n.taken
      → PartAt s once_voice (told_to (stacks_of site) n) n → ServedLong site (source_of s) (sink_of s)
  talked_long none long h =
      serves_long site s n.calls n.owed (source_of s) (sink_of s) (are_of s) o n before d.reads d.writes (ap (λ (x : Shown). x.taken) start) none d.moved long
      (part_at_once site s n peer_is lives_is local_is ending_is h)

-- the start, over the parts that were made for it
pub start_is : (hijack : Bool) (x : Shown) (peer name : List ℕ) → peer ≡ once_peer → name ≡ codes "localhost"
    → x ≡ opened peer (record { name = name; port = 9292; https = false; hijack = hijack }) 0 0 → x ≡ opened once_peer (once_local hijack) 0 0
start_is hijack x peer name p n h =
    h ∙ ap (λ (z : List ℕ). opened z (record { name = name; port = 9292; https = false; hijack = hijack }) 0 0) p
    ∙ ap (λ (z : List ℕ). opened once_peer (record { name = z; port = 9292; https = false; hijack = hijack }) 0 0) n

-- the same for links: the first is handed in, and the last comes back
module _ {L : Type 0} (seen : L → Seen) (site : Site) (o n : Shown) (first k m last : L)
    (start : o ≡ opened once_peer (once_local site.hijack) 0 0) (d : Drives o n (seen k) (seen m)) (from : k ≡ first) (to : last ≡ m) where
  pub talk_ends : ((l : L) → (over : Bool) × ((seen l).over ≡ Some over)) → ((l : L) → IsFront (seen l).given (seen l).input)
      → ((l : L) → (seen l).over ≡ Some true → IsWhole (seen l).given (seen l).input)
      → (result : Status) (w : Why) → result ≡ status_by w → n.why ≡ Some w
      → EndsAt (seen m) once_voice (told_to (stacks_of site) n) n w
      → Serves result site (source_of (seen first)) (sink_of (seen first)) (source_of (seen last)) (sink_of (seen last))
  talk_ends over front whole result w is e h =
      subst (λ (x : Status). Serves x site (source_of (seen first)) (sink_of (seen first)) (source_of (seen last)) (sink_of (seen last))) (sym is)
      (subst (λ (x : L). Serves (status_by w) site (source_of (seen first)) (sink_of (seen first)) (source_of (seen x)) (sink_of (seen x))) (sym to)
      (subst (λ (x : L). Serves (status_by w) site (source_of (seen x)) (sink_of (seen x)) (source_of (seen m)) (sink_of (seen m))) from
      (talked site o n (seen k) (seen m) start d (front m) (whole m) (over m).0 (over m).1 w e h)))

  pub talk_long : Tells (seen first).given [] → most_taken ≤ n.taken
      → PartAt (seen m) once_voice (told_to (stacks_of site) n) n → ServedLong site (source_of (seen last)) (sink_of (seen last))
  talk_long none long h =
      subst (λ (x : L). ServedLong site (source_of (seen x)) (sink_of (seen x))) (sym to)
      (talked_long site o n (seen k) (seen m) start d (subst (λ (x : L). Tells (seen x).given []) (sym from) none) long h)

-- what stands in an answer that is some
pub some_at : {A : Type 0} (P : A → Type 0) (o : Option A) (x : A) → IfSome o P → o ≡ Some x → P x
some_at {A} P o x h is = subst (λ (s : Option A). IfSome s P) is h

-- what was given begins the input
pub prefix_of : (given input : Option (List ℕ)) → IsFront given input → IsPrefix given input
prefix_of given input front = λ xs ys e f.
    (drop (length xs) ys, sym (take-append-drop (length xs) ys) ∙ ap (λ z. z ++ drop (length xs) ys) (front xs ys e f))

pub front_of_none : (given input : Option (List ℕ)) → Tells given [] → IsFront given input
front_of_none None input start = λ xs ys e f. cc
front_of_none (Some zs) input start = λ xs ys e f. let none : xs ≡ [] = cc (e, start) in ap (λ z. take (length z) ys) none ∙ sym none
