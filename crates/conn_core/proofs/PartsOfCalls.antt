-- What several parts of a call leave, one behind the other.
use Rattle.std.proofs.Common.{◌≡◌, ℕ, ◌+◌, ◌<◌, ◌≤◌, Bool, true, false, List, [], ◌++◌, length, length-append, append_assoc, refl, sym, ap, subst, ◌∙◌, arith, Option, None, Some, ◌⊎◌, inl, inr}
use Rattle.std.proofs.lemmas.Bool.Decides.{nat_tests}
use Rattle.std.specs.Prelude.{nat_lt, ◌&&◌, if◌then◌else◌}
use Rattle.rack_outside.specs.Link.{Seen, marked}
use Rattle.rack_outside.specs.Told.{appended}
use Rattle.rack_outside.proofs.CallerLemmas.{rose_within}
use Rattle.talk_core.specs.Counts.{counted_by}
use Rattle.talk_core.specs.declared.ended.Why.{Why}
use Rattle.talk_core.specs.declared.ended.Why.TheVariants as why
use Rattle.talk_core.proofs.CallerLemmas.{counted_more}
use Rattle.conn_steps.specs.declared.moments.Ending.{Ending}
use Rattle.conn_steps.specs.declared.moments.Late.{Late}
use Rattle.conn_steps.specs.Ends.{TurnEnds}
use Rattle.conn_steps.specs.Keeps.{Drains, DrainsOnce, ending_run, no_bytes}
use Rattle.conn_steps.specs.Moves.{SameShown}
use Rattle.conn_steps.specs.Shown.{Shown, Moved}
use Rattle.conn_steps.proofs.CallerLemmas.{appended_nil}

-- more, and more
pub appended_more : (o : Option (List ℕ)) (a b : List ℕ) → appended (appended o a) b ≡ appended o (a ++ b)
appended_more None a b = refl
appended_more (Some xs) a b = ap Some (append_assoc xs a b)

-- a count behind one list and another
pub counted_lists : (a b : List ℕ) (count : ℕ) → counted_by (length b) (counted_by (length a) count) ≡ counted_by (length (a ++ b)) count
counted_lists a b count = counted_more (length a) (length b) count ∙ ap (λ n. counted_by n count) (sym (length-append a b))

-- what neither reads nor writes leaves
abbrev pub moved_same : (o n : Shown) (s : Seen) (x y : ℕ) → SameShown o n → x ≡ 0 → y ≡ 0 → Moved o n s s x y
moved_same o n s x y same none nothing =
    let waits : s.waits ≤ s.waits = omega arith in
    let reads : s.failed_reads ≤ s.failed_reads = omega arith in
    let writes : s.failed_writes ≤ s.failed_writes = omega arith in
    record {
      peer = same.peer;
      local = same.local;
      lives = same.lives;
      tag = refl;
      link_peer = refl;
      borrows = refl;
      input = refl;
      waits = waits;
      failed_reads = reads;
      failed_writes = writes;
      reads_are = ap (λ k. counted_by k s.reads) (sym none);
      writes_are = ap (λ k. counted_by k s.writes) (sym nothing);
      came = [];
      given = sym (appended_nil s.given);
      taken = same.taken;
    }

-- the same numbers of reads and writes
abbrev pub moved_by : (o n : Shown) (s u : Seen) (a b x y : ℕ) → a ≡ x → b ≡ y → Moved o n s u a b → Moved o n s u x y
moved_by o n s u a b x y e f h = record {
  peer = h.peer;
  local = h.local;
  lives = h.lives;
  tag = h.tag;
  link_peer = h.link_peer;
  borrows = h.borrows;
  input = h.input;
  waits = h.waits;
  failed_reads = h.failed_reads;
  failed_writes = h.failed_writes;
  reads_are = h.reads_are ∙ ap (λ k. counted_by k s.reads) e;
  writes_are = h.writes_are ∙ ap (λ k. counted_by k s.writes) f;
  came = h.came;
  given = h.given;
  taken = h.taken;
}

-- one part behind another
abbrev pub moved_then : (o m n : Shown) (s t u : Seen) (a b c d x y : ℕ) → a + c ≡ x → b + d ≡ y → Moved o m s t a b → Moved m n t u c d
    → Moved o n s u x y
moved_then o m n s t u a b c d x y e f h k =
    let waits : s.waits ≤ u.waits = omega (arith, h.waits, k.waits) in
    let reads : s.failed_reads ≤ u.failed_reads = omega (arith, h.failed_reads, k.failed_reads) in
    let writes : s.failed_writes ≤ u.failed_writes = omega (arith, h.failed_writes, k.failed_writes) in
    record {
      peer = k.peer ∙ h.peer;
      local = k.local ∙ h.local;
      lives = k.lives ∙ h.lives;
      tag = k.tag ∙ h.tag;
      link_peer = k.link_peer ∙ h.link_peer;
      borrows = k.borrows ∙ h.borrows;
      input = k.input ∙ h.input;
      waits = waits;
      failed_reads = reads;
      failed_writes = writes;
      reads_are = k.reads_are ∙ ap (λ j. counted_by c j) h.reads_are ∙ counted_more a c s.reads ∙ ap (λ j. counted_by j s.reads) e;
      writes_are = k.writes_are ∙ ap (λ j. counted_by d j) h.writes_are ∙ counted_more b d s.writes ∙ ap (λ j. counted_by j s.writes) f;
      came = h.came ++ k.came;
      given = k.given ∙ ap (λ j. appended j k.came) h.given ∙ appended_more s.given h.came k.came;
      taken = k.taken ∙ ap (λ j. counted_by (length k.came) j) h.taken ∙ counted_lists h.came k.came o.taken;
    }

-- what ended a connection since some moment, where nothing had ended it before
pub ends_since : (late : Option Late) (w : Option Why) (first s u : Seen) → first.failed_reads ≤ s.failed_reads → first.failed_writes ≤ s.failed_writes
    → s.over ≡ first.over → TurnEnds late w s u → TurnEnds late w first u
ends_since late None first s u reads writes over h = h ∙ over
ends_since late (Some why.Closed) first s u reads writes over h = h ∙ over
ends_since late (Some why.PeerEnd) first s u reads writes over h = h ∙ ap marked over
ends_since late (Some (why.Idle by)) first s u reads writes over h = absurd h
ends_since late (Some (why.TimedOut since now)) first s u reads writes over h = (h.0, h.1 ∙ over)
ends_since late (Some (why.Stalled since now)) first s u reads writes over h = absurd h
ends_since late (Some (why.Unread level)) first s u reads writes over h = absurd h
ends_since late (Some why.ReadFailed) first s u reads writes over h =
    let last : u.failed_reads ≤ u.failed_reads = omega arith in
    (h.0 ∙ over, rose_within first.failed_reads s.failed_reads u.failed_reads u.failed_reads reads h.1 last)
ends_since late (Some why.WriteFailed) first s u reads writes over h =
    let last : u.failed_writes ≤ u.failed_writes = omega arith in
    (h.0 ∙ over, rose_within first.failed_writes s.failed_writes u.failed_writes u.failed_writes writes h.1 last)
ends_since late (Some (why.Halted level)) first s u reads writes over h = absurd h
ends_since late (Some why.NoMemory) first s u reads writes over h = h ∙ over
ends_since late (Some why.Hijacked) first s u reads writes over h = h ∙ over

-- the same, where that nothing had ended it is told by its why
pub ends_then : (late : Option Late) (before w : Option Why) (first s u : Seen) → before ≡ None → first.failed_reads ≤ s.failed_reads → first.failed_writes ≤ s.failed_writes
    → TurnEnds late w s u → TurnEnds late before first s → TurnEnds late w first u
ends_then late before w first s u none reads writes h k =
    ends_since late w first s u reads writes (subst (λ (b : Option Why). TurnEnds late b first s) none k) h

-- what was told of the end behind several moves, and behind more
pub drains_same : (o n : Shown) → n.ending ≡ o.ending → Drains o n
drains_same o n e = record {
  told = ap (λ (x : Ending). x.told) e;
  late = ap (λ (x : Ending). x.late) e;
  dismissed = ap (λ (x : Ending). x.dismissed) e;
  closing = inl (ap (λ (x : Ending). x.closing) e);
}

pub drains_then : (o m n : Shown) → m.calls ≤ n.calls → o.calls ≤ m.calls → Drains o m → Drains m n → Drains o n
drains_then o m n more few h k = record {
  told = k.told ∙ h.told;
  late = k.late ∙ h.late;
  dismissed = k.dismissed ∙ h.dismissed;
  closing = elim h.closing [
    | inl same ↦ elim k.closing [
      | inl again ↦ inl (again ∙ same)
      | inr once ↦ inr (
        once.0,
        subst (λ (t : ℕ). 1 ≤ t) h.told once.1,
        sym same ∙ once.2,
        once.3,
        (let first : o.calls ≤ once.0 = omega (arith, few, once.4) in first),
        once.5,
      )
    ]
    | inr once ↦ elim k.closing [
      | inl again ↦ inr (
        once.0,
        once.1,
        once.2,
        again ∙ once.3,
        once.4,
        (let last : once.0 < n.calls = omega (arith, more, once.5) in last),
      )
      | inr twice ↦ absurd (some_none once.0 (sym once.3 ∙ twice.2))
    ]
  ];
}
  where
    some_none : (k : ℕ) → Some k ≡ None → ⊥
    some_none k e = cc

-- one run
pub drains_run : (o n : Shown) → n.calls ≡ o.calls + 1 → n.ending ≡ ending_run o.ending o.unfed o.calls → o.ending.closing ≡ None → Drains o n
drains_run o n one is none = record {
  told = ap (λ (x : Ending). x.told) is;
  late = ap (λ (x : Ending). x.late) is;
  dismissed = ap (λ (x : Ending). x.dismissed) is;
  closing = go (nat_lt 0 o.ending.told) (no_bytes o.unfed) refl (ap (λ (x : Ending). x.closing) is);
}
  where
    go : (b d : Bool) → nat_lt 0 o.ending.told ≡ b → n.ending.closing ≡ (if b && d then Some o.calls else o.ending.closing)
        → (n.ending.closing ≡ o.ending.closing) ⊎ DrainsOnce o n
    go false d e c = inl c
    go true false e c = inl c
    go true true e c =
        let some : 1 ≤ o.ending.told = grind (arith, nat_tests, e) in
        let first : o.calls ≤ o.calls = omega arith in
        let last : o.calls < n.calls = omega (arith, one) in
        inr (o.calls, some, none, c, first, last)
