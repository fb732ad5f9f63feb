-- What dials a server, as contracts see it.
use Rattle.std.specs.Prelude.{◌≡◌, ℕ, ◌≤◌, false, List, [], Option, None, Some}
use Rattle.rack_outside.specs.Link.{Seen, Tells}
use Rattle.rack_outside.specs.Told.{counted, Rose}

-- how many dials failed, how many there were, and what the link shows that was last taken back
pub record DialSeen : Type 0 where
  pub faults : ℕ
  pub dials : ℕ
  pub back : Option Seen

-- nothing was counted, and where that is told, nothing was read or sent, and no read told the end
pub record IsFreshLink (s : Seen) : Type 0 where
  pub failed_reads : s.failed_reads ≡ 0
  pub failed_writes : s.failed_writes ≡ 0
  pub waits : s.waits ≡ 0
  pub reads : s.reads ≡ 0
  pub writes : s.writes ≡ 0
  pub given : Tells s.given []
  pub sent : Tells s.sent []
  pub unended : Tells s.over false

-- what was dialled, if it was: a link on which nothing happened yet
abbrev pub GivesLink : Option Seen → DialSeen → DialSeen → Type 0
GivesLink None old new = Rose old.faults new.faults
GivesLink (Some link) old new = IsFreshLink link

-- what a dial leaves alone: it counts as one, and no count falls
pub record IsOneDial (old new : DialSeen) : Type 0 where
  pub faults : old.faults ≤ new.faults
  pub dials : new.dials ≡ counted old.dials
  pub back : new.back ≡ old.back

-- with this link taken back
abbrev pub with_back : Seen → DialSeen → DialSeen
with_back link old = record old { back = Some link }
