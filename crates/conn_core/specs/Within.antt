-- Within which bounds the moments lie that a connection keeps, and what a call does to them.
use Rattle.std.specs.Prelude.{◌≡◌, ℕ, ◌≤◌, false, Option, None, Some, ◌⊎◌, ⊤}
use Rattle.talk_core.specs.declared.ended.IdleBy.TheVariants.{Clock, Drain}
use Rattle.talk_core.specs.declared.ended.Why.{Why}
use Rattle.talk_core.specs.declared.ended.Why.TheVariants as why
use Rattle.conn_steps.specs.declared.moments.Late.{Late}
use Rattle.conn_steps.specs.declared.moments.Moments.{Moments}
use Rattle.conn_steps.specs.Shown.{Shown}

-- what a call that was handed this moment leaves of the moments that count for the limits: each is as it was, or is this
-- one; and that of a begun request may be none
pub record MomentsBy (now : ℕ) (old new : Moments) : Type 0 where
  pub last : new.last ≡ old.last
  pub opened : new.opened ≡ old.opened
  pub took : (new.took ≡ old.took) ⊎ (new.took ≡ Some now)
  pub begun : (new.begun ≡ old.begun) ⊎ ((new.begun ≡ None) ⊎ (new.begun ≡ Some now))
  pub filled : (new.filled ≡ old.filled) ⊎ (new.filled ≡ now)

-- where there is one, it isn't below the least
abbrev pub IsFrom : ℕ → Option ℕ → Type 0
IsFrom least None = ⊤
IsFrom least (Some moment) = least ≤ moment

-- none of these moments is below the least
pub record KeptFrom (least : ℕ) (m : Moments) : Type 0 where
  pub opened : least ≤ m.opened
  pub took : IsFrom least m.took
  pub begun : IsFrom least m.begun
  pub filled : least ≤ m.filled

-- where a request took too long: since when and when that was seen, both within these bounds
abbrev pub LateWithin : ℕ → ℕ → Option Late → Type 0
LateWithin least last None = ⊤
LateWithin least last (Some late) = (least ≤ late.since) × (late.now ≤ last)

-- the two moments that a why keeps, if it keeps any, are within these bounds
abbrev pub WhyWithin : ℕ → ℕ → Option Why → Type 0
WhyWithin least last None = ⊤
WhyWithin least last (Some why.Closed) = ⊤
WhyWithin least last (Some why.PeerEnd) = ⊤
WhyWithin least last (Some (why.Idle (Clock since now))) = (least ≤ since) × (now ≤ last)
WhyWithin least last (Some (why.Idle (Drain level))) = ⊤
WhyWithin least last (Some (why.TimedOut since now)) = (least ≤ since) × (now ≤ last)
WhyWithin least last (Some (why.Stalled since now)) = (least ≤ since) × (now ≤ last)
WhyWithin least last (Some (why.Unread level)) = ⊤
WhyWithin least last (Some why.ReadFailed) = ⊤
WhyWithin least last (Some why.WriteFailed) = ⊤
WhyWithin least last (Some (why.Halted level)) = ⊤
WhyWithin least last (Some why.NoMemory) = ⊤
WhyWithin least last (Some why.Hijacked) = ⊤

-- none of the moments that a connection keeps is below the least, and none of those that were compared with it is above
-- the last
pub record KeptWithin (least last : ℕ) (c : Shown) : Type 0 where
  pub moments : KeptFrom least c.moments
  pub late : LateWithin least last c.ending.late
  pub why : WhyWithin least last c.why

-- the level that a why keeps, where it keeps one, is at most this one
abbrev pub LevelUpTo : ℕ → Option Why → Type 0
LevelUpTo most None = ⊤
LevelUpTo most (Some why.Closed) = ⊤
LevelUpTo most (Some why.PeerEnd) = ⊤
LevelUpTo most (Some (why.Idle (Clock since now))) = ⊤
LevelUpTo most (Some (why.Idle (Drain level))) = level ≤ most
LevelUpTo most (Some (why.TimedOut since now)) = ⊤
LevelUpTo most (Some (why.Stalled since now)) = ⊤
LevelUpTo most (Some (why.Unread level)) = level ≤ most
LevelUpTo most (Some why.ReadFailed) = ⊤
LevelUpTo most (Some why.WriteFailed) = ⊤
LevelUpTo most (Some (why.Halted level)) = level ≤ most
LevelUpTo most (Some why.NoMemory) = ⊤
LevelUpTo most (Some why.Hijacked) = ⊤

-- it was told no level above this one, and keeps none; and no drain ended or ends it where that is 0
pub record ToldUpTo (most : ℕ) (c : Shown) : Type 0 where
  pub told : c.ending.told ≤ most
  pub closing : (c.ending.closing ≡ None) ⊎ (1 ≤ most)
  pub dismissed : (c.ending.dismissed ≡ false) ⊎ (1 ≤ most)
  pub why : LevelUpTo most c.why
