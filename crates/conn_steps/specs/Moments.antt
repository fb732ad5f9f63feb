-- The moments that a connection keeps, in milliseconds, and what they tell.
use Rattle.std.specs.Prelude.{ℕ, ◌+◌, ◌≤◌, max, Option, None, Some}
use Rattle.talk_core.specs.declared.ended.Why.{Why}
use Rattle.talk_core.specs.declared.ended.Why.TheVariants as why
use Rattle.conn_steps.specs.declared.moments.Late.{Late}
use Rattle.conn_steps.specs.declared.moments.Moments.{Moments}

-- a call was handed this moment
abbrev pub reached : ℕ → Moments → Moments
reached now m = record m { last = max m.last now }

-- the later of two moments, the first of which may be lacking
abbrev pub later : Option ℕ → ℕ → ℕ
later None t = t
later (Some took) t = max took t

abbrev pub or_else : Option ℕ → ℕ → ℕ
or_else None t = t
or_else (Some s) t = s

-- since when nothing was sent, where nothing is owed: the call in which the link took the last byte of the last reply,
-- which is the last that it took, or the opening
abbrev pub quiet_since : Moments → ℕ
quiet_since m = or_else m.took m.opened

-- since when the link took nothing of what is in the ring: the later of the call in which it last took a byte and that
-- in which bytes first came into the ring after it was last empty
abbrev pub stuck_since : Moments → ℕ
stuck_since m = later m.took m.filled

-- how a connection ends behind the reply that names a refusal, or that a request took too long
abbrev pub ended_by : Option Late → Why
ended_by None = why.Closed
ended_by (Some late) = why.TimedOut late.since late.now

-- that long passed
abbrev pub Passed : ℕ → ℕ → ℕ → Type 0
Passed since limit now = since + limit ≤ now
