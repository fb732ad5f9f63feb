-- What one connection is answered by a stack.
use Rattle.std.specs.Prelude.{◌≡◌, ℕ, Bool, List, [], ◌∷◌, None, codes, Some, ◌≤◌, length, ◌⊎◌, false}
use Rattle.rack_types.specs.declared.peer.Local.{Local}
use Rattle.rack_outside.specs.Link.{Tells}
use Rattle.hijack_core.specs.declared.stock.Stock.{Stock}
use Rattle.hijack_core.specs.Stock.{stock_says, stock_ends}
use Rattle.talk_core.specs.declared.ended.Life.{Life}
use Rattle.talk_core.specs.Answer.{IsAnswer, BeginsAnswer, BeginsLess, IsHandedOver, IsClosedOn}
use Rattle.talk_core.specs.Tail.{Voice}
use Rattle.talk_core.specs.Teller.{Stacks, Teller, tell}
use Rattle.stock_apps.specs.declared.app.App.{App}
use Rattle.stock_apps.specs.Answers.{app_answer}
use Rattle.builder_core.specs.Tree.{Tree}
use Rattle.builder_core.specs.Meaning.{meaning}
use Rattle.puma_top.specs.Seen.{SourceSeen, SinkSeen}

-- what serves the connection: a stack, and whether its applications may take the connection over
pub record Site : Type 0 where
  pub stack : Tree App
  pub hijack : Bool

-- whom the requests of the connection come from
abbrev pub once_peer : List ℕ
once_peer = codes "127.0.0.1"

-- the server's own end of it
abbrev pub once_local : Bool → Local
once_local hijack = record { name = codes "localhost"; port = 9292; https = false; hijack = hijack }

-- what its applications hand the connection to: the stock hijackers
abbrev pub once_voice : Voice Stock
once_voice = record { says = stock_says; ends = stock_ends }

-- the stack, in each phase
abbrev pub stacks_of : Site → Stacks Stock
stacks_of site phase = meaning app_answer site.stack

-- the one life of the connection
abbrev pub once_lives : List Life
once_lives = record { first = 0; phase = 0 } ∷ []

-- the replies to its requests
abbrev pub teller_of : Site → Teller Stock
teller_of site = tell (stacks_of site) once_lives (once_local site.hijack) once_peer None

-- these bytes were answered whole: that is the text of the talk on them, and at a hijack what the hijacker says to the
-- rest of them and to their end
abbrev pub AnsweredAll : Site → List ℕ → List ℕ → Type 0
AnsweredAll site bytes written = IsAnswer once_voice (teller_of site) bytes written

-- what was written is a front of what answers these bytes
abbrev pub AnsweredInPart : Site → List ℕ → List ℕ → Type 0
AnsweredInPart site bytes written = BeginsAnswer once_voice (teller_of site) bytes written

-- the same, and it is not all of it
abbrev pub AnsweredLess : Site → List ℕ → List ℕ → Type 0
AnsweredLess site bytes written = BeginsLess once_voice (teller_of site) bytes written

-- these bytes were answered whole, or at a hijack in part
abbrev pub AnsweredSoFar : Site → List ℕ → List ℕ → Type 0
AnsweredSoFar site bytes written =
    AnsweredAll site bytes written ⊎ (IsHandedOver (teller_of site) bytes × AnsweredInPart site bytes written)

-- on these bytes the connection closed: behind a refusal, by a reply that closes, or where a hijacker ended it
abbrev pub ClosedOn : Site → List ℕ → Type 0
ClosedOn site bytes = IsClosedOn once_voice (teller_of site) bytes

-- the bytes that one connection may give
abbrev pub most_taken : ℕ
most_taken = 1099511627776

-- these bytes were given and those were written, where the source and the sink tell it
pub record Told (source : SourceSeen) (sink : SinkSeen) (given written : List ℕ) : Type 0 where
  pub given_is : Tells source.given given
  pub written_is : Tells sink.written written

-- all that was given was answered. Where the source tells its input and what it gave, all of that was answered, and it was
-- read to its end or the connection closed
pub record ServedAll (site : Site) (source : SourceSeen) (sink : SinkSeen) : Type 0 where
  pub given : List ℕ
  pub written : List ℕ
  pub told : Told source sink given written
  pub answered : AnsweredAll site given written
  pub whole : (input : List ℕ) → source.given ≡ Some given → source.input ≡ Some input → AnsweredAll site input written
  pub ended : (input : List ℕ) → source.given ≡ Some given → source.input ≡ Some input → (given ≡ input) ⊎ ClosedOn site given

-- all that was given was answered, unless a hijacker has the connection: then a front of the answer was written
pub record ServedGiven (site : Site) (source : SourceSeen) (sink : SinkSeen) : Type 0 where
  pub given : List ℕ
  pub written : List ℕ
  pub told : Told source sink given written
  pub answered : AnsweredSoFar site given written

-- a front of the answer was written
pub record ServedPart (site : Site) (source : SourceSeen) (sink : SinkSeen) : Type 0 where
  pub given : List ℕ
  pub written : List ℕ
  pub told : Told source sink given written
  pub begins : AnsweredInPart site given written

-- a front of the answer was written, and not all of it
pub record ServedLess (site : Site) (source : SourceSeen) (sink : SinkSeen) : Type 0 where
  pub given : List ℕ
  pub written : List ℕ
  pub told : Told source sink given written
  pub begins : AnsweredLess site given written

-- a front of the answer was written, and no more is taken
pub record ServedLong (site : Site) (source : SourceSeen) (sink : SinkSeen) : Type 0 where
  pub given : List ℕ
  pub written : List ℕ
  pub told : Told source sink given written
  pub begins : AnsweredInPart site given written
  pub long : most_taken ≤ length given
