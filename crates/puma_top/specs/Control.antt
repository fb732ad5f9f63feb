-- What the command for orders did, by its status. Its words are this project's own.
use Rattle.std.specs.Prelude.{◌≡◌, ℕ, Bool, true, false, List, Option, None, Some, if◌then◌else◌, codes, bytes_eq}
use Rattle.puma_ctl.specs.declared.order.Outcome.{Outcome}
use Rattle.puma_ctl.specs.declared.order.Outcome.TheVariants as outcome
use Rattle.puma_ctl.specs.declared.wish.Wish.{Wish}
use Rattle.puma_ctl.specs.declared.wish.Wish.TheVariants.{Stats, Phased, Stop, Halt}
use Rattle.puma_ctl.specs.Dial.{DialSeen}
use Rattle.puma_ctl.specs.Order.{Order, Ordered, OutSeen}
use Rattle.puma_ctl.specs.Wish.{is_control_token}
use Rattle.puma_words.specs.Control.{Control}
use Rattle.puma_top.specs.Status.{UnlessNoMemory}
use Rattle.puma_top.specs.declared.status.Status.{Status}
use Rattle.puma_top.specs.declared.status.Status.TheVariants.{Done, NoMemory, Usage, SinkFault, Dial, NoAnswer, Denied}

-- what the word asks for
abbrev pub wish_named : List ℕ → Option Wish
wish_named word =
    if bytes_eq word (codes "stats") then Some Stats
    else if bytes_eq word (codes "phased-restart") then Some Phased
    else if bytes_eq word (codes "stop") then Some Stop
    else if bytes_eq word (codes "halt") then Some Halt
    else None

-- an order with this token, where the token has its form
abbrev pub order_with : Bool → List ℕ → Option Wish → Option Order
order_with true token (Some wish) = Some (record { token = token; wish = wish })
order_with true token None = None
order_with false token wish = None

-- the order that the words say; none where its token or its name has another form
abbrev pub order_of : Option Control → Option Order
order_of None = None
order_of (Some said) = order_with (is_control_token said.token) said.token (wish_named said.order)

-- the status of an order that ended so
abbrev pub status_by : Outcome → Status
status_by outcome.Done = Done
status_by (outcome.Denied status) = Denied status
status_by outcome.NoAnswer = NoAnswer
status_by outcome.Dial = Dial
status_by outcome.SinkFault = SinkFault
status_by outcome.NoMemory = NoMemory

-- what the command did: words that say no order are Usage, unless memory was refused, and then nothing was dialled or
-- written; else the order was given, and how it ended is the status
abbrev pub ControlDid : Status → Option Order → DialSeen → DialSeen → OutSeen → OutSeen → Type 0
ControlDid status None old new before out = UnlessNoMemory status (status ≡ Usage) × (new ≡ old) × (out ≡ before)
ControlDid status (Some order) old new before out =
    (ended : Outcome) × (status ≡ status_by ended) × Ordered ended order old new before out
