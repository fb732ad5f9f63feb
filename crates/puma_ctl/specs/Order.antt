-- What an order did, by how it ended. The limits are this project's own.
use Rattle.std.specs.Prelude.{◌≡◌, ◌≢◌, ℕ, ◌<◌, ◌≤◌, ◌⊎◌, true, List, [], ◌∷◌, ◌++◌, Option, None, Some, ◌==◌, if◌then◌else◌}
use Rattle.rack_outside.specs.Link.{Seen, Tells, faults}
use Rattle.rack_outside.specs.Told.{counted, Rose}
use Rattle.puma_ctl.specs.declared.order.Outcome.{Outcome}
use Rattle.puma_ctl.specs.declared.order.Outcome.TheVariants.{Done, Denied, NoAnswer, Dial, SinkFault, NoMemory}
use Rattle.puma_ctl.specs.declared.wish.Wish.{Wish}
use Rattle.puma_ctl.specs.Dial.{DialSeen}
use Rattle.puma_ctl.specs.Reply.{BeginsReply, IsReply, IsNoReply, AwaitsReply}
use Rattle.puma_ctl.specs.Wish.{wish_bytes}

-- what a sink shows: the bytes that were written to it, and how many writes failed
pub record OutSeen : Type 0 where
  pub written : Option (List ℕ)
  pub faults : ℕ

abbrev pub out_seen : {K : Type 0} → (K → Option (List ℕ)) → (K → ℕ) → K → OutSeen
out_seen written faults out = record { written = written out; faults = faults out }

-- one order: its token and what it asks for
pub record Order : Type 0 where
  pub token : List ℕ
  pub wish : Wish

-- how often an order waits at most
abbrev pub pauses_limit : ℕ
pauses_limit = 3000

-- the whole order was sent on the link, and what it gave begins with a reply that has this status and this body
pub record HasReply (order : Order) (link : Seen) (status : ℕ) (body : List ℕ) : Type 0 where
  pub sent : Tells link.sent (wish_bytes order.token order.wish)
  pub given : List ℕ
  pub given_is : Tells link.given given
  pub begins : BeginsReply given status body

-- what is printed of a reply with this body
abbrev pub printed : List ℕ → List ℕ
printed body = body ++ 10 ∷ []

-- a reply with this status came, its body was printed whole, and the link was handed back
pub record Prints (order : Order) (status : ℕ) (new : DialSeen) (out : OutSeen) : Type 0 where
  pub link : Seen
  pub back : new.back ≡ Some link
  pub body : List ℕ
  pub reply : HasReply order link status body
  pub printed : Tells out.written (printed body)

-- the same, but only a front of it was printed
pub record PrintsLess (order : Order) (new : DialSeen) (out : OutSeen) : Type 0 where
  pub link : Seen
  pub back : new.back ≡ Some link
  pub status : ℕ
  pub body : List ℕ
  pub reply : HasReply order link status body
  pub front : List ℕ
  pub more : List ℕ
  pub split : printed body ≡ front ++ more
  pub less : more ≢ []
  pub printed : Tells out.written front

-- the peer ended, and what came does not begin with a reply
pub record EndsShort (link : Seen) : Type 0 where
  pub over : Tells link.over true
  pub given : List ℕ
  pub given_is : Tells link.given given
  pub awaits : AwaitsReply given

-- what came never begins with a reply
pub record GivesNoReply (link : Seen) : Type 0 where
  pub given : List ℕ
  pub given_is : Tells link.given given
  pub none : IsNoReply given

-- no reply came: the peer ended before, or what came is none, or it was waited for too often
abbrev pub IsUnanswered : Seen → Type 0
IsUnanswered link = EndsShort link ⊎ (GivesNoReply link ⊎ (pauses_limit ≤ link.waits))

-- by how it ended. Whatever it is, the link that was dialled is handed back
abbrev pub Ended : Outcome → Order → DialSeen → DialSeen → OutSeen → OutSeen → Type 0
Ended Done order old new before out = Prints order 200 new out
Ended (Denied status) order old new before out = Prints order status new out × (status ≢ 200)
Ended NoAnswer order old new before out = (link : Seen) × (new.back ≡ Some link) × IsUnanswered link × (out ≡ before)
Ended Dial order old new before out =
    (Rose old.faults new.faults ⊎ ((link : Seen) × (new.back ≡ Some link) × (0 < faults link))) × (out ≡ before)
Ended SinkFault order old new before out = Rose before.faults out.faults × PrintsLess order new out
Ended NoMemory order old new before out = (out.written ≡ before.written) ⊎ PrintsLess order new out

-- there was no dial; or one, which gave a link that was handed back, or failed
abbrev pub HandsBack : DialSeen → DialSeen → Type 0
HandsBack old new =
    (new ≡ old) ⊎ ((new.dials ≡ counted old.dials) × (((link : Seen) × (new.back ≡ Some link)) ⊎ Rose old.faults new.faults))

-- one order, from its dial on
pub record Ordered (outcome : Outcome) (order : Order) (old new : DialSeen) (before out : OutSeen) : Type 0 where
  pub ended : Ended outcome order old new before out
  pub hands : HandsBack old new

-- how an order ends whose reply has this status
abbrev pub outcome_of : ℕ → Outcome
outcome_of status = if status == 200 then Done else Denied status

-- the link gives this reply and then ends: what it gave is a front of it, and all of it where the peer has ended
pub record GivesReply (link : Seen) (reply : List ℕ) : Type 0 where
  pub given : List ℕ
  pub rest : List ℕ
  pub given_is : link.given ≡ Some given
  pub split : reply ≡ given ++ rest
  pub whole : Tells link.over true → rest ≡ []

-- why a reply that is given may not be printed: memory was refused, a count of faults rose, or it was waited for too often
abbrev pub IsExcused : Outcome → Seen → DialSeen → DialSeen → OutSeen → OutSeen → Type 0
IsExcused outcome link old new before out =
    (outcome ≡ NoMemory) ⊎ (Rose old.faults new.faults ⊎ (Rose before.faults out.faults ⊎ ((0 < faults link) ⊎ (pauses_limit ≤ link.waits))))
