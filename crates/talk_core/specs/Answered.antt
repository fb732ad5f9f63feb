-- A connection whose requests were answered one by one, whoever gave the answers and however they change: the replies by
-- them, what was asked for them, and what of it was sent.
use Rattle.std.specs.Prelude.{◌≡◌, ℕ, zero, suc, ◌+◌, ◌<◌, ◌≤◌, nat_lt, Bool, true, false, if◌then◌else◌, List, [], ◌∷◌, ◌++◌, length, Option, ⊤}
use Rattle.rack_types.specs.declared.answer.Answer.{Answer}
use Rattle.rack_types.specs.declared.peer.Local.{Local}
use Rattle.rack_types.specs.Body.{Content}
use Rattle.rack_types.specs.Limits.{stock_limits}
use Rattle.rack_types.specs.Request.{Parts}
use Rattle.rack_types.specs.Runner.{Asked}
use Rattle.rack_env.specs.Environment.{env_pairs}
use Rattle.rack_outside.specs.Link.{Seen, Tells}
use Rattle.hijack_core.specs.Said.{Starts}
use Rattle.reply_framing.specs.Reply.{reply}
use Rattle.talk_core.specs.declared.ended.Ended.{Ended}
use Rattle.talk_core.specs.declared.ended.Why.{Why}
use Rattle.talk_core.specs.declared.ended.Why.TheVariants as why
use Rattle.talk_core.specs.Asked.{IsAsked}
use Rattle.talk_core.specs.Ended.{Past, Shows, AreEndedLives, IdleAs, past_of}
use Rattle.talk_core.specs.Stands.{Word, asked_by, text_by, Fits}
use Rattle.talk_core.specs.Tail.{Voice}
use Rattle.talk_core.specs.Talk.{Asks, AllKeep, replies_to}
use Rattle.talk_core.specs.Teller.{Teller, ask_of, fates_of, is_last}

-- the answer to the request of each number, counted from 0
abbrev pub Answers : Type 0 → Type 0
Answers H = ℕ → Answer Content H

-- the reply to request k of a connection: by the answer of that number, in the environment of that request
abbrev pub tell_by : {H : Type 0} → Answers H → Local → List ℕ → Option ℕ → Teller H
tell_by answers local peer closing k r = reply (ask_of r) (env_pairs r peer local) (answers k) (is_last closing k)

-- the same from this number on; the requests below it have other replies
abbrev pub tell_from : {H : Type 0} → Teller H → ℕ → Answers H → Local → List ℕ → Option ℕ → Teller H
tell_from T first answers local peer closing k r = if nat_lt k first then T k r else tell_by answers local peer closing k r

-- the answers to so many requests, the first of which has number k
abbrev pub answers_to : {H : Type 0} → Answers H → ℕ → ℕ → List (Answer Content H)
answers_to answers k zero = []
answers_to answers k (suc n) = answers k ∷ answers_to answers (k + 1) n

-- what a runner is asked for a request: the pairs of its environment, and its body
abbrev pub asked_as : Local → List ℕ → Parts → Asked
asked_as local peer r = (env_pairs r peer local, r.body)

-- the same of requests that were run one behind the other, each with whether that run was Ok, as the first so many were
abbrev pub asked_for : Local → List ℕ → ℕ → List Parts → List (Asked × Bool)
asked_for local peer good [] = []
asked_for local peer zero (r ∷ rs) = (asked_as local peer r, false) ∷ asked_for local peer zero rs
asked_for local peer (suc good) (r ∷ rs) = (asked_as local peer r, true) ∷ asked_for local peer good rs

-- these are the first requests in the bytes that a link gave, as many as were run
pub record HasAsked (s : Seen) (calls : ℕ) (requests : List Parts) : Type 0 where
  pub given : List ℕ
  pub rest : List ℕ
  pub tells : Tells s.given given
  pub asks : Asks given requests rest
  pub count : calls ≡ length requests

-- behind each of the first requests, so many, the connection goes on; the replies to them were sent whole, and nothing
-- behind these
pub record SentUpTo {H : Type 0} (T : Teller H) (s : Seen) (calls : ℕ) : Type 0 where
  pub given : List ℕ
  pub sent : List ℕ
  pub tells_given : Tells s.given given
  pub tells_sent : Tells s.sent sent
  pub requests : List Parts
  pub rest : List ℕ
  pub asks : Asks given requests rest
  pub count : calls ≡ length requests
  pub keeps : AllKeep (fates_of T) 0 requests
  pub sent_is : sent ≡ replies_to T 0 requests

-- what was sent for these requests, the first of which has number `first`, and behind them: the replies to all of them,
-- or to all but the last, are whole; and of what comes behind those, which is the reply to the last, or is what is said
-- where no request stands, a front was sent
pub record SentFor {H : Type 0} (V : Voice H) (T : Teller H) (over : Bool) (first : ℕ) (requests : List Parts) (rest sent : List ℕ) : Type 0 where
  pub whole : List Parts
  pub word : Word H
  pub requests_are : requests ≡ whole ++ asked_by word
  pub part : List ℕ
  pub sent_is : sent ≡ replies_to T first whole ++ part
  pub part_is : Starts part (text_by V T over (first + length whole) word rest)
  pub fits : Fits T (first + length whole) word rest

-- so many requests were run of the bytes that came, and this was sent for them and behind them
pub record SentOf {H : Type 0} (V : Voice H) (T : Teller H) (over : Bool) (given sent : List ℕ) (calls : ℕ) : Type 0 where
  pub requests : List Parts
  pub rest : List ℕ
  pub asks : Asks given requests rest
  pub count : calls ≡ length requests
  pub sends : SentFor V T over 0 requests rest sent

-- the same from request `first` on, where before it this was sent
pub record SentSince {H : Type 0} (V : Voice H) (T : Teller H) (over : Bool) (given before sent : List ℕ) (first calls : ℕ) : Type 0 where
  pub earlier : List Parts
  pub requests : List Parts
  pub rest : List ℕ
  pub asks : Asks given (earlier ++ requests) rest
  pub first_is : first ≡ length earlier
  pub count : calls ≡ first + length requests
  pub more : List ℕ
  pub sent_is : sent ≡ before ++ more
  pub sends : SentFor V T over first requests rest more

-- the values that a why keeps are what it says: moments that lie as far apart, levels, and what became of the link
abbrev pub KeepsValues : Why → Past → Type 0
KeepsValues why.Closed p = ⊤
KeepsValues why.PeerEnd p = p.over ≡ true
KeepsValues (why.Idle by) p = IdleAs by p
KeepsValues (why.TimedOut since now) p = since + stock_limits.request_ms ≤ now
KeepsValues (why.Stalled since now) p = since + stock_limits.write_ms ≤ now
KeepsValues (why.Unread level) p = 1 ≤ level
KeepsValues why.ReadFailed p = 0 < p.failed_reads
KeepsValues why.WriteFailed p = 0 < p.failed_writes
KeepsValues (why.Halted level) p = level ≡ 2
KeepsValues why.NoMemory p = ⊤
KeepsValues why.Hijacked p = ⊤

-- an ended connection, whoever answered, and however: as many requests as were run were asked in the bytes that came,
-- counted by what they say themselves; it has its lives; and its why keeps what it says
pub record IsEndedAsked (L : Type 0) (seen : L → Seen) (peer : List ℕ) (e : Ended L) : Type 0 where
  pub given : List ℕ
  pub sent : List ℕ
  pub over : Bool
  pub shows : Shows (seen e.link) peer given sent over
  pub asked : List Parts
  pub rest : List ℕ
  pub asks : IsAsked e.closing given e.calls asked rest
  pub lives : AreEndedLives e.lives.items e.why (past_of (seen e.link) e given sent over)
  pub keeps : KeepsValues e.why (past_of (seen e.link) e given sent over)
