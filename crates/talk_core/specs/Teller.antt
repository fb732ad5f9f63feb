-- Who answers the requests of a connection. That several stacks may, each for its phase, is this project's own.
use Rattle.std.specs.Prelude.{◌≡◌, ℕ, ◌-◌, ◌<◌, ◌==◌, nat_le, Bool, false, ◌||◌, List, [], ◌∷◌, filter, Option, None, Some, bytes_eq, codes}
use Rattle.rack_types.specs.declared.answer.Answer.{Answer}
use Rattle.rack_types.specs.declared.peer.Local.{Local}
use Rattle.rack_types.specs.Body.{Content}
use Rattle.rack_types.specs.Env.{Pairs}
use Rattle.rack_types.specs.Fields.{persists}
use Rattle.rack_types.specs.Limits.{stock_limits}
use Rattle.rack_types.specs.Request.{Parts}
use Rattle.rack_env.specs.Environment.{env_pairs}
use Rattle.reply_framing.specs.declared.types.After.{After}
use Rattle.reply_framing.specs.declared.types.Ask.{Ask}
use Rattle.reply_framing.specs.Reply.{WholeReply, reply}
use Rattle.talk_core.specs.declared.ended.Life.{Life}

-- what a stack answers to an environment: its pairs and the bytes of its input
abbrev pub Stack : Type 0 → Type 0
Stack H = Pairs → List ℕ → Answer Content H

-- the stacks, by their phases
abbrev pub Stacks : Type 0 → Type 0
Stacks H = ℕ → Stack H

-- the reply to the request of each number, counted from 0
abbrev pub Teller : Type 0 → Type 0
Teller H = ℕ → Parts → WholeReply H

-- the phase of the last of these lives
abbrev pub last_phase : List Life → ℕ
last_phase [] = 0
last_phase (life ∷ []) = life.phase
last_phase (life ∷ next ∷ lives) = last_phase (next ∷ lives)

-- the phase of the last life that begins at this request or before it
abbrev pub phase_at : List Life → ℕ → ℕ
phase_at lives k = last_phase (filter (λ life. nat_le life.first k) lives)

-- the request is the one whose reply closes by draining
abbrev pub is_closing : Option ℕ → ℕ → Bool
is_closing None k = false
is_closing (Some j) k = k == j

-- the request is the last: the 10,000th, or the one whose reply closes by draining
abbrev pub is_last : Option ℕ → ℕ → Bool
is_last closing k = (k == stock_limits.requests - 1) || is_closing closing k

-- what a reply has to know of its request
abbrev pub ask_of : Parts → Ask
ask_of r = record { head = bytes_eq r.method (codes "HEAD"); version = r.version; persists = persists r }

-- the reply to a request by a stack, with the environment's pairs
abbrev pub reply_of : {H : Type 0} → Stack H → Pairs → Parts → Bool → WholeReply H
reply_of stack pairs r last = reply (ask_of r) pairs (stack pairs r.body) last

-- the reply to request k of a connection: by the stack of that life, in the environment of that request
abbrev pub tell : {H : Type 0} → Stacks H → List Life → Local → List ℕ → Option ℕ → Teller H
tell stacks lives local peer closing k r = reply_of (stacks (phase_at lives k)) (env_pairs r peer local) r (is_last closing k)

-- they reply alike to each request below k
abbrev pub AgreesBelow : {H : Type 0} → ℕ → Teller H → Teller H → Type 0
AgreesBelow k T U = (i : ℕ) → i < k → (r : Parts) → T i r ≡ U i r

-- what becomes of a connection behind the request of each number
abbrev pub Fates : Type 0
Fates = ℕ → Parts → After

-- by the replies
abbrev pub fates_of : {H : Type 0} → Teller H → Fates
fates_of T k r = (T k r).after
