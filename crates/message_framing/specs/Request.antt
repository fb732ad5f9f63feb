-- Where a request begins and ends, and what is refused: relations on whole byte lists.
use Rattle.std.specs.Prelude.{◌≡◌, ℕ, ◌+◌, ◌*◌, ◌<◌, ◌≤◌, ◌⊎◌, Bool, nat_lt, MatchBool, List, length, take, drop, Option, None, Some}
use Rattle.httparse.specs.Grammar.{RequestHead}
use Rattle.rack_types.specs.declared.fault.Fault.{Fault}
use Rattle.rack_types.specs.declared.fault.Fault.TheVariants.{F}
use Rattle.rack_types.specs.Limits.{stock_limits}
use Rattle.rack_types.specs.Request.{Parts}
use Rattle.message_framing.specs.HeadText.{skipped, head_len, head_text}
use Rattle.message_framing.specs.Head.{IsHead, IsNoHead, IsRequestOf, lines_between, head_fault, head_framing}
use Rattle.message_framing.specs.Body.{IsBody, BodyRefusal}

-- the bytes that a head may have, with the empty lines before it. The limits and the numbers of the
-- refusals are this project's own.
abbrev pub head_limit : ℕ
head_limit = stock_limits.head

-- where the head text ends, if it does within the limit
abbrev pub head_within : List ℕ → Option ℕ
head_within b = head_len (take head_limit b)

-- the lines that a head may have between its request line and its blank line
abbrev pub lines_limit : ℕ
lines_limit = stock_limits.lines

-- the text has more lines than that
unfoldable pub has_too_many_lines : List ℕ → Bool
has_too_many_lines text = nat_lt lines_limit (lines_between text)

-- the refusal behind a head: what the head earns, else what the body behind it does
abbrev pub FaultOrBody : Option Fault → RequestHead → List ℕ → Fault → Type 0
FaultOrBody None h body f = BodyRefusal (head_framing h) body f
FaultOrBody (Some g) h body f = f ≡ g

-- the refusal of a whole head text whose lines are few enough, and of what stands behind it: F3 where
-- it is no head, else what the head and the body earn
abbrev pub HeadRefusal : List ℕ → List ℕ → Fault → Type 0
HeadRefusal text body f =
    (IsNoHead text × (f ≡ F 3)) ⊎ ((h : RequestHead) × IsHead text h × FaultOrBody (head_fault h) h body f)

-- the refusal of a whole head text, and of what stands behind it: F2 where its lines are too many
abbrev pub TextRefusal : List ℕ → List ℕ → Fault → Type 0
TextRefusal text body f = MatchBool (has_too_many_lines text) (f ≡ F 2) (HeadRefusal text body f)

-- the text is a head that earns no refusal, what stands behind it is its body, and r is their request
abbrev pub IsGoodHead : List ℕ → List ℕ → Parts → Type 0
IsGoodHead text body r =
    (h : RequestHead) × (bytes : List ℕ)
    × IsHead text h × (head_fault h ≡ None) × IsBody (head_framing h) body bytes × IsRequestOf h bytes r

-- the same, with few enough lines
abbrev pub IsGoodText : List ℕ → List ℕ → Parts → Type 0
IsGoodText text body r = MatchBool (has_too_many_lines text) ⊥ (IsGoodHead text body r)

-- the refusal, by where the head text ends: F1 where it does not and the limit is passed
abbrev pub RefusalAt : Option ℕ → List ℕ → Fault → Type 0
RefusalAt None b f = (head_limit < length b) × (f ≡ F 1)
RefusalAt (Some n) b f = TextRefusal (head_text (take n b)) (drop n b) f

-- f is the first refusal that stands for b
abbrev pub Refusal : List ℕ → Fault → Type 0
Refusal b f = RefusalAt (head_within b) b f

-- b is a whole request, by where its head text ends
abbrev pub RequestAt : Option ℕ → List ℕ → Parts → Type 0
RequestAt None b r = ⊥
RequestAt (Some n) b r = IsGoodText (head_text (take n b)) (drop n b) r

-- b is the request r: empty lines, a head that earns no refusal, its body, and nothing behind it
abbrev pub IsRequest : List ℕ → Parts → Type 0
IsRequest b r = RequestAt (head_within b) b r

-- b begins with the request r, of n bytes
abbrev pub Begins : List ℕ → ℕ → Parts → Type 0
Begins b n r = (n ≤ length b) × IsRequest (take n b) r

-- neither a request stands at the front of b, nor a refusal
abbrev pub Wanting : List ℕ → Type 0
Wanting b = ((n : ℕ) (r : Parts) → ¬ (Begins b n r)) × ((f : Fault) → ¬ (Refusal b f))

-- b has begun: it has more than whole empty lines
abbrev pub Begun : List ℕ → Type 0
Begun b = skipped b < length b

-- the most bytes in which nothing stands: a head, chunks of one byte with the longest size lines, and what came
-- of a last size line and of the trailer behind it
abbrev pub waiting_limit : ℕ
waiting_limit =
    head_limit + stock_limits.body * (stock_limits.size_line + 3) + stock_limits.size_line + stock_limits.trailer
