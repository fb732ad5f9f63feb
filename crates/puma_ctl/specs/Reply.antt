-- A reply of the control server, as the client reads it (RFC 9112, sections 4 to 6): a head text that is the head of a
-- response, with exactly one Content-Length, and so many bytes. That nothing else is one, and the limits, are this
-- project's own; those of a head are those that requests have.
use Rattle.std.specs.Prelude.{◌≡◌, ℕ, ◌≤◌, Bool, ◌&&◌, nat_le, if◌then◌else◌, List, [], ◌∷◌, ◌++◌, length, map, take, drop, Option, None, Some, codes}
use Rattle.httparse.specs.Grammar.{ResponseHead, ReadsResponse, status_code}
use Rattle.httparse.specs.Spans.{name_and_value}
use Rattle.rack_text.specs.Decimal.{is_decimal, decimal_value}
use Rattle.rack_types.specs.Fields.{values_of}
use Rattle.message_framing.specs.HeadText.{head_text}
use Rattle.message_framing.specs.Request.{head_limit, head_within}

-- the fields that a head may have, and the bytes that a body may have
abbrev pub fields_limit : ℕ
fields_limit = 64

abbrev pub body_limit : ℕ
body_limit = 1048576

-- the length that the values of Content-Length state: one value, a decimal number up to the limit
abbrev pub length_by : List (List ℕ) → Option ℕ
length_by [] = None
length_by (value ∷ []) = if is_decimal value && nat_le (decimal_value value) body_limit then Some (decimal_value value) else None
length_by (value ∷ next ∷ more) = None

-- the length that the fields state
abbrev pub stated_length : List (List ℕ × List ℕ) → Option ℕ
stated_length fields = length_by (values_of (codes "content-length") fields)

-- the text is this head of a response and nothing else
abbrev pub IsHead : List ℕ → ResponseHead → Type 0
IsHead text head = ReadsResponse text head [] × (length head.fields ≤ fields_limit)

-- the text is the head of a reply with this status, whose body has so many bytes
pub record IsReplyHead (text : List ℕ) (status count : ℕ) : Type 0 where
  pub head : ResponseHead
  pub reads : IsHead text head
  pub status_is : status ≡ status_code head
  pub states : stated_length (map name_and_value head.fields) ≡ Some count

-- b begins with a reply that has this status and this body: its head text, with the empty lines before it, ends within
-- the limit, and the body that it states stands behind it
pub record BeginsReply (b : List ℕ) (status : ℕ) (body : List ℕ) : Type 0 where
  pub end : ℕ
  pub ends : head_within b ≡ Some end
  pub head : IsReplyHead (head_text (take end b)) status (length body)
  pub rest : List ℕ
  pub behind : drop end b ≡ body ++ rest

-- b is a reply: nothing stands behind the body
pub record IsReply (b : List ℕ) (status : ℕ) (body : List ℕ) : Type 0 where
  pub end : ℕ
  pub ends : head_within b ≡ Some end
  pub head : IsReplyHead (head_text (take end b)) status (length body)
  pub behind : drop end b ≡ body

-- by where the head text ends: as many bytes as it may have stand, and it does not end; or it is no head of a reply
abbrev pub RefusedAt : Option ℕ → List ℕ → Type 0
RefusedAt None b = head_limit ≤ length b
RefusedAt (Some end) b = (status count : ℕ) → ¬ (IsReplyHead (head_text (take end b)) status count)

-- b never begins with a reply
abbrev pub IsNoReply : List ℕ → Type 0
IsNoReply b = RefusedAt (head_within b) b

-- a reply may still come of b
pub record AwaitsReply (b : List ℕ) : Type 0 where
  pub none : (status : ℕ) (body : List ℕ) → ¬ (BeginsReply b status body)
  pub unrefused : ¬ (IsNoReply b)
