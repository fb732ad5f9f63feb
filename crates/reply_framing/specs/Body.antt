-- The body of a reply on whole lists: which pieces are sent, and as which bytes (RFC 9112, sections 6 and 7.1).
use Rattle.std.specs.Prelude.{ℕ, Bool, false, List, [], ◌∷◌, ◌++◌, length, take, Option, None, Some, codes}
use Rattle.std.specs.List.{flat_map}
use Rattle.std.specs.Fmt.{digits}
use Rattle.rack_types.specs.declared.rules.BodyRule.{BodyRule}
use Rattle.reply_framing.specs.declared.types.Form.{Form}
use Rattle.reply_framing.specs.declared.types.Form.TheVariants.{Bare, Stated, Known, Chunked, Closing}
use Rattle.rack_types.specs.BodyRules.{Break, body_break}
use Rattle.reply_framing.specs.Head.{crlf}

-- a piece as a chunk, its size in lower-case hexadecimal digits; an empty piece has none, since an empty
-- chunk is the last (RFC 9112, section 7.1)
abbrev pub chunk : List ℕ → List ℕ
chunk [] = []
chunk (byte ∷ bytes) = digits 16 false (length (byte ∷ bytes)) ++ crlf ++ (byte ∷ bytes) ++ crlf

-- a piece as it is sent
abbrev pub wire : Form → List ℕ → List ℕ
wire Bare piece = []
wire Stated piece = piece
wire Known piece = piece
wire Chunked piece = chunk piece
wire Closing piece = piece

-- what is sent behind the last piece of a body that breaks no rule: in chunks, the last chunk and no trailer
abbrev pub last_bytes : Form → List ℕ
last_bytes Bare = []
last_bytes Stated = []
last_bytes Known = []
last_bytes Chunked = codes "0\r\n\r\n"
last_bytes Closing = []

-- the place and the rule at which a body breaks, by the length promised; one that isn't sent breaks none. (A
-- length that is known is that of a body that ends well: in the form Known none is broken.)
abbrev pub break_in : Form → Option ℕ → List (List ℕ) → Bool → Option Break
break_in Bare promised pieces raises = None
break_in Stated promised pieces raises = body_break promised pieces raises
break_in Known promised pieces raises = body_break promised pieces raises
break_in Chunked promised pieces raises = body_break promised pieces raises
break_in Closing promised pieces raises = body_break promised pieces raises

-- the bytes of a body: all of it, or what stands before the break
abbrev pub bytes_until : Option Break → Form → List (List ℕ) → List ℕ
bytes_until None form pieces = flat_map (wire form) pieces ++ last_bytes form
bytes_until (Some b) form pieces = flat_map (wire form) (take b.place pieces)

abbrev pub body_bytes : Form → Option ℕ → List (List ℕ) → Bool → List ℕ
body_bytes form promised pieces raises = bytes_until (break_in form promised pieces raises) form pieces

-- the rule of a break
abbrev pub rule_of : Option Break → Option BodyRule
rule_of None = None
rule_of (Some b) = Some b.rule

abbrev pub rule_in : Form → Option ℕ → List (List ℕ) → Bool → Option BodyRule
rule_in form promised pieces raises = rule_of (break_in form promised pieces raises)
