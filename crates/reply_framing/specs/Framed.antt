-- The bytes that were framed and are not appended yet. This serves inner contracts alone.
use Rattle.std.specs.Prelude.{◌≡◌, ◌<◌, ◌≤◌, ℕ, Bool, true, false, List, [], ◌++◌, length, drop, codes}
use Rattle.circular_buffer.specs.Buffer.{Buffer, keep_last}
use Rattle.reply_framing.specs.declared.framed.Framed.{Framed}

-- what is left of the lead, of the piece that the body lends, and of the line end behind it
abbrev pub pending : Framed → List ℕ → List ℕ
pending f piece = drop f.lead_at f.lead.items ++ (keep_last f.piece_left piece ++ keep_last f.tail_left (codes "\r\n"))

-- so many bytes are left of the piece at most
abbrev pub IsWithin : Framed → List ℕ → Type 0
IsWithin f piece = f.piece_left ≤ length piece

-- all of it was appended, or the ring is full and bytes are left
abbrev pub IsAllOrFull : Bool → List ℕ → Buffer ℕ → Type 0
IsAllOrFull true rest ring = rest ≡ []
IsAllOrFull false rest ring = (0 < length rest) × (length ring.items ≡ ring.capacity)

-- nothing that was framed is left
pub record IsClear (f : Framed) : Type 0 where
  pub lead : length f.lead.items ≤ f.lead_at
  pub piece : f.piece_left ≡ 0
  pub tail : f.tail_left ≡ 0
