-- What a contract sees of the stock body, which is this project's own.
use Rattle.std.specs.Prelude.{ℕ, ◌^◌, zero, suc, slice_index_or, Bool, true, false, nat_lt, if◌then◌else◌, List, [], length, drop, Option, None, Some}
use Rattle.std.specs.List.{concat}
use Rattle.rack_types.specs.declared.body.Kind.{Kind}
use Rattle.rack_types.specs.declared.body.Kind.TheVariants.{Enumerable, Streaming}
use Rattle.rack_types.specs.Body.{Content}

-- its content, and the piece that was taken last
pub record PlainBody : Type 0 where
  pub content : Content
  pub taken : List ℕ

-- a number that is below 2^64
abbrev pub sum_within : ℕ → Option ℕ
sum_within n = if nat_lt n (2 ^ 64) then Some n else None

-- the length that it knows, by its pieces, whether it raises, whether its length is to be known, and its kind
abbrev pub plain_known : List (List ℕ) → Bool → Bool → Kind → Option ℕ
plain_known pieces true known kind = None
plain_known pieces false false kind = None
plain_known pieces false true Streaming = None
plain_known pieces false true Enumerable = sum_within (length (concat pieces))

-- its content by the same
abbrev pub plain_content : List (List ℕ) → Bool → Bool → Kind → Content
plain_content pieces raises known kind =
    record { pieces = pieces; raises = raises; known = plain_known pieces raises known kind; kind = kind; sure = true }

-- the piece before this place, or nothing
abbrev pub piece_before : List (List ℕ) → ℕ → List ℕ
piece_before pieces zero = []
piece_before pieces (suc n) = slice_index_or pieces n []

-- of all its pieces so many were taken
abbrev pub plain_view : List (List ℕ) → ℕ → Bool → Bool → Kind → PlainBody
plain_view pieces place raises known kind =
    record { content = plain_content (drop place pieces) raises known kind; taken = piece_before pieces place }
