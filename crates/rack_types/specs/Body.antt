-- What a contract sees of a body (after the enumerable and the streaming bodies of the Rack SPEC; that
-- a body is pulled, and what it tells of itself, is this project's own).
use Rattle.std.specs.Prelude.{◌≡◌, ℕ, Bool, true, false, List, [], ◌∷◌, length, Option, Result, Ok, Err}
use Rattle.std.specs.List.{concat}
use Rattle.std.specs.declared.alloc.AllocError.{AllocError}
use Rattle.rack_types.specs.declared.body.Kind.{Kind}
use Rattle.rack_types.specs.declared.body.Step.{Step}
use Rattle.rack_types.specs.declared.body.Step.TheVariants as step

-- the pieces that are left, whether the body raises behind them, their length where it is known, how the
-- body was made, and whether it never wants memory
pub record Content : Type 0 where
  pub pieces : List (List ℕ)
  pub raises : Bool
  pub known : Option ℕ
  pub kind : Kind
  pub sure : Bool

-- the body ends well, and its pieces have so many bytes
abbrev pub HasLength : ℕ → Content → Type 0
HasLength n c = (length (concat c.pieces) ≡ n) × (c.raises ≡ false)

-- the first piece was taken, and the others are left. What is then known of their length is not said
-- here: `known_length` says what it has to be
pub record TakesPiece (old : Content) (piece : List ℕ) (new : Content) : Type 0 where
  pub pieces : old.pieces ≡ piece ∷ new.pieces
  pub raises : new.raises ≡ old.raises
  pub kind : new.kind ≡ old.kind
  pub sure : new.sure ≡ old.sure

-- no piece is left, and the body ends so; it stays as it was
pub record Ends (raised : Bool) (old new : Content) : Type 0 where
  pub none : old.pieces ≡ []
  pub raises : old.raises ≡ raised
  pub same : new ≡ old

-- one `next`, with the piece that `piece` lends behind it, of which nothing is said where none was taken
abbrev pub StepsTo : Result Step AllocError → Content → List ℕ → Content → Type 0
StepsTo (Ok step.Piece) old piece new = TakesPiece old piece new
StepsTo (Ok step.End) old piece new = Ends false old new
StepsTo (Ok step.Raised) old piece new = Ends true old new
StepsTo (Err e) old piece new = (old.sure ≡ false) × (new ≡ old)
