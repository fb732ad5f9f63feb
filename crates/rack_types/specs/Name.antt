-- The bytes of names.
use Rattle.std.specs.Prelude.{ℕ, List}
use Rattle.rack_types.specs.declared.name.Text.{Text}
use Rattle.rack_types.specs.declared.name.Text.TheVariants.{Lent, Short, Owned}
use Rattle.rack_types.specs.declared.name.Given.{Given}
use Rattle.rack_types.specs.declared.name.Given.TheVariants as given

-- the bytes of a name, wherever they are
abbrev pub bytes_of : Text → List ℕ
bytes_of (Lent bytes) = bytes.now
bytes_of (Short bytes) = bytes
bytes_of (Owned bytes) = bytes

-- the bytes of a name that is given
abbrev pub given_bytes : Given → List ℕ
given_bytes (given.Lent bytes) = bytes.now
given_bytes (given.Copied bytes) = bytes.now
