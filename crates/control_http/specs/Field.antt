-- The parts of the texts in JSON (RFC 8259).
use Rattle.std.specs.Prelude.{ℕ, Bool, true, false, List, ◌++◌, codes}

-- a name, as it stands with its quotes, colon and what parts it from the value before, and its value
unfoldable pub field : List ℕ → List ℕ → List ℕ
field name value = name ++ value

-- a truth
abbrev pub truth : Bool → List ℕ
truth true = codes "true"
truth false = codes "false"
