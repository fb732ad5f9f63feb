-- How a place is left again; of private functions alone.
use Rattle.std.specs.Prelude.{ℕ, List, Option, codes}
use Rattle.rack_types.specs.Env.{Pairs}
use Rattle.stock_middleware.specs.Undo.{put_back, CanPutBack}

-- the pairs with what the script's name and the path were
abbrev pub outside : Option (List ℕ) × Option (List ℕ) → Pairs → Pairs
outside was ps = put_back (codes "SCRIPT_NAME") was.0 (put_back (codes "PATH_INFO") was.1 ps)

-- what that needs
abbrev pub CanLeave : Option (List ℕ) × Option (List ℕ) → Pairs → Type 0
CanLeave was ps =
    CanPutBack (codes "PATH_INFO") was.1 ps × CanPutBack (codes "SCRIPT_NAME") was.0 (put_back (codes "PATH_INFO") was.1 ps)
