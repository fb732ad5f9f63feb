-- How a change of an environment's pairs is undone.
use Rattle.std.specs.Prelude.{ℕ, List, Option, Some, None, codes, ⊤}
use Rattle.rack_types.specs.Env.{Pairs, set_pair, remove_pair, HasName}
use Rattle.stock_middleware.specs.declared.undo.Undo.{Undo}
use Rattle.stock_middleware.specs.declared.undo.Undo.TheVariants.{Nothing, Method}

-- the name has again what it had: this value, or none
abbrev pub put_back : List ℕ → Option (List ℕ) → Pairs → Pairs
put_back name None ps = remove_pair name ps
put_back name (Some value) ps = set_pair name value ps

-- what that needs: where the name had a value, it has one now
abbrev pub CanPutBack : List ℕ → Option (List ℕ) → Pairs → Type 0
CanPutBack name None ps = ⊤
CanPutBack name (Some value) ps = HasName name ps

-- the pairs with the method, and the original method, that they had
abbrev pub undone : Undo → Pairs → Pairs
undone Nothing ps = ps
undone (Method method original) ps =
    put_back (codes "rack.methodoverride.original_method") original (set_pair (codes "REQUEST_METHOD") method ps)

-- what that needs
abbrev pub CanUndo : Undo → Pairs → Type 0
CanUndo Nothing ps = ⊤
CanUndo (Method method original) ps =
    HasName (codes "REQUEST_METHOD") ps
    × CanPutBack (codes "rack.methodoverride.original_method") original (set_pair (codes "REQUEST_METHOD") method ps)
