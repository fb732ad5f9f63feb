-- What an input ends as, once what it lent is given back.
use Rattle.std.specs.Prelude.{◌≡◌, ⊤}
use Rattle.std.specs.Borrow.{Fml, MutBor, follows_so}
use mathlib.Core.Option.{none}
use Rattle.rack_types.specs.Input.{Reading}
use Rattle.rack_types.specs.contracts.input.Input as input

-- the input is then r
abbrev pub InputEndsAs : MutBor Reading → Reading → Fml
InputEndsAs i r = follows_so input.the_row input.the_row i.ghost_name none (λ _ _. ⊤) (λ n. n ≡ r)
