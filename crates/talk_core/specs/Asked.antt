-- The requests that were asked on a connection, counted by what they say themselves, whoever answers them.
use Rattle.std.specs.Prelude.{◌≡◌, ℕ, ◌+◌, not, ◌&&◌, if◌then◌else◌, List, [], ◌∷◌, length, Option, ⊤}
use Rattle.rack_types.specs.Fields.{persists}
use Rattle.rack_types.specs.Request.{Parts}
use Rattle.reply_framing.specs.declared.types.After.TheVariants.{Keep, Close}
use Rattle.talk_core.specs.Stands.{ClosesAt}
use Rattle.talk_core.specs.Talk.{Asks}
use Rattle.talk_core.specs.Teller.{Fates, is_last}

-- a connection goes on behind a request that persists and isn't the last
abbrev pub fates_by_request : Option ℕ → Fates
fates_by_request closing k r = if persists r && not (is_last closing k) then Keep else Close

-- behind each of these requests but the last, the first of which has number k, the connection goes on
abbrev pub AllButLastKeep : Fates → ℕ → List Parts → Type 0
AllButLastKeep fates k [] = ⊤
AllButLastKeep fates k (r ∷ []) = ⊤
AllButLastKeep fates k (r ∷ next ∷ rs) = (fates k r ≡ Keep) × AllButLastKeep fates (k + 1) (next ∷ rs)

-- these were asked: the first `calls` requests in the bytes, and behind them stands the rest
pub record IsAsked (closing : Option ℕ) (given : List ℕ) (calls : ℕ) (asked : List Parts) (rest : List ℕ) : Type 0 where
  pub asks : Asks given asked rest
  pub calls_is : calls ≡ length asked
  pub goes_on : AllButLastKeep (fates_by_request closing) 0 asked
  pub closes : ClosesAt closing calls ⊥ rest
