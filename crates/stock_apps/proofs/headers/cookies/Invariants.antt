use Rattle.std.proofs.Common.{◌≡◌, ◌∷◌, [], take, codes}
use Rattle.stock_apps.proofs.headers.cookies.Given as goal

abbrev pub invariant-loop-value : goal.invariant-loop-value
invariant-loop-value l = l.headers ≡ (codes "set-cookie", l.first ∷ take l.value-index l.more) ∷ []
