-- What a wait came to.
use Rattle.std.specs.Prelude.{⊤}
use Rattle.rack_outside.specs.declared.watcher.Waited.{Waited}
use Rattle.rack_outside.specs.declared.watcher.Waited.TheVariants as waited

-- the fact, if the wait failed
abbrev pub OnFailedWait : Waited → Type 0 → Type 0
OnFailedWait waited.Some P = ⊤
OnFailedWait waited.Failed P = P
