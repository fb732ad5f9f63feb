-- The host's name and port, or the local ones.
use Rattle.std.proofs.Common.{◌≡◌, ℕ, ◌<◌, ◌≤◌, List, [], ◌∷◌, length, Option, Some, refl, arith}
use Rattle.rack_types.specs.declared.peer.Local.{Local}
use Rattle.rack_env.specs.Host.{default_port, host_or_local}
use Rattle.std.specs.Option.{unwrap_or}

-- a host that is not empty
pub host_named : (name : List ℕ) (port : Option ℕ) (local : Local) → 0 < length name
    → host_or_local (Some (name, port)) local ≡ (name, unwrap_or port (default_port local.https))
host_named [] port local some = absurd (omega arith)
host_named (b ∷ name) port local some = refl

-- an empty one
pub host_empty : (name : List ℕ) (port : Option ℕ) (local : Local) → length name ≤ 0
    → host_or_local (Some (name, port)) local ≡ (local.name, local.port)
host_empty [] port local none = refl
host_empty (b ∷ name) port local none = absurd (omega (arith, none))
