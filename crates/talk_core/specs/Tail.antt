-- What a hijacker says on a connection that it took over, which is this project's own.
use Rattle.std.specs.Prelude.{ℕ, Bool, false, if◌then◌else◌, List, [], ◌++◌}
use Rattle.hijack_core.specs.declared.hijack.Hijack.{Ghosts}
use Rattle.hijack_core.specs.declared.hijack.Said.{Said}

-- what hijackers say to the bytes that come, and at the end behind them
pub record Voice (H : Type 0) : Type 0 where
  pub says : H → List ℕ → Said
  pub ends : H → List ℕ → List ℕ

-- the voice of the hijackers of a type
abbrev pub voice_of : {H : Type 0} → Ghosts H → Voice H
voice_of {H} g = record { says = g.says; ends = g.ends }

-- what the hijacker says to these bytes, which were read behind the request, and, where it goes on and the peer
-- ended, at that end
abbrev pub tail_of : {H : Type 0} → Voice H → H → List ℕ → Bool → List ℕ
tail_of V h rest over =
    (V.says h rest).bytes ++ (if (V.says h rest).go_on then if over then V.ends h rest else [] else [])

-- it goes on, and the peer did not end: only a drain ends the connection
abbrev pub goes_on : {H : Type 0} → Voice H → H → List ℕ → Bool → Bool
goes_on V h rest over = if over then false else (V.says h rest).go_on
