-- What a hijacker says that says nothing and closes, and its laws. This project's own.
use Rattle.std.specs.Prelude.{◌≡◌, ℕ, ◌≤◌, true, false, List, [], length, refl}
use Rattle.std.proofs.Common.{lit≤}
use Rattle.std.proofs.lemmas.Bool.{false≢true}
use Rattle.hijack_core.specs.declared.hijack.Said.{Said}
use Rattle.hijack_core.specs.Said.{Starts, GoesOnAs}

-- no bytes, and the end
abbrev pub silence : Said
silence = record { bytes = []; go_on = false }

pub silence-begins : Starts silence.bytes silence.bytes
silence-begins = ([], refl)

pub silence-joins : (bytes : List ℕ) → silence.go_on ≡ true → GoesOnAs (λ bs. silence) (λ bs. []) bytes (λ bs. silence) (λ bs. [])
silence-joins bytes goes = absurd (false≢true goes)

pub silence-short : length silence.bytes ≤ 65536
silence-short = lit≤ tt
