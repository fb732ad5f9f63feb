-- What contracts see of a connection: what its parts show, its number and its link.
use Rattle.std.specs.Prelude.{ℕ, Option, None, Some, if◌then◌else◌}
use Rattle.rack_types.specs.declared.body.Body.{Ghosts}
use Rattle.conn_core.specs.declared.conn.Conn.{Conn}
use Rattle.conn_steps.specs.Shown.{Shown, shows}

abbrev pub shown : {L B H : Type 0} {g : Ghosts B} → Conn L B H g → Shown
shown {L} {B} {H} {g} c = shows c.inside.value

abbrev pub number_of : {L B H : Type 0} {g : Ghosts B} → Conn L B H g → ℕ
number_of {L} {B} {H} {g} c = c.number

-- the key under which it was handed to a watcher last
abbrev pub key_of : {L B H : Type 0} {g : Ghosts B} → Conn L B H g → Option ℕ
key_of {L} {B} {H} {g} c = if c.watched then Some c.key else None

abbrev pub link_of : {L B H : Type 0} {g : Ghosts B} → Conn L B H g → L
link_of {L} {B} {H} {g} c = c.link
