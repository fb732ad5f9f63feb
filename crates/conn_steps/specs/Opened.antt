-- A connection at its start, and one that could not be opened.
use Rattle.std.specs.Prelude.{◌≡◌, ℕ, true, false, List, [], ◌∷◌, None}
use Rattle.rack_types.specs.declared.peer.Local.{Local}
use Rattle.rack_types.specs.declared.body.Body.{Ghosts}
use Rattle.message_framing.specs.Intake.{Fed}
use Rattle.reply_framing.specs.declared.types.After.TheVariants.{Keep}
use Rattle.talk_core.specs.declared.ended.Ended.{Ended}
use Rattle.talk_core.specs.declared.ended.Why.TheVariants as why
use Rattle.conn_steps.specs.declared.inside.Inside.{Inside}
use Rattle.conn_steps.specs.declared.moments.Ending.{Ending}
use Rattle.conn_steps.specs.declared.moments.Moments.{Moments}
use Rattle.conn_steps.specs.declared.at.At.TheVariants as at
use Rattle.conn_steps.specs.declared.state.State.TheVariants as state
use Rattle.conn_steps.specs.Shown.{Shown}

-- nothing was told of its end
abbrev pub untold : Ending
untold = record { told = 0; closing = None; late = None; dismissed = false }

-- the moments at the opening
abbrev pub first_moments : ℕ → Moments
first_moments now = record { last = now; opened = now; took = None; begun = None; filled = now }

-- what a connection shows at its start: one life, and nothing was run, read or said
abbrev pub opened : List ℕ → Local → ℕ → ℕ → Shown
opened peer local phase now = record {
  peer = peer;
  local = local;
  lives = record { first = 0; phase = phase } ∷ [];
  calls = 0;
  replied = 0;
  taken = 0;
  owed = [];
  state = state.Reading;
  why = None;
  fault = None;
  unfed = [];
  after = Keep;
  sure = true;
  ring = [];
  ending = untold;
  moments = first_moments now;
}

-- memory was refused: the link is handed back, and nothing was run
pub record IsUnopened {L : Type 0} (number : ℕ) (link : L) (e : Ended L) : Type 0 where
  pub number_is : e.number ≡ number
  pub link_is : e.link ≡ link
  pub lives_are : e.lives.items ≡ []
  pub calls_are : e.calls ≡ 0
  pub told_is : e.told ≡ 0
  pub closing_is : e.closing ≡ None
  pub why_is : e.why ≡ why.NoMemory

-- the parts of a connection at its start
pub record IsFresh {B H : Type 0} {g : Ghosts B} (peer : List ℕ) (local : Local) (phase now : ℕ) (p : Inside B H g) : Type 0 where
  pub peer_is : p.peer ≡ peer
  pub local_is : p.local ≡ local
  pub lives_are : p.lives.items ≡ record { first = 0; phase = phase } ∷ []
  pub fed : Fed p.intake []
  pub unfed : p.unfed ≡ []
  pub ring : p.ring.items ≡ []
  pub calls : p.calls ≡ 0
  pub taken : p.taken ≡ 0
  pub ending : p.ending ≡ untold
  pub moments : p.moments ≡ first_moments now
  pub at_is : p.at ≡ at.Reading
