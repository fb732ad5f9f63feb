-- What a seat of a flag shows, and what the calls make of it. This project's own.
use Rattle.std.specs.Prelude.{◌≡◌, ℕ, ◌+◌, ◌-◌, max, true, false, []}
use Rattle.slot_flag.specs.declared.view.SeatView.{SeatView}
use Rattle.slot_flag.specs.declared.flag.Flag.{Flag}
use Rattle.slot_flag.specs.declared.flag.Seat.{Seat}

-- what the seat shows
abbrev pub seat_view : Seat → SeatView
seat_view s = s.seat.me.0

-- it is a seat of this flag, and not spent
pub record IsSeatOf (flag : Flag) (seat : Seat) : Type 0 where
  pub of : seat.seat.table_id ≡ flag.table.shared.table_id
  pub one_word : flag.table.shared.table_id.words ≡ 1
  pub empty : seat.seat.me.1 ≡ []
  pub live : seat.seat.me.0.live ≡ 1

-- it is the first seat, and no other is out
abbrev pub IsWhole : SeatView → Type 0
IsWhole v = (v.first ≡ true) × (v.out ≡ 0)

-- it is the first seat or not as before, and counts as many out
abbrev pub KeepsPlace : SeatView → SeatView → Type 0
KeepsPlace old new = (new.first ≡ old.first) × (new.out ≡ old.out)

-- the first seat of a flag at which nothing was raised
abbrev pub first_seat : SeatView
first_seat = record { first = true; live = 1; out = 0; raised = 0; seen = 0; loads = 0 }

-- a seat that was just split off from one that had seen this level
abbrev pub split_off : ℕ → SeatView
split_off level = record { first = false; live = 1; out = 0; raised = 0; seen = level; loads = 0 }

-- the seat from which another was split off
abbrev pub with_one_more_out : SeatView → SeatView
with_one_more_out v =
    record { first = v.first; live = v.live; out = v.out + 1; raised = v.raised; seen = v.seen; loads = v.loads }

-- the seat to which this other was joined
abbrev pub joined : SeatView → SeatView → SeatView
joined v u =
    record {
      first = v.first;
      live = v.live;
      out = v.out - 1;
      raised = max v.raised u.raised;
      seen = max v.seen u.seen;
      loads = v.loads;
    }

-- what is left of a seat that was joined
abbrev pub spent : SeatView
spent = record { first = false; live = 0; out = 0; raised = 0; seen = 0; loads = 0 }
