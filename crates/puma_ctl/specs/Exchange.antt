-- What a dial in memory is: the link that it has, the one that it took back, and its counts.
use Rattle.std.specs.Prelude.{ℕ, Option, None}
use Rattle.std.specs.Option.{option_map}
use Rattle.rack_outside.specs.Wire.{Wire, wire_seen}
use Rattle.puma_ctl.specs.Dial.{DialSeen}

pub record Exchange : Type 0 where
  pub link : Option Wire
  pub back : Option Wire
  pub faults : ℕ
  pub dials : ℕ

-- one that has this link, and did nothing yet
abbrev pub exchange_of : Option Wire → Exchange
exchange_of link = record { link = link; back = None; faults = 0; dials = 0 }

abbrev pub exchange_seen : Exchange → DialSeen
exchange_seen e = record { faults = e.faults; dials = e.dials; back = option_map wire_seen e.back }
