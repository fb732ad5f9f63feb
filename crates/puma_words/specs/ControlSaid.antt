-- The order that contracts see as what the words say.
use Rattle.puma_words.specs.Control as words
use Rattle.puma_words.specs.declared.control.Control.{Control}

-- what the code's order says
abbrev pub said_control : Control → words.Control
said_control c = record { address = c.address.now; token = c.token.now; order = c.order.now }
