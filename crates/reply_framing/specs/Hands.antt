-- Answers that hand the connection to nobody.
use Rattle.std.specs.Prelude.{None, Some, ⊤}
use Rattle.rack_types.specs.declared.answer.Answer.{Answer}
use Rattle.rack_types.specs.declared.answer.Answer.TheVariants as answer
use Rattle.rack_types.specs.Body.{Content}

-- the answer has no hijacker
abbrev pub HandsToNobody : {H : Type 0} → Answer Content H → Type 0
HandsToNobody (answer.Reply status headers body None) = ⊤
HandsToNobody (answer.Reply status headers body (Some hijacker)) = ⊥
HandsToNobody (answer.Raised text) = ⊤
HandsToNobody (answer.Taken hijacker) = ⊥
