-- An answer as data: the same as the program has it, with the body's content in the body's place.
use Rattle.std.specs.Prelude.{◌≡◌}
use Rattle.rack_types.specs.Env.{Environment}
use Rattle.rack_types.specs.declared.answer.Answer.{Answer}
use Rattle.rack_types.specs.declared.answer.Answer.TheVariants.{Reply, Raised, Taken}

-- the answer with what `content` tells of its body in the body's place
abbrev pub told : {B C H : Type 0} → (B → C) → Answer B H → Answer C H
told content (Reply status headers body part) = Reply status headers (content body) part
told content (Raised text) = Raised text
told content (Taken hijacker) = Taken hijacker

-- the pairs and the input's bytes are as on entry; how far the input is read may differ
pub record IsAsGiven (old new : Environment) : Type 0 where
  pub pairs : new.pairs ≡ old.pairs
  pub bytes : new.input.bytes ≡ old.input.bytes
