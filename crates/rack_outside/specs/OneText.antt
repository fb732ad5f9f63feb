-- The answer that one text gives, whatever stands behind it.
use Rattle.std.specs.Prelude.{◌≡◌, ℕ, ◌<◌, ◌≤◌, List, length}
use Rattle.rack_outside.specs.declared.files.FileRead.{FileRead}
use Rattle.rack_outside.specs.declared.files.FileRead.TheVariants.{Text, Absent, Long, Failed}

-- the text itself, where it has at most so many bytes
abbrev pub AnswersText : FileRead → ℕ → List ℕ → Type 0
AnswersText (Text answered) limit text = (length text ≤ limit) × (answered ≡ text)
AnswersText Absent limit text = ⊥
AnswersText Long limit text = limit < length text
AnswersText Failed limit text = ⊥
