-- What the scan for the end of a head or of a trailer knows of the bytes so far.
use Rattle.std.specs.Prelude.{ℕ, suc, ◌==◌, if◌then◌else◌, List, [], ◌∷◌, Option, None, Some, option_map}
use Rattle.message_framing.specs.HeadText.{lf, cr}
use Rattle.message_framing.specs.declared.scan.Line.{Line}
use Rattle.message_framing.specs.declared.scan.Line.TheVariants.{Skipping, SkippingReturn, Text, Start, Return, Ended}

-- behind a line feed
abbrev pub after_line_feed : Line → Line
after_line_feed Skipping = Skipping
after_line_feed SkippingReturn = Skipping
after_line_feed Text = Start
after_line_feed Start = Ended
after_line_feed Return = Ended
after_line_feed Ended = Ended

-- behind a carriage return
abbrev pub after_return : Line → Line
after_return Skipping = SkippingReturn
after_return SkippingReturn = Text
after_return Text = Text
after_return Start = Return
after_return Return = Text
after_return Ended = Ended

-- behind any other byte
abbrev pub after_letter : Line → Line
after_letter Skipping = Text
after_letter SkippingReturn = Text
after_letter Text = Text
after_letter Start = Text
after_letter Return = Text
after_letter Ended = Ended

-- behind one more byte
abbrev pub next : Line → ℕ → Line
next line b = if b == lf then after_line_feed line else if b == cr then after_return line else after_letter line

-- behind some more bytes
unfoldable pub behind : Line → List ℕ → Line
behind line [] = line
behind line (b ∷ rest) = behind (next line b) rest

-- one byte further: the text ends with this byte, or so many bytes behind it
abbrev pub one_more : Line → Option ℕ → Option ℕ
one_more Ended later = Some 1
one_more Skipping later = option_map suc later
one_more SkippingReturn later = option_map suc later
one_more Text later = option_map suc later
one_more Start later = option_map suc later
one_more Return later = option_map suc later

-- how many of the bytes end the text, if they do
unfoldable pub ends : Line → List ℕ → Option ℕ
ends line [] = None
ends line (b ∷ rest) = one_more (next line b) (ends (next line b) rest)
