-- The endpoint that a name and its arguments say, as a line of a stack file has them. This project's own.
use Rattle.std.specs.Prelude.{ℕ, ◌-◌, Bool, true, false, ◌&&◌, ◌||◌, ◌==◌, nat_le, if◌then◌else◌, List, [], ◌∷◌, length, take, slice_get, Option, None, Some, option_map, option_and_then, Result, Ok, Err, codes, bytes_eq}
use Rattle.rack_text.specs.Decimal.{decimal_number}
use Rattle.stock_apps.specs.declared.app.App.{App}
use Rattle.stock_apps.specs.declared.app.App.TheVariants.{Text, Echo, Env, Pieces, Stream, Cookies, Bad, Raise, Late, Take, Part}
use Rattle.stock_apps.specs.declared.words.Named.{Named}
use Rattle.stock_apps.specs.declared.words.Named.TheVariants as named
use Rattle.stock_apps.specs.declared.words.WordsFault.{WordsFault}
use Rattle.stock_apps.specs.declared.words.WordsFault.TheVariants.{Unknown, Count, Form}

-- the status that a text writes: a decimal number from 100 to 999
abbrev pub in_status : ℕ → Option ℕ
in_status n = if nat_le 100 n && nat_le n 999 then Some n else None

abbrev pub status_of : List ℕ → Option ℕ
status_of text = option_and_then in_status (decimal_number text)

-- the length that a text writes: a decimal number up to 1,000,000
abbrev pub in_length : ℕ → Option ℕ
in_length n = if nat_le n 1_000_000 then Some n else None

abbrev pub length_of : List ℕ → Option ℕ
length_of text = option_and_then in_length (decimal_number text)

-- the number of a rule that a text writes: 1 to 8, or 10
abbrev pub in_rules : ℕ → Option ℕ
in_rules n = if (nat_le 1 n && nat_le n 8) || n == 10 then Some n else None

abbrev pub rule_of : List ℕ → Option ℕ
rule_of text = option_and_then in_rules (decimal_number text)

-- a number before others, where all are there
abbrev pub before : Option ℕ → Option (List ℕ) → Option (List ℕ)
before None numbers = None
before (Some n) numbers = option_map (λ ns. n ∷ ns) numbers

-- the numbers of rules that texts write, where each writes one
abbrev pub rules_of : List (List ℕ) → Option (List ℕ)
rules_of [] = Some []
rules_of (text ∷ texts) = before (rule_of text) (rules_of texts)

-- the last text is `!`
abbrev pub is_mark : Option (List ℕ) → Bool
is_mark None = false
is_mark (Some text) = bytes_eq text (codes "!")

abbrev pub is_marked : List (List ℕ) → Bool
is_marked texts = is_mark (slice_get texts (length texts - 1))

-- the texts without a last one that is `!`
abbrev pub unmarked : List (List ℕ) → List (List ℕ)
unmarked texts = if is_marked texts then take (length texts - 1) texts else texts

-- whether the stock hijacker that a text names is upper: the names are `echo` and `upper`
abbrev pub upper_of : List ℕ → Option Bool
upper_of text = if bytes_eq text (codes "echo") then Some false else if bytes_eq text (codes "upper") then Some true else None

-- the endpoint, where the arguments are of their form
abbrev pub formed : Option App → Result App WordsFault
formed None = Err Form
formed (Some app) = Ok app

-- by the arguments of each name
abbrev pub text_words : List (List ℕ) → Result App WordsFault
text_words (status ∷ kind ∷ body ∷ []) = formed (option_map (λ n. Text n kind body) (status_of status))
text_words _ = Err Count

abbrev pub bare_words : App → List (List ℕ) → Result App WordsFault
bare_words app [] = Ok app
bare_words app (text ∷ texts) = Err Count

abbrev pub pieces_words : List (List ℕ) → Result App WordsFault
pieces_words [] = Err Count
pieces_words (status ∷ pieces) = formed (option_map (λ n. Pieces n pieces) (status_of status))

abbrev pub cookies_words : List (List ℕ) → Result App WordsFault
cookies_words [] = Err Count
cookies_words (value ∷ values) = Ok (Cookies (value ∷ values))

abbrev pub bad_words : List (List ℕ) → Result App WordsFault
bad_words texts =
    if nat_le 1 (length texts) && nat_le (length texts) 8 then formed (option_map Bad (rules_of texts)) else Err Count

abbrev pub raise_words : List (List ℕ) → Result App WordsFault
raise_words (text ∷ []) = Ok (Raise text)
raise_words _ = Err Count

abbrev pub late_words : List (List ℕ) → Result App WordsFault
late_words [] = Err Count
late_words (length ∷ texts) = formed (option_map (λ n. Late n (unmarked texts) (is_marked texts)) (length_of length))

abbrev pub take_words : List (List ℕ) → Result App WordsFault
take_words (name ∷ []) = formed (option_map Take (upper_of name))
take_words _ = Err Count

-- a status and a name
abbrev pub part_of : Option ℕ → Option Bool → Option App
part_of None upper = None
part_of (Some status) upper = option_map (λ u. Part status u) upper

abbrev pub part_words : List (List ℕ) → Result App WordsFault
part_words (status ∷ name ∷ []) = formed (part_of (status_of status) (upper_of name))
part_words _ = Err Count

-- the name that a word is
unfoldable pub name_of : List ℕ → Option Named
name_of word =
    if bytes_eq word (codes "text") then Some named.Text
    else if bytes_eq word (codes "echo") then Some named.Echo
    else if bytes_eq word (codes "env") then Some named.Env
    else if bytes_eq word (codes "pieces") then Some named.Pieces
    else if bytes_eq word (codes "stream") then Some named.Stream
    else if bytes_eq word (codes "cookies") then Some named.Cookies
    else if bytes_eq word (codes "bad") then Some named.Bad
    else if bytes_eq word (codes "raise") then Some named.Raise
    else if bytes_eq word (codes "late") then Some named.Late
    else if bytes_eq word (codes "take") then Some named.Take
    else if bytes_eq word (codes "part") then Some named.Part
    else None

-- by the name
abbrev pub named_words : Option Named → List (List ℕ) → Result App WordsFault
named_words None arguments = Err Unknown
named_words (Some named.Text) arguments = text_words arguments
named_words (Some named.Echo) arguments = bare_words Echo arguments
named_words (Some named.Env) arguments = bare_words Env arguments
named_words (Some named.Pieces) arguments = pieces_words arguments
named_words (Some named.Stream) arguments = Ok (Stream arguments)
named_words (Some named.Cookies) arguments = cookies_words arguments
named_words (Some named.Bad) arguments = bad_words arguments
named_words (Some named.Raise) arguments = raise_words arguments
named_words (Some named.Late) arguments = late_words arguments
named_words (Some named.Take) arguments = take_words arguments
named_words (Some named.Part) arguments = part_words arguments

-- the endpoint that the name and the arguments say, or the first of three things that is wrong: no endpoint has the
-- name, they are too many or too few, or one is not of its form
abbrev pub app_of : List ℕ → List (List ℕ) → Result App WordsFault
app_of name arguments = named_words (name_of name) arguments
