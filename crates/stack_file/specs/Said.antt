-- What a line of a stack file says. This project's own.
use Rattle.std.specs.Prelude.{ℕ, ◌-◌, ◌==◌, Bool, false, if◌then◌else◌, List, [], ◌∷◌, length, take, slice_get, Option, Some, None, option_map, Result, Ok, Err, codes, bytes_eq}
use Rattle.rack_text.specs.Escaped.{unescaped}
use Rattle.stock_apps.specs.declared.app.App.{App}
use Rattle.stock_apps.specs.declared.words.WordsFault.{WordsFault}
use Rattle.stock_apps.specs.declared.words.WordsFault.TheVariants.{Unknown, Count, Form}
use Rattle.stock_apps.specs.Words.{app_of}
use Rattle.stock_middleware.specs.declared.ware.Ware.{Ware}
use Rattle.stack_file.specs.Lines.{words, is_clean}
use Rattle.stack_file.specs.Wares.{ware_of}

-- What a line says: nothing, where it is ignored; or a step; or the end of a block. Or the least of the rules S1 to
-- S5 that it breaks.
pub data Said : Type 0 where
  Nothing : Said
  UseLine : Ware → Said
  RunLine : App → Said
  MapLine : List ℕ → Said
  CascadeLine : Said
  EndLine : Said
  Breaks : ℕ → Said

-- a text before others, where all are there
abbrev pub with_text : Option (List ℕ) → Option (List (List ℕ)) → Option (List (List ℕ))
with_text None texts = None
with_text (Some text) texts = option_map (λ more. text ∷ more) texts

-- the texts that arguments are escaped texts of, where each is one
abbrev pub texts_of : List (List ℕ) → Option (List (List ℕ))
texts_of [] = Some []
texts_of (word ∷ arguments) = with_text (unescaped word) (texts_of arguments)

-- the rule that a name and its arguments break
abbrev pub words_rule : WordsFault → ℕ
words_rule Unknown = 3
words_rule Count = 4
words_rule Form = 5

-- what a name and its arguments say
abbrev pub named : {A : Type 0} → (A → Said) → Result A WordsFault → Said
named says (Ok a) = says a
named says (Err fault) = Breaks (words_rule fault)

-- The same where an argument is no escaped text. The name and the number of the arguments come first, and what
-- says those looks at no argument.
abbrev pub ill_formed : {A : Type 0} → Result A WordsFault → Said
ill_formed (Ok a) = Breaks 5
ill_formed (Err fault) = Breaks (words_rule fault)

-- `read` says which middleware, or endpoint, these texts behind its name stand for
abbrev pub by_texts : {A : Type 0} → (A → Said) → (List (List ℕ) → Result A WordsFault) → List (List ℕ) → Option (List (List ℕ)) → Said
by_texts says read arguments None = ill_formed (read arguments)
by_texts says read arguments (Some texts) = named says (read texts)

-- `use`; where no name stands behind it, that is an unknown one
abbrev pub use_line : List (List ℕ) → Said
use_line [] = Breaks 3
use_line (name ∷ arguments) = by_texts UseLine (λ texts. ware_of name texts) arguments (texts_of arguments)

-- `run`, the same
abbrev pub run_line : List (List ℕ) → Said
run_line [] = Breaks 3
run_line (name ∷ arguments) = by_texts RunLine (λ texts. app_of name texts) arguments (texts_of arguments)

-- the byte is there and is `/`
abbrev pub is_slash : Option ℕ → Bool
is_slash None = false
is_slash (Some b) = b == 47

-- the last byte
abbrev pub last_byte : List ℕ → Option ℕ
last_byte text = slice_get text (length text - 1)

-- the text without one `/` at its end, if one is there
abbrev pub without_slash : List ℕ → List ℕ
without_slash text = if is_slash (last_byte text) then take (length text - 1) text else text

-- the place that a text says: it begins with `/`, and one `/` at its end is dropped, so that `/` alone is the
-- empty place
abbrev pub place_of : List ℕ → Option (List ℕ)
place_of text = if is_slash (slice_get text 0) then Some (without_slash text) else None

abbrev pub placed : Option (List ℕ) → Said
placed None = Breaks 5
placed (Some place) = MapLine place

abbrev pub text_placed : Option (List ℕ) → Said
text_placed None = Breaks 5
text_placed (Some text) = placed (place_of text)

-- `map`
abbrev pub map_line : List (List ℕ) → Said
map_line [] = Breaks 4
map_line (word ∷ []) = text_placed (unescaped word)
map_line (word ∷ argument ∷ arguments) = Breaks 4

-- `cascade` and `end`
abbrev pub bare_line : Said → List (List ℕ) → Said
bare_line said [] = said
bare_line said (argument ∷ arguments) = Breaks 4

-- by the first word
unfoldable pub verb_line : List ℕ → List (List ℕ) → Said
verb_line verb arguments =
    if bytes_eq verb (codes "use") then use_line arguments
    else if bytes_eq verb (codes "map") then map_line arguments
    else if bytes_eq verb (codes "end") then bare_line EndLine arguments
    else if bytes_eq verb (codes "run") then run_line arguments
    else if bytes_eq verb (codes "cascade") then bare_line CascadeLine arguments
    else Breaks 2

-- the word begins with `#`
abbrev pub is_comment : List ℕ → Bool
is_comment [] = false
is_comment (b ∷ bytes) = b == 35

-- a line without words and one whose first byte behind the spaces is `#` are ignored
abbrev pub said_by_words : List (List ℕ) → Said
said_by_words [] = Nothing
said_by_words (verb ∷ arguments) = if is_comment verb then Nothing else verb_line verb arguments

-- what the line says
abbrev pub said : List ℕ → Said
said line = if is_clean line then said_by_words (words line) else Breaks 1
