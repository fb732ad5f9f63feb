-- The words behind the program's name, and the command that they say. This project's own, in the manner
-- of command lines everywhere: an option begins with a hyphen, and behind `--` there are none.
use Rattle.std.specs.Prelude.{◌==◌, ◌++◌, ℕ, Bool, true, false, not, List, [], ◌∷◌, Option, None, Some, if◌then◌else◌, codes}
use Rattle.std.specs.List.{after_first, before_first, filter}
use Rattle.std.specs.Str.{bytes_eq}

-- a word, as its bytes
abbrev pub Text : Type 0
Text = List ℕ

-- what the words say
pub data Command : Type 0 where
  -- one connection, answered by the stack of the file with this name; whether an application may take it over
  once : (hijack : Bool) (stack : Text) → Command
  -- the stack of the file with this name, in its canonical form
  check : (stack : Text) → Command

-- `--`, behind which each word is a name
abbrev pub ends_options : Text → Bool
ends_options word = bytes_eq word (codes "--")

-- a hyphen with more behind it; `-` alone is a name, and so is the empty word
abbrev pub is_option : Text → Bool
is_option [] = false
is_option (x ∷ []) = false
is_option (x ∷ y ∷ more) = x == 45

-- the options among the words, in their order
abbrev pub options : List Text → List Text
options words = filter is_option (before_first ends_options words)

-- the names among the words, in their order: what is no option, and all that stands behind the first `--`
abbrev pub names : List Text → List Text
names words = filter (λ word. not (is_option word)) (before_first ends_options words) ++ after_first ends_options words

-- `once` with these options and names: one name, and `--no-hijack` at most once, anywhere
abbrev pub once_of : List Text → List Text → Option Command
once_of [] (stack ∷ []) = Some (once true stack)
once_of (option ∷ []) (stack ∷ []) = if bytes_eq (codes "--no-hijack") option then Some (once false stack) else None
once_of _ _ = None

-- `check` with these options and names: one name, and no option
abbrev pub check_of : List Text → List Text → Option Command
check_of [] (stack ∷ []) = Some (check stack)
check_of _ _ = None

-- the command; none where the words are no command
abbrev pub command_of : List Text → Option Command
command_of [] = None
command_of (verb ∷ words) =
    if bytes_eq (codes "once") verb then once_of (options words) (names words)
    else (if bytes_eq (codes "check") verb then check_of (options words) (names words) else None)
