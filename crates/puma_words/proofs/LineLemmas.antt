-- What `clap` makes of the words behind `once` and behind `check`: by what was read before them, what
-- the rest of them says.
use Rattle.std.proofs.Common.{◌≡◌, ◌∙◌, ℕ, Bool, true, false, inl, inr, refl, sym, ap, subst, subst₂, rules, List, [], ◌∷◌, Option, Some, None, codes}
use Rattle.std.specs.Prelude.{⊤, fold}
use Rattle.std.proofs.lemmas.Bool.{cases_Bool}
use Rattle.std.specs.Str.{IsUtf8, bytes_eq}
use Rattle.clap.specs.Walk.{Held, value, Row, Rule, Walk, arg_by_index, finished, idle, settled, to_positional, used, walked}
use Rattle.clap.specs.Lexer.{long_of}
use Rattle.clap.specs.Simple.{Shape, new_rule, new_shape}
use Rattle.clap.specs.Faults.{check_fault, defaults_fault, flag_word_fault, flags_fault, settle_fault, step_fault, turn_fault, walk_fault}
use Rattle.clap.specs.Kinds.{Kinds, or_else}
use Rattle.clap.specs.declared.builder.action.ArgAction.TheVariants.{Set, SetTrue}
use Rattle.clap.specs.declared.builder.value_parser.ValueParser.TheVariants as vp
use Rattle.clap.specs.declared.error.kind.ErrorKind.{ErrorKind}
use Rattle.clap.specs.declared.error.kind.ErrorKind.TheVariants as kind
use Rattle.clap.proofs.OnLiterals.{clap_on_literals}
use Rattle.puma_words.specs.Words.{Command, Text, check_of, names, once_of, options}
use Rattle.puma_words.specs.Program.{Holds}
use Rattle.puma_words.proofs.WordForms.{IsName, IsUnknown, Strange, long, short, names-name, names-option, options-name, options-option, word_cases}

-- ---- the two subcommands as `clap` builds them

abbrev pub flag : Rule
flag = record (new_rule (codes "no-hijack")) {
  long = Some (codes "no-hijack");
  action = Some SetTrue;
  range = Some (record { start_inclusive = 0; end_inclusive = 0 });
  defaults = codes "false" ∷ [];
  missing = codes "true" ∷ [];
  parser = Some vp.Bool;
}

abbrev pub stack : Rule
stack = record (new_rule (codes "stack")) {
  index = Some 1;
  action = Some Set;
  range = Some (record { start_inclusive = 1; end_inclusive = 1 });
  parser = Some vp.String;
  required = true;
}

abbrev pub line : Text → List Rule → Shape
line name rules = record (new_shape name) {
  rules = rules;
  no_binary_name = true;
  disable_help_flag = true;
  disable_help_subcommand = true;
  is_built = true;
}

abbrev pub once_line : Shape
once_line = line (codes "once") (flag ∷ stack ∷ [])

abbrev pub check_line : Shape
check_line = line (codes "check") (stack ∷ [])

-- ---- the rest of a line

-- where the walk stands: whether `--` was met, what was found, the name that is still to be noted, and
-- which positional comes next
abbrev pub at : Bool → List Row → Option (Text × List Text) → ℕ → Walk
at trailing rows pending n = record {
  held = record { rows = rows; pending = pending; skip = 0 };
  waiting = idle;
  position = n;
  is_trailing = trailing;
  stopped = None;
}

abbrev pub end_of : Shape → Walk → List Text → Held
end_of s w words = (fold (walked s.rules []) w words).held

-- why the line is refused, from there on
abbrev pub rest_fault : Shape → Walk → List Text → Kinds
rest_fault s w words =
    let end = end_of s w words in
    or_else (walk_fault s [] w words)
    (or_else [] (or_else (settle_fault s.rules s.args_override_self end)
    (or_else (defaults_fault (settled s.rules end).rows s.rules) (check_fault s (finished s.rules end) false))))

-- the line is refused exactly where it says no command, and else has found what the command holds
abbrev pub Says : Kinds → List Row → Option Command → Type 0
Says [] rows (Some command) = Holds rows command
Says [] rows None = ⊥
Says (k ∷ ks) rows (Some command) = ⊥
Says (k ∷ ks) rows None = ⊤

abbrev pub Reads : Shape → Walk → List Text → Option Command → Type 0
Reads s w words command = Says (rest_fault s w words) (finished s.rules (end_of s w words)) command

-- a word that passes
pub step : (s : Shape) (w next : Walk) (word : Text) (words : List Text) (command : Option Command) → turn_fault s [] w word ≡ []
    → walked s.rules [] w word ≡ next → Reads s next words command → Reads s w (word ∷ words) command
unfolding walk_fault
step s w next word words command passes is rest = rw passes (subst (λ v. Reads s v words command) (sym is) rest)

-- a word that is refused
abbrev pub IsRefused : Kinds → Type 0
IsRefused kinds = (k : ErrorKind) × (ks : Kinds) × (kinds ≡ k ∷ ks)

stop : (s : Shape) (w : Walk) (word : Text) (words : List Text) (command : Option Command) → IsRefused (turn_fault s [] w word) → command ≡ None
    → Reads s w (word ∷ words) command
unfolding walk_fault
stop s w word words command refused none = rw (none, refused.2) tt

-- ---- one word

abbrev Pending : Type 0
Pending = Option (Text × List Text)

unknown_turn : (s : Shape) (rows : List Row) (pending : Pending) (n : ℕ) (word : Text) → IsUnknown word
    → IsRefused (flag_word_fault s.rules s.args_override_self (long_of word) word (at false rows pending n).held)
    → IsRefused (turn_fault s [] (at false rows pending n) word)
unknown_turn s rows pending n word u refused = (refused.0, refused.1, rw (u.ends, refused.2) refl)

name_turn : (s : Shape) (rows : List Row) (pending : Pending) (n : ℕ) (word : Text) → IsName word
    → turn_fault s [] (at false rows pending n) word ≡ step_fault s n (at false rows pending n).held value
name_turn s rows pending n word is = rw (is.ends, is.long, is.short) refl

name_walked : (s : Shape) (rows : List Row) (pending : Pending) (n : ℕ) (word : Text) → IsName word
    → walked s.rules [] (at false rows pending n) word
    ≡ to_positional s.rules (arg_by_index s.rules n) word (at false rows pending n) (at false rows pending n).held
unfolding walked
name_walked s rows pending n word is = rw (is.ends, is.long, is.short) refl

-- an option that nobody has is refused behind `once`
once_strange : (word : Text) (h : Held) → h.skip ≡ 0 → Strange word → IsRefused (flag_word_fault once_line.rules false (long_of word) word h)
unfolding flags_fault
once_strange word h none (long name None is other) = (kind.UnknownArgument, [], rw (is, other refl) refl)
once_strange word h none (long name (Some v) is other) = elim (cases_Bool (bytes_eq (codes "no-hijack") name)) [
  | inl same ↦ (kind.TooManyValues, [], rw (is, same) refl)
  | inr differs ↦ (kind.UnknownArgument, [], rw (is, differs) refl)
]
once_strange word h none (short x flags c lacks is char) = (kind.UnknownArgument, [], rw (lacks, is, none, char) refl)

-- and behind `check`
check_strange : (word : Text) (h : Held) → h.skip ≡ 0 → Strange word → IsRefused (flag_word_fault check_line.rules false (long_of word) word h)
unfolding flags_fault
check_strange word h none (long name v is other) = (kind.UnknownArgument, [], rw is refl)
check_strange word h none (short x flags c lacks is char) = (kind.UnknownArgument, [], rw (lacks, is, none, char) refl)

-- ---- `once`: what is none

two_names : (os : List Text) (a b : Text) (ns : List Text) → once_of os (a ∷ b ∷ ns) ≡ None
two_names [] a b ns = refl
two_names (o ∷ []) a b ns = refl
two_names (o ∷ o' ∷ os) a b ns = refl

two_options : (a b : Text) (os ns : List Text) → once_of (a ∷ b ∷ os) ns ≡ None
two_options a b os [] = refl
two_options a b os (n ∷ []) = refl
two_options a b os (n ∷ n' ∷ ns) = refl

other_option : (o : Text) (os ns : List Text) → bytes_eq (codes "--no-hijack") o ≡ false → once_of (o ∷ os) ns ≡ None
other_option o [] [] differs = refl
other_option o [] (n ∷ []) differs = rw differs refl
other_option o [] (n ∷ n' ∷ ns) differs = refl
other_option o (o' ∷ os) ns differs = two_options o o' os ns

-- ---- `once`: the lines, the furthest read first

abbrev no_hijack : Text
no_hijack = codes "--no-hijack"

abbrev given : Text → Pending
given v = Some (codes "stack", v ∷ [])

-- `--no-hijack`; the name and then `--no-hijack`
abbrev flag_row : List Row
flag_row = used flag [] []

abbrev both_rows : Text → List Row
both_rows v = used flag [] (used stack (v ∷ []) [])

-- `--no-hijack` and then the name
abbrev flag_name : Bool → Text → Walk
flag_name trailing v = at trailing flag_row (given v) 2

abbrev name_flag : Bool → Text → Walk
name_flag trailing v = at trailing (both_rows v) None 2

flag_name-trailing : (v : Text) (words : List Text) → Reads once_line (flag_name true v) words (once_of (no_hijack ∷ []) (v ∷ words))
unfolding clap_on_literals
flag_name-trailing v [] = (refl, refl)
flag_name-trailing v (w ∷ words) = stop once_line (flag_name true v) w words None (kind.UnknownArgument, [], refl) refl

name_flag-trailing : (v : Text) (words : List Text) → Reads once_line (name_flag true v) words (once_of (no_hijack ∷ []) (v ∷ words))
unfolding clap_on_literals
name_flag-trailing v [] = (refl, refl)
name_flag-trailing v (w ∷ words) = stop once_line (name_flag true v) w words None (kind.UnknownArgument, [], refl) refl

-- the words are text
abbrev pub AllText : List Text → Type 0
AllText [] = ⊤
AllText (w ∷ words) = IsUtf8 w × AllText words

-- everything was read, and more words come: `--` may, and no other
abbrev EndsAt : Walk → Text → List Text → Type 0
EndsAt w v words = Reads once_line w words (once_of (no_hijack ∷ options words) (v ∷ names words))

flag_name-read : (v : Text) (words : List Text) → AllText words → EndsAt (flag_name false v) v words
unfolding clap_on_literals
flag_name-read v [] all = (refl, refl)
flag_name-read v (w ∷ words) all =
    let here : Walk = flag_name false v in
    word_cases (λ word. EndsAt here v (word ∷ words)) (
      step once_line here (flag_name true v) (codes "--") words _ refl refl (flag_name-trailing v words),
      stop once_line here no_hijack words _ (kind.ArgumentConflict, [], refl) (ap (λ os. once_of (no_hijack ∷ os) (v ∷ names (no_hijack ∷ words))) (options-option no_hijack words refl refl) ∙ two_options no_hijack no_hijack (options words) (v ∷ names (no_hijack ∷ words))),
      (λ word u. stop once_line here word words _ (unknown_turn once_line flag_row (given v) 2 word u (once_strange word here.held refl u.strange))
          (ap (λ os. once_of (no_hijack ∷ os) (v ∷ names (word ∷ words))) (options-option word words u.ends u.option) ∙ two_options no_hijack word (options words) (v ∷ names (word ∷ words)))),
      (λ word is. stop once_line here word words _ (kind.UnknownArgument, [], name_turn once_line flag_row (given v) 2 word is)
          (ap (λ ns. once_of (no_hijack ∷ options (word ∷ words)) (v ∷ ns)) (names-name word words is.ends is.option) ∙ two_names (no_hijack ∷ options (word ∷ words)) v word (names words))),
    ) w all.0

name_flag-read : (v : Text) (words : List Text) → AllText words → EndsAt (name_flag false v) v words
unfolding clap_on_literals
name_flag-read v [] all = (refl, refl)
name_flag-read v (w ∷ words) all =
    let here : Walk = name_flag false v in
    word_cases (λ word. EndsAt here v (word ∷ words)) (
      step once_line here (name_flag true v) (codes "--") words _ refl refl (name_flag-trailing v words),
      stop once_line here no_hijack words _ (kind.ArgumentConflict, [], refl) (ap (λ os. once_of (no_hijack ∷ os) (v ∷ names (no_hijack ∷ words))) (options-option no_hijack words refl refl) ∙ two_options no_hijack no_hijack (options words) (v ∷ names (no_hijack ∷ words))),
      (λ word u. stop once_line here word words _ (unknown_turn once_line (both_rows v) None 2 word u (once_strange word here.held refl u.strange))
          (ap (λ os. once_of (no_hijack ∷ os) (v ∷ names (word ∷ words))) (options-option word words u.ends u.option) ∙ two_options no_hijack word (options words) (v ∷ names (word ∷ words)))),
      (λ word is. stop once_line here word words _ (kind.UnknownArgument, [], name_turn once_line (both_rows v) None 2 word is)
          (ap (λ ns. once_of (no_hijack ∷ options (word ∷ words)) (v ∷ ns)) (names-name word words is.ends is.option) ∙ two_names (no_hijack ∷ options (word ∷ words)) v word (names words))),
    ) w all.0

-- the name alone was read
abbrev name_only : Bool → Text → Walk
name_only trailing v = at trailing [] (given v) 2

name_only-trailing : (v : Text) (words : List Text) → Reads once_line (name_only true v) words (once_of [] (v ∷ words))
unfolding clap_on_literals
name_only-trailing v [] = (refl, refl)
name_only-trailing v (w ∷ words) = stop once_line (name_only true v) w words None (kind.UnknownArgument, [], refl) refl

abbrev NameEndsAt : Text → List Text → Type 0
NameEndsAt v words = Reads once_line (name_only false v) words (once_of (options words) (v ∷ names words))

name_only-read : (v : Text) (words : List Text) → AllText words → NameEndsAt v words
unfolding clap_on_literals
name_only-read v [] all = (refl, refl)
name_only-read v (w ∷ words) all =
    let here : Walk = name_only false v in
    word_cases (λ word. NameEndsAt v (word ∷ words)) (
      step once_line here (name_only true v) (codes "--") words _ refl refl (name_only-trailing v words),
      step once_line here (name_flag false v) no_hijack words _ refl refl
          (subst₂ (λ os ns. Reads once_line (name_flag false v) words (once_of os (v ∷ ns))) (sym (options-option no_hijack words refl refl)) (sym (names-option no_hijack words refl refl))
          (name_flag-read v words all.1)),
      (λ word u. stop once_line here word words _ (unknown_turn once_line [] (given v) 2 word u (once_strange word here.held refl u.strange))
          (ap (λ os. once_of os (v ∷ names (word ∷ words))) (options-option word words u.ends u.option) ∙ other_option word (options words) (v ∷ names (word ∷ words)) u.other)),
      (λ word is. stop once_line here word words _ (kind.UnknownArgument, [], name_turn once_line [] (given v) 2 word is)
          (ap (λ ns. once_of (options (word ∷ words)) (v ∷ ns)) (names-name word words is.ends is.option) ∙ two_names (options (word ∷ words)) v word (names words))),
    ) w all.0

-- `--no-hijack` alone was read
abbrev flag_only : Bool → Walk
flag_only trailing = at trailing flag_row None 1

flag_only-trailing : (words : List Text) → Reads once_line (flag_only true) words (once_of (no_hijack ∷ []) words)
unfolding clap_on_literals
flag_only-trailing [] = tt
flag_only-trailing (w ∷ words) = step once_line (flag_only true) (flag_name true w) w words _ refl refl (flag_name-trailing w words)

abbrev FlagEndsAt : List Text → Type 0
FlagEndsAt words = Reads once_line (flag_only false) words (once_of (no_hijack ∷ options words) (names words))

flag_only-read : (words : List Text) → AllText words → FlagEndsAt words
unfolding clap_on_literals
flag_only-read [] all = tt
flag_only-read (w ∷ words) all =
    let here : Walk = flag_only false in
    word_cases (λ word. FlagEndsAt (word ∷ words)) (
      step once_line here (flag_only true) (codes "--") words _ refl refl (flag_only-trailing words),
      stop once_line here no_hijack words _ (kind.ArgumentConflict, [], refl)
          (ap (λ os. once_of (no_hijack ∷ os) (names (no_hijack ∷ words))) (options-option no_hijack words refl refl) ∙ two_options no_hijack no_hijack (options words) (names (no_hijack ∷ words))),
      (λ word u. stop once_line here word words _ (unknown_turn once_line flag_row None 1 word u (once_strange word here.held refl u.strange))
          (ap (λ os. once_of (no_hijack ∷ os) (names (word ∷ words))) (options-option word words u.ends u.option) ∙ two_options no_hijack word (options words) (names (word ∷ words)))),
      (λ word is. step once_line here (flag_name false word) word words _ (name_turn once_line flag_row None 1 word is) (name_walked once_line flag_row None 1 word is)
          (subst₂ (λ os ns. Reads once_line (flag_name false word) words (once_of (no_hijack ∷ os) ns)) (sym (options-name word words is.ends is.option)) (sym (names-name word words is.ends is.option))
          (flag_name-read word words all.1))),
    ) w all.0

-- nothing was read
abbrev nothing : Bool → Walk
nothing trailing = at trailing [] None 1

once_trailing : (words : List Text) → Reads once_line (nothing true) words (once_of [] words)
unfolding clap_on_literals
once_trailing [] = tt
once_trailing (w ∷ words) = step once_line (nothing true) (name_only true w) w words _ refl refl (name_only-trailing w words)

abbrev OnceAt : List Text → Type 0
OnceAt words = Reads once_line (nothing false) words (once_of (options words) (names words))

-- the words behind `once`
pub once_read : (words : List Text) → AllText words → OnceAt words
unfolding clap_on_literals
once_read [] all = tt
once_read (w ∷ words) all =
    let here : Walk = nothing false in
    word_cases (λ word. OnceAt (word ∷ words)) (
      step once_line here (nothing true) (codes "--") words _ refl refl (once_trailing words),
      step once_line here (flag_only false) no_hijack words _ refl refl
          (subst₂ (λ os ns. Reads once_line (flag_only false) words (once_of os ns)) (sym (options-option no_hijack words refl refl)) (sym (names-option no_hijack words refl refl))
          (flag_only-read words all.1)),
      (λ word u. stop once_line here word words _ (unknown_turn once_line [] None 1 word u (once_strange word here.held refl u.strange))
          (ap (λ os. once_of os (names (word ∷ words))) (options-option word words u.ends u.option) ∙ other_option word (options words) (names (word ∷ words)) u.other)),
      (λ word is. step once_line here (name_only false word) word words _ (name_turn once_line [] None 1 word is) (name_walked once_line [] None 1 word is)
          (subst₂ (λ os ns. Reads once_line (name_only false word) words (once_of os ns)) (sym (options-name word words is.ends is.option)) (sym (names-name word words is.ends is.option))
          (name_only-read word words all.1))),
    ) w all.0

-- ---- `check`

check_two_names : (os : List Text) (a b : Text) (ns : List Text) → check_of os (a ∷ b ∷ ns) ≡ None
check_two_names [] a b ns = refl
check_two_names (o ∷ os) a b ns = refl

checked-trailing : (v : Text) (words : List Text) → Reads check_line (name_only true v) words (check_of [] (v ∷ words))
unfolding clap_on_literals
checked-trailing v [] = refl
checked-trailing v (w ∷ words) = stop check_line (name_only true v) w words None (kind.UnknownArgument, [], refl) refl

abbrev CheckEndsAt : Text → List Text → Type 0
CheckEndsAt v words = Reads check_line (name_only false v) words (check_of (options words) (v ∷ names words))

checked-read : (v : Text) (words : List Text) → AllText words → CheckEndsAt v words
unfolding clap_on_literals
checked-read v [] all = refl
checked-read v (w ∷ words) all =
    let here : Walk = name_only false v in
    word_cases (λ word. CheckEndsAt v (word ∷ words)) (
      step check_line here (name_only true v) (codes "--") words _ refl refl (checked-trailing v words),
      stop check_line here no_hijack words _ (kind.UnknownArgument, [], refl) (ap (λ os. check_of os (v ∷ names (no_hijack ∷ words))) (options-option no_hijack words refl refl)),
      (λ word u. stop check_line here word words _ (unknown_turn check_line [] (given v) 2 word u (check_strange word here.held refl u.strange))
          (ap (λ os. check_of os (v ∷ names (word ∷ words))) (options-option word words u.ends u.option))),
      (λ word is. stop check_line here word words _ (kind.UnknownArgument, [], name_turn check_line [] (given v) 2 word is)
          (ap (λ ns. check_of (options (word ∷ words)) (v ∷ ns)) (names-name word words is.ends is.option) ∙ check_two_names (options (word ∷ words)) v word (names words))),
    ) w all.0

check_trailing : (words : List Text) → Reads check_line (nothing true) words (check_of [] words)
unfolding clap_on_literals
check_trailing [] = tt
check_trailing (w ∷ words) = step check_line (nothing true) (name_only true w) w words _ refl refl (checked-trailing w words)

abbrev CheckAt : List Text → Type 0
CheckAt words = Reads check_line (nothing false) words (check_of (options words) (names words))

-- the words behind `check`
pub check_read : (words : List Text) → AllText words → CheckAt words
unfolding clap_on_literals
check_read [] all = tt
check_read (w ∷ words) all =
    let here : Walk = nothing false in
    word_cases (λ word. CheckAt (word ∷ words)) (
      step check_line here (nothing true) (codes "--") words _ refl refl (check_trailing words),
      stop check_line here no_hijack words _ (kind.UnknownArgument, [], refl) (ap (λ os. check_of os (names (no_hijack ∷ words))) (options-option no_hijack words refl refl)),
      (λ word u. stop check_line here word words _ (unknown_turn check_line [] None 1 word u (check_strange word here.held refl u.strange))
          (ap (λ os. check_of os (names (word ∷ words))) (options-option word words u.ends u.option))),
      (λ word is. step check_line here (name_only false word) word words _ (name_turn check_line [] None 1 word is) (name_walked check_line [] None 1 word is)
          (subst₂ (λ os ns. Reads check_line (name_only false word) words (check_of os ns)) (sym (options-name word words is.ends is.option)) (sym (names-name word words is.ends is.option))
          (checked-read word words all.1))),
    ) w all.0
