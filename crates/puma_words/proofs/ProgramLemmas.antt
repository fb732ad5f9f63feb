-- What `clap` makes of all the words.
use Rattle.std.proofs.Common.{◌≡◌, Bool, true, false, inl, inr, refl, sym, ap, subst, subst₂, List, [], ◌∷◌, ◌++◌, Option, Some, None, codes, map}
use Rattle.std.specs.Prelude.{⊤, fold, if◌then◌else◌, is_some, string_bytes, String}
use Rattle.std.specs.Str.{IsUtf8, bytes_eq}
use Rattle.std.proofs.lemmas.Bool.{cases_Bool}
use Rattle.std.proofs.lemmas.Str.{IsUtf8-string_bytes}
use Rattle.clap.specs.Walk.{Names, Row, Walk, finished, nothing_held, settled, walk_from, walked}
use Rattle.clap.specs.Simple.{App, HasMatchesOf, Shape, subcommand_rows_of, built, entered, is_simple, names_of, subcommand_of}
use Rattle.clap.specs.Faults.{check_fault, defaults_fault, entered_fault, fault_of, flags_fault, is_simple_and_free, settle_fault, turn_fault, walk_fault}
use Rattle.clap.specs.Kinds.{HasKind, IsAmong, Kinds, or_else}
use Rattle.clap.specs.Values.{kind_of}
use Rattle.clap.specs.declared.error.Error.{Error}
use Rattle.clap.specs.declared.parser.matches.ArgMatches.{ArgMatches}
use Rattle.clap.specs.declared.error.kind.ErrorKind.{ErrorKind}
use Rattle.clap.specs.declared.error.kind.ErrorKind.TheVariants as kind
use Rattle.clap.proofs.OnLiterals.{clap_on_literals}
use Rattle.clap.proofs.WalkLemmas.{walk_stopped}
use Rattle.puma_words.specs.Words.{Command, Text, check_of, command_of, names, once, once_of, options}
use Rattle.puma_words.specs.Program.{Follows, Met, puma_app, verb_of}
use Rattle.puma_words.proofs.WordForms.{IsUnknown, Strange, long, nil≢cons, short, same_bytes, word_cases}
use Rattle.puma_words.proofs.LineLemmas.{AllText, IsRefused, Says, check_read, once_read}

-- the words are refused exactly where they say no command, and else the subcommand says it
abbrev pub Agrees : Kinds → Option (Text × List Row) → Option Command → Type 0
Agrees [] met (Some command) = Met met command
Agrees [] met None = ⊥
Agrees (k ∷ ks) met (Some command) = ⊥
Agrees (k ∷ ks) met None = ⊤

abbrev pub AgreesOn : List Text → Type 0
AgreesOn words = Agrees (fault_of puma_app words) (subcommand_of puma_app words) (command_of words)

-- what building makes of the program's command line
abbrev top : Shape
top = (built puma_app).top

abbrev verbs : Names
verbs = names_of (built puma_app)

pub simple : is_simple puma_app ≡ true
simple = refl

pub free : is_simple_and_free puma_app ≡ true
free = refl

-- ---- behind the verb

-- the verb was met, and these words behind it
abbrev stopped_at : Text → List Text → Walk
stopped_at verb seen = record (walk_from nothing_held) { stopped = Some (verb, seen) }

no_fault : (verb : Text) (seen words : List Text) → walk_fault top verbs (stopped_at verb seen) words ≡ []
unfolding walked walk_fault
no_fault verb seen [] = refl
no_fault verb seen (w ∷ words) = no_fault verb (seen ++ w ∷ []) words

folded : (verb : Text) (words : List Text) → fold (walked top.rules verbs) (stopped_at verb []) words ≡ stopped_at verb words
folded verb words = sym (walk_stopped top.rules verbs (walk_from nothing_held) verb [] words)

-- by what the walk met and where it ended
abbrev whole : Kinds → Walk → Kinds
whole met end = or_else met (or_else (entered_fault (built puma_app) end.stopped)
    (or_else (settle_fault top.rules top.args_override_self end.held)
    (or_else (defaults_fault (settled top.rules end.held).rows top.rules)
    (check_fault top (finished top.rules end.held) (is_some (entered (built puma_app) end.stopped))))))

abbrev WholeAgrees : Option Command → Kinds → Walk → Type 0
WholeAgrees command met end = Agrees (whole met end) (entered (built puma_app) end.stopped) command

abbrev HasVerb : Text → Option Command → Type 0
HasVerb verb None = ⊤
HasVerb verb (Some command) = verb_of command ≡ verb

agrees : (verb : Text) (kinds : Kinds) (rows : List Row) (command : Option Command) → HasVerb verb command → Says kinds rows command
    → Agrees (or_else kinds []) (Some (verb, rows)) command
agrees verb [] rows (Some command) has says = (rows, ap (λ v. Some (v, rows)) (sym has), says)
agrees verb [] rows None has says = says
agrees verb (k ∷ ks) rows (Some command) has says = says
agrees verb (k ∷ ks) rows None has says = tt

either_none : (b : Bool) (verb : Text) (command : Command) → verb_of command ≡ verb → HasVerb verb (if b then Some command else None)
either_none true verb command has = has
either_none false verb command has = tt

says_once : (os ns : List Text) → HasVerb (codes "once") (once_of os ns)
says_once [] [] = tt
says_once [] (n ∷ []) = refl
says_once [] (n ∷ n' ∷ ns) = tt
says_once (o ∷ []) [] = tt
says_once (o ∷ []) (n ∷ []) = either_none (bytes_eq (codes "--no-hijack") o) (codes "once") (once false n) refl
says_once (o ∷ []) (n ∷ n' ∷ ns) = tt
says_once (o ∷ o' ∷ os) ns = tt

says_check : (os ns : List Text) → HasVerb (codes "check") (check_of os ns)
says_check [] [] = tt
says_check [] (n ∷ []) = refl
says_check [] (n ∷ n' ∷ ns) = tt
says_check (o ∷ os) ns = tt

once_agrees : (words : List Text) → AllText words → AgreesOn (codes "once" ∷ words)
unfolding clap_on_literals
once_agrees words all =
    let command = once_of (options words) (names words) in
    subst₂ (WholeAgrees command) (sym (no_fault (codes "once") [] words)) (sym (folded (codes "once") words))
    (agrees (codes "once") _ _ command (says_once (options words) (names words)) (once_read words all))

check_agrees : (words : List Text) → AllText words → AgreesOn (codes "check" ∷ words)
unfolding clap_on_literals
check_agrees words all =
    let command = check_of (options words) (names words) in
    subst₂ (WholeAgrees command) (sym (no_fault (codes "check") [] words)) (sym (folded (codes "check") words))
    (agrees (codes "check") _ _ command (says_check (options words) (names words)) (check_read words all))

-- ---- no verb

abbrev IsNoVerb : Text → Type 0
IsNoVerb word = (bytes_eq (codes "once") word ≡ false) × (bytes_eq (codes "check") word ≡ false)

no_command : (word : Text) (words : List Text) → IsNoVerb word → command_of (word ∷ words) ≡ None
no_command word words is = rw (is.0, is.1) refl

first_refused : (kinds more rest : Kinds) (met : Option (Text × List Row)) → IsRefused kinds → Agrees (or_else (or_else kinds more) rest) met None
first_refused kinds more rest met refused = rw refused.2 tt

refused_first : (word : Text) (words : List Text) → IsNoVerb word → IsRefused (turn_fault top verbs (walk_from nothing_held) word) → AgreesOn (word ∷ words)
unfolding walk_fault
refused_first word words is refused =
    subst (Agrees (fault_of puma_app (word ∷ words)) (subcommand_of puma_app (word ∷ words))) (sym (no_command word words is))
    (first_refused (turn_fault top verbs (walk_from nothing_held) word) _ _ _ refused)

strange_first : (word : Text) → IsUnknown word → IsNoVerb word → Strange word → IsRefused (turn_fault top verbs (walk_from nothing_held) word)
unfolding flags_fault
strange_first word u is (long name v has other) = (kind.UnknownArgument, [], rw (is.0, is.1, u.ends, has) refl)
strange_first word u is (short x flags c lacks has char) = (kind.UnknownArgument, [], rw (is.0, is.1, u.ends, lacks, has, char) refl)

ends_first : (words : List Text) → AgreesOn (codes "--" ∷ words)
unfolding clap_on_literals
ends_first [] = tt
ends_first (w ∷ words) = tt

flag_first : (words : List Text) → AgreesOn (codes "--no-hijack" ∷ words)
unfolding clap_on_literals
flag_first words = tt

other_agrees : (words : List Text) (word : Text) → IsUtf8 word → IsNoVerb word → AgreesOn (word ∷ words)
other_agrees words = word_cases (λ word. IsNoVerb word → AgreesOn (word ∷ words)) (
  (λ is. ends_first words),
  (λ is. flag_first words),
  (λ word u is. refused_first word words is (strange_first word u is u.strange)),
  (λ word n is. refused_first word words is (kind.UnknownArgument, kind.InvalidSubcommand ∷ [], rw (is.0, is.1, n.ends, n.long, n.short) refl)),
)

-- ---- all the words

not_check : (word : Text) (words : List Text) → IsUtf8 word → AllText words → bytes_eq (codes "once") word ≡ false → AgreesOn (word ∷ words)
not_check word words utf8 all differs = elim (cases_Bool (bytes_eq (codes "check") word)) [
  | inl same ↦ subst (λ v. AgreesOn (v ∷ words)) (same_bytes (codes "check") word same) (check_agrees words all)
  | inr other ↦ other_agrees words word utf8 (differs, other)
]

pub all_agree : (words : List Text) → AllText words → AgreesOn words
unfolding clap_on_literals
all_agree [] all = tt
all_agree (word ∷ words) all = elim (cases_Bool (bytes_eq (codes "once") word)) [
  | inl same ↦ subst (λ v. AgreesOn (v ∷ words)) (same_bytes (codes "once") word same) (once_agrees words all.1)
  | inr differs ↦ not_check word words all.0 all.1 differs
]

-- strings are text
pub strings_are_text : {Z : Type 0} (words : List (String Z)) → AllText (map string_bytes words)
strings_are_text [] = tt
strings_are_text (w ∷ words) = (IsUtf8-string_bytes w, strings_are_text words)

-- ---- the two answers of a parse

nothing_refuses : (kinds : Kinds) (met : Option (Text × List Row)) (says : Option Command) → Agrees kinds met says → kinds ≡ []
    → (answer : Option Command) → Follows met answer → answer ≡ says
nothing_refuses [] met (Some command) agrees none answer follows = follows command agrees
nothing_refuses [] met None agrees none answer follows = absurd agrees
nothing_refuses (k ∷ ks) met says agrees none answer follows = absurd (nil≢cons (sym none))

pub answer_is : (app : App) (words : List Text) (m : ArgMatches) (answer : Option Command) → app ≡ puma_app → AllText words → HasMatchesOf app words m
    → (is_simple_and_free app ≡ true → fault_of app words ≡ []) → Follows (subcommand_rows_of m) answer → answer ≡ command_of words
answer_is app words m answer is all has none follows =
    let met : subcommand_rows_of m ≡ subcommand_of puma_app words = (subst (λ a. HasMatchesOf a words m) is has simple).1 in
    let clear : fault_of puma_app words ≡ [] = subst (λ a. is_simple_and_free a ≡ true → fault_of a words ≡ []) is none free in
    nothing_refuses _ _ (command_of words) (all_agree words all) clear answer (subst (λ o. Follows o answer) met follows)

something_refuses : (k : ErrorKind) (kinds : Kinds) (met : Option (Text × List Row)) (says : Option Command) → Agrees kinds met says → IsAmong k kinds
    → None ≡ says
something_refuses k [] met says agrees among = absurd among
something_refuses k (x ∷ xs) met (Some command) agrees among = absurd agrees
something_refuses k (x ∷ xs) met None agrees among = refl

pub none_is : (app : App) (words : List Text) (e : Error) → app ≡ puma_app → AllText words → (is_simple_and_free app ≡ true → HasKind (fault_of app words) e)
    → (kind_of e ≡ kind.OutOfMemory → ⊥) → None ≡ command_of words
none_is app words e is all has other = elim (subst (λ a. is_simple_and_free a ≡ true → HasKind (fault_of a words) e) is has free) [
  | inl memory ↦ absurd (other memory)
  | inr among ↦ something_refuses (kind_of e) (fault_of puma_app words) (subcommand_of puma_app words) (command_of words) (all_agree words all) among
]
