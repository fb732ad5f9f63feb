-- What a command did, as its files, its source and its sink show it before and behind it. This project's own.
use Rattle.std.specs.Prelude.{◌≡◌, ◌≢◌, ℕ, ◌≤◌, ◌⊎◌, Bool, List, [], ◌∷◌, ◌++◌, length, Option, None, Some, Ok}
use Rattle.rack_outside.specs.declared.files.FileRead.{FileRead}
use Rattle.rack_outside.specs.declared.files.FileRead.TheVariants as read
use Rattle.rack_outside.specs.Told.{Rose}
use Rattle.rack_outside.specs.Files.{Shelf, Answers, Notes}
use Rattle.rack_outside.specs.Link.{Tells}
use Rattle.rack_outside.specs.Source.{IsPrefix}
use Rattle.stock_apps.specs.declared.app.App.{App}
use Rattle.builder_core.specs.Plan.{Plan}
use Rattle.builder_core.specs.Tree.{Tree}
use Rattle.stack_file.specs.Reads.{IsStack, IsBadAt}
use Rattle.stack_file.specs.Canon.{canonical}
use Rattle.puma_top.specs.Stack.{stack_limit, IsStackOf}
use Rattle.puma_top.specs.Seen.{FileReads, FilesSeen, SinkSeen, Seen}
use Rattle.puma_words.specs.Words.{Command, once, check}
use Rattle.puma_top.specs.Once.{ServedAll, ServedGiven, ServedPart, ServedLess, ServedLong}
use Rattle.puma_top.specs.Status.{UnlessNoMemory}
use Rattle.puma_top.specs.declared.status.FileWhy.{FileWhy}
use Rattle.puma_top.specs.declared.status.FileWhy.TheVariants.{Absent, Long, Failed}
use Rattle.puma_top.specs.declared.status.Status.{Status}
use Rattle.puma_top.specs.declared.status.Status.TheVariants.{Done, NoMemory, Usage, File, Stack, SourceFault, SinkFault, TooLong, Dial, NoAnswer, Denied}

-- the name of the stack file
abbrev pub file_of : Command → List ℕ
file_of (once hijack stack) = stack
file_of (check stack) = stack

-- the file of this name was read once, with that answer
pub record ReadOnce (name : List ℕ) (answer : FileRead) (old new : FilesSeen) : Type 0 where
  pub answers : Answers (Ok answer) name stack_limit old.holds new.holds
  pub noting : Notes (Ok answer) name old.texts new.texts

-- the file was not read, and why
abbrev pub NotRead : FileWhy → List ℕ → FilesSeen → FilesSeen → Type 0
NotRead Absent name old new = ReadOnce name read.Absent old new
NotRead Long name old new = ReadOnce name read.Long old new
NotRead Failed name old new = ReadOnce name read.Failed old new × Rose old.faults new.faults

-- its text is no stack: that rule is the first that it breaks, first in that line
pub record IsBadStack (name : List ℕ) (line rule : ℕ) (old new : FilesSeen) : Type 0 where
  pub text : List ℕ
  pub was : ReadOnce name (read.Text text) old new
  pub bad : IsBadAt text line rule

-- its text is this stack
pub record IsGoodStack (name : List ℕ) (stack : Tree App) (old new : FilesSeen) : Type 0 where
  pub text : List ℕ
  pub was : ReadOnce name (read.Text text) old new
  pub good : IsStackOf text stack

-- its text reads as these steps
pub record HasRead (name : List ℕ) (steps : Plan App) (old new : FilesSeen) : Type 0 where
  pub text : List ℕ
  pub was : ReadOnce name (read.Text text) old new
  pub reads : IsStack text steps

-- a connection was answered, whole, by the stack of the file with this name
pub record Served (hijack : Bool) (name : List ℕ) (old new : Seen) : Type 0 where
  pub stack : Tree App
  pub good : IsGoodStack name stack old.files new.files
  pub served : ServedAll (record { stack = stack; hijack = hijack }) new.source new.sink

-- a read of the connection failed, and all that came before was answered, or at a hijack a part of it
pub record CutOff (hijack : Bool) (name : List ℕ) (old new : Seen) : Type 0 where
  pub stack : Tree App
  pub good : IsGoodStack name stack old.files new.files
  pub rose : Rose old.source.faults new.source.faults
  pub served : ServedGiven (record { stack = stack; hijack = hijack }) new.source new.sink

-- a write to the connection failed, before all of the answer was written
pub record WriteFailed (hijack : Bool) (name : List ℕ) (old new : Seen) : Type 0 where
  pub stack : Tree App
  pub good : IsGoodStack name stack old.files new.files
  pub rose : Rose old.sink.faults new.sink.faults
  pub served : ServedLess (record { stack = stack; hijack = hijack }) new.source new.sink

-- a part of the answer was written
pub record ServedInPart (hijack : Bool) (name : List ℕ) (old new : Seen) : Type 0 where
  pub stack : Tree App
  pub good : IsGoodStack name stack old.files new.files
  pub served : ServedPart (record { stack = stack; hijack = hijack }) new.source new.sink

-- the connection gave as many bytes as are taken of one
pub record CutShort (hijack : Bool) (name : List ℕ) (old new : Seen) : Type 0 where
  pub stack : Tree App
  pub good : IsGoodStack name stack old.files new.files
  pub served : ServedLong (record { stack = stack; hijack = hijack }) new.source new.sink

-- what `once` did, by its status
abbrev pub OnceDid : Status → Bool → List ℕ → Seen → Seen → Type 0
OnceDid Done hijack name old new = Served hijack name old new
OnceDid NoMemory hijack name old new = (new.sink.written ≡ old.sink.written) ⊎ ServedInPart hijack name old new
OnceDid Usage hijack name old new = ⊥
OnceDid (File why) hijack name old new = NotRead why name old.files new.files
OnceDid (Stack line rule) hijack name old new = IsBadStack name line rule old.files new.files
OnceDid SourceFault hijack name old new = CutOff hijack name old new
OnceDid SinkFault hijack name old new = WriteFailed hijack name old new
OnceDid TooLong hijack name old new = CutShort hijack name old new
OnceDid Dial hijack name old new = ⊥
OnceDid NoAnswer hijack name old new = ⊥
OnceDid (Denied denied) hijack name old new = ⊥

-- the written form of the steps in the file with this name was written
pub record Printed (name : List ℕ) (old new : FilesSeen) (sink : SinkSeen) : Type 0 where
  pub steps : Plan App
  pub read : HasRead name steps old new
  pub printed : Tells sink.written (canonical steps)

-- a part of it
pub record PrintedInPart (name : List ℕ) (old new : FilesSeen) (sink : SinkSeen) : Type 0 where
  pub steps : Plan App
  pub read : HasRead name steps old new
  pub front : List ℕ
  pub more : List ℕ
  pub begins : canonical steps ≡ front ++ more
  pub printed : Tells sink.written front

-- and not all of it
pub record PrintedLess (name : List ℕ) (old new : FilesSeen) (sink : SinkSeen) : Type 0 where
  pub part : PrintedInPart name old new sink
  pub less : part.more ≢ []

-- what `check` did, by its status
abbrev pub CheckDid : Status → List ℕ → FilesSeen → FilesSeen → SinkSeen → SinkSeen → Type 0
CheckDid Done name old new sink sink_then = Printed name old new sink_then
CheckDid NoMemory name old new sink sink_then = (sink_then.written ≡ sink.written) ⊎ PrintedInPart name old new sink_then
CheckDid Usage name old new sink sink_then = ⊥
CheckDid (File why) name old new sink sink_then = NotRead why name old new
CheckDid (Stack line rule) name old new sink sink_then = IsBadStack name line rule old new
CheckDid SourceFault name old new sink sink_then = ⊥
CheckDid SinkFault name old new sink sink_then = Rose sink.faults sink_then.faults × PrintedLess name old new sink_then
CheckDid TooLong name old new sink sink_then = ⊥
CheckDid Dial name old new sink sink_then = ⊥
CheckDid NoAnswer name old new sink sink_then = ⊥
CheckDid (Denied denied) name old new sink sink_then = ⊥

-- what was done, by the command. Words that are no command are Usage, unless memory was refused
abbrev pub Did : Status → Option Command → Seen → Seen → Type 0
Did status None old new = UnlessNoMemory status (status ≡ Usage)
Did status (Some (once hijack name)) old new = OnceDid status hijack name old new
Did status (Some (check name)) old new = CheckDid status name old.files new.files old.sink new.sink × (new.source ≡ old.source)

-- the file of this name is held, and its next text is within the limit and breaks no rule
pub record IsReady (name : List ℕ) (old : FilesSeen) : Type 0 where
  pub shelf : Shelf
  pub text : List ℕ
  pub more : List (List ℕ)
  pub tells : old.holds ≡ Some shelf
  pub next : shelf name ≡ text ∷ more
  pub fits : length text ≤ stack_limit
  pub good : (line rule : ℕ) → ¬ (IsBadAt text line rule)

-- no count of faults rose
pub record NoFault (old new : Seen) : Type 0 where
  pub files : ¬ (Rose old.files.faults new.files.faults)
  pub source : ¬ (Rose old.source.faults new.source.faults)
  pub sink : ¬ (Rose old.sink.faults new.sink.faults)

-- what a command did, by its status, and which status it had to have
pub record Ran (command : Option Command) (status : Status) (old new : Seen) : Type 0 where
  pub did : Did status command old new
  -- a text that was read and breaks a rule is answered so
  pub bad_stack : (name text : List ℕ) (line rule : ℕ) (before : FileReads) → old.files.texts ≡ Some before
      → new.files.texts ≡ Some (before ++ ((name, read.Text text) ∷ [])) → IsBadAt text line rule
      → UnlessNoMemory status (status ≡ Stack line rule)
  -- with good words and a good stack it is Done, unless a count of faults rose or too many bytes came
  pub complete : (which : Command) → command ≡ Some which → IsReady (file_of which) old.files → NoFault old new
      → UnlessNoMemory status ((status ≡ Done) ⊎ (status ≡ TooLong))
  -- the source's input stays, and what came is a prefix of it
  pub same : new.source.input ≡ old.source.input
  pub prefix : IsPrefix old.source.given old.source.input → IsPrefix new.source.given new.source.input
