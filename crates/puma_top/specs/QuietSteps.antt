-- The steps of a command. This serves inner contracts alone.
use Rattle.std.specs.Prelude.{◌≡◌, ℕ, List, [], ◌++◌, ◌≢◌, Option, Result, Ok, Err, ⊤}
use Rattle.rack_outside.specs.declared.files.FileRead.TheVariants as read
use Rattle.rack_outside.specs.Files.{Shelf}
use Rattle.rack_outside.specs.Link.{Tells}
use Rattle.rack_outside.specs.Told.{Rose}
use Rattle.stock_apps.specs.declared.app.App.{App}
use Rattle.builder_core.specs.declared.steps.Steps.{Steps}
use Rattle.builder_core.specs.Plan.{Plan, plan}
use Rattle.puma_top.specs.Seen.{FileReads, FilesSeen, SinkSeen}
use Rattle.puma_top.specs.Quiet.{ReadOnce, NotRead, HasRead, IsBadStack}
use Rattle.puma_top.specs.declared.status.Status.{Status}
use Rattle.puma_top.specs.declared.status.Status.TheVariants.{Done, NoMemory, Usage, File, Stack, SourceFault, SinkFault, TooLong, Dial, NoAnswer, Denied}

-- what files show, by what they tell
abbrev pub files_seen : {F : Type 0} → (F → Option Shelf) → (F → Option FileReads) → (F → ℕ) → F → FilesSeen
files_seen holds texts faults files = record { holds = holds files; texts = texts files; faults = faults files }

-- reading the stack file
abbrev pub Opens : Result (List ℕ) Status → List ℕ → FilesSeen → FilesSeen → Type 0
Opens (Ok text) name old new = ReadOnce name (read.Text text) old new
Opens (Err Done) name old new = ⊥
Opens (Err NoMemory) name old new = ⊤
Opens (Err Usage) name old new = ⊥
Opens (Err (File why)) name old new = NotRead why name old new
Opens (Err (Stack line rule)) name old new = ⊥
Opens (Err SourceFault) name old new = ⊥
Opens (Err SinkFault) name old new = ⊥
Opens (Err TooLong) name old new = ⊥
Opens (Err Dial) name old new = ⊥
Opens (Err NoAnswer) name old new = ⊥
Opens (Err (Denied denied)) name old new = ⊥

-- the steps that the code read, as data
abbrev pub plan_read : Result (Steps App) Status → Result (Plan App) Status
plan_read (Ok steps) = Ok (plan steps)
plan_read (Err status) = Err status

-- reading its steps
abbrev pub OpensSteps : Result (Plan App) Status → List ℕ → FilesSeen → FilesSeen → Type 0
OpensSteps (Ok steps) name old new = HasRead name steps old new
OpensSteps (Err Done) name old new = ⊥
OpensSteps (Err NoMemory) name old new = ⊤
OpensSteps (Err Usage) name old new = ⊥
OpensSteps (Err (File why)) name old new = NotRead why name old new
OpensSteps (Err (Stack line rule)) name old new = IsBadStack name line rule old new
OpensSteps (Err SourceFault) name old new = ⊥
OpensSteps (Err SinkFault) name old new = ⊥
OpensSteps (Err TooLong) name old new = ⊥
OpensSteps (Err Dial) name old new = ⊥
OpensSteps (Err NoAnswer) name old new = ⊥
OpensSteps (Err (Denied denied)) name old new = ⊥

-- a front of the text was written
pub record WroteFront (text : List ℕ) (sink : SinkSeen) : Type 0 where
  pub front : List ℕ
  pub more : List ℕ
  pub begins : text ≡ front ++ more
  pub wrote : Tells sink.written front

-- what writing this text came to
abbrev pub Prints : Status → List ℕ → SinkSeen → SinkSeen → Type 0
Prints Done text old new = Tells new.written text
Prints NoMemory text old new = WroteFront text new
Prints Usage text old new = ⊥
Prints (File why) text old new = ⊥
Prints (Stack line rule) text old new = ⊥
Prints SourceFault text old new = ⊥
Prints SinkFault text old new = Rose old.faults new.faults × ((h : WroteFront text new) × (h.more ≢ []))
Prints TooLong text old new = ⊥
Prints Dial text old new = ⊥
Prints NoAnswer text old new = ⊥
Prints (Denied denied) text old new = ⊥
