-- What the program keeps of an open block: in place of the lines of each `end` in it, the first of them at which a
-- block without a default would have no application. This serves inner contracts alone.
use Rattle.std.specs.Prelude.{◌≡◌, ℕ, ◌+◌, ◌<◌, ◌&&◌, ◌||◌, nat_le, Bool, true, false, if◌then◌else◌, List, [], ◌∷◌, ◌++◌, length, map, reverse, Option, Some, None, unwrap_or, Result, Ok, Err}
use Rattle.builder_core.specs.Plan.{Plan, Item, Uses, Holds, EndsAny, plan_of_items, plan, item}
use Rattle.builder_core.specs.Plan as plans
use Rattle.builder_core.specs.declared.steps.Steps.{Steps}
use Rattle.stock_apps.specs.declared.app.App.{App}
use Rattle.stock_middleware.specs.declared.ware.Ware.{Ware}
use Rattle.stack_file.specs.declared.blocks.Block.{Block}
use Rattle.stack_file.specs.declared.blocks.Block.TheVariants.{Place, Cascade}
use Rattle.stack_file.specs.declared.blocks.Standing as program
use Rattle.stack_file.specs.declared.fault.FileFault.{FileFault}
use Rattle.stack_file.specs.declared.notes.Notes.{Notes}
use Rattle.stack_file.specs.declared.said.Said as program_said
use Rattle.stack_file.specs.declared.said.Said.TheVariants as line
use Rattle.stack_file.specs.Lines.{lines, words}
use Rattle.stack_file.specs.Said.{Said, Nothing, UseLine, RunLine, MapLine, CascadeLine, EndLine, Breaks, said}

-- what the program's value says
abbrev pub said_now : program_said.Said → Said
said_now line.Nothing = Nothing
said_now (line.Use ware) = UseLine ware
said_now (line.Run app) = RunLine app
said_now (line.Map place) = MapLine place
said_now line.Cascade = CascadeLine
said_now line.End = EndLine
said_now (line.Breaks rule) = Breaks rule

-- the first word and what stands behind it
abbrev pub BeginsWith : Option (List ℕ × List ℕ) → List ℕ → Type 0
BeginsWith None text = words text ≡ []
BeginsWith (Some p) text = (words text ≡ p.0 ∷ words p.1) × (length p.1 < length text)

-- nothing is noted of no lines
abbrev pub fresh : Notes
fresh = record { answered = false; row = None; unbuilt = None }

abbrev pub noted_use : Notes → Notes
noted_use notes = record { answered = notes.answered; row = None; unbuilt = notes.unbuilt }

abbrev pub noted_run : Notes → Notes
noted_run notes = record { answered = true; row = notes.row; unbuilt = notes.unbuilt }

-- there are places in a row at the end, and all of their blocks suffice
abbrev pub is_yes : Option Bool → Bool
is_yes None = false
is_yes (Some b) = b

-- a block of which this is noted has an application without a default
abbrev pub suffices : Notes → Bool
suffices notes = notes.answered || is_yes notes.row

-- one place more in a row
abbrev pub and_row : Option Bool → Bool → Bool
and_row None b = b
and_row (Some a) b = a && b

-- the first of two lines that there may be
abbrev pub earlier : Option ℕ → Option ℕ → Option ℕ
earlier None b = b
earlier (Some a) b = Some a

-- of a block that ends at this line: the first `end`, its own counted, at which a block without a default would have
-- no application
abbrev pub lacking : ℕ → Notes → Option ℕ
lacking n notes = if suffices notes then None else Some (unwrap_or notes.unbuilt n)

abbrev pub noted_map : ℕ → Notes → Notes → Notes
noted_map n inside notes = record {
  answered = notes.answered;
  row = Some (and_row notes.row (suffices inside));
  unbuilt = earlier notes.unbuilt (lacking n inside);
}

pub data KeptBlock : Type 0 where
  KeptPlace : List ℕ → List (Item App) → Notes → KeptBlock
  KeptCascade : List App → KeptBlock

pub record Kept : Type 0 where
  pub steps : ℕ
  pub inner : KeptBlock
  pub outer : List KeptBlock

abbrev pub kept_start : Kept
kept_start = record { steps = 0; inner = KeptPlace [] [] fresh; outer = [] }

-- what the program's values keep
abbrev pub kept_block : Block → KeptBlock
kept_block (Place place lines notes) = KeptPlace place (map item lines.items) notes
kept_block (Cascade apps) = KeptCascade apps.items

abbrev pub kept : program.Standing → Kept
kept s = record { steps = s.steps; inner = kept_block s.inner; outer = reverse (map kept_block s.outer.items) }

abbrev pub kept_now : Result program.Standing ℕ → Result Kept ℕ
kept_now (Ok s) = Ok (kept s)
kept_now (Err rule) = Err rule

abbrev pub kept_count : ℕ → KeptBlock → List KeptBlock → Result Kept ℕ
kept_count steps inner outer =
    if nat_le (steps + 1) 256 && nat_le (length outer) 32
    then Ok (record { steps = steps + 1; inner = inner; outer = outer }) else Err 9

abbrev pub kept_use : Ware → ℕ → List KeptBlock → KeptBlock → Result Kept ℕ
kept_use ware steps outer (KeptPlace place items notes) = kept_count steps (KeptPlace place (items ++ Uses ware ∷ []) (noted_use notes)) outer
kept_use ware steps outer (KeptCascade apps) = Err 7

abbrev pub kept_run : App → ℕ → List KeptBlock → KeptBlock → Result Kept ℕ
kept_run app steps outer (KeptPlace place items notes) = kept_count steps (KeptPlace place (items ++ plans.Ends app ∷ []) (noted_run notes)) outer
kept_run app steps outer (KeptCascade apps) = kept_count steps (KeptCascade (apps ++ app ∷ [])) outer

abbrev pub kept_opening : KeptBlock → ℕ → List KeptBlock → KeptBlock → Result Kept ℕ
kept_opening block steps outer (KeptPlace place items notes) = kept_count steps block (KeptPlace place items notes ∷ outer)
kept_opening block steps outer (KeptCascade apps) = Err 7

abbrev pub kept_around : ℕ → KeptBlock → KeptBlock → KeptBlock
kept_around n (KeptCascade apps) (KeptPlace place items notes) = KeptPlace place (items ++ EndsAny apps ∷ []) (noted_run notes)
kept_around n (KeptPlace inside lines within) (KeptPlace place items notes) =
    KeptPlace place (items ++ Holds inside (plan_of_items lines) ∷ []) (noted_map n within notes)
kept_around n inner (KeptCascade apps) = KeptCascade apps

abbrev pub kept_closing : ℕ → ℕ → KeptBlock → List KeptBlock → Result Kept ℕ
kept_closing n steps inner [] = Err 6
kept_closing n steps inner (next ∷ outer) = Ok (record { steps = steps; inner = kept_around n inner next; outer = outer })

abbrev pub kept_step : ℕ → Said → Kept → Result Kept ℕ
kept_step n Nothing s = Ok s
kept_step n (UseLine ware) s = kept_use ware s.steps s.outer s.inner
kept_step n (RunLine app) s = kept_run app s.steps s.outer s.inner
kept_step n (MapLine place) s = kept_opening (KeptPlace place [] fresh) s.steps s.outer s.inner
kept_step n CascadeLine s = kept_opening (KeptCascade []) s.steps s.outer s.inner
kept_step n EndLine s = kept_closing n s.steps s.inner s.outer
kept_step n (Breaks rule) s = Err rule

abbrev pub kept_whole : Plan App → Option ℕ → Result (Plan App) (ℕ × ℕ)
kept_whole p None = Ok p
kept_whole p (Some n) = Err (n, 8)

abbrev pub kept_end : ℕ → KeptBlock → List KeptBlock → Result (Plan App) (ℕ × ℕ)
kept_end n (KeptPlace place items notes) [] = kept_whole (plan_of_items items) (lacking n notes)
kept_end n (KeptPlace place items notes) (next ∷ outer) = Err (n, 6)
kept_end n (KeptCascade apps) outer = Err (n, 6)

abbrev pub kept_goes_on : ℕ → (Kept → Result (Plan App) (ℕ × ℕ)) → Result Kept ℕ → Result (Plan App) (ℕ × ℕ)
kept_goes_on n more (Ok s) = more s
kept_goes_on n more (Err rule) = Err (n, rule)

abbrev pub kept_reads : List (List ℕ) → ℕ → Kept → Result (Plan App) (ℕ × ℕ)
kept_reads [] = λ n s. kept_end n s.inner s.outer
kept_reads (text ∷ more) = λ n s. kept_goes_on n (kept_reads more (n + 1)) (kept_step n (said text) s)

-- what the program answers at the end of the file
abbrev pub end_now : Result (Steps App) FileFault → Result (Plan App) (ℕ × ℕ)
end_now (Ok steps) = Ok (plan steps)
end_now (Err fault) = Err (fault.line, fault.rule)
