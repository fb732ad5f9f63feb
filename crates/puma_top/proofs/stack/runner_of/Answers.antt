use Rattle.std.proofs.Common.{◌≡◌, ◌∙◌, sym}
use Rattle.builder_core.specs.Plan.{plan}
use Rattle.builder_core.specs.declared.steps.BuildFault.TheVariants.{TooMany, TooDeep, NoRun, NoMemory}
use Rattle.stack_file.proofs.CallerLemmas.{reads_faults}
use Rattle.puma_top.proofs.stack.runner_of.Goals as goal

pub unreachable-requires : goal.unreachable-requires
unreachable-requires c =
    let only : c.in-Err-TooMany.field-0 ≡ NoMemory =
    reads_faults c.requires.read.0 (plan c.args.steps) c.in-Err-TooMany.field-0 c.requires.read.1 c.in-Err-TooMany.ensures.fault in
    let both : TooMany ≡ NoMemory = sym c.in-Err-TooMany.field-0-is ∙ only in
    cc

pub unreachable-requires-in-Err-TooDeep : goal.unreachable-requires-in-Err-TooDeep
unreachable-requires-in-Err-TooDeep c =
    let only : c.in-Err-TooDeep.field-0 ≡ NoMemory =
    reads_faults c.requires.read.0 (plan c.args.steps) c.in-Err-TooDeep.field-0 c.requires.read.1 c.in-Err-TooDeep.ensures.fault in
    let both : TooDeep ≡ NoMemory = sym c.in-Err-TooDeep.field-0-is ∙ only in
    cc

pub unreachable-requires-in-Err-NoRun : goal.unreachable-requires-in-Err-NoRun
unreachable-requires-in-Err-NoRun c =
    let only : c.in-Err-NoRun.field-0 ≡ NoMemory =
    reads_faults c.requires.read.0 (plan c.args.steps) c.in-Err-NoRun.field-0 c.requires.read.1 c.in-Err-NoRun.ensures.fault in
    let both : NoRun ≡ NoMemory = sym c.in-Err-NoRun.field-0-is ∙ only in
    cc
