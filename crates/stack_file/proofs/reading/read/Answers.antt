use Rattle.std.proofs.Common.{◌≡◌, ◌+◌, [], sym, ap, ◌∙◌, rules}
use Rattle.std.proofs.lemmas.List.{nil_from_length}
use Rattle.stack_file.specs.Kept.{Kept, kept, kept_now, kept_step, kept_reads, kept_goes_on}
use Rattle.stack_file.specs.Lines.{lines}
use Rattle.stack_file.proofs.KeptLemmas.{reads_kept}
use Rattle.stack_file.proofs.reading.read.Goals as goal

pub returns-in-Err-clause-fault : goal.returns-in-Err-clause-fault
returns-in-Err-clause-fault c =
    let text = c.args.text.now in
    let n = c.loop-left.number in
    let at : Kept = kept c.loop-left.standing in
    let refused = ap (λ what. kept_step n what at) (sym c.in_ok-read_line.ensures) ∙ sym c.in_ok-next.ensures ∙ ap (λ r. kept_now r) c.in-Err.is in
    c.bad.ensures text
    (sym (reads_kept text) ∙ sym c.loop-left.invariant.reads
    ∙ ap (λ ls. kept_reads ls n at) c.first_line.ensures.lines
    ∙ ap (λ r. kept_goes_on n (kept_reads (lines c.first_line.result.1.now) (n + 1)) r) refused)

pub returns-in-Ok-finish-clause-steps : goal.returns-in-Ok-finish-clause-steps
returns-in-Ok-finish-clause-steps c =
    let left = c.loop-left.left.now in
    let empty : left ≡ [] = nil_from_length left (search rules) in
    sym (reads_kept c.args.text.now) ∙ sym c.loop-left.invariant.reads
    ∙ ap (λ rest. kept_reads (lines rest) c.loop-left.number (kept c.loop-left.standing)) empty
    ∙ sym c.in-Ok-finish.ensures

pub returns-in-Err-finish-clause-fault : goal.returns-in-Err-finish-clause-fault
returns-in-Err-finish-clause-fault c =
    let left = c.loop-left.left.now in
    let empty : left ≡ [] = nil_from_length left (search rules) in
    sym (reads_kept c.args.text.now) ∙ sym c.loop-left.invariant.reads
    ∙ ap (λ rest. kept_reads (lines rest) c.loop-left.number (kept c.loop-left.standing)) empty
    ∙ sym c.in-Err-finish.ensures
