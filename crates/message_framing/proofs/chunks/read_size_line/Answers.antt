use Rattle.message_framing.proofs.SizeLineLemmas.{whole_chunk_line}
use Rattle.message_framing.proofs.chunks.read_size_line.Goals as goal

pub returns-else-len-line-clause-none : goal.returns-else-len-line-clause-none
returns-else-len-line-clause-none c = λ l reads.
    let found = rw c.in-Ok-Complete.field-0-is at c.in-Ok-Complete.ensures.complete in
    c.if-len-line.false (whole_chunk_line c.args.line.now _ _ found.0 l found.1 reads)
