use Rattle.std.proofs.Common.{length, sym, arith, rules}
use Rattle.std.proofs.lemmas.List.Sums.{prefix_len_is}
use Rattle.rack_text.specs.Escaped.{is_plain}
use Rattle.rack_text.proofs.escaped.plain_run.Goals as goal

pub returns-in-Some-clause-run : goal.returns-in-Some-clause-run
returns-in-Some-clause-run c =
    sym (prefix_len_is is_plain c.args.bytes.now c.in-Some.end 0 (search rules) (search rules) (search rules))

pub returns-in-None-clause-run : goal.returns-in-None-clause-run
returns-in-None-clause-run c =
    sym (prefix_len_is is_plain c.args.bytes.now (length c.args.bytes.now) 0 (omega arith) (search rules) (search rules))
