use Rattle.std.proofs.Common.{◌≡◌, rules, take}
use Rattle.std.specs.List.{flat_map}
use Rattle.rack_text.specs.Escaped.{spelling}
use Rattle.rack_text.proofs.SpellingLemmas.{plain_run-spelled}
use Rattle.rack_text.proofs.escaped.append_first.Goals as goal

pub returns-then-run-gt0-clause-written : goal.returns-then-run-gt0-clause-written
returns-then-run-gt0-clause-written c =
    let bytes = c.args.bytes.now in
    let own : flat_map spelling (take c.plain_run-run.result bytes) ≡ take c.plain_run-run.result bytes =
    rw c.plain_run-run.ensures.run (plain_run-spelled bytes) in
    record {
      some = c.if-run-gt0.true;
      within = c.plain_run-run.ensures.within;
      written = rw own (search rules);
    }
