use Rattle.builder_core.specs.Nodes.{tree_of}
use Rattle.puma_top.proofs.QuietLemmas.{once_served}
use Rattle.puma_top.proofs.quiet.run_once.Goals as goal

pub returns-in-Ok-runner_of-clause-did : goal.returns-in-Ok-runner_of-clause-did
returns-in-Ok-runner_of-clause-did g c =
    let read = c.in-Ok.ensures in
    once_served c.serve.result c.args.hijack c.args.name.now (tree_of c.in-Ok-runner_of.runner.stack) _ _
    (record { text = read.text; was = read.was; good = c.in-Ok-runner_of.ensures.stack read.text read.reads }) c.serve.ensures.serves
