use Rattle.std.proofs.Common.{◌≡◌, ◌++◌, ◌∷◌, [], drop}
use Rattle.rack_types.specs.Answer.{IsAsGiven}
use Rattle.builder_core.specs.Meaning.{tried}
use Rattle.builder_core.proofs.cascade.call_first.Given as goal

abbrev pub invariant-loop-app : goal.invariant-loop-app
invariant-loop-app g l = record {
  same : IsAsGiven l.fn.env l.env;
  left : tried g.E.Endpoint.answer (drop l.app-index l.front ++ l.last ∷ []) l.fn.env.pairs l.fn.env.input.bytes ≡ tried g.E.Endpoint.answer l.apps l.fn.env.pairs l.fn.env.input.bytes;
}
