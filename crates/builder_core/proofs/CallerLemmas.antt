-- What crates above may cite of the proofs of this one: lemmas over its public definitions.
-- The plan of steps, by their lines.
pub use Rattle.builder_core.proofs.Folds.{plan-lines, item-use, item-run, item-map, item-cascade}
-- What a plan builds, and what a stack and a runner over it answer.
pub use Rattle.builder_core.proofs.BuildLemmas.{built-one, built-only_memory, small-only_memory, built-means, runner-means}
