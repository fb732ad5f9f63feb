-- What crates above may cite: lemmas over the public definitions.
pub use Rattle.rack_outside.proofs.CountLemmas.{rose_some, rose_within}
