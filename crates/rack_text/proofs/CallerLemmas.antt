-- What crates above may cite of this crate's proofs.
pub use Rattle.rack_text.proofs.DecimalLemmas.{decimal_number-decimal}
pub use Rattle.rack_text.proofs.ReadAgain.{escaped_read}
