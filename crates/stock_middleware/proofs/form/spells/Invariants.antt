use Rattle.std.proofs.Common.{◌≡◌, drop, bytes_eq}
use Rattle.form_urlencoded.specs.Form.{decode}
use Rattle.stock_middleware.proofs.form.spells.Given as goal

abbrev pub invariant-loop-byte : goal.invariant-loop-byte
invariant-loop-byte l = record {
  iterates : (goal.iterator-loop-byte).can_next l.left × (goal.iterator-loop-byte).is_finite l.left;
  same : bytes_eq l.left (drop l.byte-index l.word) ≡ bytes_eq (decode l.name) l.word;
}
