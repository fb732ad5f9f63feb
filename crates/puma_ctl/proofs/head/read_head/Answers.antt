use Rattle.std.proofs.Common.{ℕ, refl, sym, subst, Option, arith}
use Rattle.std.specs.Prelude.{IfNone}
use Rattle.puma_ctl.specs.Reply.{IsReplyHead}
use Rattle.puma_ctl.specs.declared.head.Head.{Head}
use Rattle.puma_ctl.proofs.FieldLemmas.{no_length}
use Rattle.puma_ctl.proofs.head.read_head.Goals as goal

pub returns-in_err-length-clause-none : goal.returns-in_err-length-clause-none
returns-in_err-length-clause-none c =
    subst (λ (o : Option Head). IfNone o ((status : ℕ) → (count : ℕ) → ¬ (IsReplyHead c.args.text.now status count))) (sym c.from_residual-in_err-length.ensures)
    (no_length c.args.text.now c.parse_head.new.places _ c.in_ok-head.head _ c.in_ok-head.ensures.head (omega arith) refl c.in_err-length.ensures)
