use Rattle.std.proofs.Common.{sym, ◌∙◌}
use Rattle.rack_types.specs.Headers.{values_at}
use Rattle.lint_core.proofs.FoundLemmas.{type_header, length_header, other_header}
use Rattle.lint_core.proofs.found.look_at.Goals as goal

pub returns-then-is_word : goal.returns-then-is_word
returns-then-is_word c =
    rw (c.has_control.ensures) (type_header c.args.name.now (values_at c.args.i c.args.headers.now) c.args.behind (sym c.is_word.ensures ∙ c.if-is_word.true))

pub returns-then-is_word-2 : goal.returns-then-is_word-2
returns-then-is_word-2 c =
    rw (c.has_control.ensures, c.statement-found.ensures) (length_header c.args.name.now (values_at c.args.i c.args.headers.now) c.args.behind (sym c.is_word-2.ensures ∙ c.if-is_word-2.true))

pub returns : goal.returns
returns c =
    rw (c.has_control.ensures, c.is_token.ensures, c.is_word-3.ensures, c.has_upper.ensures) (other_header c.args.name.now (values_at c.args.i c.args.headers.now) c.args.behind (sym c.is_word.ensures ∙ c.if-is_word.false) (sym c.is_word-2.ensures ∙ c.if-is_word-2.false))
