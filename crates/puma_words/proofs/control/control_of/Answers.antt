use Rattle.std.proofs.Common.{◌∙◌, sym, true≢false}
use Rattle.std.specs.Prelude.{map, string_bytes}
use Rattle.clap.specs.Words.{app_of}
use Rattle.puma_words.proofs.ControlLemmas.{read, unread}
use Rattle.puma_words.proofs.control.control_of.Goals as goal

pub returns-in-Ok : goal.returns-in-Ok
returns-in-Ok c = read (app_of c.in_ok-control_program.field-0) (map string_bytes c.args.words.now) c.in-Ok.matches _ c.in_ok-control_program.ensures
    c.in-Ok.ensures.matches c.in-Ok.ensures.kinds c.order_in.ensures

pub returns : goal.returns
returns c = unread (app_of c.in_ok-control_program.field-0) (map string_bytes c.args.words.now) c.in-Err.error c.in_ok-control_program.ensures
    c.in-Err.ensures.kinds (λ memory. let same = c.kind.ensures ∙ memory in true≢false (sym (rw same at c.if-eq.ensures)))
