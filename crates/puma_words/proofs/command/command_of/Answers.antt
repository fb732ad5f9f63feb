use Rattle.std.proofs.Common.{◌∙◌, sym, true≢false}
use Rattle.std.specs.Prelude.{map, string_bytes}
use Rattle.clap.specs.Words.{app_of}
use Rattle.puma_words.proofs.ProgramLemmas.{answer_is, none_is, strings_are_text}
use Rattle.puma_words.proofs.command.command_of.Goals as goal

pub returns-in-Ok : goal.returns-in-Ok
returns-in-Ok c = answer_is (app_of c.in_ok-program.field-0) (map string_bytes c.args.words.now) c.in-Ok.matches _ c.in_ok-program.ensures (strings_are_text c.args.words.now)
    c.in-Ok.ensures.matches c.in-Ok.ensures.kinds c.command_in.ensures

pub returns : goal.returns
returns c = none_is (app_of c.in_ok-program.field-0) (map string_bytes c.args.words.now) c.in-Err.error c.in_ok-program.ensures (strings_are_text c.args.words.now)
    c.in-Err.ensures.kinds (λ memory. let same = c.kind.ensures ∙ memory in true≢false (sym (rw same at c.if-eq.ensures)))
