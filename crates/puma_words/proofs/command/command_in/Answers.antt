use Rattle.puma_words.proofs.MatchesLemmas.{is_check, is_once, knows, never_none}
use Rattle.clap.specs.Words.{found_of}
use Rattle.puma_words.proofs.command.command_in.Goals as goal

pub returns-in_err-stack : goal.returns-in_err-stack
returns-in_err-stack c = λ command met.
    let k = knows c.args.matches.now c.in_ok-verb.verb.now (found_of c.in_ok-verb.rest.now) command (record { name = c.in_ok-verb.ensures.name; rows = c.in_ok-verb.ensures.rows }) met in
    absurd (never_none _ _ command k c.in_err-stack.ensures)

pub returns-in-once : goal.returns-in-once
returns-in-once c = λ command met.
    let k = knows c.args.matches.now c.in_ok-verb.verb.now (found_of c.in_ok-verb.rest.now) command (record { name = c.in_ok-verb.ensures.name; rows = c.in_ok-verb.ensures.rows }) met in
    is_once _ _ c.in_ok-stack.stack.now c.get_flag.result command k c.in_ok-stack.ensures c.in-once.is c.get_flag.ensures.value c.get_flag.ensures.other

pub returns-in_default : goal.returns-in_default
returns-in_default c = λ command met.
    let k = knows c.args.matches.now c.in_ok-verb.verb.now (found_of c.in_ok-verb.rest.now) command (record { name = c.in_ok-verb.ensures.name; rows = c.in_ok-verb.ensures.rows }) met in
    is_check _ _ c.in_ok-stack.stack.now command k c.in_ok-stack.ensures c.in_default.not-once
