use Rattle.std.proofs.Common.{rules}
use Rattle.rack_text.proofs.SpellingLemmas.{spelling-space, spelling-feed, spelling-return, spelling-backslash, spelling-other}
use Rattle.rack_text.proofs.escaped.append_spelling.Goals as goal

pub returns-in-32-clause-written : goal.returns-in-32-clause-written
returns-in-32-clause-written c = rw (spelling-space c.args.byte (search rules)) (search rules)

pub returns-in-10-clause-written : goal.returns-in-10-clause-written
returns-in-10-clause-written c = rw (spelling-feed c.args.byte (search rules)) (search rules)

pub returns-in-13-clause-written : goal.returns-in-13-clause-written
returns-in-13-clause-written c = rw (spelling-return c.args.byte (search rules)) (search rules)

pub returns-in-92-clause-written : goal.returns-in-92-clause-written
returns-in-92-clause-written c = rw (spelling-backslash c.args.byte (search rules)) (search rules)

pub returns-in_default-clause-written : goal.returns-in_default-clause-written
returns-in_default-clause-written c =
    rw (spelling-other c.args.byte c.requires (search rules) (search rules) (search rules) (search rules)) (search rules)
