-- A connection has one answer at most.
use Rattle.std.proofs.Common.{◌≡◌, ℕ, List}
use Rattle.talk_core.proofs.CallerLemmas.{one_answer}
use Rattle.puma_top.specs.Once.{Site, once_voice, teller_of, AnsweredAll}

pub one_text : (site : Site) (bytes written other : List ℕ) → AnsweredAll site bytes written → AnsweredAll site bytes other → written ≡ other
one_text site bytes written other x y = one_answer once_voice (teller_of site) bytes written other x y
