use Rattle.std.proofs.Common.{ap, refl, ◌∙◌, length}
use Rattle.std.proofs.lemmas.Iterator.Consumers.{count_from_yields_List}
use Rattle.memchr.specs.Find.{is_byte}
use Rattle.memchr.proofs.lemmas.CallerLemmas.{length-places}
use Rattle.message_framing.proofs.CountLemmas.{gives_places}
use Rattle.message_framing.proofs.scan.count_line_feeds.Goals as goal

pub returns : goal.returns
returns c =
    count_from_yields_List c.memchr_iter.result c.count.result c.count.ensures.ran (gives_places _ _ refl) ∙ ap length c.memchr_iter.ensures.value
    ∙ length-places (is_byte 10) c.args.bytes.now
