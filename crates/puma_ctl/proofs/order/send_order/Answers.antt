use Rattle.std.proofs.Common.{◌∙◌}
use Rattle.rack_outside.specs.Link.{Seen}
use Rattle.puma_ctl.proofs.OrderLemmas.{ordered_reply, ordered_unanswered, ordered_failed, ordered_memory, handed}
use Rattle.puma_ctl.proofs.order.send_order.Goals as goal

pub returns-in-Reply : goal.returns-in-Reply
returns-in-Reply g c =
    let link : Seen = g.D.Link.Link.seen c.talk-heard.new.link in
    ordered_reply c.print_reply.result _ _ (g.D.Dial.seen c.dial.new.self) _ link _ _ c.in-Reply.status c.deref.result.now c.talk-heard.new.back c.body.result.now
    c.in-Some.ensures.one (handed (g.D.Dial.seen c.dial.new.self) _ _ link c.talk-heard.ensures.same (cc)) (c.deref.ensures.value ∙ c.in-Ok.ensures)
    c.in-Reply.ensures.heard c.body.ensures.whole c.requires.written c.print_reply.ensures

pub returns-in-NoAnswer : goal.returns-in-NoAnswer
returns-in-NoAnswer g c =
    let link : Seen = g.D.Link.Link.seen c.talk-heard.new.link in
    ordered_unanswered _ _ (g.D.Dial.seen c.dial.new.self) _ link _
    c.in-Some.ensures.one (handed (g.D.Dial.seen c.dial.new.self) _ _ link c.talk-heard.ensures.same (cc)) c.in-NoAnswer.ensures.heard

pub returns-in-Failed : goal.returns-in-Failed
returns-in-Failed g c =
    let link : Seen = g.D.Link.Link.seen c.talk-heard.new.link in
    ordered_failed _ _ (g.D.Dial.seen c.dial.new.self) _ link _
    c.in-Some.ensures.one (handed (g.D.Dial.seen c.dial.new.self) _ _ link c.talk-heard.ensures.same (cc)) c.in-Failed.ensures.heard

pub returns : goal.returns
returns g c =
    let link : Seen = g.D.Link.Link.seen c.talk-heard.new.link in
    ordered_memory _ _ (g.D.Dial.seen c.dial.new.self) _ link _
    c.in-Some.ensures.one (handed (g.D.Dial.seen c.dial.new.self) _ _ link c.talk-heard.ensures.same (cc))
