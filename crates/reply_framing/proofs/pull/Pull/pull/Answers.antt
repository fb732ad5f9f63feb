use Rattle.std.proofs.Common.{◌≡◌, ap, sym, ◌∙◌, subst}
use Rattle.std.specs.Prelude.{Ok}
use Rattle.rack_types.specs.BodyRules.{body_rule, breaks_B1, left_behind}
use Rattle.reply_framing.specs.declared.types.Form.TheVariants.{Bare}
use Rattle.reply_framing.specs.declared.pull.Asked.{Asked}
use Rattle.reply_framing.specs.declared.pull.Asked.TheVariants.{Piece, End}
use Rattle.reply_framing.specs.declared.pull.Stage.TheVariants.{Pulling, Ended}
use Rattle.reply_framing.specs.Pull.{AsksTo, content_of, lent}
use Rattle.reply_framing.proofs.PullLemmas.{watch_none, watch_some, if_false, takes_piece, stops_at_piece, takes_end}
use Rattle.reply_framing.proofs.pull.Pull.pull.Goals as goal

pub returns-in-None-clause-takes : goal.returns-in-None-clause-takes
returns-in-None-clause-takes g c =
    let content = g.B.Body.content in
    let taken = g.B.Body.taken in
    let s = c.args.self.now in
    let b = c.ask.new.body in
    let one : AsksTo (Ok (Piece c.in-Piece.len)) (content_of content taken s.body) (lent content taken b) (content_of content taken b) =
    subst (λ (a : Asked). AsksTo (Ok a) (content_of content taken s.body) (lent content taken b) (content_of content taken b)) c.in-Piece.is c.in_ok-len.ensures in
    let sent : ¬ (s.form ≡ Bare) = λ bare. let e : s.stage ≡ Ended = c.requires.within.bare bare in let p : s.stage ≡ Pulling = c.requires.pulling in cc in
    let fits = watch_none (breaks_B1 s.watch c.in-Piece.len) (body_rule 1) c.in-None.ensures.rule in
    let left = if_false (breaks_B1 s.watch c.in-Piece.len) s.watch (left_behind s.watch c.in-Piece.len) c.piece.new.self fits c.piece.ensures.left in
    takes_piece content taken s.framed c.put_piece.new.self s.form s.watch c.piece.new.self s.stage s.body b c.requires.pulling sent c.requires.clear one.0
    (ap (breaks_B1 s.watch) one.1 ∙ fits) (left ∙ ap (left_behind s.watch) (sym one.1)) (c.put_piece.ensures.bytes (lent content taken b) one.1)

pub returns-in-Some-clause-takes : goal.returns-in-Some-clause-takes
returns-in-Some-clause-takes g c =
    let content = g.B.Body.content in
    let taken = g.B.Body.taken in
    let s = c.args.self.now in
    let b = c.ask.new.body in
    let one : AsksTo (Ok (Piece c.in-Piece.len)) (content_of content taken s.body) (lent content taken b) (content_of content taken b) =
    subst (λ (a : Asked). AsksTo (Ok a) (content_of content taken s.body) (lent content taken b) (content_of content taken b)) c.in-Piece.is c.in_ok-len.ensures in
    let sent : ¬ (s.form ≡ Bare) = λ bare. let e : s.stage ≡ Ended = c.requires.within.bare bare in let p : s.stage ≡ Pulling = c.requires.pulling in cc in
    let over = watch_some (breaks_B1 s.watch c.in-Piece.len) (body_rule 1) c.in-Some.rule c.in-Some.ensures.rule in
    rw c.new-self.ensures (stops_at_piece content taken s.framed s.form s.watch s.stage c.in-Some.rule s.body b c.requires.pulling sent c.requires.clear one.0
    (ap (breaks_B1 s.watch) one.1 ∙ over.0) over.1)

pub returns-in-End-clause-takes : goal.returns-in-End-clause-takes
returns-in-End-clause-takes g c =
    let content = g.B.Body.content in
    let taken = g.B.Body.taken in
    let s = c.args.self.now in
    let b = c.ask.new.body in
    let one : AsksTo (Ok (End c.in-End.raised)) (content_of content taken s.body) (lent content taken b) (content_of content taken b) =
    subst (λ (a : Asked). AsksTo (Ok a) (content_of content taken s.body) (lent content taken b) (content_of content taken b)) c.in-End.is c.in_ok-len.ensures in
    let sent : ¬ (s.form ≡ Bare) = λ bare. let e : s.stage ≡ Ended = c.requires.within.bare bare in let p : s.stage ≡ Pulling = c.requires.pulling in cc in
    let n = c.end.new.self in
    let e = c.end.ensures.ended in
    takes_end content taken s.framed n.framed s.form n.form s.watch n.watch s.stage n.stage c.in-End.raised s.body b n.body c.requires.pulling sent c.requires.clear one
    e.form e.watch e.body e.framed e.stage
