use Rattle.std.proofs.Common.{refl}
use Rattle.conn_steps.specs.Shown.{shows}
use Rattle.conn_steps.proofs.KeepsLemmas.{some_ring}
use Rattle.conn_steps.proofs.WriteBehindFill.{says_behind, unwritten, once_behind}
use Rattle.conn_steps.proofs.inside.Inside.say.Goals as goal

pub returns-then-fill-clause-says : goal.returns-then-fill-clause-says
returns-then-fill-clause-says g c =
    let f = c.if-fill.ensures.fills in
    says_behind c.args.now c.write.result (shows c.args.self.now) (shows c.fill.new.self) (shows c.write.new.self) (g.L.Link.seen c.args.link.now)
    (g.L.Link.seen c.write.new.link) f c.write.ensures.says

pub returns-else-fill-clause-says : goal.returns-else-fill-clause-says
returns-else-fill-clause-says g c =
    let f = c.if-fill.ensures.fills in
    unwritten (shows c.args.self.now) (shows c.fill.new.self) (g.L.Link.seen c.args.link.now) f.2

pub returns-then-fill-clause-once : goal.returns-then-fill-clause-once
returns-then-fill-clause-once g c =
    let f = c.if-fill.ensures.fills in
    once_behind c.args.now c.write.result (shows c.args.self.now) (shows c.fill.new.self) (shows c.write.new.self) (g.L.Link.seen c.args.link.now)
    (g.L.Link.seen c.write.new.link) c.write.ensures.wrote f
    (some_ring c.fill.new.self.at c.fill.new.self.ring.items (c.if-fill.ensures.some refl)) c.write.ensures.once

pub returns-else-fill-clause-once : goal.returns-else-fill-clause-once
returns-else-fill-clause-once g c = let f = c.if-fill.ensures.fills in (refl, f.0, f.1, f.2, f.3)
