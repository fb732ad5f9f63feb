use Rattle.std.proofs.Common.{◌≡◌, [], refl, ◌∙◌}
use Rattle.conn_steps.specs.declared.state.State.TheVariants as state
use Rattle.conn_steps.specs.Keeps.{reaching}
use Rattle.conn_core.specs.Shown.{shown, link_of}
use Rattle.conn_core.proofs.CallerLemmas.{unended}
use Rattle.puma_top.proofs.DriveLemmas.{driven_none, flush_driven, tail_falls}
use Rattle.puma_top.proofs.HeardLemmas.{heard_start, heard_then, heard_owes, heard_said, none_owed}
use Rattle.puma_top.proofs.drive.say_tail.Goals as goal

pub loop-conn-init : goal.loop-conn-init
loop-conn-init g c =
    let o = shown c.args.conn.now in
    record {
      drives = driven_none o (g.L.Link.seen (link_of c.args.conn.now)) (unended c.args.conn.now state.Hijacked c.requires.hijacked (λ e. cc));
      calls = refl;
      heard = heard_start o c.requires.hijacked c.requires.owes;
      holds = λ S h. h;
    }

pub flush-next-requires : goal.flush-next-requires
flush-next-requires g c = record { owes = c.wants_write.ensures.state.0 c.loop-conn-test.true }

pub loop-conn-smaller : goal.loop-conn-smaller
loop-conn-smaller g c =
    let o = shown c.args.conn.now in
    let m = shown c.loop-conn.conn in
    let is : m.state ≡ state.Hijacked = heard_owes o m c.loop-conn.invariant.heard (c.wants_write.ensures.state.0 c.loop-conn-test.true) in
    tail_falls 0 c.flush-next.result (reaching 0 m) (shown c.flush-next.new.self) (g.L.Link.seen (link_of c.loop-conn.conn)) (g.L.Link.seen (link_of c.flush-next.new.self))
    is (c.wants_write.ensures.bytes.0 c.loop-conn-test.true) (c.requires.patient (link_of c.loop-conn.conn)) (c.requires.patient (link_of c.flush-next.new.self))
    c.flush-next.ensures.flushes

pub loop-conn-preserved : goal.loop-conn-preserved
loop-conn-preserved g c =
    let i = c.loop-conn.invariant in
    let f = c.flush-next.ensures.flushes in
    let o = shown c.args.conn.now in
    let m = shown c.loop-conn.conn in
    let n = shown c.flush-next.new.self in
    let is : m.state ≡ state.Hijacked = heard_owes o m i.heard (c.wants_write.ensures.state.0 c.loop-conn-test.true) in
    record {
      drives = flush_driven 0 c.flush-next.result o m n (g.L.Link.seen (link_of c.args.conn.now)) (g.L.Link.seen (link_of c.loop-conn.conn))
          (g.L.Link.seen (link_of c.flush-next.new.self)) c.requires.untold i.drives f;
      calls = ◌∙◌ {b = m.calls} f.calls i.calls;
      heard = heard_then 0 c.flush-next.result o m n (g.L.Link.seen (link_of c.loop-conn.conn)) (g.L.Link.seen (link_of c.flush-next.new.self)) i.heard is f;
      holds = λ S h. c.flush-next.ensures.holds S (i.holds S h);
    }

pub returns : goal.returns
returns g c =
    let i = c.loop-conn.invariant in
    let none : (shown c.loop-conn.conn).owed ≡ [] =
    none_owed (shown c.loop-conn.conn).owed (λ some. let says = c.wants_write.ensures.bytes.1 some in cc (says, c.loop-conn-test.false)) in
    record {
      drives = i.drives;
      calls = i.calls;
      said = heard_said (shown c.args.conn.now) (shown c.loop-conn.conn) i.heard none;
      holds = i.holds;
    }
