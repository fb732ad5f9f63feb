use Rattle.std.proofs.Common.{◌≡◌, refl, subst, ◌∙◌, inl}
use Rattle.conn_steps.specs.Ends.{RestsBehind}
use Rattle.conn_core.specs.Calls.{Leaves}
use Rattle.conn_steps.specs.declared.state.State.{State}
use Rattle.conn_steps.specs.declared.state.State.TheVariants as state
use Rattle.conn_steps.specs.Keeps.{reaching}
use Rattle.conn_core.specs.Shown.{shown, link_of}
use Rattle.conn_core.proofs.CallerLemmas.{unended}
use Rattle.puma_top.proofs.DriveLemmas.{driven_none, flush_driven, flush_less, rests_start, rests_then}
use Rattle.puma_top.proofs.drive.say_reply.Goals as goal

pub loop-conn-init : goal.loop-conn-init
loop-conn-init g c =
    let o = shown c.args.conn.now in
    record {
      drives = driven_none o (g.L.Link.seen (link_of c.args.conn.now)) (unended c.args.conn.now state.Answering c.requires.answers (λ e. cc));
      calls = refl;
      rests = rests_start o.state o.replied c.requires.answers;
      holds = λ S h. h;
    }

pub flush-next-requires : goal.flush-next-requires
flush-next-requires g c = record { owes = inl (c.is_answering.ensures.0 c.loop-conn-test.true) }

pub loop-conn-smaller : goal.loop-conn-smaller
loop-conn-smaller g c =
    flush_less 0 c.flush-next.result (reaching 0 (shown c.loop-conn.conn)) (shown c.flush-next.new.self) (g.L.Link.seen (link_of c.loop-conn.conn)) (g.L.Link.seen (link_of c.flush-next.new.self))
    (c.is_answering.ensures.0 c.loop-conn-test.true) (c.requires.patient (link_of c.loop-conn.conn)) (c.requires.patient (link_of c.flush-next.new.self))
    c.flush-next.ensures.flushes

pub loop-conn-preserved : goal.loop-conn-preserved
loop-conn-preserved g c =
    let i = c.loop-conn.invariant in
    let f = c.flush-next.ensures.flushes in
    let o = shown c.loop-conn.conn in
    let n = shown c.flush-next.new.self in
    let is : o.state ≡ state.Answering = c.is_answering.ensures.0 c.loop-conn-test.true in
    let rests : RestsBehind n.state o.replied n.replied = subst (λ (x : State). Leaves x (reaching 0 o) n) is f.rests in
    record {
      drives = flush_driven 0 c.flush-next.result (shown c.args.conn.now) o n (g.L.Link.seen (link_of c.args.conn.now)) (g.L.Link.seen (link_of c.loop-conn.conn))
          (g.L.Link.seen (link_of c.flush-next.new.self)) c.requires.untold i.drives f;
      calls = ◌∙◌ {b = o.calls} f.calls i.calls;
      rests = rests_then o.state n.state (shown c.args.conn.now).replied o.replied n.replied is i.rests rests;
      holds = λ S h. c.flush-next.ensures.holds S (i.holds S h);
    }

pub returns : goal.returns
returns g c =
    let i = c.loop-conn.invariant in
    record {
      drives = i.drives;
      calls = i.calls;
      rests = i.rests;
      said = λ e. let says = c.is_answering.ensures.1 e in cc (says, c.loop-conn-test.false);
      holds = i.holds;
    }
