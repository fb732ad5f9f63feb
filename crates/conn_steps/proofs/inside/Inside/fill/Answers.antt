use Rattle.std.proofs.Common.{◌≡◌, ◌≤◌, ℕ, length, refl, ◌∙◌, arith}
use Rattle.circular_buffer.specs.Buffer.{Buffer}
use Rattle.talk_core.specs.Tail.{Voice, voice_of}
use Rattle.conn_steps.specs.Holds.{kept}
use Rattle.conn_steps.specs.Keeps.{ring_room}
use Rattle.conn_steps.specs.Rests.{RestsAt}
use Rattle.conn_steps.specs.Shown.{shows}
use Rattle.conn_steps.proofs.BegunMoment.{begins_filled}
use Rattle.conn_steps.proofs.FillStands.{fills_hold, fills_rest}
use Rattle.conn_steps.proofs.FillShows.{fills_room, fills_shown, fills_told, fills_some}
use Rattle.conn_steps.proofs.inside.Inside.fill.Goals as goal

pub invariant_of-self : goal.invariant_of-self
invariant_of-self g c =
    let p = c.args.self.now in
    let x : Buffer ℕ = p.ring in
    let y : Buffer ℕ = c.fill.new.ring in
    record {
      reserved = c.args.self.now.reserved;
      room = fills_room p.at c.fill.new.at x y c.fill.ensures c.requires ∙ p.room;
      rests = fills_rest p.at c.fill.new.at x y p.intake p.unfed p.calls p.ending c.fill.ensures c.requires p.rests;
      begins = begins_filled p.at c.fill.new.at x y p.intake p.moments.begun c.fill.ensures c.requires;
    }

pub returns-clause-holds : goal.returns-clause-holds
returns-clause-holds g c = λ T s h.
    let V : Voice g.row.H.Denot = voice_of g.H.Hijack in
    let p = c.args.self.now in
    fills_hold V T s p.peer (kept p) p.at c.fill.new.at p.ring c.fill.new.ring refl c.fill.ensures c.requires h

pub returns-clause-fills : goal.returns-clause-fills
returns-clause-fills g c =
    let x : Buffer ℕ = c.args.self.now.ring in
    let y : Buffer ℕ = c.fill.new.ring in
    let p = c.args.self.now in
    let goes = c.is_saying-goes_on.result in
    let room : y.capacity ≡ ring_room = fills_room p.at c.fill.new.at x y c.fill.ensures c.requires ∙ p.room in
    let within : length y.items ≤ ring_room = omega (arith, room, c.len-few.ensures.len, c.len-few.ensures.within.0) in
    fills_told c.args.now (shows p) goes p.at c.fill.new.at x.items y.items p.unfed p.peer p.local p.lives.items p.calls p.taken p.ending p.moments
    c.is_empty-empty.result c.filled-self.result c.is_empty-empty.ensures c.filled-self.ensures
    (fills_shown c.args.now p.unfed p.peer p.local p.lives.items p.calls p.taken p.ending p.moments goes p.at c.fill.new.at x y p.room within
    c.fill.ensures c.requires c.is_saying-goes_on.ensures)

pub returns-clause-some : goal.returns-clause-some
returns-clause-some g c = λ goes.
    let p = c.args.self.now in
    let x : Buffer ℕ = p.ring in
    let y : Buffer ℕ = c.fill.new.ring in
    let room : y.capacity ≡ ring_room = fills_room p.at c.fill.new.at x y c.fill.ensures c.requires ∙ p.room in
    let rests : RestsAt c.fill.new.at p.intake p.unfed y.items p.calls p.ending =
    fills_rest p.at c.fill.new.at x y p.intake p.unfed p.calls p.ending c.fill.ensures c.requires p.rests in
    fills_some p.at c.fill.new.at x y p.intake p.unfed p.calls p.ending c.fill.ensures c.requires room rests (c.is_saying-goes_on.ensures.0 goes)
