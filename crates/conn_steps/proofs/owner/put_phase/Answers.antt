use Rattle.std.proofs.Common.{[], ◌∷◌, ◌++◌, Bool, if◌then◌else◌, ◌∙◌, ap, arith}
use Rattle.talk_core.specs.declared.ended.Life.{Life}
use Rattle.conn_steps.proofs.PlacingLemmas.{IsLast, last_same, last_more, last_room, last_unused}
use Rattle.conn_steps.proofs.owner.put_phase.Goals as goal

pub returns-then-index-phase-clause-placed : goal.returns-then-index-phase-clause-placed
returns-then-index-phase-clause-placed c =
    let v = c.args.lives.now in
    last_same v.items c.len-count.result c.args.phase c.args.calls c.index.result.now
    (record { count = c.len-count.ensures ∙ v.ok.0; some = c.if-count-eq0.false; value = c.index.ensures }) c.if-index-phase.true

pub unwrap-requires : goal.unwrap-requires
unwrap-requires c =
    let v = c.args.lives.now in
    let count = c.len-count.ensures ∙ v.ok.0 in
    let one : IsLast v.items c.len-count.result c.index.result.now = record { count = count; some = c.if-count-eq0.false; value = c.index.ensures } in
    let two : IsLast v.items c.len-count.result c.index-2.result.now = record { count = count; some = c.if-count-eq0.false; value = c.index-2.ensures } in
    let room = last_room v.items c.len-count.result c.args.phase c.args.calls c.index.result.now c.index-2.result.now one two c.if-index-phase.false
    c.if-index-calls.false c.requires.room in
    let n = v.ok.0 in
    let kept = c.requires.reserved in
    c.push.ensures.succeeds (omega (arith, room, n, kept))

pub returns-then-index-calls-clause-placed : goal.returns-then-index-calls-clause-placed
returns-then-index-calls-clause-placed c =
    let v = c.args.lives.now in
    let count = c.len-count.ensures ∙ v.ok.0 in
    last_unused v.items c.len-count.result c.args.phase c.args.calls c.index.result.now c.index-2.result.now c.index_mut.result.now
    (record { count = count; some = c.if-count-eq0.false; value = c.index.ensures })
    (record { count = count; some = c.if-count-eq0.false; value = c.index-2.ensures })
    (record { count = count; some = c.if-count-eq0.false; value = c.index_mut.ensures.value }) c.if-index-phase.false c.if-index-calls.true

pub returns-else-index-calls-clause-placed : goal.returns-else-index-calls-clause-placed
returns-else-index-calls-clause-placed c =
    let v = c.args.lives.now in
    let count = c.len-count.ensures ∙ v.ok.0 in
    let one : IsLast v.items c.len-count.result c.index.result.now = record { count = count; some = c.if-count-eq0.false; value = c.index.ensures } in
    let two : IsLast v.items c.len-count.result c.index-2.result.now = record { count = count; some = c.if-count-eq0.false; value = c.index-2.ensures } in
    let more = last_more v.items c.len-count.result c.args.phase c.args.calls c.index.result.now c.index-2.result.now one two c.if-index-phase.false
    c.if-index-calls.false in
    let room = last_room v.items c.len-count.result c.args.phase c.args.calls c.index.result.now c.index-2.result.now one two c.if-index-phase.false
    c.if-index-calls.false c.requires.room in
    let n = v.ok.0 in
    let kept = c.requires.reserved in
    let ok = c.push.ensures.succeeds (omega (arith, room, n, kept)) in
    let new : Life = record { first = c.args.calls; phase = c.args.phase } in
    c.push.ensures.items ∙ ap (λ (b : Bool). if b then v.items ++ new ∷ [] else v.items) ok ∙ more
