use Rattle.std.proofs.Common.{◌≡◌, ℕ, List, [], ◌+◌, ◌≤◌, ◌<◌, Bool, Option, Some, refl, sym, ap, subst, ◌∙◌, arith}
use Rattle.std.specs.Prelude.{if◌then◌else◌}
use Rattle.rack_types.specs.declared.answer.Answer.{Answer}
use Rattle.rack_types.specs.Body.{Content}
use Rattle.rack_types.specs.Request.{Parts}
use Rattle.talk_core.specs.declared.ended.Why.TheVariants as why
use Rattle.talk_core.specs.Teller.{Teller, AgreesBelow, is_last}
use Rattle.talk_core.specs.Answered.{Answers, tell_from}
use Rattle.talk_core.proofs.CallerLemmas.{from_before, from_here, appended_none}
use Rattle.talk_core.specs.Tail.{Voice, voice_of}
use Rattle.conn_steps.specs.declared.moments.Ending.{Ending}
use Rattle.conn_steps.specs.declared.at.At.{At}
use Rattle.conn_steps.specs.declared.at.At.TheVariants as at
use Rattle.conn_steps.specs.Holds.{kept, HoldsBy}
use Rattle.conn_steps.specs.Keeps.{Keeps, Run, Want, ending_run, drains_now, filled_then}
use Rattle.conn_steps.specs.At.{state_at}
use Rattle.conn_steps.specs.Rests.{RestsAt, Begins}
use Rattle.conn_steps.specs.Shown.{shows, replied_at, why_at}
use Rattle.conn_steps.specs.Steps.{BeginsAt}
use Rattle.conn_steps.proofs.RunStands.{with_run, answered, unanswered, asked_ring, asked_few, asked_unended, begins_rest, hands_hold}
use Rattle.conn_steps.proofs.FillShows.{shown_at}
use Rattle.conn_steps.proofs.BegunMoment.{begins_run}
use Rattle.conn_steps.proofs.KeepsLemmas.{filled_is, run_keeps, want_keeps}
use Rattle.conn_steps.proofs.AtLemmas.{stands_place}
use Rattle.conn_steps.proofs.RanLemmas.{no_answers, ran_nothing, ran_once, ran_wants}
use Rattle.conn_steps.proofs.RetellLemmas.{retold}
use Rattle.conn_steps.proofs.HijackShows.{run_began}
use Rattle.conn_steps.proofs.inside.Inside.answer.Goals as goal

-- what was told of the end behind the run
run_ending : (m : Ending) (unfed : List ℕ) (calls : ℕ) (drains : Bool) (closing : Option ℕ) → drains ≡ drains_now m.told unfed
    → closing ≡ (if drains then Some calls else m.closing) → record m { closing = closing } ≡ ending_run m unfed calls
run_ending m unfed calls drains closing e f =
    ap (λ (o : Option ℕ). record m { closing = o }) (f ∙ ap (λ (b : Bool). if b then Some calls else m.closing) e)

pub invariant_of-self : goal.invariant_of-self
invariant_of-self g c =
    let V : Voice g.row.H.Denot = voice_of g.H.Hijack in
    let p = c.args.self.now in
    let m : Ending = record p.ending { closing = c.closing-self.result } in
    let is = run_ending p.ending p.unfed p.calls c.drains-drains.result c.closing-self.result c.drains-drains.ensures c.closing-self.ensures in
    record {
      reserved = c.args.self.now.reserved;
      room = c.hand_over-at.ensures.room ∙ p.room;
      rests = subst (λ (a : At g.row.B.Denot g.row.H.Denot). RestsAt a c.prepare.new.intake c.hand_over-at.new.unfed c.hand_over-at.new.ring.items (p.calls + 1) m)
          (sym c.put.ensures)
          (begins_rest V c.run-at.result c.hand_over-at.result c.in-Ok.ask c.prepare.new.env.pairs
          c.run-at.ensures.runs.answer c.is_last-last.result p.calls c.prepare.new.intake
          p.unfed c.hand_over-at.new.unfed p.ring.items c.hand_over-at.new.ring.items p.ending m c.run-at.ensures.runs.begins c.hand_over-at.ensures.hands
          c.in-Ok.ensures.whole (asked_unended p.at p.intake p.unfed p.ring.items p.calls p.ending c.requires.at p.rests) is c.is_last-last.ensures
          (asked_few p.at p.intake p.unfed p.ring.items p.calls p.ending c.requires.at p.rests)
          (asked_ring p.at p.intake p.unfed p.ring.items p.calls p.ending c.requires.at p.rests));
      begins = subst (λ (a : At g.row.B.Denot g.row.H.Denot). Begins a c.prepare.new.intake p.moments.begun) (sym c.put.ensures)
          (begins_run V c.run-at.result c.hand_over-at.result c.in-Ok.ask c.prepare.new.env.pairs
          c.run-at.ensures.runs.answer c.is_last-last.result
          p.unfed p.ring.items c.hand_over-at.new.ring.items c.hand_over-at.new.unfed c.prepare.new.intake p.moments.begun c.run-at.ensures.runs.begins
          c.hand_over-at.ensures.hands);
    }

pub returns-in-Ok-clause-holds : goal.returns-in-Ok-clause-holds
returns-in-Ok-clause-holds g c = λ steady T s told h.
    let V : Voice g.row.H.Denot = voice_of g.H.Hijack in
    let p = c.args.self.now in
    let m : Ending = record p.ending { closing = c.closing-self.result } in
    let is = run_ending p.ending p.unfed p.calls c.drains-drains.result c.closing-self.result c.drains-drains.ensures c.closing-self.ensures in
    let env = c.prepare.new.env in
    let begins = subst (λ (a : Answer Content g.row.H.Denot). BeginsAt c.in-Ok.ask env.pairs a c.is_last-last.result c.run-at.result)
    (c.run-at.ensures.runs.steady_is steady) c.run-at.ensures.runs.begins in
    let first : p.calls ≤ p.calls = omega arith in
    let last : p.calls < p.calls + 1 = omega arith in
    stands_place c.hand_over-at.result c.put.new.at V T s p.peer _ (sym c.put.ensures)
    (hands_hold V T s p.peer (with_run (kept p) c.prepare.new.intake (p.calls + 1) m) c.run-at.result c.hand_over-at.result c.in-Ok.ask c.prepare.new.env.pairs
    (g.R.Runner.answer c.args.runner.now c.prepare.new.env.pairs c.prepare.new.env.input.bytes) c.is_last-last.result p.ring.items
    c.hand_over-at.new.ring.items c.hand_over-at.new.unfed begins c.hand_over-at.ensures.hands refl
    (asked_ring p.at p.intake p.unfed p.ring.items p.calls p.ending c.requires.at p.rests)
    (answered V T s p.peer p.local (kept p) c.run-at.result c.prepare.new.intake
    (p.calls + 1) m (g.R.Runner.answer c.args.runner.now) c.is_last-last.result c.in-Ok.ask c.prepare.new.env refl is
    c.is_last-last.ensures c.in-Ok.ensures.asks begins (told p.calls first last)
    (stands_place p.at at.Asked V T s p.peer (kept p) c.requires.at h)))

pub returns-in-Ok-clause-any : goal.returns-in-Ok-clause-any
returns-in-Ok-clause-any g c = λ T s h.
    let V : Voice g.row.H.Denot = voice_of g.H.Hijack in
    let p = c.args.self.now in
    let m : Ending = record p.ending { closing = c.closing-self.result } in
    let is = run_ending p.ending p.unfed p.calls c.drains-drains.result c.closing-self.result c.drains-drains.ensures c.closing-self.ensures in
    let env = c.prepare.new.env in
    let x : Answer Content g.row.H.Denot = c.run-at.ensures.runs.answer in
    let answers : Answers g.row.H.Denot = λ k. x in
    let U : Teller g.row.H.Denot = tell_from T p.calls answers p.local p.peer m.closing in
    let before : AgreesBelow p.calls T U = from_before T p.calls answers p.local p.peer m.closing in
    let first : p.calls ≤ p.calls = omega arith in
    ran_once V T g.R.Runner.answer s p.peer p.local (kept p) _ env x c.run-at.result _
    (g.R.Runner.answered c.args.runner.now) (g.R.Runner.answered c.run-at.new.runner) (g.R.Runner.asked c.args.runner.now) (g.R.Runner.asked c.run-at.new.runner)
    refl refl refl c.run-at.ensures.runs.tells (λ e. (c.args.runner.now, env.pairs, env.input.bytes, c.run-at.ensures.runs.refused_is e))
    (λ e. ap (λ (a : At g.row.B.Denot g.row.H.Denot). why_at a) c.put.ensures
    ∙ ran_wants V c.run-at.result c.hand_over-at.result p.unfed p.ring.items c.hand_over-at.new.ring.items c.hand_over-at.new.unfed (c.run-at.ensures.runs.tells.refused e)
    c.hand_over-at.ensures.hands)
    (λ now r fed is. (c.in-Ok.ensures.asks now r fed is).1)
    (stands_place p.at at.Asked V T s p.peer (kept p) c.requires.at h)
    (stands_place c.hand_over-at.result c.put.new.at V U s p.peer _ (sym c.put.ensures)
    (hands_hold V U s p.peer (with_run (kept p) c.prepare.new.intake (p.calls + 1) m) c.run-at.result c.hand_over-at.result c.in-Ok.ask
    env.pairs x c.is_last-last.result p.ring.items
    c.hand_over-at.new.ring.items c.hand_over-at.new.unfed c.run-at.ensures.runs.begins c.hand_over-at.ensures.hands refl
    (asked_ring p.at p.intake p.unfed p.ring.items p.calls p.ending c.requires.at p.rests)
    (answered V U s p.peer p.local (kept p) c.run-at.result c.prepare.new.intake
    (p.calls + 1) m (λ ps input. x) c.is_last-last.result c.in-Ok.ask env refl is
    c.is_last-last.ensures c.in-Ok.ensures.asks c.run-at.ensures.runs.begins (λ r. from_here T p.calls answers p.local p.peer m.closing p.calls r first)
    (stands_place p.at at.Asked V U s p.peer (kept p) c.requires.at (retold V T U s p.peer p.at (kept p) before h)))))

pub returns-in-Err-clause-any : goal.returns-in-Err-clause-any
returns-in-Err-clause-any g c = λ T s h.
    let V : Voice g.row.H.Denot = voice_of g.H.Hijack in
    let p = c.args.self.now in
    let U : Teller g.row.H.Denot = tell_from T p.calls no_answers p.local p.peer p.ending.closing in
    ran_nothing T g.R.Runner.answer p.calls s s [] _ _ (g.R.Runner.answered c.args.runner.now) (g.R.Runner.asked c.args.runner.now) refl (appended_none s.given)
    (stands_place (at.Over why.NoMemory) c.put-in-Err.new.at V U s p.peer _ (sym c.put-in-Err.ensures)
    (unanswered V U s p.peer p.local (kept p) _ refl refl refl
    (stands_place p.at at.Asked V U s p.peer (kept p) c.requires.at
    (retold V T U s p.peer p.at (kept p) (from_before T p.calls no_answers p.local p.peer p.ending.closing) h))))

pub returns-in-Ok-clause-runs : goal.returns-in-Ok-clause-runs
returns-in-Ok-clause-runs g c =
    let V : Voice g.row.H.Denot = voice_of g.H.Hijack in
    let p = c.args.self.now in
    let m : Ending = record p.ending { closing = c.closing-self.result } in
    let is = run_ending p.ending p.unfed p.calls c.drains-drains.result c.closing-self.result c.drains-drains.ensures c.closing-self.ensures in
    let place : c.put.new.at ≡ c.hand_over-at.result = c.put.ensures in
    let ring = c.hand_over-at.new.ring.items in
    let left = c.hand_over-at.new.unfed in
    let answer = c.run-at.ensures.runs.answer in (
      run_began V _ _ p.calls (ap (λ (a : At g.row.B.Denot g.row.H.Denot). replied_at a p.calls) c.requires.at) c.in-Ok.ask c.prepare.new.env.pairs
          answer c.is_last-last.result c.run-at.result c.hand_over-at.result
          p.unfed p.ring.items ring left (record { peer = refl; local = refl; lives = refl; taken = refl }) refl
          (ap (λ (a : At g.row.B.Denot g.row.H.Denot). state_at a) place) (ap (λ (a : At g.row.B.Denot g.row.H.Denot). why_at a) place) refl refl
          (ap (λ (a : At g.row.B.Denot g.row.H.Denot). replied_at a (p.calls + 1)) place) c.run-at.ensures.runs.begins c.hand_over-at.ensures.hands,
      subst (λ (d : At g.row.B.Denot g.row.H.Denot). Keeps c.args.now Run (shows p)
          (shown_at d ring left p.peer p.local p.lives.items (p.calls + 1) p.taken m (record p.moments { filled = c.filled-self.result }))) (sym place)
          (subst (λ (k : ℕ). Keeps c.args.now Run (shows p)
          (shown_at c.hand_over-at.result ring left p.peer p.local p.lives.items (p.calls + 1) p.taken m (record p.moments { filled = k })))
          (sym (filled_is c.args.now p.moments.filled c.filled-self.result ring c.is_empty.result c.is_empty.ensures c.filled-self.ensures))
          (subst (λ (x : Ending). Keeps c.args.now Run (shows p)
          (shown_at c.hand_over-at.result ring left p.peer p.local p.lives.items (p.calls + 1) p.taken x
          (filled_then c.args.now ring p.moments))) (sym is)
          (run_keeps c.args.now p.peer p.local p.lives.items p.calls p.taken p.ending p.moments V p.at c.run-at.result c.hand_over-at.result c.in-Ok.ask
          c.prepare.new.env.pairs answer c.is_last-last.result p.unfed p.ring.items ring left (p.calls + 1) c.run-at.ensures.runs.begins
          c.hand_over-at.ensures.hands (asked_ring p.at p.intake p.unfed p.ring.items p.calls p.ending c.requires.at p.rests)))),
    )

pub returns-in-Err-clause-runs : goal.returns-in-Err-clause-runs
returns-in-Err-clause-runs g c =
    let p = c.args.self.now in
    let place : c.put-in-Err.new.at ≡ at.Over why.NoMemory = c.put-in-Err.ensures in (
      record {
        same = record { peer = refl; local = refl; lives = refl; taken = refl };
        calls = refl;
        state = ap (λ (a : At g.row.B.Denot g.row.H.Denot). state_at a) place;
        why = ap (λ (a : At g.row.B.Denot g.row.H.Denot). why_at a) place;
      },
      subst (λ (d : At g.row.B.Denot g.row.H.Denot). Keeps c.args.now Want (shows p)
          (shown_at d p.ring.items p.unfed p.peer p.local p.lives.items p.calls p.taken p.ending p.moments)) (sym place)
          (want_keeps c.args.now p.peer p.local p.lives.items p.calls p.taken p.ending p.moments p.at why.NoMemory p.ring.items p.ring.items p.unfed p.unfed),
    )
