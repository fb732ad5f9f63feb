use Rattle.std.proofs.Common.{◌≡◌, ◌++◌, ℕ, List, refl, sym, ap, subst, ◌∙◌}
use Rattle.reply_framing.specs.Fault.{fault_reply}
use Rattle.circular_buffer.specs.Buffer.{Buffer}
use Rattle.talk_core.specs.Tail.{Voice, voice_of}
use Rattle.conn_steps.specs.declared.at.At.TheVariants as at
use Rattle.conn_steps.specs.declared.at.At.{At}
use Rattle.conn_steps.specs.Holds.{kept}
use Rattle.conn_steps.specs.At.{state_at}
use Rattle.conn_steps.specs.Shown.{shows, replied_at, owed_at, why_at, after_at, sure_at}
use Rattle.conn_steps.proofs.RunStands.{named}
use Rattle.conn_steps.specs.Keeps.{Keeps, Refusal}
use Rattle.conn_steps.proofs.FillShows.{shown_at}
use Rattle.conn_steps.proofs.KeepsLemmas.{refusal_keeps}
use Rattle.conn_steps.proofs.MovesOfSteps.{refused_ring}
use Rattle.conn_steps.proofs.AtLemmas.{stands_place}
use Rattle.conn_steps.proofs.inside.Inside.refuse.Goals as goal

pub returns-clause-holds : goal.returns-clause-holds
returns-clause-holds g c = λ T s h.
    let V : Voice g.row.H.Denot = voice_of g.H.Hijack in
    stands_place at.Refusing c.put.new.at V T s c.args.self.now.peer _ (sym c.put.ensures)
    (named V T s c.args.self.now.peer c.args.self.now.local (kept c.args.self.now) c.args.fault c.put_fault.new.ring.items
    (ap (λ (b : Buffer ℕ). b.items) c.put_fault.ensures)
    (stands_place c.args.self.now.at (at.Refused c.args.fault) V T s c.args.self.now.peer (kept c.args.self.now) c.requires h))

pub returns-clause-names : goal.returns-clause-names
returns-clause-names g c =
    let p = c.args.self.now in
    let place : c.put.new.at ≡ at.Refusing = c.put.ensures in
    let ring : c.put_fault.new.ring.items ≡ fault_reply c.args.fault =
    ap (λ (b : Buffer ℕ). b.items) c.put_fault.ensures
    ∙ ap (λ (x : List ℕ). x ++ fault_reply c.args.fault) (refused_ring p.at c.args.fault p.intake p.unfed p.ring.items p.calls p.ending c.requires p.rests) in
    record {
      same = record { peer = refl; local = refl; lives = refl; taken = refl };
      calls = refl;
      replied = ap (λ (a : At g.row.B.Denot g.row.H.Denot). replied_at a p.calls) place
          ∙ sym (ap (λ (a : At g.row.B.Denot g.row.H.Denot). replied_at a p.calls) c.requires);
      state = ap (λ (a : At g.row.B.Denot g.row.H.Denot). state_at a) place;
      why = ap (λ (a : At g.row.B.Denot g.row.H.Denot). why_at a) place;
      owed = ap (λ (a : At g.row.B.Denot g.row.H.Denot). owed_at a c.put_fault.new.ring.items) place ∙ ring;
      unfed = refl;
      after = ap (λ (a : At g.row.B.Denot g.row.H.Denot). after_at a) place;
      sure = ap (λ (a : At g.row.B.Denot g.row.H.Denot). sure_at a) place;
    }

pub returns-clause-keeps : goal.returns-clause-keeps
returns-clause-keeps g c =
    let p = c.args.self.now in
    subst (λ (d : At g.row.B.Denot g.row.H.Denot). Keeps c.args.now (Refusal c.args.fault) (shows p)
    (shown_at d c.put_fault.new.ring.items p.unfed p.peer p.local p.lives.items p.calls p.taken p.ending (record p.moments { filled = c.args.now })))
    (sym c.put.ensures)
    (refusal_keeps c.args.now p.peer p.local p.lives.items p.calls p.taken p.ending p.moments p.at c.args.fault p.ring.items c.put_fault.new.ring.items p.unfed)
