use Rattle.std.proofs.Common.{◌≡◌, refl, sym, subst, ◌∙◌, inl, inr}
use Rattle.rack_outside.specs.declared.link.LinkRead.{LinkRead}
use Rattle.conn_steps.specs.declared.state.Next.TheVariants as next
use Rattle.conn_steps.specs.declared.state.State.TheVariants as state
use Rattle.conn_steps.specs.At.{state_at}
use Rattle.conn_steps.specs.Shown.{shows}
use Rattle.conn_core.proofs.FeedCall.{AnswersSo, Went, feeding_end, went_same, unread, fed_so}
use Rattle.conn_steps.proofs.CallerLemmas.{may_state, owes_rightly}
use Rattle.conn_steps.proofs.CallerLemmas.{hears_shown}
use Rattle.conn_core.proofs.feed.feed.Goals as goal
use Rattle.conn_core.proofs.feed.feed.Goals.{in-Reading, in-Ready}

pub returns-in-NotYet-clause-feeds : goal.returns-in-NotYet-clause-feeds
returns-in-NotYet-clause-feeds g c =
    let went : Went c.args.now c.match-state_at.read (shows c.args.inside.now) (shows c.match-state_at.inside) (g.L.Link.seen c.args.link.now) (g.L.Link.seen c.match-state_at.link) =
    elim c.match-state_at.branch [
      | in-Reading w ↦
          let reading : state_at c.args.inside.now.at ≡ state.Reading = sym c.state_at.ensures ∙ w.in-Reading.is in
          went_same c.args.now g.L.Link.seen (shows c.args.inside.now) (g.L.Link.seen c.args.link.now) w.read-read.new.self c.match-state_at.inside
          w.read-read.new.link c.match-state_at.link w.read-read.result c.match-state_at.read w.inside-is w.link-is w.read-is
          (inl (reading, w.read-read.ensures.reads), w.read-read.ensures.once, w.read-read.ensures.keeps)
      | in-Ready w ↦
          let unfed = (hears_shown c.args.inside.now.at (may_state c.args.inside.now.at c.requires (λ e. unread c.state_at.result w.in-Ready.is (c.state_at.ensures ∙ e)))).0 in
          went_same c.args.now g.L.Link.seen (shows c.args.inside.now) (g.L.Link.seen c.args.link.now) w.hear-read.new.self c.match-state_at.inside
          w.hear-read.new.link c.match-state_at.link w.hear-read.result c.match-state_at.read w.inside-is w.link-is w.read-is
          (inr (unfed, w.hear-read.ensures.reads), w.hear-read.ensures.once, w.hear-read.ensures.keeps)
    ] in
    feeding_end c.args.now c.match-state_at.inside.at (shows c.args.inside.now) (shows c.match-state_at.inside) (g.L.Link.seen c.args.link.now)
    (g.L.Link.seen c.match-state_at.link) c.match-state_at.read next.Waiting refl (owes_rightly c.match-state_at.inside) went
    (subst (λ (x : LinkRead). AnswersSo x next.Waiting c.match-state_at.inside.at) (sym c.in-NotYet.is) refl)

pub returns-in-Bytes-clause-feeds : goal.returns-in-Bytes-clause-feeds
returns-in-Bytes-clause-feeds g c =
    let went : Went c.args.now c.match-state_at.read (shows c.args.inside.now) (shows c.match-state_at.inside) (g.L.Link.seen c.args.link.now) (g.L.Link.seen c.match-state_at.link) =
    elim c.match-state_at.branch [
      | in-Reading w ↦
          let reading : state_at c.args.inside.now.at ≡ state.Reading = sym c.state_at.ensures ∙ w.in-Reading.is in
          went_same c.args.now g.L.Link.seen (shows c.args.inside.now) (g.L.Link.seen c.args.link.now) w.read-read.new.self c.match-state_at.inside
          w.read-read.new.link c.match-state_at.link w.read-read.result c.match-state_at.read w.inside-is w.link-is w.read-is
          (inl (reading, w.read-read.ensures.reads), w.read-read.ensures.once, w.read-read.ensures.keeps)
      | in-Ready w ↦
          let unfed = (hears_shown c.args.inside.now.at (may_state c.args.inside.now.at c.requires (λ e. unread c.state_at.result w.in-Ready.is (c.state_at.ensures ∙ e)))).0 in
          went_same c.args.now g.L.Link.seen (shows c.args.inside.now) (g.L.Link.seen c.args.link.now) w.hear-read.new.self c.match-state_at.inside
          w.hear-read.new.link c.match-state_at.link w.hear-read.result c.match-state_at.read w.inside-is w.link-is w.read-is
          (inr (unfed, w.hear-read.ensures.reads), w.hear-read.ensures.once, w.hear-read.ensures.keeps)
    ] in
    feeding_end c.args.now c.match-state_at.inside.at (shows c.args.inside.now) (shows c.match-state_at.inside) (g.L.Link.seen c.args.link.now)
    (g.L.Link.seen c.match-state_at.link) c.match-state_at.read c.fed.result refl (owes_rightly c.match-state_at.inside) went
    (fed_so c.match-state_at.read c.fed.result c.match-state_at.inside.at c.in-Bytes.is c.fed.ensures)

pub returns-in-Failed-clause-feeds : goal.returns-in-Failed-clause-feeds
returns-in-Failed-clause-feeds g c =
    let went : Went c.args.now c.match-state_at.read (shows c.args.inside.now) (shows c.match-state_at.inside) (g.L.Link.seen c.args.link.now) (g.L.Link.seen c.match-state_at.link) =
    elim c.match-state_at.branch [
      | in-Reading w ↦
          let reading : state_at c.args.inside.now.at ≡ state.Reading = sym c.state_at.ensures ∙ w.in-Reading.is in
          went_same c.args.now g.L.Link.seen (shows c.args.inside.now) (g.L.Link.seen c.args.link.now) w.read-read.new.self c.match-state_at.inside
          w.read-read.new.link c.match-state_at.link w.read-read.result c.match-state_at.read w.inside-is w.link-is w.read-is
          (inl (reading, w.read-read.ensures.reads), w.read-read.ensures.once, w.read-read.ensures.keeps)
      | in-Ready w ↦
          let unfed = (hears_shown c.args.inside.now.at (may_state c.args.inside.now.at c.requires (λ e. unread c.state_at.result w.in-Ready.is (c.state_at.ensures ∙ e)))).0 in
          went_same c.args.now g.L.Link.seen (shows c.args.inside.now) (g.L.Link.seen c.args.link.now) w.hear-read.new.self c.match-state_at.inside
          w.hear-read.new.link c.match-state_at.link w.hear-read.result c.match-state_at.read w.inside-is w.link-is w.read-is
          (inr (unfed, w.hear-read.ensures.reads), w.hear-read.ensures.once, w.hear-read.ensures.keeps)
    ] in
    feeding_end c.args.now c.match-state_at.inside.at (shows c.args.inside.now) (shows c.match-state_at.inside) (g.L.Link.seen c.args.link.now)
    (g.L.Link.seen c.match-state_at.link) c.match-state_at.read next.Over refl (owes_rightly c.match-state_at.inside) went
    (subst (λ (x : LinkRead). AnswersSo x next.Over c.match-state_at.inside.at) (sym c.in-Failed.is) refl)
