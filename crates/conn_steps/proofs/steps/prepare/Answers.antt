use Rattle.std.proofs.Common.{◌≡◌, Bool, ℕ, List, Bor, [], ap, sym, ◌∙◌}
use Rattle.std.specs.Prelude.{bytes_eq, codes}
use Rattle.rack_types.specs.declared.limits.Version.{Version}
use Rattle.rack_types.specs.Fields.{persists}
use Rattle.rack_types.specs.Input.{Reading, unread}
use Rattle.rack_types.specs.Request.{Parts, with_body}
use Rattle.rack_env.specs.Environment.{environment}
use Rattle.reply_framing.specs.declared.types.Ask.{Ask}
use Rattle.conn_steps.proofs.PrepareLemmas.{some_and_at}
use Rattle.conn_steps.proofs.steps.prepare.Goals as goal

ask_same : (h h' : Bool) (v v' : Version) (p p' : Bool) → h ≡ h' → v ≡ v' → p ≡ p'
    → ◌≡◌ {A = Ask} (record { head = h; version = v; persists = p }) (record { head = h'; version = v'; persists = p' })
ask_same h h' v v' p p' x y z =
    ap (λ (w : Bool). record { head = w; version = v; persists = p }) x
    ∙ ap (λ (w : Version). record { head = h'; version = w; persists = p }) y
    ∙ ap (λ (w : Bool). record { head = h'; version = v'; persists = w }) z

pub returns-clause-asks : goal.returns-clause-asks
returns-clause-asks c = λ b r fed is.
    let taken = c.take_input-input.ensures.first b r fed is in
    let emptied : c.unwrap-request.result.now ≡ with_body [] r =
    some_and_at (λ (q : Bor Parts). q.now ≡ with_body [] r) _ _ (c.request.ensures.spent b r taken.1 is) c.unwrap-request.ensures in
    let head : c.eq.result ≡ bytes_eq r.method (codes "HEAD") =
    c.eq.ensures ∙ ap (λ (m : List ℕ). bytes_eq m c.as_slice.result.now) (c.method.ensures ∙ ap (λ (q : Parts). q.method) emptied)
    ∙ ap (λ (t : List ℕ). bytes_eq r.method t) c.as_slice.ensures in
    let version : c.version.result ≡ r.version = c.version.ensures ∙ ap (λ (q : Parts). q.version) emptied in
    let goes_on : c.persists.result ≡ persists r = c.persists.ensures ∙ ap (λ (q : Parts). persists q) emptied in (
      ask_same c.eq.result (bytes_eq r.method (codes "HEAD")) c.version.result r.version c.persists.result (persists r) head version goes_on,
      c.in_ok-refill.ensures.whole (taken.0 ∙ ap (λ (i : Reading). unread i.bytes) (sym taken.0))
          ∙ ap (λ (q : Parts). environment (with_body c.take_input-input.result.bytes q) c.args.peer.now c.args.local.now) emptied
          ∙ ap (λ (i : Reading). environment (with_body i.bytes r) c.args.peer.now c.args.local.now) taken.0,
    )
