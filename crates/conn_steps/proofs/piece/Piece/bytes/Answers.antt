use Rattle.std.proofs.Common.{◌-◌, ◌≤◌, ℕ, List, length, take, drop, ap, ◌∙◌, arith, length-take}
use Rattle.conn_steps.proofs.PieceLemmas.{between}
use Rattle.conn_steps.proofs.piece.Piece.bytes.Goals as goal

pub returns-clause-bytes : goal.returns-clause-bytes
returns-clause-bytes c =
    let from = c.self.inside.from in
    let to = c.self.inside.to in
    let items : List ℕ = c.self.inside.piece.items in
    let within : to ≤ length items = omega (arith, c.self.invariant.0, c.self.inside.piece.ok.0) in
    ap (λ (xs : List ℕ). take (to - c.min.result) (drop c.min.result xs)) c.deref.ensures.value
    ∙ between from to c.min.result items within c.min.ensures ∙ c.self.view_is

pub returns-clause-few : goal.returns-clause-few
returns-clause-few c =
    let to = c.self.inside.to in
    let xs : List ℕ = drop c.min.result c.deref.result.now in
    let within : to ≤ 16384 = omega (arith, c.self.invariant.0, c.self.invariant.1) in
    omega (arith, length-take (to - c.min.result) xs, within)
