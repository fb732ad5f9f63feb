use Rattle.std.proofs.Common.{List, ℕ, ◌++◌, ap, ◌∙◌}
use Rattle.std.specs.Prelude.{codes}
use Rattle.puma_ctl.specs.Wish.{order_path}
use Rattle.puma_ctl.proofs.WishLemmas.{joined}
use Rattle.puma_ctl.proofs.wish.write_wish.Goals as goal

pub returns-clause-ok : goal.returns-clause-ok
returns-clause-ok c =
    joined c.args.out.now.items (codes "GET ") (order_path c.args.wish) (codes "?token=") c.args.token.now
    (codes " HTTP/1.1\r\nHost: localhost\r\nConnection: close\r\n\r\n") _ _ _ _ _
    (c.in_ok-extend_from_slice.ensures.items ∙ ap (λ (w : List ℕ). w ++ codes "GET ") c.in_ok-reserve.ensures.items)
    (c.in_ok-extend_from_slice-2.ensures.items ∙ ap (λ (w : List ℕ). c.extend_from_slice.new.self.items ++ w) c.path-path.ensures)
    c.in_ok-extend_from_slice-3.ensures.items c.in_ok-extend_from_slice-4.ensures.items c.in_ok-extend_from_slice-5.ensures.items
