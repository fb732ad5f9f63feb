use Rattle.std.proofs.Common.{ap, refl, sym, ◌∙◌, Some, None}
use Rattle.std.specs.Prelude.{option_map}
use Rattle.clap.specs.Words.{found_of}
use Rattle.puma_words.specs.ControlSaid.{said_control}
use Rattle.puma_words.proofs.ControlLemmas.{order_read}
use Rattle.puma_words.proofs.control.order_in.Goals as goal

pub returns-in_err-address : goal.returns-in_err-address
returns-in_err-address c =
    ap (option_map said_control) c.from_residual-in_err-address.ensures
    ∙ sym (order_read c.args.matches.now (found_of c.in_ok-rest.rest.now) None _ _ c.in_ok-rest.ensures.rows c.in_err-address.ensures refl refl)

pub returns-in_err-token : goal.returns-in_err-token
returns-in_err-token c =
    ap (option_map said_control) c.from_residual-in_err-token.ensures
    ∙ sym (order_read c.args.matches.now (found_of c.in_ok-rest.rest.now) (Some c.in_ok-address.address.now) None _ c.in_ok-rest.ensures.rows
    c.in_ok-address.ensures c.in_err-token.ensures refl)

pub returns-in_err-order : goal.returns-in_err-order
returns-in_err-order c =
    ap (option_map said_control) c.from_residual-in_err-order.ensures
    ∙ sym (order_read c.args.matches.now (found_of c.in_ok-rest.rest.now) (Some c.in_ok-address.address.now) (Some c.in_ok-token.token.now) None
    c.in_ok-rest.ensures.rows c.in_ok-address.ensures c.in_ok-token.ensures c.in_err-order.ensures)

pub returns : goal.returns
returns c =
    sym (order_read c.args.matches.now (found_of c.in_ok-rest.rest.now) (Some c.in_ok-address.address.now) (Some c.in_ok-token.token.now)
    (Some c.in_ok-order.order.now) c.in_ok-rest.ensures.rows c.in_ok-address.ensures c.in_ok-token.ensures c.in_ok-order.ensures)
