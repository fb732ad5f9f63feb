use Rattle.std.proofs.Common.{◌≡◌, ap, sym, ◌∙◌, Some, codes}
use Rattle.rack_types.specs.Env.{get_pair, set_pair}
use Rattle.stock_middleware.proofs.MethodLemmas.{HasName-set_pair-other, HasName-set_pair-same, set_pair-back}
use Rattle.stock_middleware.proofs.overriding.put_method.Goals as goal

pub replace-requires : goal.replace-requires
replace-requires c = rw c.in_ok-original.ensures.changed (HasName-set_pair-other (codes "POST") c.args.env.now.pairs c.requires)

pub returns-clause-can : goal.returns-clause-can
returns-clause-can c =
    let before = c.set_saved.new.env.pairs in
    rw (c.replace.ensures.set, set_pair-back _ _ _ before c.replace.ensures.taken) (HasName-set_pair-same _ _ before, c.in_ok-original.ensures.can)

pub returns-clause-back : goal.returns-clause-back
returns-clause-back c =
    let before = c.set_saved.new.env.pairs in
    rw (c.replace.ensures.set, set_pair-back _ _ _ before c.replace.ensures.taken) c.in_ok-original.ensures.back
