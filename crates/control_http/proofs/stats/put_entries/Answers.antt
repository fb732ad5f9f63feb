use Rattle.std.proofs.Common.{ℕ, List, ◌++◌, append_assoc, append-nil, arith, sym, ap, ◌∙◌}
use Rattle.std.proofs.lemmas.List.{drop_all}
use Rattle.control_http.specs.Field.{field}
use Rattle.control_http.proofs.StatsLemmas.{entries-step}
use Rattle.control_http.proofs.stats.put_entries.Goals as goal

pub loop-i-init : goal.loop-i-init
unfolding field
loop-i-init c = simp (c.in_ok-extend_from_slice.ensures.items, append_assoc)

pub loop-i-preserved : goal.loop-i-preserved
loop-i-preserved c =
    entries-step _ _ _ _ c.loop-i.i c.args.slots.now c.args.seen.now _ _ c.loop-i.invariant (omega arith) (omega arith)
    (c.in_ok-extend_from_slice-2.ensures.items ∙ ap (λ (x : List ℕ). c.loop-i.json.items ++ x) c.comma_before.ensures)
    c.in_ok-put_entry.ensures

pub returns : goal.returns
returns c = sym (c.loop-i.invariant ∙ rw (drop_all c.loop-i.i c.args.slots.now (omega arith)) (append-nil _))
