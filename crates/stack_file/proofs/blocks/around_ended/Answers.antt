use Rattle.std.proofs.Common.{◌∷◌, [], ◌++◌, map, ap, ◌∙◌, sym}
use Rattle.builder_core.specs.Plan.{Holds, plan_of_items, item}
use Rattle.stack_file.specs.Kept.{KeptPlace, kept_block, kept_around}
use Rattle.stack_file.specs.declared.blocks.Block.{Block}
use Rattle.stack_file.specs.declared.blocks.Block.TheVariants.{Place}
use Rattle.stack_file.proofs.BlockLemmas.{map_behind}
use Rattle.stack_file.proofs.blocks.around_ended.Goals as goal

pub returns-in_ok-push-in-Place-inner : goal.returns-in_ok-push-in-Place-inner
returns-in_ok-push-in-Place-inner c =
    let all = map_behind c.in-Place.lines.items c.in-Place-inner.inside _ c.push-in-Place-inner.new.self.items c.in_ok-push-in-Place-inner.ensures.items in
    let around : Block = Place c.in-Place.place c.in-Place.lines c.in-Place.notes in
    ap (λ items. KeptPlace c.in-Place.place items c.behind_map-notes.result) all
    ∙ ap (λ notes. KeptPlace c.in-Place.place (map item c.in-Place.lines.items ++ Holds c.in-Place-inner.inside (plan_of_items (map item c.in-Place-inner.block.items)) ∷ []) notes) c.behind_map-notes.ensures
    ∙ ap (λ b. kept_around c.args.line (kept_block b) (kept_block around)) (sym c.in-Place-inner.is)
    ∙ ap (λ b. kept_around c.args.line (kept_block c.args.inner) (kept_block b)) (sym c.in-Place.is)
