use Rattle.std.proofs.Common.{◌≡◌, ◌∙◌, sym, true, refl}
use Rattle.rack_outside.specs.Watched.{has_key}
use Rattle.rack_outside.proofs.mem_watcher.MemWatcherWatcher.watch.Goals as goal

pub returns-then-has-clause-exact : goal.returns-then-has-clause-exact
returns-then-has-clause-exact g c =
    let there : has_key c.args.key c.self.inside.keys ≡ true = sym c.has.ensures.has ∙ c.if-has.true in
    rw (← c.self.view_is) (rw there (c.has.ensures.few, refl))
