use Rattle.std.proofs.Common.{◌≡◌, ◌∷◌, ◌++◌, [], rules}
use Rattle.rack_outside.proofs.CabinetLemmas.{one_more_under, no_more_under}
use Rattle.rack_outside.proofs.mem_files.MemFiles.add.Goals as goal

pub returns-clause-behind : goal.returns-clause-behind
returns-clause-behind c =
    let is : c.push.new.self.items ≡ c.args.self.now.texts ++ (c.args.name.now, c.args.text) ∷ [] = search rules in
    rw is (one_more_under c.args.self.now.texts c.args.name.now c.args.text)

pub returns-clause-others : goal.returns-clause-others
returns-clause-others c = λ other differs.
    let is : c.push.new.self.items ≡ c.args.self.now.texts ++ (c.args.name.now, c.args.text) ∷ [] = search rules in
    rw is (no_more_under c.args.self.now.texts c.args.name.now c.args.text other differs)
