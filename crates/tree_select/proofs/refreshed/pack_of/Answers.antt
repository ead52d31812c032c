use Rattle.std.proofs.Common.{ℕ, subst, sym}
use Rattle.run_tree.specs.Tree.{IsPack}
use Rattle.tree_select.proofs.LevelLemmas.{pack_of_level}
use Rattle.tree_select.proofs.refreshed.pack_of.Goals as goal

pub returns-clause-pack : goal.returns-clause-pack
returns-clause-pack c =
    let P : ℕ → Type 0 = λ x. IsPack c.args.tree.now x in
    subst P (sym c.pack.ensures) (pack_of_level c.args.tree.now c.requires.tree c.args.level c.args.i c.requires.pack).0
