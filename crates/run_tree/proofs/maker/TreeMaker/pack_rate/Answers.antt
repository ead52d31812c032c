use Rattle.std.proofs.Common.{◌<◌, length, get_or, ap, arith}
use Rattle.run_tree.specs.Making.{Making}
use Rattle.run_tree.proofs.MakerLemmas.{last_in}
use Rattle.run_tree.proofs.maker.TreeMaker.pack_rate.Goals as goal

pub node_of-requires : goal.node_of-requires
node_of-requires c =
    let i : c.args.i < length c.self.inside.growth.packs = omega (arith, c.requires, ap (λ (m : Making). length m.last) c.self.view_is) in
    let r = last_in c.self.inside.lower.items _ c.self.invariant.levels c.args.i i in
    omega (arith, r, ap length c.nodes.ensures, ap (λ xs. get_or xs c.args.i 0) c.packs.ensures)
