use Rattle.std.proofs.Common.{◌≡◌, ◌∙◌, ◌<◌, ◌-◌, ap, sym, arith}
use Rattle.std.proofs.lemmas.Result.{on_ok_weaker}
use Rattle.run_tree.specs.declared.kinds.Kind.TheVariants as kind
use Rattle.run_tree.specs.Making.{Making, put}
use Rattle.run_tree.specs.Growth.{grown}
use Rattle.run_tree.specs.Maker.{IsMaker, leaf_count}
use Rattle.run_tree.proofs.MakerLemmas.{last_in, put_leaf_is, leaf_kept, making_with, growth_of, either_way}
use Rattle.run_tree.proofs.maker.TreeMaker.leaf.Goals as goal

pub put-requires-clause-packs : goal.put-requires-clause-packs
put-requires-clause-packs c = λ i l. (omega arith, let r = last_in c.self.inside.lower.items _ c.self.invariant.levels i l in omega (arith, r))

pub invariant_of-self : goal.invariant_of-self
invariant_of-self c =
    let m : Making = record {
      tree = record {
        processors = c.self.inside.processors;
        scale = c.self.inside.scale;
        levels = c.self.inside.levels;
        nodes = c.self.inside.growth.nodes;
      };
      last = c.self.inside.growth.packs;
    } in
    let first : m.tree.levels ≡ 1 = ap (λ (x : Making). x.tree.levels) c.self.view_is ∙ c.requires.first_level in
    let few : leaf_count m.tree < 1280 = omega (arith, ap (λ (x : Making). leaf_count x.tree) c.self.view_is, c.requires.few) in
    either_way (λ g. IsMaker c.self.inside.lower.items (making_with m g)) c.self.inside.growth c.put.new.self (grown 0 (m.tree.levels - 1)
    (kind.Leaf c.args.leaf) c.args.rate c.args.pack (growth_of m))
    c.put.result c.self.invariant (leaf_kept c.self.inside.lower.items m c.args.leaf c.args.rate c.args.pack c.self.invariant first few) c.put.ensures.ok
    c.put.ensures.err

pub returns-clause-ok : goal.returns-clause-ok
returns-clause-ok c =
    let m : Making = record {
      tree = record {
        processors = c.self.inside.processors;
        scale = c.self.inside.scale;
        levels = c.self.inside.levels;
        nodes = c.self.inside.growth.nodes;
      };
      last = c.self.inside.growth.packs;
    } in
    on_ok_weaker c.put.result (λ made. ap (making_with m) made ∙ sym (put_leaf_is m c.args.leaf c.args.rate c.args.pack)
    ∙ ap (put (kind.Leaf c.args.leaf) c.args.rate c.args.pack) c.self.view_is) c.put.ensures.ok
