use Rattle.std.proofs.Common.{◌∙◌, ◌≤◌, ◌-◌, ap, ap₂, length, get_or, arith, sym, subst, ℕ, List}
use Rattle.run_tree.specs.Tree.{Node}
use Rattle.run_tree.specs.Growth.{with_duals_of, no_growth}
use Rattle.run_tree.proofs.LevelsMade.{IsLevelOf, among_is, duals_step, level_none, level_step_is}
use Rattle.std.proofs.lemmas.Result.{IfOk-from_err}
use Rattle.std.proofs.lemmas.List.{take_all}
use Rattle.run_tree.proofs.growth.Growth.of_duals.Goals as goal

pub put-requires-clause-packs : goal.put-requires-clause-packs
put-requires-clause-packs c = among_is (length c.args.below.now) c.args.level c.args.scale c.loop-i.i c.loop-i.growth c.loop-i.invariant.kept

pub loop-i-preserved : goal.loop-i-preserved
loop-i-preserved c = record {
  made = duals_step c.args.below.now c.args.scale c.args.level c.loop-i.i c.head.result.now.rate c.args.packs.now c.args.homes.now c.loop-i.growth
      c.put.new.self c.loop-i-test.true c.requires.homes (c.head.ensures.rate ∙ ap (λ (n : Node). n.rate) c.node_of.ensures) c.loop-i.invariant.made
      c.in_ok-put.ensures.ok;
  kept = level_step_is (length c.args.below.now) c.args.level c.args.scale c.loop-i.i (get_or c.args.homes.now c.loop-i.i 0) (get_or c.args.packs.now
      c.loop-i.i 0) c.head.result.now.rate c.loop-i.growth c.put.new.self c.loop-i.invariant.kept (c.requires.packs c.loop-i.i c.loop-i-test.true)
      c.in_ok-put.ensures.ok;
}

pub returns-in_err-put : goal.returns-in_err-put
returns-in_err-put c = IfOk-from_err _ _ c.from_residual.ensures.0

pub node_of-requires : goal.node_of-requires
node_of-requires c = c.requires.packs c.loop-i.i c.loop-i-test.true

pub overflow_sub-dual : goal.overflow_sub-dual
overflow_sub-dual c = let at = c.head.ensures.rate ∙ ap (λ (n : Node). n.rate) c.node_of.ensures in let most = c.requires.rates c.loop-i.i
    c.loop-i-test.true in omega (arith, at, most)

pub overflow_cast-base : goal.overflow_cast-base
overflow_cast-base c = let fit = c.requires.numbers_fit in omega (arith, fit)

pub put-requires-clause-numbers_fit : goal.put-requires-clause-numbers_fit
put-requires-clause-numbers_fit c = let long = c.loop-i.invariant.kept.long in let below = c.loop-i-test.true in let few = c.requires.few in
    let fit = c.requires.numbers_fit in omega (arith, long, below, few, fit)

pub put-requires-clause-members_fit : goal.put-requires-clause-members_fit
put-requires-clause-members_fit c = λ _. (let few = c.loop-i.invariant.kept.members (get_or c.loop-i.growth.packs (get_or c.args.homes.now c.loop-i.i 0)
    0 - length c.args.below.now) in let below = c.loop-i-test.true in let most = c.requires.few in omega (arith, few, below, most))

pub loop-i-init : goal.loop-i-init
loop-i-init c = record {
  made = c.new-growth.ensures;
  kept = subst (IsLevelOf (length c.args.below.now) c.args.level c.args.scale 0) (sym c.new-growth.ensures) (level_none (length c.args.below.now)
      c.args.level c.args.scale);
}

pub returns : goal.returns
returns c =
    let off = c.loop-i-test.false in
    let each = c.requires.homes in
    let homes : length c.args.homes.now ≤ c.loop-i.i = omega (arith, off, each) in
    c.loop-i.invariant.made
    ∙ ap₂ (λ (ps : List ℕ) (hs : List ℕ). with_duals_of c.args.below.now c.args.scale c.args.level ps hs no_growth) (take_all c.loop-i.i c.args.packs.now
    off) (take_all c.loop-i.i c.args.homes.now homes)
