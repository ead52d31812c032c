use Rattle.std.proofs.Common.{◌≡◌, ◌+◌, suc, List, get_or, length, ap, ◌∙◌, arith}
use Rattle.std.proofs.lemmas.List.{get_or_default}
use Rattle.tree_check.specs.Written.{Pack, level_at, no_pack}
use Rattle.tree_check.specs.Faults.{before}
use Rattle.tree_check.specs.FirstSteps.{first_making}
use Rattle.tree_check.proofs.LeafSteps.{first_whole}
use Rattle.std.proofs.lemmas.Result.{IfOk-from_err}
use Rattle.tree_check.proofs.plan.first_level.Goals as goal

pub returns : goal.returns
returns c =
    let w = c.args.tree.now in
    let e : c.loop-i.i ≡ length (level_at w 0) = omega (arith, c.loop-i-test.false, c.loop-i.auto.i-end, ap length c.packs-pack-items.ensures) in
    c.loop-i.invariant ∙ ap (λ n. first_making w (before (level_at w 0) n)) e ∙ first_whole w

pub returns-in_err-add_leaves : goal.returns-in_err-add_leaves
returns-in_err-add_leaves c = IfOk-from_err _ _ c.from_residual.ensures.0

pub packs-pack-items-requires : goal.packs-pack-items-requires
packs-pack-items-requires c = c.levels-levels.ensures.lawful.some_level

pub loop-i-init : goal.loop-i-init
loop-i-init c = c.requires.maker

pub overflow_cast-i : goal.overflow_cast-i
overflow_cast-i c =
    let few = (c.levels-levels.ensures.lawful.levels 0 c.levels-levels.ensures.lawful.some_level).few in
    omega (arith, c.loop-i-test.true, few, ap length c.packs-pack-items.ensures)

pub add_leaves-requires : goal.add_leaves-requires
add_leaves-requires c =
    let packs = c.packs-pack-items.result.now in
    let i = c.loop-i.i in record {
      no_fault = c.requires.no_fault;
      rates = c.requires.rates;
      pack = omega (arith, c.loop-i-test.true, ap length c.packs-pack-items.ensures);
      members =
          c.members.ensures
          ∙ ap (λ (p : Pack). p.members) (c.pack-item.is ∙ get_or_default packs i c.pack-item.result no_pack c.loop-i-test.true
          ∙ ap (λ (ps : List Pack). get_or ps i no_pack) c.packs-pack-items.ensures);
      maker = c.loop-i.invariant;
    }

pub loop-i-preserved : goal.loop-i-preserved
loop-i-preserved c =
    let e : suc c.loop-i.i ≡ c.loop-i.i + 1 = omega arith in
    c.in_ok-add_leaves.ensures ∙ ap (λ n. first_making c.args.tree.now (before (level_at c.args.tree.now 0) n)) e
