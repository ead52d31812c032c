use Rattle.std.proofs.Common.{◌≡◌, ◌+◌, ◌-◌, ◌<◌, length, ap, ◌∙◌, arith}
use Rattle.tree_check.specs.TextTree.{text_making}
use Rattle.tree_check.proofs.PlanSteps.{level_step}
use Rattle.std.proofs.lemmas.Result.{IfOk-from_err}
use Rattle.tree_check.proofs.plan.add_levels.Goals as goal

pub to_place-requires : goal.to_place-requires
to_place-requires c = c.levels-levels.ensures.lawful.some_level

pub first_level-requires : goal.first_level-requires
first_level-requires c = record { no_fault = c.requires.no_fault; rates = c.deref.ensures.value ∙ c.in_ok-rates.ensures; maker = c.requires.maker }

pub packs-requires : goal.packs-requires
packs-requires c = omega (arith, c.loop-l-test.true, c.levels-levels.ensures.value)

pub add_level-requires : goal.add_level-requires
add_level-requires c =
    let low : c.loop-l.l < length c.args.tree.now.levels = omega (arith, c.loop-l-test.true, c.levels-levels.ensures.value) in
    let step = level_step c.args.tree.now c.levels-levels.ensures.lawful c.requires.no_fault c.loop-l.l c.loop-l.auto.l low c.loop-l.maker
    c.packs.result.now c.loop-l.invariant c.packs.ensures in
    record { few = step.few; few_levels = step.few_levels; some = step.some; order = step.order }

pub loop-l-preserved : goal.loop-l-preserved
loop-l-preserved c =
    let low : c.loop-l.l < length c.args.tree.now.levels = omega (arith, c.loop-l-test.true, c.levels-levels.ensures.value) in
    let z : c.loop-l.l ≡ c.loop-l.l + 1 - 1 = omega arith in
    c.in_ok-add_level.ensures
    ∙ (level_step c.args.tree.now c.levels-levels.ensures.lawful c.requires.no_fault c.loop-l.l c.loop-l.auto.l low c.loop-l.maker c.packs.result.now
    c.loop-l.invariant c.packs.ensures).next
    ∙ ap (text_making c.args.tree.now) z

pub returns : goal.returns
returns c =
    let w = c.args.tree.now in
    let last : c.loop-l.l - 1 ≡ length w.levels - 1 = omega (
      arith,
      c.loop-l-test.false,
      c.loop-l.auto.l-end,
      c.levels-levels.ensures.value,
      c.levels-levels.ensures.lawful.some_level,
    ) in
    c.loop-l.invariant ∙ ap (text_making w) last

pub returns-in_err-rates : goal.returns-in_err-rates
returns-in_err-rates c = IfOk-from_err _ _ c.from_residual.ensures.0

pub returns-in_err-first_level : goal.returns-in_err-first_level
returns-in_err-first_level c = IfOk-from_err _ _ c.from_residual-in_err-first_level.ensures.0

pub returns-in_err-add_level : goal.returns-in_err-add_level
returns-in_err-add_level c = IfOk-from_err _ _ c.from_residual-in_err-add_level.ensures.0

pub loop-l-init : goal.loop-l-init
loop-l-init c = c.in_ok-first_level.ensures
