use Rattle.std.proofs.Common.{◌≡◌, ◌∙◌, ◌^◌, take, arith, refl}
use Rattle.std.proofs.lemmas.List.{take_all}
use Rattle.std.proofs.lemmas.Bool.{false≢true}
use Rattle.sched_base.specs.Scale.{IsScale, PassesAt}
use Rattle.rate_scale.proofs.ScaleLemmas.{IsLeastMultiple-none, IsLeastMultiple-next, IsScale-from_multiple, PassesAt-whole}
use Rattle.rate_scale.proofs.scales.scale_of.Goals as goal

pub loop-i-init : goal.loop-i-init
loop-i-init c = (IsLeastMultiple-none, omega arith)

-- the scale of the tasks up to this one is past the limit
passes : (c : goal.Then-next-gt-LIMIT) → PassesAt (2 ^ 94) c.args.set.now.tasks c.loop-i.i
passes c =
    let tasks = c.tasks-task-items.result.now in
    let next = IsLeastMultiple-next tasks c.loop-i.i c.task-item.result c.loop-i.scale c.from.result c.lcm-next.result c.loop-i-test.true c.task-item.is
    c.from.ensures c.loop-i.invariant.0 c.lcm-next.ensures.value c.lcm-next.ensures.some in
    rw (← c.tasks-task-items.ensures.value) (record {
      within = c.loop-i-test.true;
      before = (c.loop-i.scale, IsScale-from_multiple _ _ c.loop-i.invariant.0, c.loop-i.invariant.1);
      after = (c.lcm-next.result, IsScale-from_multiple _ _ next, c.if-next-gt-LIMIT.true);
    })

pub returns-then-next-gt-LIMIT-clause-first : goal.returns-then-next-gt-LIMIT-clause-first
returns-then-next-gt-LIMIT-clause-first c = passes c

pub returns-then-next-gt-LIMIT-clause-refused : goal.returns-then-next-gt-LIMIT-clause-refused
returns-then-next-gt-LIMIT-clause-refused c = (λ refused. PassesAt-whole _ _ _ (passes c), λ past. refl)

pub loop-i-preserved : goal.loop-i-preserved
loop-i-preserved c = (
  IsLeastMultiple-next c.tasks-task-items.result.now c.loop-i.i c.task-item.result c.loop-i.scale c.from.result c.lcm-next.result c.loop-i-test.true
      c.task-item.is c.from.ensures c.loop-i.invariant.0 c.lcm-next.ensures.value c.lcm-next.ensures.some,
  c.if-next-gt-LIMIT.false,
)

-- all tasks were taken
whole : (c : goal.After-loop-i) → IsScale c.args.set.now.tasks c.loop-i.scale
whole c =
    let all : take c.loop-i.i c.tasks-task-items.result.now ≡ c.args.set.now.tasks = take_all _ _ c.loop-i-test.false ∙ c.tasks-task-items.ensures.value in
    rw (← all) (IsScale-from_multiple _ _ c.loop-i.invariant.0)

pub returns-clause-scale : goal.returns-clause-scale
returns-clause-scale c = whole c

pub returns-clause-refused : goal.returns-clause-refused
returns-clause-refused c = (
  λ refused. absurd (false≢true refused),
  λ past. absurd (let p = past c.loop-i.scale (whole c) in let w = c.loop-i.invariant.1 in
      omega (arith, p, w)),
)
