use Rattle.std.proofs.Common.{◌≡◌, ℕ, suc, ◌+◌, ◌<◌, length, ap, sym, subst, ◌∙◌, arith}
use Rattle.tree_check.specs.declared.faults.TreeKind.TheVariants.{Unfinished}
use Rattle.tree_check.specs.Written.{level_line, end_line}
use Rattle.tree_check.specs.Faults.{IsFirstFault}
use Rattle.tree_check.proofs.LevelScans.{IsLevelFirst, IsFineBelow, first_in_level, first_at_end, no_fault, fine_more, line_more}
use Rattle.tree_check.proofs.ScanSteps.{lines_room}
use Rattle.tree_check.proofs.check.first_fault.Goals as goal

pub returns-in-Some : goal.returns-in-Some
returns-in-Some c =
    let w = c.args.tree.now in
    let l = c.loop-l.l in
    let low : l < length w.levels = omega (arith, c.loop-l-test.true, c.levels-l-end.ensures.value) in
    first_in_level w l c.in-Some.fault.line c.in-Some.fault.kind low c.loop-l.invariant.1 (subst (IsLevelFirst w l) c.in-Some.is c.in_ok-fault.ensures)

pub overflow_add-line-in-loop-l-2 : goal.overflow_add-line-in-loop-l-2
overflow_add-line-in-loop-l-2 c =
    let w = c.args.tree.now in
    let l = c.loop-l.l in
    let low : l < length w.levels = omega (arith, c.loop-l-test.true, c.levels-l-end.ensures.value) in
    omega (arith, c.loop-l.invariant.0, lines_room w l c.levels-l-end.ensures.lawful low, ap length c.packs.ensures)

pub loop-l-preserved : goal.loop-l-preserved
loop-l-preserved c =
    let w = c.args.tree.now in
    let l = c.loop-l.l in
    let e : suc l ≡ l + 1 = omega arith in
    let next = ap (level_line w) e in (
      omega (arith, c.loop-l.invariant.0, line_more w l, next, ap length c.packs.ensures),
      fine_more w l c.loop-l.invariant.1 (subst (IsLevelFirst w l) c.in_default.is c.in_ok-fault.ensures),
    )

pub returns-then-is_unfinished : goal.returns-then-is_unfinished
returns-then-is_unfinished c =
    let w = c.args.tree.now in
    let iw = c.levels-l-end.ensures.lawful in
    let e : c.loop-l.l ≡ length w.levels = omega (arith, c.loop-l-test.false, c.loop-l.auto.l-end, c.levels-l-end.ensures.value) in
    let at : c.loop-l.line ≡ end_line w = c.loop-l.invariant.0 ∙ ap (level_line w) e in
    subst (λ (n : ℕ). IsFirstFault w n Unfinished) (sym at) (first_at_end w iw.some_level (subst (IsFineBelow w) e c.loop-l.invariant.1)
    c.if-is_unfinished.ensures)

pub returns : goal.returns
returns c =
    let w = c.args.tree.now in
    let iw = c.levels-l-end.ensures.lawful in
    let e : c.loop-l.l ≡ length w.levels = omega (arith, c.loop-l-test.false, c.loop-l.auto.l-end, c.levels-l-end.ensures.value) in
    no_fault w iw.some_level (subst (IsFineBelow w) e c.loop-l.invariant.1) c.if-is_unfinished.ensures
