use Rattle.std.proofs.Common.{◌∙◌, ℕ, List, ap, arith, sym, subst}
use Rattle.sched_base.specs.Sets.{SetContents}
use Rattle.tree_check.specs.Written.{level_at}
use Rattle.tree_check.specs.Scans.{AreMarks, HasUnmarked, names_of}
use Rattle.tree_check.proofs.LevelScans.{in_marks, out_marks}
use Rattle.tree_check.proofs.ScanSteps.{filled, room_fits, unfilled}
use Rattle.tree_check.proofs.levels.line_fault.Goals as goal
use Rattle.tree_check.proofs.levels.line_fault.Goals.{else-l-eq0-via-then-l-eq0+else-total_of-from, else-l-eq0-via-else-l-eq0}

pub overflow_mul-from : goal.overflow_mul-from
overflow_mul-from c =
    let processors = c.from.ensures ∙ c.processors.ensures.value ∙ ap (λ (s : SetContents). s.processors) c.set.ensures.value in
    let fits = room_fits c.args.tree.now c.from.result c.scale.result c.scale.ensures.lawful processors c.scale.ensures.value in
    omega (arith, fits)

pub returns-then-total_of-from : goal.returns-then-total_of-from
returns-then-total_of-from c =
    let processors = c.from.ensures ∙ c.processors.ensures.value ∙ ap (λ (s : SetContents). s.processors) c.set.ensures.value in
    unfilled c.args.tree.now c.args.l c.args.rates.now c.total_of.result c.from.result c.scale.result c.scale.ensures.lawful c.requires.rates c.total_of.ensures
    c.if-total_of-from.true processors c.scale.ensures.value c.if-l-eq0.true

pub leaves_out-requires : goal.leaves_out-requires
leaves_out-requires c = c.requires.marks.long

pub returns-then-leaves_out : goal.returns-then-leaves_out
returns-then-leaves_out c =
    let w = c.args.tree.now in
    let l = c.args.l in
    let marks = c.args.marks.now in
    let a = subst (λ (rs : List ℕ). AreMarks rs (names_of w l (level_at w l)) marks) c.requires.rates c.requires.marks in (
      (λ bare. elim c.else-l-eq0.branch [
        | else-l-eq0-via-then-l-eq0+else-total_of-from b ↦ (
            let processors = b.from.ensures ∙ b.processors.ensures.value ∙ ap (λ (s : SetContents). s.processors) b.set.ensures.value in
            filled w l c.args.rates.now b.total_of.result b.from.result b.scale.result b.scale.ensures.lawful c.requires.rates b.total_of.ensures
            b.if-total_of-from.false processors b.scale.ensures.value bare)
        | else-l-eq0-via-else-l-eq0 b ↦ b.if-l-eq0.false bare.0
      ]),
      out_marks w l marks a (subst (λ (rs : List ℕ). HasUnmarked rs marks) c.requires.rates c.if-leaves_out.ensures),
    )

pub returns : goal.returns
returns c =
    let w = c.args.tree.now in
    let l = c.args.l in
    let marks = c.args.marks.now in
    let a = subst (λ (rs : List ℕ). AreMarks rs (names_of w l (level_at w l)) marks) c.requires.rates c.requires.marks in (
      (λ bare. elim c.else-l-eq0.branch [
        | else-l-eq0-via-then-l-eq0+else-total_of-from b ↦ (
            let processors = b.from.ensures ∙ b.processors.ensures.value ∙ ap (λ (s : SetContents). s.processors) b.set.ensures.value in
            filled w l c.args.rates.now b.total_of.result b.from.result b.scale.result b.scale.ensures.lawful c.requires.rates b.total_of.ensures
            b.if-total_of-from.false processors b.scale.ensures.value bare)
        | else-l-eq0-via-else-l-eq0 b ↦ b.if-l-eq0.false bare.0
      ]),
      (λ out. c.if-leaves_out.ensures (subst (λ (rs : List ℕ). HasUnmarked rs marks) (sym c.requires.rates) (in_marks w l marks a out))),
    )
