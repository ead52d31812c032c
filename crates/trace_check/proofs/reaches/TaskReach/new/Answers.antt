use Rattle.std.proofs.Common.{◌<◌, ◌*◌, ◌≡◌, ◌∙◌, length, replicate, refl, ap, arith}
use Rattle.trace_check.proofs.EndsLemmas.{ends_new}
use Rattle.trace_check.proofs.reaches.TaskReach.new.Goals as goal
use Rattle.trace_check.proofs.reaches.TaskReach.new.Goals.{then-span-eq0, else-span-eq0}

pub returns-clause-ends : goal.returns-clause-ends
returns-clause-ends c = λ j.
    let is = c.in_ok-ends.ensures in
    let some : 0 < length c.in_ok-ends.ends → 0 < c.from-2.result * c.args.scale = λ h. (elim c.if-span-eq0.branch [
      | then-span-eq0 w ↦ (let none : length c.in_ok-ends.ends ≡ 0 = ap length (is ∙ ap (λ n. replicate n 0) w.count-is) in absurd (omega (arith, h, none)))
      | else-span-eq0 w ↦ (let span = w.if-span-eq0 in omega (arith, span))
    ]) in
    ends_new j c.if-span-eq0.count _ some refl refl is
