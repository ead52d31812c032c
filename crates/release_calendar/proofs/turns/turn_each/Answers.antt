use Rattle.std.proofs.Common.{◌≡◌, ℕ, ◌<◌, ◌+◌, List, length, take, get_or, ap, arith, subst, subst₂, sym, ◌∙◌}
use Rattle.sched_base.specs.declared.rows.NodeId.{NodeId}
use Rattle.run_tree.specs.Tree.{numbers}
use Rattle.run_tree.specs.Windows.{window_end}
use Rattle.run_tree.specs.Plans.{boundary_of}
use Rattle.release_calendar.specs.Calendars.{AreTurning, EndsFit, IsLeastEnd}
use Rattle.release_calendar.proofs.OrderLemmas.{same_at, other_at, ends_later, fit_set, least_step, elsewhere_step}
use Rattle.release_calendar.proofs.ListedTurns.{turning_more}
use Rattle.release_calendar.proofs.turns.turn_each.Goals as goal
use Rattle.release_calendar.proofs.turns.turn_each.Goals.{then-end-at, else-end-at}

pub loop-x-preserved : goal.loop-x-preserved
loop-x-preserved c =
    let x = c.loop-x.x in
    let ends = c.loop-x.ends in
    let ends' = c.if-end-at.ends in
    let was = c.loop-x.invariant in
    let on = c.loop-x-test.true in
    let most = c.loop-x.auto.x-end in
    let long = c.requires.ends in
    let kept = c.loop-x.auto.ends in
    let long_b = c.requires.begins in
    let kept_b = c.loop-x.auto.begins in
    let within : x < length ends = omega (arith, on, most, kept) in
    elim c.if-end-at.branch [
      | then-end-at w ↦
          (let later = window_end (boundary_of c.args.plan.now x) c.args.at in
          let at : get_or ends x 0 ≡ c.args.at = w.if-end-at.true in
          let ie = w.ends-is ∙ w.turn_due-end.ensures.ends in
          let end = w.end-is ∙ w.turn_due-end.ensures.end in
          let same : (y : ℕ) → y < x → get_or ends' y 0 ≡ get_or ends y 0 = λ y l. ap (λ (xs : List ℕ). get_or xs y 0) ie ∙ other_at ends x y later
          (λ e. absurd (omega (arith, l, e))) in
          let here : c.if-end-at.end ≡ get_or ends' x 0 = end ∙ sym (ap (λ (xs : List ℕ). get_or xs x 0) ie ∙ same_at ends x later within) in
          let past = ends_later c.args.plan.now c.requires.plan ends c.args.at x was.0.turning.packs c.requires.at (omega (arith, within, kept, long)) at in (
            turning_more c.args.plan.now c.requires.plan c.loop-x.begins ends c.if-end-at.begins ends' (numbers (take c.loop-x.turned c.loop-x.begun))
                (numbers (take c.if-end-at.turned c.if-end-at.begun)) c.args.at x c.requires.at
                (omega (arith, long_b, kept_b)) (omega (arith, long, kept)) (omega (arith, within, long, kept)) at (w.begins-is
                ∙ w.turn_due-end.ensures.begins) ie
                (ap (λ (n : ℕ). numbers (take n c.if-end-at.begun)) w.turned-is ∙ ap (λ (ns : List NodeId). numbers (take (c.loop-x.turned + 1) ns))
                w.begun-is ∙ w.list_one.ensures) was.0,
            elsewhere_step ends ends' c.args.at x c.if-end-at.end same here (λ e. past (sym end ∙ e)) was.1,
            subst (λ (d : ℕ). IsLeastEnd ends' (x + 1) d) (sym c.min-first.ensures) (least_step ends ends' x c.loop-x.first c.if-end-at.end same here was.2),
            subst (λ (xs : List ℕ). EndsFit xs) (sym ie) (fit_set ends x later was.3 w.turn_due-end.ensures.fits within),
            (let t = was.4 in let n = w.turned-is in omega (arith, t, n)),
          ))
      | else-end-at w ↦
          (let same : (y : ℕ) → y < x → get_or ends' y 0 ≡ get_or ends y 0 = λ y l. ap (λ (xs : List ℕ). get_or xs y 0) w.ends-is in
          let here : c.if-end-at.end ≡ get_or ends' x 0 = w.end-is ∙ sym (ap (λ (xs : List ℕ). get_or xs x 0) w.ends-is) in (
            subst (λ (n : ℕ). AreTurning c.args.plan.now c.if-end-at.begins ends' (numbers (take n c.if-end-at.begun)) c.args.at) (sym w.turned-is)
                (subst (λ (ns : List NodeId). AreTurning c.args.plan.now c.if-end-at.begins ends' (numbers (take c.loop-x.turned ns)) c.args.at)
                (sym w.begun-is)
                (subst₂ (λ (xs ys : List ℕ). AreTurning c.args.plan.now xs ys (numbers (take c.loop-x.turned c.loop-x.begun)) c.args.at) (sym w.begins-is)
                (sym w.ends-is) was.0)),
            elsewhere_step ends ends' c.args.at x c.if-end-at.end same here (λ e. w.if-end-at.false (sym w.end-is ∙ e)) was.1,
            subst (λ (d : ℕ). IsLeastEnd ends' (x + 1) d) (sym c.min-first.ensures) (least_step ends ends' x c.loop-x.first c.if-end-at.end same here was.2),
            subst (λ (xs : List ℕ). EndsFit xs) (sym w.ends-is) was.3,
            (let t = was.4 in let n = w.turned-is in omega (arith, t, n)),
          ))
    ]
