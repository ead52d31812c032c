use Rattle.std.proofs.Common.{◌≡◌, ◌≤◌, ◌<◌, ◌-◌, ◌∙◌, ◌&&◌, ap, ap₂, arith, false, sym}
use Rattle.std.proofs.lemmas.Bool.{and_from, le-leb, lt-leb}
use Rattle.sched_base.specs.Tables.{all_rows}
use Rattle.repeat_laws.specs.Repeats.{ends_again, stands_again}
use Rattle.repeat_laws.proofs.Deciding.{unit_before, unit_none, unit_start}
use Rattle.table_text.proofs.repeat.repeat_unit.Goals.{else-scale-horizon-via-then-scale-horizon+in_ok-stands_again+else-branch}
use Rattle.table_text.proofs.repeat.repeat_unit.Goals.{else-scale-horizon-via-else-scale-horizon}
use Rattle.table_text.proofs.repeat.repeat_unit.Goals as goal

pub returns-then-can_repeat : goal.returns-then-can_repeat
returns-then-can_repeat c =
    sym (unit_start c.args.set.now c.args.scale (all_rows c.args.rows.now.lanes) (sym c.can_repeat.ensures.value ∙ c.if-can_repeat.true))

pub returns-then-branch : goal.returns-then-branch
returns-then-branch c =
    let s = c.args.set.now in
    let rows = all_rows c.args.rows.now.lanes in
    let end : c.from-horizon.result ≡ s.horizon = c.from-horizon.ensures ∙ c.horizon.ensures.value in
    let on = c.if-scale-horizon.true in
    let early : c.args.scale ≤ s.horizon = omega (arith, on, end) in
    let stands = sym (rw end at c.in_ok-stands_again.ensures) ∙ c.if-branch.true in
    ap (λ h. h - c.args.scale) end
    ∙ sym (unit_before s c.args.scale rows (sym c.can_repeat.ensures.value ∙ c.if-can_repeat.false) (and_from _ _ (le-leb c.args.scale s.horizon early) stands))

pub returns : goal.returns
returns c =
    let s = c.args.set.now in
    let rows = all_rows c.args.rows.now.lanes in
    let end : c.from-horizon.result ≡ s.horizon = c.from-horizon.ensures ∙ c.horizon.ensures.value in
    let other : ends_again s c.args.scale rows ≡ false = elim c.else-scale-horizon.branch [
      | else-scale-horizon-via-then-scale-horizon+in_ok-stands_again+else-branch w ↦ (
          let on = w.if-scale-horizon.true in
          let early : c.args.scale ≤ s.horizon = omega (arith, on, end) in
          let apart = sym (rw end at w.in_ok-stands_again.ensures) ∙ w.if-branch.false in
          ap₂ (λ x y. x && y) (le-leb c.args.scale s.horizon early) apart)
      | else-scale-horizon-via-else-scale-horizon w ↦ (
          let off = w.if-scale-horizon.false in
          let past : s.horizon < c.args.scale = omega (arith, off, end) in
          ap (λ x. x && stands_again s c.args.scale (s.horizon - c.args.scale) c.args.scale rows) (lt-leb c.args.scale s.horizon past))
    ] in
    c.horizon-2.ensures.value
    ∙ sym (unit_none s c.args.scale rows (sym c.can_repeat.ensures.value ∙ c.if-can_repeat.false) other)
