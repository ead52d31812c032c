-- `follow` of what `tree` writes is what `trace` writes.
use Rattle.std.proofs.Common.{◌≡◌, ℕ, ◌*◌, ◌^◌, ◌≤◌, ◌||◌, not, false, cond, List, [], ◌∷◌, Ok, refl, ap, ap₂, sym, subst, ◌∙◌, eq-eqb}
use Rattle.sched_base.specs.declared.sets.Task as declared
use Rattle.sched_base.specs.Lanes.{lanes_of}
use Rattle.sched_base.specs.Scale.{IsScale, Fits}
use Rattle.sched_base.specs.Sets.{SetContents, IsLawful}
use Rattle.sched_base.specs.Tables.{row_limit}
use Rattle.run_tree.specs.Compiled.{tree_of}
use Rattle.run_tree.specs.Plans.{PlanContents, schedule_of, rounds_of}
use Rattle.run_tree.specs.Schedule.{schedule, rounds}
use Rattle.task_reader.specs.Reading.{set_read_from}
use Rattle.trace_format.specs.Conditions.{AreOnTime}
use Rattle.merged_rows.specs.Merging.{merged_lanes}
use Rattle.trace_format.specs.Text.{trace_text}
use Rattle.trace_format.specs.declared.versions.Version.TheVariants.{One, Two}
use Rattle.tree_check.specs.Written.{Written, written_of}
use Rattle.tree_check.specs.TextTree.{text_tree}
use Rattle.tree_text_laws.specs.Again.{IsReadAgain}
use Rattle.pure_commands.specs.Commands.{plan_of, rows_of, some_late, version_of, schedule_text}
use Rattle.pure_commands.specs.Follow.{plan_told}
use Rattle.pure_commands.specs.Followed.{FollowsAsTraced}

none_late : (tasks : List declared.Task) → AreOnTime tasks → some_late tasks ≡ false
none_late [] on_time = refl
none_late (t ∷ tasks) on_time = ap₂ (λ a b. not a || b) (eq-eqb t.offset 0 on_time.0) (none_late tasks on_time.1)

-- what is told of the text is told of the plan
module _ (p : PlanContents) (on_time : AreOnTime p.set.tasks) (h : IsReadAgain p) where
  abbrev w : Written
  w = written_of p

  scale_same : (text_tree w).scale ≡ p.tree.scale
  scale_same = ap (λ (x : Written). x.scale) h.is_text.again

  rows_same : schedule_of (plan_told w) ≡ schedule_of p
  rows_same = ap (λ n. schedule p.set.tasks (text_tree w) (p.set.horizon * n)) scale_same ∙ h.rows (p.set.horizon * p.tree.scale)

  count_same : rounds_of (plan_told w) ≡ rounds_of p
  count_same = ap (λ n. rounds p.set.tasks (text_tree w) (p.set.horizon * n)) scale_same ∙ h.rounds_same (p.set.horizon * p.tree.scale)

  width_same : p.set.processors ≡ p.tree.processors → (text_tree w).processors ≡ p.tree.processors
  width_same processors = h.is_text.tree.processors ∙ processors

  pub text_same : p.set.processors ≡ p.tree.processors → schedule_text (version_of false p.set.tasks) p ≡ schedule_text One (plan_told w)
  text_same processors =
      ap (λ late. schedule_text (cond late Two One) p) (none_late p.set.tasks on_time)
      ∙ sym (λ i. trace_text One p.set (scale_same i) (merged_lanes (lanes_of (width_same processors i) (rows_same i))))

  pub rows_told_same : p.set.processors ≡ p.tree.processors → rows_of (plan_told w) ≡ rows_of p
  rows_told_same processors = ap₂ (λ a b. a * b) count_same (width_same processors)

pub follows_as_traced : ((bytes : List ℕ) (s : SetContents) → set_read_from bytes ≡ Ok s → IsLawful s)
    → ((s : SetContents) (scale : ℕ) → IsLawful s → AreOnTime s.tasks → IsScale s.tasks scale → scale ≤ 2 ^ 94 → Fits scale s →
    IsReadAgain (record { set = s; tree = tree_of scale s }))
    → ((s : SetContents) (scale : ℕ) → IsLawful s → IsScale s.tasks scale → Fits scale s → s.processors ≡ (tree_of scale s).processors)
    → FollowsAsTraced
follows_as_traced lawful again processors bytes s scale reads fits on_time few =
    let l = lawful bytes s reads.read in
    let p = plan_of s scale in
    let h = again s scale l on_time reads.is_scale reads.within fits in
    let same = processors s scale l reads.is_scale fits in
    let room : rows_of (plan_told (written_of p)) ≤ row_limit = subst (λ n. n ≤ row_limit) (sym (rows_told_same p on_time h same)) few in
    (refl, (written_of p, h.read, (h.is_text, room, text_same p on_time h same)))
