-- What the rows of a plan are, as its trace text asks for.
use Rattle.std.proofs.Common.{◌≡◌, ◌||◌, not, eqb, Bool, true, false, List, [], ◌∷◌, ap, sym, ◌∙◌, inl, inr}
use Rattle.std.proofs.lemmas.Bool.{cases_Bool, eqb-true}
use Rattle.sched_base.specs.declared.rows.Row.{Row}
use Rattle.sched_base.specs.declared.sets.Task as declared
use Rattle.sched_base.specs.Lanes.{lanes_of}
use Rattle.sched_base.specs.Tables.{all_rows}
use Rattle.run_tree.specs.Plans.{PlanContents, schedule_of}
use Rattle.trace_format.specs.Conditions.{AreOnTime}
use Rattle.trace_format.specs.Text.{trace_text}
use Rattle.merged_rows.proofs.PushLemmas.{all_merged}
use Rattle.merged_rounds.specs.Passes.{AreMergedOf}
use Rattle.pure_commands.specs.Commands.{schedule_text, some_late, version_of}

-- where no task is late, each is released at unit 0
on_time : (tasks : List declared.Task) → some_late tasks ≡ false → AreOnTime tasks
on_time [] e = tt
on_time (t ∷ tasks) e =
    elim (cases_Bool (eqb t.offset 0)) [
      | inl on ↦ (eqb-true t.offset 0 on, on_time tasks (sym (ap (λ (b : Bool). not b || some_late tasks) on) ∙ e))
      | inr off ↦ absurd (let late : true ≡ false = sym (ap (λ (b : Bool). not b || some_late tasks) off) ∙ e in cc)
    ]

-- where `met` lines aren't asked for and no task is late, each is released at unit 0
pub on_time_unless : (met : Bool) (tasks : List declared.Task) → (met || some_late tasks) ≡ false → AreOnTime tasks
on_time_unless true tasks e = absurd (let wanted : true ≡ false = e in cc)
on_time_unless false tasks e = on_time tasks e

-- the text of merged rows
pub merged_text : (met : Bool) (p : PlanContents) (lanes : List (List Row)) → AreMergedOf p lanes
    → trace_text (version_of met p.set.tasks) p.set p.tree.scale (all_rows lanes) ≡ schedule_text (version_of met p.set.tasks) p
merged_text met p lanes is =
    ap (trace_text (version_of met p.set.tasks) p.set p.tree.scale) (ap all_rows is ∙ all_merged (lanes_of p.tree.processors (schedule_of p)))
