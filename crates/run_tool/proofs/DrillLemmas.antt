-- The set of a drill fits, its schedule has few rows, and what is told of them is its text.
use Rattle.std.proofs.Common.{◌≡◌, ℕ, ◌*◌, ◌^◌, ◌≤◌, List, length, refl, sym, ◌∙◌, ap, subst, arith}
use Rattle.std.specs.List.{concat, range_with_len}
use Rattle.std.proofs.lemmas.List.FromFn.{length-range_with_len}
use Rattle.sched_base.specs.declared.rows.Row.{Row}
use Rattle.sched_base.specs.Sets.{SetContents, IsLawful}
use Rattle.sched_base.specs.Scale.{IsScale, PassesAt, Fits}
use Rattle.sched_base.specs.Valid.{IsValid}
use Rattle.run_tree.specs.Boundaries.{set_boundary}
use Rattle.run_tree.specs.Compiled.{tree_of}
use Rattle.run_tree.specs.Plans.{PlanContents, IsPlan, rounds_of, stop_of}
use Rattle.run_tree.specs.Rounds.{is_event}
use Rattle.run_tree.proofs.PackLists.{length-filter-le}
use Rattle.sched_base.specs.Tables.{row_limit}
use Rattle.event_core.proofs.RoundsInOrder.{rounds_is}
use Rattle.rate_scale.proofs.ScaleLemmas.{some_scale, PassesAt-whole}
use Rattle.run_compile.specs.Answers.{IsOverload}
use Rattle.plan_rounds.specs.PlanRows.{plan_rows}
use Rattle.merged_rows.specs.Merging.{merged_lanes}
use Rattle.trace_check.specs.Traces.{Trace}
use Rattle.trace_check.specs.RoundTrip.{trace_again}
use Rattle.stat_report.specs.Report.{IsValidTrace}
use Rattle.task_gen.specs.Words.{words_of_number}
use Rattle.task_gen.specs.Drill.{made_from}
use Rattle.run_tool.specs.declared.summary.Summary.{Summary}
use Rattle.pure_commands.specs.SetTexts.{plan_of}
use Rattle.run_tool.specs.Drill.{drilled, IsDrill, summary_by, summary_lines, drill_text}

-- ---- the set

-- what holds of each drawn set
pub record IsSmall (s : SetContents) : Type 0 where
  pub lawful : IsLawful s
  pub fits : (scale : ℕ) → IsScale s.tasks scale → Fits scale s
  pub small : (scale : ℕ) → IsScale s.tasks scale → scale ≤ 60

pub small_by : (words : List ℕ) → length words ≡ 128 → ((words : List ℕ) → length words ≡ 128 → IsLawful (made_from words))
    → ((words : List ℕ) (scale : ℕ) → IsScale (made_from words).tasks scale → Fits scale (made_from words))
    → ((words : List ℕ) (scale : ℕ) → IsScale (made_from words).tasks scale → scale ≤ 60) → IsSmall (made_from words)
small_by words whole lawful fits small =
    record { lawful = lawful words whole; fits = λ scale is. fits words scale is; small = λ scale is. small words scale is }

-- its scale doesn't pass the limit
pub no_pass : (s : SetContents) (at : ℕ) → IsSmall s → PassesAt (2 ^ 94) s.tasks at → ⊥
no_pass s at is passes =
    let (scale, is_scale) = some_scale s is.lawful in
    let over = PassesAt-whole (2 ^ 94) s.tasks at passes scale is_scale in
    let low = is.small scale is_scale in
    absurd (omega (arith, over, low))

-- and its tasks don't ask for more than there is
pub no_overload : (s : SetContents) (total room : ℕ) → IsSmall s → IsOverload s total room → ⊥
no_overload s total room is overload =
    let (scale, has, is_total, is_room) = overload.some_scale in
    let fits = is.fits scale has.is in
    let over = overload.over in
    absurd (omega (arith, fits, over, is_total, is_room))

pub drawn_is : (number : ℕ) (words : List ℕ) (s : SetContents) → words ≡ words_of_number number → s ≡ made_from words → s ≡ drilled number
unfolding drilled
drawn_is number words s same is = is ∙ ap made_from same

four_processors : (number : ℕ) → (drilled number).processors ≡ 4
unfolding drilled
four_processors number = refl

drill_horizon : (number : ℕ) → (drilled number).horizon ≡ 6000
unfolding drilled
drill_horizon number = refl

-- ---- the plan

pub plan_is : (number : ℕ) (s : SetContents) (p : PlanContents) → s ≡ drilled number → p.set ≡ s → p.tree ≡ tree_of p.tree.scale s
    → p ≡ plan_of (drilled number) p.tree.scale
plan_is number s p drawn set tree = λ i. record { set = (set ∙ drawn) i; tree = (tree ∙ ap (tree_of p.tree.scale) drawn) i }

-- each round has some tick
rounds_within : (p : PlanContents) → rounds_of p ≤ stop_of p
rounds_within p =
    let is = rounds_is p.set.tasks p.tree (stop_of p) in
    let fewer = length-filter-le (is_event (set_boundary p.set.tasks) p.tree) (range_with_len 0 (stop_of p)) in
    let all = length-range_with_len 0 (stop_of p) in
    omega (arith, is, fewer, all)

-- so there are few rows
pub few_rows : (number : ℕ) (s : SetContents) (p : PlanContents) → s ≡ drilled number → IsSmall s → p.set ≡ s → IsPlan p
    → rounds_of p * p.tree.processors ≤ row_limit
few_rows number s p drawn is set plan =
    let scale' : IsScale s.tasks p.tree.scale = subst (λ (x : SetContents). IsScale x.tasks p.tree.scale) set plan.tree.scale in
    let low = is.small p.tree.scale scale' in
    let horizon : p.set.horizon ≡ 6000 = ap (λ (x : SetContents). x.horizon) (set ∙ drawn) ∙ drill_horizon number in
    let stop : stop_of p ≡ 6000 * p.tree.scale = ap (λ n. n * p.tree.scale) horizon in
    let within = rounds_within p in
    let four : p.tree.processors ≡ 4 = plan.tree.processors ∙ ap (λ (x : SetContents). x.processors) (set ∙ drawn) ∙ four_processors number in
    let rows : rounds_of p * p.tree.processors ≡ rounds_of p * 4 = ap (λ n. rounds_of p * n) four in
    omega (arith, low, stop, within, rows)

-- ---- the trace

-- the trace of a plan's rows is valid where they are
pub trace_valid : (t : Trace) (s : SetContents) (scale : ℕ) (lanes : List (List Row)) → t ≡ trace_again s scale (merged_lanes lanes)
    → IsValid s scale (s.horizon * scale) (s.horizon * scale) (trace_again s scale (merged_lanes lanes)).rows → IsValidTrace t
trace_valid t s scale lanes is valid = subst IsValidTrace (sym is) valid

-- what is told of a plan's rows is the text of the drill
pub text_is : (number rounds : ℕ) (p : PlanContents) (told : Summary) → p ≡ plan_of (drilled number) p.tree.scale → rounds ≡ rounds_of p
    → told ≡ summary_by number rounds (trace_again p.set p.tree.scale (merged_lanes (plan_rows p)))
    → concat (summary_lines told) ≡ drill_text number p.tree.scale
unfolding drill_text
text_is number rounds p told plan count is =
    ap (λ t. concat (summary_lines t)) (is
    ∙ (λ i. summary_by number ((count ∙ ap rounds_of plan) i) (trace_again (plan i).set p.tree.scale (merged_lanes (plan_rows (plan i))))))

-- and the drill's trace is the one that was judged
pub drill_is : (number : ℕ) (p : PlanContents) → p ≡ plan_of (drilled number) p.tree.scale → IsScale (drilled number).tasks p.tree.scale
    → IsValidTrace (trace_again p.set p.tree.scale (merged_lanes (plan_rows p))) → IsDrill number p.tree.scale
drill_is number p plan is_scale valid =
    record { is_scale = is_scale; valid = subst (λ (q : PlanContents). IsValidTrace (trace_again q.set p.tree.scale (merged_lanes (plan_rows q)))) plan valid }
