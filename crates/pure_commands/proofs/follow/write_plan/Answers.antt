use Rattle.std.proofs.Common.{ℕ, ◌≤◌, sym, ◌∙◌, ap, refl, subst}
use Rattle.sched_base.specs.Sets.{SetContents}
use Rattle.sched_base.specs.Tables.{row_limit}
use Rattle.run_tree.specs.Plans.{PlanContents}
use Rattle.std.proofs.lemmas.Result.{err_from_is_err_and}
use Rattle.trace_format.specs.declared.versions.Version.TheVariants.{One}
use Rattle.pure_commands.specs.Commands.{schedule_text}
use Rattle.pure_commands.specs.Follow.{plan_told}
use Rattle.pure_commands.proofs.LineLemmas.{appends_as, took_as}
use Rattle.pure_commands.proofs.FollowLemmas.{rows_are, uncounted, followed_is}
use Rattle.pure_commands.proofs.WrittenLemmas.{on_written, if_unwritten}
use Rattle.pure_commands.proofs.follow.write_plan.Goals as goal

pub returns-in_err-rows-clause-stops : goal.returns-in_err-rows-clause-stops
returns-in_err-rows-clause-stops g c =
    let why = err_from_is_err_and c.from_residual.result c.from_residual.ensures.1 in
    rw (why.1, why.2) (uncounted c.args.tree.now c.args.plan.now _ _ _ c.requires.plan c.requires.text c.in_err-rows.ensures.fault)

pub write_merged-requires-clause-on_time : goal.write_merged-requires-clause-on_time
write_merged-requires-clause-on_time g c = rw c.set.ensures.value c.requires.on_time

pub write_merged-requires-clause-processors : goal.write_merged-requires-clause-processors
write_merged-requires-clause-processors g c =
    c.in_ok-rows.ensures.lawful.processors ∙ ap (λ (p : PlanContents). p.set.processors) c.requires.plan
    ∙ sym (ap (λ (s : SetContents). s.processors) c.set.ensures.value)

pub write_merged-requires-clause-names : goal.write_merged-requires-clause-names
write_merged-requires-clause-names g c =
    let same = ap (λ (p : PlanContents). p.set) c.requires.plan in
    rw (c.set.ensures.value, ← same) c.in_ok-rows.ensures.lawful.names

pub write_merged-requires-clause-few : goal.write_merged-requires-clause-few
write_merged-requires-clause-few g c = c.in_ok-rows.ensures.lawful.few

pub write_merged-requires-clause-totals : goal.write_merged-requires-clause-totals
write_merged-requires-clause-totals g c =
    let same = ap (λ (p : PlanContents). p.set) c.requires.plan in
    rw (c.set.ensures.value, ← same) (c.as_slice.ensures.value ∙ c.in_ok-rows.ensures.totals)

pub returns-clause-done : goal.returns-clause-done
returns-clause-done g c =
    let is = followed_is c.args.tree.now c.args.plan.now _ _ _ c.set.ensures.value c.scale.ensures.value c.requires.plan c.in_ok-rows.ensures.rows in
    let room = subst (λ (n : ℕ). n ≤ row_limit) (rows_are c.args.tree.now c.args.plan.now c.requires.plan) c.in_ok-rows.ensures.few in
    on_written c.write_merged.result c.written.result c.written.ensures _ _ c.write_merged.ensures.wrote.ok
    (λ took. (schedule_text One (plan_told c.args.tree.now), (c.requires.text, room, refl), appends_as _ _ _ _ is took))

pub returns-clause-stops : goal.returns-clause-stops
returns-clause-stops g c =
    let is = followed_is c.args.tree.now c.args.plan.now _ _ _ c.set.ensures.value c.scale.ensures.value c.requires.plan c.in_ok-rows.ensures.rows in
    let room = subst (λ (n : ℕ). n ≤ row_limit) (rows_are c.args.tree.now c.args.plan.now c.requires.plan) c.in_ok-rows.ensures.few in
    if_unwritten c.write_merged.result c.written.result c.written.ensures _ _ _ c.write_merged.ensures.wrote.err c.write_merged.ensures.cause.failed
    (λ took rose. (
      schedule_text One (plan_told c.args.tree.now),
      (c.requires.text, room, refl),
      took_as _ _ _ _ is took,
      rose,
    ))
