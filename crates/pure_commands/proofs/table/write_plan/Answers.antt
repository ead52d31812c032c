use Rattle.std.proofs.Common.{◌≡◌, ℕ, List, Option, false, ◌<◌, ◌≤◌, ◌^◌, ap, subst, arith}
use Rattle.std.proofs.lemmas.Result.{IfOk-from_err, err_from_is_err_and}
use Rattle.event_core.specs.Counts.{IsCountFault}
use Rattle.event_core.specs.declared.counts.CountFault.{CountFault}
use Rattle.event_core.specs.declared.counts.CountFault.TheVariants as count
use Rattle.run_tree.specs.Compiled.{tree_of}
use Rattle.run_tree.specs.Plans.{PlanContents, stop_of}
use Rattle.pure_commands.specs.Commands.{c_table, plan_of, plan_table}
use Rattle.pure_commands.specs.Faults.{of_count}
use Rattle.pure_commands.specs.Input.{IsSchedulable, StopsAtSet}
use Rattle.pure_commands.specs.declared.refusal.Refusal.TheVariants as why
use Rattle.pure_commands.proofs.CountedLemmas.{plan_is, uncounted, has_room}
use Rattle.pure_commands.proofs.EndLemmas.{keeps_same}
use Rattle.pure_commands.proofs.LineLemmas.{appends_as, took_as}
use Rattle.pure_commands.proofs.WrittenLemmas.{on_written, if_unwritten}
use Rattle.pure_commands.proofs.table.write_plan.Goals as goal

module _ (p : PlanContents) (run : IsSchedulable p.set p.tree.scale) (is : p.tree ≡ tree_of p.tree.scale p.set) where
  -- a schedule with too many ticks
  too_wide : (ticks : ℕ) (out : Option (List ℕ)) (faults : ℕ) → 2 ^ 64 ≤ ticks → ticks ≡ stop_of p
      → StopsAtSet c_table out out faults faults p.set (why.TooWide ticks)
  too_wide ticks out faults wide end = ((p.tree.scale, run, wide, subst (λ (q : PlanContents). ticks ≡ stop_of q) (plan_is p is) end), keeps_same out)

  -- one whose ticks fit
  narrow : stop_of p < 2 ^ 64 → stop_of (plan_of p.set p.tree.scale) < 2 ^ 64
  narrow few = subst (λ (q : PlanContents). stop_of q < 2 ^ 64) (plan_is p is) few

  -- one that isn't counted
  uncounted_table : (out : Option (List ℕ)) (faults : ℕ) (e : CountFault) → stop_of p < 2 ^ 64 → IsCountFault p e
      → StopsAtSet c_table out out faults faults p.set (of_count e)
  uncounted_table out faults (count.TooLong rows) few long =
      let told = uncounted false p out faults (count.TooLong rows) run is long in
      (((p.tree.scale, run, narrow few), told.0), told.1)
  uncounted_table out faults count.NoMemory few long = (tt, keeps_same out)

pub returns-then-ticks-from-clause-stops : goal.returns-then-ticks-from-clause-stops
returns-then-ticks-from-clause-stops g c =
    too_wide c.args.plan.now c.requires.run c.requires.tree c.rounds_end-ticks.result (g.W.Sink.taken c.args.out.now) (g.W.Sink.faults c.args.out.now)
    (omega arith) c.rounds_end-ticks.ensures.value

pub returns-in_err-rows-clause-done : goal.returns-in_err-rows-clause-done
returns-in_err-rows-clause-done g c = IfOk-from_err _ _ c.from_residual.ensures.0

pub returns-in_err-rows-clause-stops : goal.returns-in_err-rows-clause-stops
returns-in_err-rows-clause-stops g c =
    let few : stop_of c.args.plan.now < 2 ^ 64 = omega arith in
    let why = err_from_is_err_and c.from_residual.result c.from_residual.ensures.1 in
    rw (why.1, why.2) (uncounted_table c.args.plan.now c.requires.run c.requires.tree _ _ _ few c.in_err-rows.ensures.fault)

pub returns-in_err-from-clause-done : goal.returns-in_err-from-clause-done
returns-in_err-from-clause-done g c = IfOk-from_err _ _ c.from_residual-in_err-from.ensures.0

pub returns-in_err-from-clause-stops : goal.returns-in_err-from-clause-stops
returns-in_err-from-clause-stops g c =
    let why = err_from_is_err_and c.from_residual-in_err-from.result c.from_residual-in_err-from.ensures.1 in
    rw (why.1, why.2) (tt, keeps_same _)

pub write_rows-requires-clause-scale : goal.write_rows-requires-clause-scale
write_rows-requires-clause-scale g c = c.requires.run.is_scale.positive

pub write_rows-requires-clause-ticks : goal.write_rows-requires-clause-ticks
write_rows-requires-clause-ticks g c = omega arith

pub write_rows-requires-clause-rows : goal.write_rows-requires-clause-rows
write_rows-requires-clause-rows g c = c.in_ok-rows.ensures.rows

pub write_rows-requires-clause-lawful : goal.write_rows-requires-clause-lawful
write_rows-requires-clause-lawful g c = c.in_ok-rows.ensures.lawful

pub returns-clause-stops : goal.returns-clause-stops
returns-clause-stops g c =
    let p = c.args.plan.now in
    let few : stop_of p < 2 ^ 64 = omega arith in
    if_unwritten c.write_rows.result c.written.result c.written.ensures _ _ _ c.write_rows.ensures.wrote.err c.write_rows.ensures.cause.failed
    (λ took rose. (
      p.tree.scale,
      c.requires.run,
      (narrow p c.requires.run c.requires.tree few, has_room p c.requires.tree c.in_ok-rows.ensures.few),
      took_as _ _ _ _ (ap plan_table (plan_is p c.requires.tree)) took,
      rose,
    ))

pub returns-clause-done : goal.returns-clause-done
returns-clause-done g c =
    let p = c.args.plan.now in
    let few : stop_of p < 2 ^ 64 = omega arith in
    on_written c.write_rows.result c.written.result c.written.ensures _ _ c.write_rows.ensures.wrote.ok (λ took. (
      p.tree.scale,
      c.requires.run,
      (narrow p c.requires.run c.requires.tree few, has_room p c.requires.tree c.in_ok-rows.ensures.few),
      appends_as _ _ _ _ (ap plan_table (plan_is p c.requires.tree)) took,
    ))
