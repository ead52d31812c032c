use Rattle.std.proofs.Common.{arith, ◌∙◌, ap}
use Rattle.std.proofs.lemmas.Slice.Zip.{AllZip-long}
use Rattle.sched_base.specs.Sets.{SetContents}
use Rattle.sched_edges.proofs.Wrote.{wrote_then, wrote_part, part_cut}
use Rattle.mode_switch.specs.Runs.{IsRunOf}
use Rattle.pure_commands.proofs.LineLemmas.{wrote_as}
use Rattle.run_tool.proofs.ModeRowLemmas.{mode_on_time, mode_is_short, mode_rows, mode_totals, mode_texts}
use Rattle.run_tool.proofs.mode_text.write_mode.Goals as goal

pub table-requires : goal.table-requires
table-requires g c =
    let long = AllZip-long IsRunOf c.args.modes.now.modes c.args.run.now c.requires.runs in
    omega (arith, long, c.requires.within)

pub totals-requires : goal.totals-requires
totals-requires g c =
    let long = AllZip-long IsRunOf c.args.modes.now.modes c.args.run.now c.requires.runs in
    omega (arith, long, c.requires.within)

pub write_rows-requires-clause-on_time : goal.write_rows-requires-clause-on_time
write_rows-requires-clause-on_time g c =
    mode_on_time c.args.modes.now c.plan-plan.ensures.lawful c.args.j c.plan-plan.result.now c.plan-plan.ensures.value

pub write_rows-requires-clause-few : goal.write_rows-requires-clause-few
write_rows-requires-clause-few g c =
    mode_is_short c.args.modes.now c.plan-plan.ensures.lawful c.args.j c.plan-plan.result.now c.plan-plan.ensures.value

pub write_rows-requires-clause-lanes : goal.write_rows-requires-clause-lanes
write_rows-requires-clause-lanes g c =
    mode_rows c.args.modes.now c.plan-plan.ensures.lawful c.args.j c.plan-plan.result.now c.plan-plan.ensures.value
    c.args.run.now c.requires.runs c.table.result.now c.table.ensures

pub write_rows-requires-clause-totals : goal.write_rows-requires-clause-totals
write_rows-requires-clause-totals g c =
    mode_totals c.args.modes.now c.plan-plan.ensures.lawful c.args.j c.plan-plan.result.now c.plan-plan.ensures.value
    c.args.run.now c.requires.runs c.totals.result.now c.totals.ensures

pub returns-in_err-write_all-clause-wrote : goal.returns-in_err-write_all-clause-wrote
returns-in_err-write_all-clause-wrote g c = λ m at.
    let lasts = c.horizon.ensures.value ∙ ap (λ (s : SetContents). s.horizon) c.set.ensures.value in
    let text = mode_texts c.args.modes.now c.plan-plan.ensures.lawful c.args.j c.plan-plan.result.now c.plan-plan.ensures.value
    c.start.result c.horizon.result c.as_slice.result.now c.start.ensures.value lasts (c.as_slice.ensures.bytes ∙ c.mode_head.ensures) m at in
    wrote_as _ _ _ _ _ text (wrote_part _ _ _ c.from_residual.result c.from_residual.ensures.0 (part_cut _ _ _ _ c.in_err-write_all.ensures.wrote.err))

pub returns-clause-wrote : goal.returns-clause-wrote
returns-clause-wrote g c = λ m at.
    let lasts = c.horizon.ensures.value ∙ ap (λ (s : SetContents). s.horizon) c.set.ensures.value in
    let text = mode_texts c.args.modes.now c.plan-plan.ensures.lawful c.args.j c.plan-plan.result.now c.plan-plan.ensures.value
    c.start.result c.horizon.result c.as_slice.result.now c.start.ensures.value lasts (c.as_slice.ensures.bytes ∙ c.mode_head.ensures) m at in
    wrote_as _ _ _ _ _ text (wrote_then _ _ _ _ _ _ _ c.in_ok-write_all.ensures.wrote c.write_rows.ensures.wrote)
