use Rattle.std.proofs.Common.{◌∙◌}
use Rattle.sched_edges.proofs.Wrote.{wrote_then, wrote_part, part_then, part_cut}
use Rattle.pure_commands.proofs.LineLemmas.{key_parts, appends_as, took_as, wrote_as}
use Rattle.pure_commands.proofs.refusal_line.write_key_line.Goals as goal

pub returns-in_err-write_all-clause-wrote : goal.returns-in_err-write_all-clause-wrote
returns-in_err-write_all-clause-wrote g c =
    let start = took_as _ _ _ _ (c.as_slice.ensures.bytes ∙ c.key_start.ensures) c.in_err-write_all.ensures.wrote.err in
    wrote_as _ _ _ _ _ (key_parts c.args.place c.args.key.now)
    (wrote_part _ _ _ c.from_residual.result c.from_residual.ensures.0 (part_cut _ _ _ _ start))

pub returns-in_err-write_printed-clause-wrote : goal.returns-in_err-write_printed-clause-wrote
returns-in_err-write_printed-clause-wrote g c =
    let start = appends_as _ _ _ _ (c.as_slice.ensures.bytes ∙ c.key_start.ensures) c.in_ok-write_all.ensures.wrote.ok in
    wrote_as _ _ _ _ _ (key_parts c.args.place c.args.key.now)
    (wrote_part _ _ _ c.from_residual-in_err-write_printed.result c.from_residual-in_err-write_printed.ensures.0
    (part_then _ _ _ _ _ start (part_cut _ _ _ _ c.in_err-write_printed.ensures.wrote.err)))

pub returns-clause-wrote : goal.returns-clause-wrote
returns-clause-wrote g c =
    let start = wrote_as _ _ _ _ _ (c.as_slice.ensures.bytes ∙ c.key_start.ensures) c.in_ok-write_all.ensures.wrote in
    wrote_as _ _ _ _ _ (key_parts c.args.place c.args.key.now)
    (wrote_then _ _ _ _ _ _ _ start (wrote_then _ _ _ _ _ _ _ c.in_ok-write_printed.ensures.wrote c.write_all-2.ensures.wrote))
