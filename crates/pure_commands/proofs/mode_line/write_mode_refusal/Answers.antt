use Rattle.std.proofs.Common.{◌∙◌}
use Rattle.sched_edges.proofs.Wrote.{wrote_then, wrote_part, part_cut}
use Rattle.pure_commands.proofs.LineLemmas.{mode_line_parts, took_as, wrote_as}
use Rattle.pure_commands.proofs.mode_line.write_mode_refusal.Goals as goal

pub returns-in_err-write_all-clause-wrote : goal.returns-in_err-write_all-clause-wrote
returns-in_err-write_all-clause-wrote g c =
    wrote_as _ _ _ _ _ (mode_line_parts c.args.mode c.args.refusal.now)
    (wrote_part _ _ _ c.from_residual.result c.from_residual.ensures.0
    (part_cut _ _ _ _ (took_as _ _ _ _ (c.as_slice.ensures.bytes ∙ c.set_start.ensures) c.in_err-write_all.ensures.wrote.err)))

pub returns-clause-wrote : goal.returns-clause-wrote
returns-clause-wrote g c =
    let start = wrote_as _ _ _ _ _ (c.as_slice.ensures.bytes ∙ c.set_start.ensures) c.in_ok-write_all.ensures.wrote in
    wrote_as _ _ _ _ _ (mode_line_parts c.args.mode c.args.refusal.now)
    (wrote_then _ _ _ _ _ _ _ start c.write_mode_line.ensures.wrote)
