use Rattle.std.proofs.Common.{◌∙◌, rules}
use Rattle.sched_edges.proofs.Wrote.{wrote_part}
use Rattle.pure_commands.proofs.LineLemmas.{appends_as, took_as, more_printed, part_printed}
use Rattle.pure_commands.proofs.refusal_line.write_printed.Goals as goal

pub loop-rest-preserved : goal.loop-rest-preserved
loop-rest-preserved g c =
    let took = appends_as _ _ _ _ (c.as_slice.ensures.bytes ∙ c.printed.ensures) c.in_ok-write_all.ensures.wrote.ok in
    record {
      printed =
          more_printed c.args.bytes.now c.loop-rest.rest.now c.split_at.result.0.now c.split_at.result.1.now _ _ _ c.split_at.ensures.by_index.0
          c.loop-rest.invariant.printed took;
      later = search rules;
    }

pub returns-in_err-write_all-clause-wrote : goal.returns-in_err-write_all-clause-wrote
returns-in_err-write_all-clause-wrote g c =
    let took = took_as _ _ _ _ (c.as_slice.ensures.bytes ∙ c.printed.ensures) c.in_err-write_all.ensures.wrote.err in
    wrote_part _ _ _ c.from_residual.result c.from_residual.ensures.0
    (part_printed c.args.bytes.now c.loop-rest.rest.now c.split_at.result.0.now c.split_at.result.1.now _ _ _ c.split_at.ensures.by_index.0
    c.loop-rest.invariant.printed took)
