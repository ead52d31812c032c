use Rattle.std.proofs.Common.{◌∙◌, ap, length}
use Rattle.trace_writer.proofs.TotalLemmas.{length-totals_of, merged_told}
use Rattle.trace_writer.proofs.text.write_merged.Goals as goal

pub write_first_version-requires-clause-totals : goal.write_first_version-requires-clause-totals
write_first_version-requires-clause-totals g c = ap length c.requires.totals ∙ length-totals_of (length c.args.set.now.tasks) c.args.rows.now.lanes

pub write_first_version-requires-clause-told : goal.write_first_version-requires-clause-told
write_first_version-requires-clause-told g c = merged_told c.args.set.now c.args.totals.now c.args.rows.now.lanes c.requires.totals
