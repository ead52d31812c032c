use Rattle.std.proofs.Common.{◌∙◌, ap, length}
use Rattle.merged_rows.proofs.PushLemmas.{all_merged}
use Rattle.trace_writer.proofs.ShownLemmas.{names_merged_lanes, few_merged_lanes}
use Rattle.trace_writer.proofs.TotalLemmas.{length-totals_of, table_told}
use Rattle.trace_writer.proofs.text.write_trace.Goals as goal

pub write_first_version-requires-clause-names : goal.write_first_version-requires-clause-names
write_first_version-requires-clause-names g c = names_merged_lanes (length c.args.set.now.tasks) c.args.table.now.lanes c.requires.names

pub write_first_version-requires-clause-few : goal.write_first_version-requires-clause-few
write_first_version-requires-clause-few g c = few_merged_lanes c.args.table.now.lanes _ c.know_whole.ensures.lawful c.requires.few

pub write_first_version-requires-clause-totals : goal.write_first_version-requires-clause-totals
write_first_version-requires-clause-totals g c = ap length c.requires.totals ∙ length-totals_of (length c.args.set.now.tasks) c.args.table.now.lanes

pub write_first_version-requires-clause-told : goal.write_first_version-requires-clause-told
write_first_version-requires-clause-told g c = rw (all_merged c.args.table.now.lanes) (table_told c.args.set.now c.args.totals.now c.args.table.now.lanes
    c.know_whole.ensures.lawful c.requires.totals)

pub returns-clause-wrote : goal.returns-clause-wrote
returns-clause-wrote g c = rw (all_merged c.args.table.now.lanes) at c.write_first_version.ensures.wrote
