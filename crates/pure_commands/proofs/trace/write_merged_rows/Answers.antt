use Rattle.std.proofs.Common.{sym, ◌∙◌}
use Rattle.pure_commands.proofs.TraceLemmas.{on_time_unless}
use Rattle.pure_commands.proofs.trace.write_merged_rows.Goals as goal

pub write_merged-requires-clause-on_time : goal.write_merged-requires-clause-on_time
write_merged-requires-clause-on_time g c = on_time_unless c.args.met _ (sym c.wants_met.ensures ∙ c.if-wants_met.false)
