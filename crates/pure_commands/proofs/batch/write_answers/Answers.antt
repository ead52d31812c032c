use Rattle.std.proofs.Common.{le_refl, arith}
use Rattle.sched_edges.proofs.CauseLemmas.{cause_cut, cause_then}
use Rattle.sched_edges.proofs.Wrote.{wrote_then, wrote_cut}
use Rattle.pure_commands.proofs.batch.write_answers.Goals as goal

pub returns-clause-wrote : goal.returns-clause-wrote
returns-clause-wrote g c = rw (← c.count.ensures) (wrote_then _ _ _ _ _ _ _ c.in_ok-write_count.ensures.wrote c.write_sets.ensures.wrote)

pub returns-in_err-write_count-clause-wrote : goal.returns-in_err-write_count-clause-wrote
returns-in_err-write_count-clause-wrote g c = rw (← c.count.ensures) (wrote_cut _ _ _ _ _ _ c.in_err-write_count.ensures.wrote c.from_residual.ensures.0)

pub returns-in_err-write_count-clause-cause : goal.returns-in_err-write_count-clause-cause
returns-in_err-write_count-clause-cause g c = cause_cut _ _ _ _ _ (le_refl _) c.in_err-write_count.ensures.cause

pub returns-clause-cause : goal.returns-clause-cause
returns-clause-cause g c = cause_then _ _ _ _ c.write_count.ensures.cause.later c.write_sets.ensures.cause

pub write_count-requires-clause-format : goal.write_count-requires-clause-format
write_count-requires-clause-format g c = omega arith

pub write_count-requires-clause-what : goal.write_count-requires-clause-what
write_count-requires-clause-what g c = omega arith
