use Rattle.std.proofs.Common.{le_refl}
use Rattle.sched_edges.proofs.CauseLemmas.{cause_cut, cause_then}
use Rattle.sched_edges.proofs.Wrote.{wrote_then, wrote_cut, wrote_part, part_then, part_cut}
use Rattle.pure_commands.proofs.rate_text.write_rate.Goals as goal

pub returns-in_err-write_head-clause-wrote : goal.returns-in_err-write_head-clause-wrote
returns-in_err-write_head-clause-wrote g c = wrote_cut _ _ _ _ _ _ c.in_err-write_head.ensures.wrote c.from_residual.ensures.0

pub returns-in_err-write_head-clause-cause : goal.returns-in_err-write_head-clause-cause
returns-in_err-write_head-clause-cause g c = cause_cut _ _ _ _ _ (le_refl _) c.in_err-write_head.ensures.cause

pub write_rates-requires-clause-scale : goal.write_rates-requires-clause-scale
write_rates-requires-clause-scale g c = c.requires.scale

pub write_rates-requires-clause-scale_fits : goal.write_rates-requires-clause-scale_fits
write_rates-requires-clause-scale_fits g c = c.requires.scale_fits

pub returns-in_err-write_rates-clause-wrote : goal.returns-in_err-write_rates-clause-wrote
returns-in_err-write_rates-clause-wrote g c =
    wrote_part _ _ _ c.from_residual-in_err-write_rates.result c.from_residual-in_err-write_rates.ensures.0
    (part_then _ _ _ _ _ c.in_ok-write_head.ensures.wrote.ok (part_cut _ _ _ _ c.in_err-write_rates.ensures.wrote.err))

pub returns-in_err-write_rates-clause-cause : goal.returns-in_err-write_rates-clause-cause
returns-in_err-write_rates-clause-cause g c = cause_cut _ _ _ _ _ c.write_head.ensures.cause.later c.in_err-write_rates.ensures.cause

pub returns-clause-wrote : goal.returns-clause-wrote
returns-clause-wrote g c = rw (← c.requires.total, ← c.requires.room)
    (wrote_then _ _ _ _ _ _ _ c.in_ok-write_head.ensures.wrote (wrote_then _ _ _ _ _ _ _ c.in_ok-write_rates.ensures.wrote c.write_end.ensures.wrote))

pub returns-clause-cause : goal.returns-clause-cause
returns-clause-cause g c =
    cause_then _ _ _ _ c.write_head.ensures.cause.later (cause_then _ _ _ _ c.write_rates.ensures.cause.later c.write_end.ensures.cause)
