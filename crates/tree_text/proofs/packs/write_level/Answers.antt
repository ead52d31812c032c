use Rattle.std.proofs.Common.{le_refl}
use Rattle.sched_edges.proofs.Wrote.{wrote_then, wrote_cut}
use Rattle.sched_edges.proofs.CauseLemmas.{cause_cut, cause_then}
use Rattle.tree_text.proofs.packs.write_level.Goals as goal

pub returns-in_err-write_all-clause-wrote : goal.returns-in_err-write_all-clause-wrote
returns-in_err-write_all-clause-wrote g c =
    let head = rw (c.as_slice.ensures.bytes, c.numbers_line-line.ensures, c.from.ensures, c.from-2.ensures, c.packs-packs.ensures, c.tree.ensures.value) at
    c.in_err-write_all.ensures.wrote in
    wrote_cut _ _ _ _ _ _ head c.from_residual.ensures.0

pub returns-in_err-write_all-clause-cause : goal.returns-in_err-write_all-clause-cause
returns-in_err-write_all-clause-cause g c = cause_cut _ _ _ _ _ (le_refl _) c.in_err-write_all.ensures.cause

pub returns-clause-wrote : goal.returns-clause-wrote
returns-clause-wrote g c =
    let head = rw (c.as_slice.ensures.bytes, c.numbers_line-line.ensures, c.from.ensures, c.from-2.ensures, c.packs-packs.ensures, c.tree.ensures.value) at
    c.in_ok-write_all.ensures.wrote in
    wrote_then _ _ _ _ _ _ _ head c.write_packs.ensures.wrote

pub returns-clause-cause : goal.returns-clause-cause
returns-clause-cause g c = cause_then _ _ _ _ c.write_all.ensures.cause.later c.write_packs.ensures.cause
