use Rattle.std.proofs.Common.{refl}
use Rattle.locked_book.proofs.LookLemmas.{out_on, unworked_job}
use Rattle.locked_book.proofs.rows.halt_found.Goals as goal

pub halt-requires-clause-out : goal.halt-requires-clause-out
halt-requires-clause-out g c = out_on _ _ _ _ _ _ _ _ _ _ _ c.requires.2 c.lane.ensures

pub halt-requires-clause-job : goal.halt-requires-clause-job
halt-requires-clause-job g c = unworked_job _ _ _ _ _ _ _ _ _ _ _ c.requires.2 c.lane.ensures refl
