use Rattle.exec_lanes.proofs.ErrorLemmas.{untrue}
use Rattle.locked_book.proofs.turns.wait_for_good.Goals as goal

pub unreachable-requires : goal.unreachable-requires
unreachable-requires g c = untrue c.in-None.ensures.steps
