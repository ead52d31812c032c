use Rattle.server_pack.proofs.PackLemmas.{Packs}
use Rattle.server_pack.proofs.fitting.first_fit.Given as goal

abbrev pub invariant-loop-i : goal.invariant-loop-i
invariant-loop-i l = Packs l.scale l.i l.rates l.servers.items
