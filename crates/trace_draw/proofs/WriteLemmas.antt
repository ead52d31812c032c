-- Nothing is written.
use Rattle.std.proofs.Common.{ℕ, List, [], Option, Ok}
use Rattle.sched_edges.specs.Streams.{Wrote}
use Rattle.sched_edges.proofs.CauseLemmas.{took_none}

-- no bytes more, where nothing failed
pub wrote_none : {T E : Type 0} (a : Option (List ℕ)) (v : T) → Wrote {E = E} a a [] (Ok v)
wrote_none a v = record { ok = took_none a; err = tt }
