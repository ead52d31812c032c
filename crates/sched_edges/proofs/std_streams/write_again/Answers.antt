use Rattle.sched_edges.proofs.AgainLemmas.{keeps_self, keeps_on, writes_on}
use Rattle.sched_edges.proofs.std_streams.write_again.Goals as goal

pub loop-init : goal.loop-init
loop-init g c = keeps_self _

pub loop-preserved : goal.loop-preserved
loop-preserved g c = keeps_on _ _ _ c.loop.invariant c.in-Err.ensures.bytes

pub returns-in_default-clause-bytes : goal.returns-in_default-clause-bytes
returns-in_default-clause-bytes g c = keeps_on _ _ _ c.loop.invariant c.in-Err.ensures.bytes

pub returns-in_default-2-clause-bytes : goal.returns-in_default-2-clause-bytes
returns-in_default-2-clause-bytes g c = writes_on _ _ _ _ _ c.loop.invariant c.write.ensures.bytes

pub returns-clause-bytes : goal.returns-clause-bytes
returns-clause-bytes g c = writes_on _ _ _ _ _ c.loop.invariant c.write-2.ensures.bytes
