use Rattle.std.proofs.Common.{Ok, refl, ap}
use Rattle.sched_edges.proofs.CallLemmas.{no_cause, front_within, front_fits, front_given, front_count}
use Rattle.sched_edges.proofs.sure.SureSourceSource.read.Goals as goal

pub invariant_of-self : goal.invariant_of-self
invariant_of-self c = front_within _ _ _ _ _ c.self.invariant c.deref.ensures.value c.copy_front-count.ensures.count

pub returns-clause-bound : goal.returns-clause-bound
returns-clause-bound c = front_fits _ _ _ _ c.copy_front-count.ensures.count c.copy_front-count.auto.buffer

pub returns-clause-bytes : goal.returns-clause-bytes
returns-clause-bytes c = front_given _ _ _ _ _ _ _ c.self.view_is c.deref.ensures.value c.copy_front-count.ensures.count c.copy_front-count.ensures.copied
    c.copy_front-count.auto.buffer

pub returns-clause-cause : goal.returns-clause-cause
returns-clause-cause c = no_cause 0 0 _ refl

pub returns-clause-count : goal.returns-clause-count
returns-clause-count c = ap (λ n. Ok n) (front_count _ _ _ _ _ _ c.self.view_is c.deref.ensures.value c.copy_front-count.ensures.count)
