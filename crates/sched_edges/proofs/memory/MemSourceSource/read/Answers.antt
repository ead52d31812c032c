use Rattle.std.proofs.Common.{false, ap, refl, ◌∙◌, sym}
use Rattle.std.proofs.lemmas.Bool.{both_ways}
use Rattle.sched_edges.specs.Memory.{SourceHeld, next_call}
use Rattle.sched_edges.proofs.CallLemmas.{fault_cause, no_cause, listed_is, front_within, front_fits, front_given, front_count}
use Rattle.sched_edges.proofs.memory.MemSourceSource.read.Goals as goal

pub returns-then-call_fails-clause-bytes : goal.returns-then-call_fails-clause-bytes
returns-then-call_fails-clause-bytes c = ap (λ (s : SourceHeld). s.left) c.self.view_is

pub returns-then-call_fails-clause-cause : goal.returns-then-call_fails-clause-cause
returns-then-call_fails-clause-cause c = fault_cause _ _ _ _ (ap (λ (s : SourceHeld). s.faults) c.self.view_is) c.fault.ensures.later c.fault.ensures.rose

pub returns-then-call_fails-clause-calls : goal.returns-then-call_fails-clause-calls
returns-then-call_fails-clause-calls c = c.call_fails.ensures.calls ∙ ap (λ (s : SourceHeld). next_call s.calls) c.self.view_is

pub returns-then-call_fails-clause-fails : goal.returns-then-call_fails-clause-fails
returns-then-call_fails-clause-fails c = ap (λ (s : SourceHeld). s.fails) c.self.view_is

pub returns-then-call_fails-clause-failed : goal.returns-then-call_fails-clause-failed
returns-then-call_fails-clause-failed c =
    let listed = listed_is _ _ _ _ (c.deref.ensures.value ∙ ap (λ (s : SourceHeld). s.fails) c.self.view_is) c.call_fails.ensures.listed
    ∙ c.if-call_fails.true in
    (λ _. listed, λ _. refl)

pub returns-clause-cause : goal.returns-clause-cause
returns-clause-cause c = no_cause _ _ _ (ap (λ (s : SourceHeld). s.faults) c.self.view_is)

pub returns-clause-calls : goal.returns-clause-calls
returns-clause-calls c = c.call_fails.ensures.calls ∙ ap (λ (s : SourceHeld). next_call s.calls) c.self.view_is

pub returns-clause-fails : goal.returns-clause-fails
returns-clause-fails c = ap (λ (s : SourceHeld). s.fails) c.self.view_is

pub returns-clause-failed : goal.returns-clause-failed
returns-clause-failed c =
    let listed = listed_is _ _ _ _ (c.deref.ensures.value ∙ ap (λ (s : SourceHeld). s.fails) c.self.view_is) c.call_fails.ensures.listed
    ∙ c.if-call_fails.false in
    (λ no. absurd (both_ways false refl no), λ some. sym listed ∙ some)

pub invariant_of-self : goal.invariant_of-self
invariant_of-self c = c.self.invariant

pub invariant_of-self-2 : goal.invariant_of-self-2
invariant_of-self-2 c = front_within _ _ _ _ _ c.self.invariant c.deref-2.ensures.value c.copy_front-count.ensures.count

pub returns-clause-bound : goal.returns-clause-bound
returns-clause-bound c = front_fits _ _ _ _ c.copy_front-count.ensures.count c.copy_front-count.auto.buffer

pub returns-clause-bytes : goal.returns-clause-bytes
returns-clause-bytes c =
    front_given _ _ _ _ _ _ _ (ap (λ (s : SourceHeld). s.left) c.self.view_is) c.deref-2.ensures.value c.copy_front-count.ensures.count
    c.copy_front-count.ensures.copied
    c.copy_front-count.auto.buffer

pub returns-clause-count : goal.returns-clause-count
returns-clause-count c = front_count _ _ _ _ _ _ (ap (λ (s : SourceHeld). s.left) c.self.view_is) c.deref-2.ensures.value c.copy_front-count.ensures.count
