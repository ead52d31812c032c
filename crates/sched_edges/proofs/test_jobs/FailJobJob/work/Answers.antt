use Rattle.std.proofs.Common.{false, ap, refl, sym, ◌∙◌}
use Rattle.std.proofs.lemmas.Bool.{both_ways}
use Rattle.sched_edges.specs.Memory.{next_call}
use Rattle.sched_edges.specs.Jobs.{FailHeld}
use Rattle.sched_edges.proofs.CallLemmas.{fault_cause, no_cause, listed_is}
use Rattle.sched_edges.proofs.test_jobs.FailJobJob.work.Goals as goal

pub returns-then-call_fails-clause-id : goal.returns-then-call_fails-clause-id
returns-then-call_fails-clause-id c = ap (λ (s : FailHeld). s.id) c.self.view_is

pub returns-then-call_fails-clause-err : goal.returns-then-call_fails-clause-err
returns-then-call_fails-clause-err c = ap (λ (s : FailHeld). s.used) c.self.view_is

pub returns-then-call_fails-clause-cause : goal.returns-then-call_fails-clause-cause
returns-then-call_fails-clause-cause c = fault_cause _ _ _ _ (ap (λ (s : FailHeld). s.faults) c.self.view_is) c.fault.ensures.later c.fault.ensures.rose

pub returns-then-call_fails-clause-failed : goal.returns-then-call_fails-clause-failed
returns-then-call_fails-clause-failed c =
    let listed = listed_is _ _ _ _ (c.deref.ensures.value ∙ ap (λ (s : FailHeld). s.fails) c.self.view_is) c.call_fails.ensures.listed ∙ c.if-call_fails.true in
    (λ _. listed, λ _. refl)

pub returns-then-call_fails-clause-calls : goal.returns-then-call_fails-clause-calls
returns-then-call_fails-clause-calls c = c.call_fails.ensures.calls ∙ ap (λ (s : FailHeld). next_call s.calls) c.self.view_is

pub returns-then-call_fails-clause-fails : goal.returns-then-call_fails-clause-fails
returns-then-call_fails-clause-fails c = ap (λ (s : FailHeld). s.fails) c.self.view_is

pub returns-clause-id : goal.returns-clause-id
returns-clause-id c = ap (λ (s : FailHeld). s.id) c.self.view_is

pub returns-clause-count : goal.returns-clause-count
returns-clause-count c = ap (λ (s : FailHeld). s.faults) c.self.view_is

pub returns-clause-cause : goal.returns-clause-cause
returns-clause-cause c = no_cause _ _ _ (ap (λ (s : FailHeld). s.faults) c.self.view_is)

pub returns-clause-failed : goal.returns-clause-failed
returns-clause-failed c =
    let listed = listed_is _ _ _ _ (c.deref.ensures.value ∙ ap (λ (s : FailHeld). s.fails) c.self.view_is) c.call_fails.ensures.listed
    ∙ c.if-call_fails.false in
    (λ no. absurd (both_ways false refl no), λ some. sym listed ∙ some)

pub returns-clause-calls : goal.returns-clause-calls
returns-clause-calls c = c.call_fails.ensures.calls ∙ ap (λ (s : FailHeld). next_call s.calls) c.self.view_is

pub returns-clause-fails : goal.returns-clause-fails
returns-clause-fails c = ap (λ (s : FailHeld). s.fails) c.self.view_is
