use Rattle.std.proofs.Common.{false, [], ◌∷◌, ◌++◌, ap, refl, sym, ◌∙◌, inl, inr, Some, arith}
use Rattle.std.proofs.lemmas.Bool.{both_ways}
use Rattle.sched_edges.specs.Memory.{next_call}
use Rattle.sched_edges.specs.Gates.{GateHeld, rows_left}
use Rattle.sched_edges.proofs.CallLemmas.{fault_cause, no_cause, listed_is}
use Rattle.sched_edges.proofs.test_gates.ListGateGate.run.Goals as goal

pub returns-then-call_fails-clause-err : goal.returns-then-call_fails-clause-err
returns-then-call_fails-clause-err c = ap (λ (s : GateHeld). Some s.ran) c.self.view_is

pub returns-then-call_fails-clause-cause : goal.returns-then-call_fails-clause-cause
returns-then-call_fails-clause-cause c = fault_cause _ _ _ _ (ap (λ (s : GateHeld). s.faults) c.self.view_is) c.fault.ensures.later c.fault.ensures.rose

pub returns-then-call_fails-clause-calls : goal.returns-then-call_fails-clause-calls
returns-then-call_fails-clause-calls c = c.call_fails.ensures.calls ∙ ap (λ (s : GateHeld). next_call s.calls) c.self.view_is

pub returns-then-call_fails-clause-fails : goal.returns-then-call_fails-clause-fails
returns-then-call_fails-clause-fails c = ap (λ (s : GateHeld). s.fails) c.self.view_is

pub returns-then-call_fails-clause-room : goal.returns-then-call_fails-clause-room
returns-then-call_fails-clause-room c = ap (λ (s : GateHeld). s.room) c.self.view_is

pub returns-then-call_fails-clause-failed : goal.returns-then-call_fails-clause-failed
returns-then-call_fails-clause-failed c =
    let listed = listed_is _ _ _ _ (c.deref.ensures.value ∙ ap (λ (s : GateHeld). s.fails) c.self.view_is) c.call_fails.ensures.listed ∙ c.if-call_fails.true in
    (λ _. inl listed, λ _. refl)

pub returns-then-len-self-clause-err : goal.returns-then-len-self-clause-err
returns-then-len-self-clause-err c = ap (λ (s : GateHeld). Some s.ran) c.self.view_is

pub returns-then-len-self-clause-cause : goal.returns-then-len-self-clause-cause
returns-then-len-self-clause-cause c = fault_cause _ _ _ _ (ap (λ (s : GateHeld). s.faults) c.self.view_is) c.fault-then-len-self.ensures.later
    c.fault-then-len-self.ensures.rose

pub returns-then-len-self-clause-calls : goal.returns-then-len-self-clause-calls
returns-then-len-self-clause-calls c = c.call_fails.ensures.calls ∙ ap (λ (s : GateHeld). next_call s.calls) c.self.view_is

pub returns-then-len-self-clause-fails : goal.returns-then-len-self-clause-fails
returns-then-len-self-clause-fails c = ap (λ (s : GateHeld). s.fails) c.self.view_is

pub returns-then-len-self-clause-room : goal.returns-then-len-self-clause-room
returns-then-len-self-clause-room c = ap (λ (s : GateHeld). s.room) c.self.view_is

pub returns-clause-cause : goal.returns-clause-cause
returns-clause-cause c = no_cause _ _ _ (ap (λ (s : GateHeld). s.faults) c.self.view_is)

pub returns-clause-calls : goal.returns-clause-calls
returns-clause-calls c = c.call_fails.ensures.calls ∙ ap (λ (s : GateHeld). next_call s.calls) c.self.view_is

pub returns-clause-fails : goal.returns-clause-fails
returns-clause-fails c = ap (λ (s : GateHeld). s.fails) c.self.view_is

pub returns-clause-room : goal.returns-clause-room
returns-clause-room c = ap (λ (s : GateHeld). s.room) c.self.view_is

pub returns-clause-count : goal.returns-clause-count
returns-clause-count c = ap (λ (s : GateHeld). s.faults) c.self.view_is

pub invariant_of-self : goal.invariant_of-self
invariant_of-self c = c.self.invariant

pub invariant_of-self-then-len-self : goal.invariant_of-self-then-len-self
invariant_of-self-then-len-self c = c.self.invariant

pub returns-then-len-self-clause-failed : goal.returns-then-len-self-clause-failed
returns-then-len-self-clause-failed c =
    let left = ap rows_left c.self.view_is in
    (λ _. inr (omega (arith, left, c.if-len-self.true, c.len.ensures, c.self.inside.rows.ok.0)), λ _. refl)

pub push_reserved-requires : goal.push_reserved-requires
push_reserved-requires c = omega (arith, c.if-len-self.false, c.len.ensures, c.self.invariant.1)

pub invariant_of-self-2 : goal.invariant_of-self-2
invariant_of-self-2 c =
    (omega (arith, c.push_reserved.ensures.len, c.if-len-self.false, c.len.ensures), omega (arith, c.push_reserved.ensures.capacity, c.self.invariant.1))

pub returns-clause-ok : goal.returns-clause-ok
returns-clause-ok c = ap (λ ran. Some ran) (c.push_reserved.ensures.items ∙ ap (λ (s : GateHeld). s.ran ++ c.args.row.now ∷ []) c.self.view_is)

pub returns-clause-failed : goal.returns-clause-failed
returns-clause-failed c =
    let listed = listed_is _ _ _ _ (c.deref.ensures.value ∙ ap (λ (s : GateHeld). s.fails) c.self.view_is) c.call_fails.ensures.listed
    ∙ c.if-call_fails.false in
    let left = ap rows_left c.self.view_is in (
      λ no. absurd (both_ways false refl no),
      λ why. elim why [ inl is ↦ sym listed ∙ is | inr full ↦ absurd (omega (arith, left, full, c.if-len-self.false, c.len.ensures, c.self.inside.rows.ok.0)) ],
    )
