use Rattle.std.proofs.Common.{◌≡◌, ◌≢◌, ◌<◌, ℕ, false, ◌++◌, length, take, length-take, ap, refl, sym, ◌∙◌, inl, inr, eq-eqb, arith}
use Rattle.std.proofs.lemmas.Bool.{both_ways, eqb-true}
use Rattle.sched_edges.specs.Memory.{SinkHeld, next_call, room_left}
use Rattle.sched_edges.proofs.CallLemmas.{fault_cause, no_cause, listed_is}
use Rattle.sched_edges.proofs.memory.MemSinkSink.write.Goals.{else-room-eq0-via-then-room-eq0+else-not-is_empty, else-room-eq0-via-else-room-eq0}
use Rattle.sched_edges.proofs.memory.MemSinkSink.write.Goals as goal

pub returns-then-call_fails-clause-bytes : goal.returns-then-call_fails-clause-bytes
returns-then-call_fails-clause-bytes c = ap (λ (s : SinkHeld). s.taken) c.self.view_is

pub returns-then-call_fails-clause-cause : goal.returns-then-call_fails-clause-cause
returns-then-call_fails-clause-cause c = fault_cause _ _ _ _ (ap (λ (s : SinkHeld). s.faults) c.self.view_is) c.fault.ensures.later c.fault.ensures.rose

pub returns-then-call_fails-clause-calls : goal.returns-then-call_fails-clause-calls
returns-then-call_fails-clause-calls c = c.call_fails.ensures.calls ∙ ap (λ (s : SinkHeld). next_call s.calls) c.self.view_is

pub returns-then-call_fails-clause-fails : goal.returns-then-call_fails-clause-fails
returns-then-call_fails-clause-fails c = ap (λ (s : SinkHeld). s.fails) c.self.view_is

pub returns-then-call_fails-clause-room : goal.returns-then-call_fails-clause-room
returns-then-call_fails-clause-room c = ap (λ (s : SinkHeld). s.room) c.self.view_is

pub returns-then-call_fails-clause-failed : goal.returns-then-call_fails-clause-failed
returns-then-call_fails-clause-failed c =
    let listed = listed_is _ _ _ _ (c.deref.ensures.value ∙ ap (λ (s : SinkHeld). s.fails) c.self.view_is) c.call_fails.ensures.listed ∙ c.if-call_fails.true in
    (λ _. inl listed, λ _. refl)

pub returns-then-not-is_empty-clause-bytes : goal.returns-then-not-is_empty-clause-bytes
returns-then-not-is_empty-clause-bytes c = ap (λ (s : SinkHeld). s.taken) c.self.view_is

pub returns-then-not-is_empty-clause-cause : goal.returns-then-not-is_empty-clause-cause
returns-then-not-is_empty-clause-cause c = fault_cause _ _ _ _ (ap (λ (s : SinkHeld). s.faults) c.self.view_is) c.fault-then-not-is_empty.ensures.later
    c.fault-then-not-is_empty.ensures.rose

pub returns-then-not-is_empty-clause-calls : goal.returns-then-not-is_empty-clause-calls
returns-then-not-is_empty-clause-calls c = c.call_fails.ensures.calls ∙ ap (λ (s : SinkHeld). next_call s.calls) c.self.view_is

pub returns-then-not-is_empty-clause-fails : goal.returns-then-not-is_empty-clause-fails
returns-then-not-is_empty-clause-fails c = ap (λ (s : SinkHeld). s.fails) c.self.view_is

pub returns-then-not-is_empty-clause-room : goal.returns-then-not-is_empty-clause-room
returns-then-not-is_empty-clause-room c = ap (λ (s : SinkHeld). s.room) c.self.view_is

pub returns-clause-cause : goal.returns-clause-cause
returns-clause-cause c = no_cause _ _ _ (ap (λ (s : SinkHeld). s.faults) c.self.view_is)

pub returns-clause-calls : goal.returns-clause-calls
returns-clause-calls c = c.call_fails.ensures.calls ∙ ap (λ (s : SinkHeld). next_call s.calls) c.self.view_is

pub returns-clause-fails : goal.returns-clause-fails
returns-clause-fails c = ap (λ (s : SinkHeld). s.fails) c.self.view_is

pub returns-clause-room : goal.returns-clause-room
returns-clause-room c = ap (λ (s : SinkHeld). s.room) c.self.view_is

pub invariant_of-self : goal.invariant_of-self
invariant_of-self c = c.self.invariant

pub invariant_of-self-then-not-is_empty : goal.invariant_of-self-then-not-is_empty
invariant_of-self-then-not-is_empty c = c.self.invariant

pub returns-then-not-is_empty-clause-failed : goal.returns-then-not-is_empty-clause-failed
returns-then-not-is_empty-clause-failed c =
    let left = ap room_left c.self.view_is in
    let full : room_left c.args.self.now ≡ 0 = omega (arith, left, c.if-room-eq0.true, c.len.ensures, c.self.inside.bytes.ok.0) in
    let some : length c.args.piece.now ≢ 0 = λ e. both_ways _ (sym c.if-not-is_empty.ensures) (eq-eqb _ _ e) in
    (λ _. inr (full, omega (arith, some)), λ _. refl)

pub unwrap-requires : goal.unwrap-requires
unwrap-requires c = c.extend_from_slice.ensures.succeeds (omega (
  arith,
  c.min-count.ensures,
  c.len.ensures,
  c.self.invariant.0,
  c.self.invariant.1,
  length-take {A = ℕ},
))

pub invariant_of-self-2 : goal.invariant_of-self-2
invariant_of-self-2 c =
    let grown = rw c.unwrap.ensures at c.extend_from_slice.ensures.len in (
      omega (arith, grown, c.min-count.ensures, c.len.ensures, c.self.invariant.0, length-take {A = ℕ}),
      omega (
        arith,
        c.extend_from_slice.ensures.capacity,
        c.self.invariant.1,
      ),
    )

pub returns-clause-bound : goal.returns-clause-bound
returns-clause-bound c = omega (arith, c.min-count.ensures)

pub returns-clause-some : goal.returns-clause-some
returns-clause-some c =
    elim c.else-room-eq0.branch [
      | else-room-eq0-via-then-room-eq0+else-not-is_empty w ↦ λ some. absurd (omega (arith, some, eqb-true _ _ (sym w.if-not-is_empty.ensures)))
      | else-room-eq0-via-else-room-eq0 w ↦ λ some. omega (arith, some, c.min-count.ensures, w.if-room-eq0.false)
    ]

pub returns-clause-bytes : goal.returns-clause-bytes
returns-clause-bytes c =
    (rw c.unwrap.ensures at c.extend_from_slice.ensures.items) ∙ ap (λ (s : SinkHeld). s.taken ++ take c.min-count.result c.args.piece.now) c.self.view_is

pub returns-clause-count : goal.returns-clause-count
returns-clause-count c =
    let left = ap room_left c.self.view_is in
    omega (arith, left, c.min-count.ensures, c.len.ensures, c.self.inside.bytes.ok.0)

pub returns-clause-failed : goal.returns-clause-failed
returns-clause-failed c =
    let listed = listed_is _ _ _ _ (c.deref.ensures.value ∙ ap (λ (s : SinkHeld). s.fails) c.self.view_is) c.call_fails.ensures.listed
    ∙ c.if-call_fails.false in
    let left = ap room_left c.self.view_is in
    let roomy : room_left c.args.self.now ≡ 0 → 0 < length c.args.piece.now → ⊥ = elim c.else-room-eq0.branch [
      | else-room-eq0-via-then-room-eq0+else-not-is_empty w ↦ λ full some. absurd (omega (arith, some, eqb-true _ _ (sym w.if-not-is_empty.ensures)))
      | else-room-eq0-via-else-room-eq0 w ↦ λ full some. absurd (omega (arith, left, full, w.if-room-eq0.false, c.len.ensures, c.self.inside.bytes.ok.0))
    ] in
    (λ no. absurd (both_ways false refl no), λ why. elim why [ inl is ↦ sym listed ∙ is | inr full ↦ absurd (roomy full.0 full.1) ])
