use Rattle.std.proofs.Common.{◌≡◌, ◌<◌, ◌∙◌, ℕ, inl, inr, None, Some, length, sym, ap, arith}
use Rattle.std.specs.Prelude.{slice_get}
use Rattle.std.proofs.lemmas.Bool.{cases_Bool}
use Rattle.std.proofs.lemmas.Option.{slice_get_within}
use Rattle.run_tree.specs.Tree.{Tree}
use Rattle.book_machine.specs.Machine.{posted_at}
use Rattle.plan_rounds.proofs.RoundLemmas.{plan_lanes}
use Rattle.book_steps.specs.Books.{HadFault}
use Rattle.book_steps.specs.Pending.{PendingKept}
use Rattle.book_steps.proofs.PendingLemmas.{computed_is}
use Rattle.book_steps.proofs.book.StepBook.first_fault.Goals.{In-Some}
use Rattle.book_steps.proofs.book.StepBook.first_fault.Goals as goal

module _ (c : In-Some) where
  pending : PendingKept c.self.inside.plan c.self.inside.window c.self.inside.state c.self.inside.pending
  pending = c.self.invariant.pending

  had : HadFault c.self.inside.faults.items c.in-Some.p c.in-Some.why
  had = rw c.as_slice.ensures.value at c.in-Some.ensures.some

  within : c.in-Some.p < length c.self.inside.state.lanes
  within =
      let low = slice_get_within c.self.inside.faults.items c.in-Some.p (Some c.in-Some.why) had in
      let many = c.self.invariant.faults.many in
      omega (arith, low, many)

  inside : c.in-Some.p < c.self.inside.plan.tree.processors
  inside =
      let low = within in
      let long = c.self.invariant.led.1.reached.lanes in
      let many = plan_lanes c.self.inside.plan c.know_lawful.ensures.lawful in
      omega (arith, low, long, many)

  below : posted_at c.self.inside.state c.in-Some.p < c.self.inside.pending.computed
  below = c.self.invariant.faults.row c.in-Some.p c.in-Some.why had

pub lowest_fault-requires : goal.lowest_fault-requires
lowest_fault-requires c =
    c.processors.ensures.value ∙ ap (λ (t : Tree). t.processors) c.tree.ensures.value ∙ sym (plan_lanes c.self.inside.plan c.know_lawful.ensures.lawful)
    ∙ sym c.self.invariant.led.1.reached.lanes ∙ sym c.self.invariant.faults.many ∙ sym (ap length c.as_slice.ensures.value)

pub next_row-requires-clause-lane : goal.next_row-requires-clause-lane
next_row-requires-clause-lane c = let low = within (goal.at.next_row-requires-clause-lane c).In-Some in rw (← c.self.view_is) low

pub next_row-requires-clause-held : goal.next_row-requires-clause-held
next_row-requires-clause-held c =
    let r = (goal.at.next_row-requires-clause-held c).In-Some in
    let low = below r in
    let is = computed_is c.self.inside.plan c.know_lawful.ensures.lawful c.self.inside.window c.self.inside.state c.self.inside.pending (pending r) in
    rw (← c.self.view_is) (omega (arith, low, is))

pub returns-in-Some-clause-some : goal.returns-in-Some-clause-some
returns-in-Some-clause-some c =
    let r = (goal.at.returns-in-Some-clause-some c).In-Some in
    let lowest : (q : ℕ) → q < c.in-Some.p → slice_get c.self.inside.faults.items q ≡ Some None = rw c.as_slice.ensures.value at c.in-Some.ensures.lowest in
    record {
      had = rw (← c.self.view_is) (had r);
      first = rw (← c.self.view_is) lowest;
      at = c.next_row.ensures.row;
    }

pub returns-in-None-clause-none : goal.returns-in-None-clause-none
returns-in-None-clause-none c =
    let none : (q why : ℕ) → ¬ (HadFault c.self.inside.faults.items q why) = rw c.as_slice.ensures.value at c.in-None.ensures.none in
    rw (← c.self.view_is) (elim (cases_Bool c.self.inside.state.halted) [
      | inl on ↦ absurd (let (q, why, had) = c.self.invariant.faults.some on in none q why had)
      | inr off ↦ off
    ])
