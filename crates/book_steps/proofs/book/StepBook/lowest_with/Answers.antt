use Rattle.std.proofs.Common.{◌≡◌, ◌≢◌, ◌<◌, ◌+◌, ◌∙◌, ℕ, inl, inr, length, subst, sym, arith}
use Rattle.std.proofs.lemmas.Bool.{cases_eq}
use Rattle.sched_base.proofs.TableLemmas.{lane_within}
use Rattle.book_machine.specs.Machine.{PostedBefore}
use Rattle.plan_rounds.specs.PlanRows.{plan_rows}
use Rattle.book_steps.proofs.book.StepBook.lowest_with.Goals.{else-q-p-via-then-q-p+else-has_unposted, else-q-p-via-else-q-p}
use Rattle.book_steps.proofs.book.StepBook.lowest_with.Goals as goal

pub loop-q-init : goal.loop-q-init
loop-q-init c = λ u low. absurd (omega (arith, low))

pub has_unposted-requires-clause-processor : goal.has_unposted-requires-clause-processor
has_unposted-requires-clause-processor c = subst (λ n. c.loop-q.q < n) c.processors-q-end.ensures.lanes c.loop-q-test.true

pub has_unposted-requires-clause-round : goal.has_unposted-requires-clause-round
has_unposted-requires-clause-round c = c.requires.round

pub has_unposted-requires-clause-task : goal.has_unposted-requires-clause-task
has_unposted-requires-clause-task c = c.requires.task

pub returns-then-has_unposted-clause-some : goal.returns-then-has_unposted-clause-some
returns-then-has_unposted-clause-some c = record {
  lane = subst (λ n. c.loop-q.q < n) c.processors-q-end.ensures.lanes c.loop-q-test.true;
  other = c.if-q-p.true;
  unposted = c.has_unposted.ensures.some c.if-has_unposted.true;
  lowest = c.loop-q.invariant;
}

pub returns-clause-none : goal.returns-clause-none
returns-clause-none c =
    let lanes : length (plan_rows c.args.self.now.plan) ≡ length c.args.self.now.state.lanes = rw (← c.self.view_is)
    (sym c.self.invariant.led.1.reached.lanes) in
    let all = c.processors-q-end.ensures.lanes in
    let end = c.loop-q-test.false in
    λ q other j r below at is. c.loop-q.invariant q (let low = lane_within (plan_rows c.args.self.now.plan) q j r at in omega (arith, low, lanes, all, end))
    other j r below at is

below : (u q : ℕ) → u < q + 1 → u ≢ q → u < q
below u q low apart = omega (arith, low, apart)

pub loop-q-preserved : goal.loop-q-preserved
loop-q-preserved c = λ u low other. elim (cases_eq u c.loop-q.q) [
  | inl same ↦ subst (λ (q : ℕ). PostedBefore (plan_rows c.args.self.now.plan) c.args.self.now.state.lanes q c.args.round c.args.leaf) (sym same)
      (elim c.else-q-p.branch [
        | else-q-p-via-then-q-p+else-has_unposted w ↦ w.has_unposted.ensures.none w.if-has_unposted.false
        | else-q-p-via-else-q-p w ↦ absurd (other (same ∙ w.if-q-p.false))
      ])
  | inr apart ↦ c.loop-q.invariant u (below u c.loop-q.q low apart) other
]
