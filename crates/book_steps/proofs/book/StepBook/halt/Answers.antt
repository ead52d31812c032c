use Rattle.std.proofs.Common.{◌≡◌, ◌<◌, ◌∙◌, false, true, refl, arith, length, subst, sym}
use Rattle.book_machine.specs.declared.machine.LaneState.{LaneState}
use Rattle.book_machine.specs.declared.events.Event.TheVariants.{Halt}
use Rattle.book_machine.specs.Machine.{posted_at, IsOut}
use Rattle.book_machine.proofs.Lanes.{out_within}
use Rattle.plan_rounds.specs.Parts.{processor}
use Rattle.book_steps.specs.Pending.{PendingKept}
use Rattle.book_steps.proofs.BookLemmas.{AreFaults-halt, AreTotals-same, IsLed-next}
use Rattle.book_steps.proofs.PendingLemmas.{PendingKept-same}
use Rattle.book_steps.proofs.book.StepBook.halt.Goals.{After-know_lawful}
use Rattle.book_steps.proofs.book.StepBook.halt.Goals as goal

module _ (c : After-know_lawful) where
  pending : PendingKept c.self.inside.plan c.self.inside.window c.self.inside.state c.self.inside.pending
  pending = c.self.invariant.pending

  out : IsOut c.self.inside.state c.args.p
  out = rw (← c.self.view_is) at c.requires

  within : c.args.p < length c.self.inside.state.lanes
  within = out_within c.self.inside.state.lanes c.args.p out

  below : posted_at c.self.inside.state c.args.p < c.self.inside.pending.computed
  below =
      let low = pending.kept.out c.args.p out in
      let seen = pending.kept.rounds.count in
      let is = pending.computed in
      omega (arith, low, seen, is)

pub put_back-requires : goal.put_back-requires
put_back-requires c = out (goal.at.put_back-requires c).After-know_lawful

pub invariant_of-self : goal.invariant_of-self
invariant_of-self c =
    let r = (goal.at.invariant_of-self c).After-know_lawful in
    let q = c.args.p in
    let plan = c.self.inside.plan in
    let lawful = c.know_lawful.ensures.lawful in
    let s = c.self.inside.state in
    let lane : LaneState = record { posted = posted_at s q; out = false } in
    rw c.put_back.ensures (record {
      compiled = c.self.invariant.compiled;
      some_window = c.self.invariant.some_window;
      small_window = c.self.invariant.small_window;
      pending = PendingKept-same plan lawful c.self.inside.window s q lane true c.self.inside.pending (pending r) (within r) refl
          (λ o. let e : false ≡ true = o in absurd (cc));
      led = IsLed-next plan lawful c.self.inside.window s c.self.invariant.led (Halt (processor q)) (out r);
      totals = AreTotals-same plan s c.self.inside.totals.items q lane true (within r) refl c.self.invariant.totals;
      faults = AreFaults-halt s c.self.inside.pending.computed q c.args.why lane c.self.inside.faults.items refl (below r) (within r) c.self.invariant.faults;
    })

pub index_mut-requires : goal.index_mut-requires
index_mut-requires c =
    let all = c.self.inside.faults.ok.0 ∙ c.self.invariant.faults.many in
    subst (λ n. c.args.p < n) (sym all) (within (goal.at.index_mut-requires c).After-know_lawful)
