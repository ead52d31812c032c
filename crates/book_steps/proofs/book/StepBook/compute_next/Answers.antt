use Rattle.std.proofs.Common.{◌≡◌, ◌<◌, ◌+◌, ◌^◌, inl, inr, refl, ap, arith}
use Rattle.run_tree.specs.Plans.{stop_of}
use Rattle.event_core.specs.Rounds.{rounds_before}
use Rattle.book_machine.specs.Machine.{least_posted}
use Rattle.plan_rounds.proofs.RoundLemmas.{below_or}
use Rattle.book_steps.specs.Pending.{PendingKept}
use Rattle.book_steps.proofs.BookLemmas.{AreFaults-more}
use Rattle.book_steps.proofs.PendingLemmas.{CanCount-next, PendingKept-more, last_places_are, places_left}
use Rattle.book_steps.proofs.book.StepBook.compute_next.Goals.{After-know_lawful}
use Rattle.book_steps.proofs.book.StepBook.compute_next.Goals as goal

module _ (c : After-know_lawful) where
  pending : PendingKept c.self.inside.plan c.self.inside.window c.self.inside.state c.self.inside.pending
  pending = c.self.invariant.pending

  -- the rounds that are seen are those that are counted
  counted : rounds_before c.self.inside.plan c.self.inside.pending.source.tick ≡ c.self.inside.pending.computed
  counted = let is = pending.computed in omega (arith, is)

  below : c.self.inside.pending.computed < least_posted c.self.inside.state + c.self.inside.window
  below =
      let low = rw (← c.self.view_is) at c.requires.in_window in
      let seen = pending.kept.rounds.count in
      let is = counted in
      omega (arith, low, seen, is)

pub compute_next-requires-clause-belongs : goal.compute_next-requires-clause-belongs
compute_next-requires-clause-belongs c = c.self.invariant.pending.source

pub compute_next-requires-clause-early : goal.compute_next-requires-clause-early
compute_next-requires-clause-early c =
    let r = (goal.at.compute_next-requires-clause-early c).After-know_lawful in
    let p = c.self.inside.plan in
    let tick = c.self.inside.pending.source.tick in
    let rounds = (pending r).kept.rounds in
    elim (below_or tick (stop_of p)) [
      | inl before ↦ before
      | inr past ↦ absurd (
          let up = rounds.early in
          let last = ap (rounds_before p) (let e : tick ≡ stop_of p = omega (arith, up, past) in e) in
          let left = rw (← c.self.view_is) at c.requires.left in
          let seen = rounds.count in
          omega (arith, last, left, seen)
          )
    ]

pub compute_next-requires-clause-width : goal.compute_next-requires-clause-width
compute_next-requires-clause-width c = c.self.invariant.pending.kept.rounds.width

pub compute_next-requires-clause-places : goal.compute_next-requires-clause-places
compute_next-requires-clause-places c =
    let r = (goal.at.compute_next-requires-clause-places c).After-know_lawful in
    places_left c.self.inside.plan c.know_lawful.ensures.lawful c.self.inside.window c.self.inside.state c.self.inside.pending (pending r) (below r)

pub compute_next-requires-clause-each : goal.compute_next-requires-clause-each
compute_next-requires-clause-each c =
    let r = (goal.at.compute_next-requires-clause-each c).After-know_lawful in
    last_places_are c.self.inside.plan c.know_lawful.ensures.lawful c.self.inside.window c.self.inside.state c.self.inside.pending (pending r)

pub compute_next-requires-clause-fits : goal.compute_next-requires-clause-fits
compute_next-requires-clause-fits c =
    CanCount-next c.self.inside.plan c.know_lawful.ensures.lawful c.self.inside.window c.self.inside.state c.self.inside.pending c.self.invariant.pending

fits : (c : After-know_lawful) → c.self.inside.pending.computed + 1 < 2 ^ 64
fits c =
    let few = rw (← c.self.view_is) at c.requires.counted in
    let seen = (pending c).kept.rounds.count in
    let is = counted c in
    elim (below_or (c.self.inside.pending.computed + 1) (2 ^ 64)) [
      | inl low ↦ low
      | inr past ↦ absurd (few (omega (arith, past, seen, is)))
    ]

pub compute_next-requires-clause-counted : goal.compute_next-requires-clause-counted
compute_next-requires-clause-counted c = fits (goal.at.compute_next-requires-clause-counted c).After-know_lawful

pub invariant_of-self : goal.invariant_of-self
invariant_of-self c =
    let r = (goal.at.invariant_of-self c).After-know_lawful in
    let new = c.compute_next.new.self in
    let done = c.compute_next.ensures in
    record {
      compiled = c.self.invariant.compiled;
      some_window = c.self.invariant.some_window;
      small_window = c.self.invariant.small_window;
      pending = PendingKept-more c.self.inside.plan c.know_lawful.ensures.lawful c.self.inside.window c.self.inside.state c.self.inside.pending
          c.self.invariant.pending new done.belongs done.round done.width done.held done.computed done.given done.last (below r) (fits r);
      led = c.self.invariant.led;
      totals = c.self.invariant.totals;
      faults = AreFaults-more c.self.inside.state c.self.inside.pending.computed new.computed c.self.inside.faults.items (let one = done.computed in
          omega (arith, one)) c.self.invariant.faults;
    }

pub returns-clause-book : goal.returns-clause-book
returns-clause-book c = rw (← c.self.view_is) refl

pub returns-clause-one_more : goal.returns-clause-one_more
returns-clause-one_more c =
    let r = (goal.at.returns-clause-one_more c).After-know_lawful in
    let plan = c.self.inside.plan in
    let kept = PendingKept-more plan c.know_lawful.ensures.lawful c.self.inside.window c.self.inside.state c.self.inside.pending c.self.invariant.pending
    c.compute_next.new.self c.compute_next.ensures.belongs c.compute_next.ensures.round c.compute_next.ensures.width c.compute_next.ensures.held
    c.compute_next.ensures.computed c.compute_next.ensures.given c.compute_next.ensures.last (below r) (fits r) in
    rw (← c.self.view_is) (
    let before = (pending r).kept.rounds.count in
    let after = kept.kept.rounds.count in
    let was = (pending r).computed in
    let is = kept.computed in
    let one = c.compute_next.ensures.computed in
    omega (arith, before, after, was, is, one))
