use Rattle.std.proofs.Common.{◌≡◌, ◌≢◌, ◌<◌, ◌∙◌, true, false, arith, sym}
use Rattle.std.proofs.lemmas.Bool.{eq-eqb, eqb-true}
use Rattle.run_tree.specs.Plans.{rounds_of, stop_of}
use Rattle.book_steps.specs.Pending.{PendingKept}
use Rattle.book_steps.proofs.PendingLemmas.{all_rounds, posted_most, rounds_most, some_rounds}
use Rattle.book_steps.proofs.book.StepBook.is_done.Goals.{After-know_lawful}
use Rattle.book_steps.proofs.book.StepBook.is_done.Goals as goal

module _ (c : After-know_lawful) where
  pending : PendingKept c.self.inside.plan c.self.inside.window c.self.inside.state c.self.inside.pending
  pending = c.self.invariant.pending

  last : c.self.inside.pending.source.tick ≡ stop_of c.self.inside.plan → c.self.inside.pending.computed ≡ rounds_of c.self.inside.plan
  last = all_rounds c.self.inside.plan c.know_lawful.ensures.lawful c.self.inside.window c.self.inside.state c.self.inside.pending pending

  some : c.self.inside.pending.source.tick ≢ stop_of c.self.inside.plan → c.self.inside.pending.computed < rounds_of c.self.inside.plan
  some = some_rounds c.self.inside.plan c.know_lawful.ensures.lawful c.self.inside.window c.self.inside.state c.self.inside.pending pending

pub posted-requires : goal.posted-requires
posted-requires c = rw (← c.self.view_is) at c.requires

pub returns-then-posted-computed-clause-done : goal.returns-then-posted-computed-clause-done
returns-then-posted-computed-clause-done c = λ on. rw (← c.self.view_is) (
    let r = (goal.at.returns-then-posted-computed-clause-done c).After-know_lawful in
    let all = last r (sym c.tick.ensures ∙ eqb-true c.tick.result c.rounds_end.result on ∙ c.rounds_end.ensures.value) in
    let posted = c.posted.ensures in
    let computed = c.computed.ensures in
    let same = c.if-posted-computed.true in
    omega (arith, all, posted, computed, same))

pub returns-then-posted-computed-clause-left : goal.returns-then-posted-computed-clause-left
returns-then-posted-computed-clause-left c = λ off. rw (← c.self.view_is) (
    let r = (goal.at.returns-then-posted-computed-clause-left c).After-know_lawful in
    let left = some r (λ e. let on : true ≡ false = sym (eq-eqb c.tick.result c.rounds_end.result (c.tick.ensures ∙ e ∙ sym c.rounds_end.ensures.value))
    ∙ off in absurd (cc)) in
    let posted = c.posted.ensures in
    let computed = c.computed.ensures in
    let same = c.if-posted-computed.true in
    omega (arith, left, posted, computed, same))

pub returns-else-posted-computed-clause-done : goal.returns-else-posted-computed-clause-done
returns-else-posted-computed-clause-done c = λ on. absurd (c.if-posted-computed.false (eqb-true c.posted.result c.computed.result on))

pub returns-else-posted-computed-clause-left : goal.returns-else-posted-computed-clause-left
returns-else-posted-computed-clause-left c = λ _. rw (← c.self.view_is) (
    let r = (goal.at.returns-else-posted-computed-clause-left c).After-know_lawful in
    let most = rounds_most c.self.inside.plan c.know_lawful.ensures.lawful c.self.inside.window c.self.inside.state c.self.inside.pending (pending r) in
    let low = posted_most c.self.inside.plan c.know_lawful.ensures.lawful c.self.inside.window c.self.inside.state c.self.inside.pending (pending r) c.args.p in
    let posted = c.posted.ensures in
    let computed = c.computed.ensures in
    let other = c.if-posted-computed.false in
    omega (arith, most, low, posted, computed, other))
