use Rattle.std.proofs.Common.{◌∙◌, ◌↔◌, IsTrue, refl, sym}
use Rattle.run_tree.specs.Plans.{PlanContents}
use Rattle.book_machine.specs.Machine.{HasTakeable}
use Rattle.book_machine.specs.Rounds.{AreFirstRounds}
use Rattle.plan_rounds.specs.PlanRows.{RoundsContents, plan_rows}
use Rattle.plan_rounds.specs.Parts.{RowsKept}
use Rattle.plan_rounds.proofs.RoundLemmas.{first_rounds}
use Rattle.plan_rounds.proofs.RowLemmas.{HasTakeable-all, HasTakeable-first, in_order_first}
use Rattle.exec_book.proofs.book.Book.may_go.Goals.{After-is_due}
use Rattle.exec_book.proofs.book.Book.may_go.Goals as goal

module _ (g : _) (c : After-is_due g) where
  abbrev plan : PlanContents
  plan = c.self.inside.plan

  abbrev held : RoundsContents
  held = c.in-Some.held.rounds

  kept : RowsKept plan c.self.inside.window c.self.inside.state held
  kept = rw c.in-Some.is at c.self.invariant.rows.kept

  first : AreFirstRounds held.table.lanes (plan_rows plan)
  first = first_rounds plan c.know_lawful.ensures.lawful held kept.rounds

  told : IsTrue c.is_due.result ↔ HasTakeable held.table.lanes c.self.inside.window c.self.inside.state c.args.p
  told = rw c.linked.ensures at c.is_due.ensures

pub is_due-requires-clause-in_order : goal.is_due-requires-clause-in_order
is_due-requires-clause-in_order g c =
    let p = c.self.inside.plan in
    let rounds = c.in-Some.held.rounds in
    let kept : RowsKept p c.self.inside.window c.self.inside.state rounds = rw c.in-Some.is at c.self.invariant.rows.kept in
    rw c.linked.ensures (in_order_first rounds.table.lanes (plan_rows p) (first_rounds p c.know_lawful.ensures.lawful rounds kept.rounds)
    c.self.inside.state c.self.invariant.log.reached.posted_after_earlier)

pub returns : goal.returns
returns g c =
    let r = (goal.at.returns g c).After-is_due in
    let rows = (held g r).table.lanes in
    let all = plan_rows (plan g r) in
    let there = rw c.in-Some.is at (rw (← c.self.view_is) at c.requires.held) in
    rw (← c.self.view_is) (
      λ is. HasTakeable-all rows all (first g r) (kept g r).rounds.table c.self.inside.window c.self.inside.state c.args.p ((told g r).0 is),
      λ due. (told g r).1 (HasTakeable-first rows all (first g r) c.self.inside.window c.self.inside.state c.args.p (there due.in_window) due),
    )

pub is_due-requires-clause-lane : goal.is_due-requires-clause-lane
is_due-requires-clause-lane g c = rw (← c.self.view_is) at c.requires.lane

pub is_due-requires-clause-round : goal.is_due-requires-clause-round
is_due-requires-clause-round g c =
    let held = rw c.in-Some.is at (rw (← c.self.view_is) at c.requires.held) in
    rw c.linked.ensures held

pub unreachable-requires : goal.unreachable-requires
unreachable-requires g c = c.requires.open (rw (← c.self.view_is, c.in_default.is) refl)

pub unreachable-unreachable : goal.unreachable-unreachable
unreachable-unreachable g c = c.unreachable.result

pub is_due-requires-clause-lanes : goal.is_due-requires-clause-lanes
is_due-requires-clause-lanes g c =
    let p = c.self.inside.plan in
    let kept : RowsKept p c.self.inside.window c.self.inside.state c.in-Some.held.rounds = rw c.in-Some.is at c.self.invariant.rows.kept in
    rw c.linked.ensures (c.self.invariant.log.reached.lanes ∙ sym (first_rounds p c.know_lawful.ensures.lawful c.in-Some.held.rounds kept.rounds).same_lanes)
