use Rattle.std.proofs.Common.{◌∙◌, sym, ap}
use Rattle.run_tree.specs.Tree.{Tree}
use Rattle.plan_rounds.proofs.RoundLemmas.{plan_lanes}
use Rattle.book_steps.proofs.book.StepBook.processors.Goals as goal

pub returns-clause-lanes : goal.returns-clause-lanes
returns-clause-lanes c = rw (← c.self.view_is) (c.processors.ensures.value ∙ ap (λ (t : Tree). t.processors) c.tree.ensures.value
    ∙ sym (plan_lanes c.self.inside.plan c.know_lawful.ensures.lawful) ∙ sym c.self.invariant.led.1.reached.lanes)
