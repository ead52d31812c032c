use Rattle.std.proofs.Common.{◌≡◌, drop}
use Rattle.toml.specs.View.{items_view}
use Rattle.task_reader.specs.Tree.{Placed, placed_from}
use Rattle.task_reader.specs.Members.{first_refusal, flawed_at}
use Rattle.task_reader.proofs.members.flawed_in_tasks.Given as goal

abbrev pub invariant-loop-i : goal.invariant-loop-i
invariant-loop-i l =
    first_refusal (λ (v : Placed). flawed_at l.flaw v.place v.value) (placed_from l.i (items_view (drop l.i l.tasks)))
    ≡ first_refusal (λ (v : Placed). flawed_at l.flaw v.place v.value) (placed_from 0 (items_view l.tasks))
