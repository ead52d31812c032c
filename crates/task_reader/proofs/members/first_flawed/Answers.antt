use Rattle.std.proofs.Common.{◌≡◌, None, sym, ◌∙◌}
use Rattle.toml.specs.Data.{table}
use Rattle.toml.specs.View.{table_view}
use Rattle.task_reader.specs.declared.refusals.Place.TheVariants.{Top}
use Rattle.task_reader.specs.Tree.{Placed, placed_from, tasks_of}
use Rattle.task_reader.specs.Members.{first_refusal, flawed_at}
use Rattle.task_reader.proofs.MembersLemmas.{first_refusal-none}
use Rattle.task_reader.proofs.members.first_flawed.Goals as goal

pub returns-in-None : goal.returns-in-None
returns-in-None c =
    let top = table_view c.args.top.now in
    let none : flawed_at c.args.flaw Top (table top) ≡ None = sym c.refusal_in.ensures ∙ c.in-None.is in
    let rest : c.flawed_in_tasks.result ≡ first_refusal (λ (v : Placed). flawed_at c.args.flaw v.place v.value) (placed_from 0 (tasks_of top)) =
    rw (← c.tasks_of.ensures) c.flawed_in_tasks.ensures in
    rest ∙ sym (first_refusal-none (λ (v : Placed). flawed_at c.args.flaw v.place v.value) (record { place = Top; value = table top })
    (placed_from 0 (tasks_of top)) none)
