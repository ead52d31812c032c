use Rattle.toml.proofs.Views.{table_get}
use Rattle.task_reader.proofs.tree.value_at.Goals as goal

pub returns : goal.returns
returns c = rw (← c.text_of.ensures) (table_get c.get.result c.text_of.result.now c.args.table.now.entries c.get.ensures.value)
