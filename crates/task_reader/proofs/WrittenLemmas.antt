-- Lemmas on the tasks that a document writes.
use Rattle.std.proofs.Common.{◌≡◌, List, [], ◌∷◌, length, refl, ap, suc}
use Rattle.toml.specs.View.{items_view}
use Rattle.toml.specs.declared.value.Value.{Value}
use Rattle.task_reader.specs.Written.{written_tasks}

pub length-written_tasks : (vs : List Value) → length (written_tasks (items_view vs)) ≡ length vs
length-written_tasks [] = refl
length-written_tasks (v ∷ vs) = ap suc (length-written_tasks vs)
