-- What reading the tree text of a plan gives.
use Rattle.std.specs.Prelude.{◌≡◌, ℕ, Ok}
use Rattle.run_tree.specs.Plans.{PlanContents}
use Rattle.run_tree.specs.Schedule.{schedule, rounds}
use Rattle.tree_text.specs.Text.{tree_text}
use Rattle.tree_check.specs.Written.{written_of}
use Rattle.tree_check.specs.TextTree.{text_tree, IsTextOfTree}
use Rattle.tree_reader.specs.Reading.{reading}

-- the text of a plan's tree says what the plan is written as; it is that of a reduction tree of the set, which runs as the plan's tree
-- does, up to each tick
pub record IsReadAgain (p : PlanContents) : Type 0 where
  pub read : reading (tree_text p) ≡ Ok (written_of p)
  pub is_text : IsTextOfTree (written_of p)
  pub rows : (stop : ℕ) → schedule p.set.tasks (text_tree (written_of p)) stop ≡ schedule p.set.tasks p.tree stop
  pub rounds_same : (stop : ℕ) → rounds p.set.tasks (text_tree (written_of p)) stop ≡ rounds p.set.tasks p.tree stop
