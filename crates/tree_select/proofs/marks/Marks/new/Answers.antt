use Rattle.std.proofs.Common.{ℕ, List, ap, ◌∙◌}
use Rattle.tree_select.specs.Marks.{marks_by}
use Rattle.tree_select.proofs.MarkWords.{all_marked}
use Rattle.tree_select.proofs.marks.Marks.new.Goals as goal

pub returns : goal.returns
returns c = ap (λ (ws : List ℕ). marks_by ws c.args.count) c.in_ok-words.ensures ∙ all_marked c.args.count
