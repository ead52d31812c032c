use Rattle.tree_text_laws.proofs.FollowLemmas.{read_again, compiled_again}
use Rattle.tree_text_laws.proofs.again_law.Goals as goal

pub returns-clause-tree : goal.returns-clause-tree
returns-clause-tree c = read_again

pub returns-clause-compiled : goal.returns-clause-compiled
returns-clause-compiled c = compiled_again
