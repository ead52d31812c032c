use Rattle.std.proofs.Common.{sym}
use Rattle.pure_commands.proofs.FollowLemmas.{follows_trees}
use Rattle.pure_commands.proofs.FollowedLemmas.{follows_as_traced}
use Rattle.pure_commands.proofs.sound.follow_law.Goals as goal

pub returns-clause-trees : goal.returns-clause-trees
returns-clause-trees c = follows_trees c.valid_law.ensures.set

pub returns-clause-traced : goal.returns-clause-traced
returns-clause-traced c =
    follows_as_traced c.reading_law.ensures.lawful c.again_law.ensures.compiled
    (λ s scale lawful is fits. sym (c.tree_law.ensures.is s scale lawful is fits).processors)
