use Rattle.std.proofs.Common.{ap, sym, ◌∙◌}
use Rattle.sched_base.specs.FirstFit.{homes, packed}
use Rattle.run_tree.specs.Making.{Making, lower_packs, lifted}
use Rattle.run_tree.specs.Compiled.{first_level}
use Rattle.tree_laws.specs.Raised.{raised, lower_duals}
use Rattle.tree_laws.proofs.RaisedLevels.{raised_level, raised_above}
use Rattle.tree_laws.proofs.CompiledTree.{level_0_is, level_0_kept, tasks_follow, servers_are, idles_follow, level_follows, level_rates}
use Rattle.tree_laws.proofs.Sizes.{servers_sum}
use Rattle.tree_laws.proofs.laws.homes_law.Goals as goal

pub returns-clause-tasks : goal.returns-clause-tasks
returns-clause-tasks c = tasks_follow

pub returns-clause-servers : goal.returns-clause-servers
returns-clause-servers c = servers_are

pub returns-clause-sum : goal.returns-clause-sum
returns-clause-sum c = servers_sum

pub returns-clause-idles : goal.returns-clause-idles
returns-clause-idles c = idles_follow

pub returns-clause-next : goal.returns-clause-next
returns-clause-next c = λ processors scale rates n fit up. (
    let m : Making = raised n (first_level processors scale rates) in
    let v = raised_level (first_level processors scale rates) (level_0_is processors scale rates fit) n up in
    let same = (raised_above (first_level processors scale rates) (level_0_is processors scale rates fit) n up).scale_same
    ∙ (level_0_kept processors scale rates fit).0 in
    ap (λ s. lifted (lower_packs m) (homes s (lower_duals m)) m) (sym same) ∙ level_follows m v)

pub returns-clause-next_rates : goal.returns-clause-next_rates
returns-clause-next_rates c = λ processors scale rates n fit up. (
    let m : Making = raised n (first_level processors scale rates) in
    let v = raised_level (first_level processors scale rates) (level_0_is processors scale rates fit) n up in
    let same = (raised_above (first_level processors scale rates) (level_0_is processors scale rates fit) n up).scale_same
    ∙ (level_0_kept processors scale rates fit).0 in
    level_rates m v ∙ ap (λ s. packed s (lower_duals m)) same)
