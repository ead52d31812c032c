use Rattle.std.proofs.Common.{ℕ, ◌≤◌, All, subst, ◌∙◌, arith}
use Rattle.run_tree.specs.Making.{last_rates, Making}
use Rattle.run_tree.specs.Compiled.{first_level}
use Rattle.tree_laws.specs.Raised.{raised}
use Rattle.tree_laws.proofs.RaisedLevels.{raised_level, raised_above, raised_levels, raised_few, raised_fewer}
use Rattle.tree_laws.proofs.CompiledTree.{level_0_is, level_0_kept, packs_few, last_level}
use Rattle.tree_laws.proofs.Sizes.{servers_few, leaves_few, level_rates_fit}
use Rattle.tree_laws.proofs.laws.sizes_law.Goals as goal

pub returns-clause-servers : goal.returns-clause-servers
returns-clause-servers c = servers_few

pub returns-clause-packs : goal.returns-clause-packs
returns-clause-packs c = packs_few

pub returns-clause-leaves : goal.returns-clause-leaves
returns-clause-leaves c = leaves_few

pub returns-clause-fewer : goal.returns-clause-fewer
returns-clause-fewer c = λ processors scale rates n fit up. raised_fewer (first_level processors scale rates) (level_0_is processors scale rates fit) n up

pub returns-clause-few : goal.returns-clause-few
returns-clause-few c = λ processors scale rates n fit up. raised_few (first_level processors scale rates) (level_0_is processors scale rates fit) n up

pub returns-clause-levels : goal.returns-clause-levels
returns-clause-levels c = λ processors scale rates n fit up. (
    let more = raised_levels (first_level processors scale rates) (level_0_is processors scale rates fit) n up in
    let one = (level_0_kept processors scale rates fit).2 in
    omega (arith, more, one))

pub returns-clause-rates : goal.returns-clause-rates
returns-clause-rates c = λ processors scale rates n fit up. (
    let m : Making = raised n (first_level processors scale rates) in
    let v = raised_level (first_level processors scale rates) (level_0_is processors scale rates fit) n up in
    let same = (raised_above (first_level processors scale rates) (level_0_is processors scale rates fit) n up).scale_same
    ∙ (level_0_kept processors scale rates fit).0 in
    let P : ℕ → Type 0 = λ s. All (λ rate. (1 ≤ rate) × (rate ≤ s)) (last_rates m) in
    subst P same (level_rates_fit m v))

pub returns-clause-scale : goal.returns-clause-scale
returns-clause-scale c = λ processors scale rates n fit up. (raised_above (first_level processors scale rates) (level_0_is processors scale rates fit) n
    up).scale_same ∙ (level_0_kept processors scale rates fit).0

pub returns-clause-processors : goal.returns-clause-processors
returns-clause-processors c = λ processors scale rates n fit up. (raised_above (first_level processors scale rates) (level_0_is processors scale rates fit)
    n up).processors_same ∙ (level_0_kept processors scale rates fit).1

pub returns-clause-last : goal.returns-clause-last
returns-clause-last c = λ processors scale rates n fit up done. last_level processors scale rates fit n up done
