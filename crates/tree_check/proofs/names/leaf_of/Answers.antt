use Rattle.std.proofs.Common.{ℕ, List, subst, ap, sym, Some, ◌∙◌, ◌≡◌, ◌+◌, arith}
use Rattle.sched_base.specs.Sets.{IsFree}
use Rattle.tree_check.specs.declared.written.Member.{Member}
use Rattle.tree_check.specs.declared.written.Member.TheVariants.{Name}
use Rattle.tree_check.specs.Faults.{leaf_number}
use Rattle.tree_check.specs.TextTree.{leaf_named}
use Rattle.tree_check.proofs.Naming.{name_absent, name_present}
use Rattle.tree_check.proofs.names.leaf_of.Goals as goal

pub returns-in-Some : goal.returns-in-Some
returns-in-Some c =
    let tasks = c.args.set.now.tasks in
    let name = c.in-Name.name in
    let j = c.in-Some.j in
    let at : 0 + j ≡ j = omega arith in
    let e = name_present name 0 tasks j c.count-count.ensures.lawful.names_differ (c.in-Some.ensures.found ∙ ap Some c.as_slice.ensures.bytes) ∙ ap Some at in
    sym (ap (λ (x : Member). leaf_named (leaf_number tasks x) x) c.in-Name.is ∙ ap (λ o. leaf_named o (Name name)) e)

pub returns-in-None : goal.returns-in-None
returns-in-None c =
    let tasks = c.args.set.now.tasks in
    let name = c.in-Name.name in
    let P : List ℕ → Type 0 = λ n. IsFree n tasks in
    let e = name_absent name 0 tasks (subst P c.as_slice.ensures.bytes c.in-None.ensures.absent) in
    sym (ap (λ (x : Member). leaf_named (leaf_number tasks x) x) c.in-Name.is ∙ ap (λ o. leaf_named o (Name name)) e)
