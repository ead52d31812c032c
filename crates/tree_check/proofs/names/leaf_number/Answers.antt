use Rattle.std.proofs.Common.{ap, sym, Some, ◌∙◌, ◌≡◌, ◌+◌, arith, ℕ, List, subst}
use Rattle.sched_base.specs.Sets.{IsFree}
use Rattle.tree_check.specs.Faults.{leaf_number}
use Rattle.tree_check.proofs.Naming.{name_absent, name_present}
use Rattle.tree_check.proofs.names.leaf_number.Goals as goal

pub returns-in-Some : goal.returns-in-Some
returns-in-Some c =
    let tasks = c.args.set.now.tasks in
    let j = c.in-Some.j in
    let e = name_present c.in-Name.name 0 tasks j c.count-count.ensures.lawful.names_differ (c.in-Some.ensures.found ∙ ap Some c.as_slice.ensures.bytes) in
    let at : j ≡ 0 + j = omega arith in
    ap Some (c.from.ensures ∙ at) ∙ sym e ∙ sym (ap (leaf_number tasks) c.in-Name.is)

pub returns-in-None : goal.returns-in-None
returns-in-None c =
    let tasks = c.args.set.now.tasks in
    let P : List ℕ → Type 0 = λ name. IsFree name tasks in
    sym (name_absent c.in-Name.name 0 tasks (subst P c.as_slice.ensures.bytes c.in-None.ensures.absent)) ∙ sym (ap (leaf_number tasks) c.in-Name.is)
