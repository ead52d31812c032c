use Rattle.std.proofs.Common.{sym, ◌≡◌, ◌∙◌}
use Rattle.sched_base.specs.declared.rows.Leaf.TheVariants.{Task}
use Rattle.run_tree.specs.Tree.{kind_at, leaf}
use Rattle.run_tree.proofs.KindLemmas.{leaf_of_task}
use Rattle.event_core.proofs.rows.leaf_shown_for.Goals as goal

pub shown-requires : goal.shown-requires
shown-requires c = λ id e.
    let tree = c.args.plan.now.tree in
    let f : leaf tree c.args.n.0 ≡ Task id = sym c.leaf_of.ensures ∙ e in
    c.know_lawful.ensures.lawful.tree.tasks.known c.args.n.0 id (c.requires.node, leaf_of_task id.0 (kind_at tree c.args.n.0) f) f
