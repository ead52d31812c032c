use Rattle.std.proofs.Common.{◌∙◌, ap, arith, get_or, length, length-append, sym, [], ◌∷◌, List}
use Rattle.sched_base.specs.declared.rows.Leaf.{Leaf}
use Rattle.sched_base.specs.declared.rows.Leaf.TheVariants.{Empty}
use Rattle.merged_rounds.proofs.ChangeLemmas.{leaves_push, shown_on}
use Rattle.merged_rounds.proofs.changed.shown_leaves.Goals as goal

pub loop-n-preserved : goal.loop-n-preserved
loop-n-preserved c =
    let p = c.args.plan.now in
    let items = c.loop-n.leaves.items in
    let l = c.leaf_shown_for.result in
    let is = c.in_ok-push.ensures.items in
    let long = c.loop-n.invariant.long in
    record {
      long = (let now = ap (λ (xs : List Leaf). length xs) is in let more = length-append items (l ∷ []) in omega (arith, now, more, long));
      each = λ k t below late.
          leaves_push p c.args.start c.loop-n.n items l long (λ u after. shown_on p c.args.start c.loop-n.n u l c.requires after c.leaf_shown_for.ensures)
          c.loop-n.invariant.each k t below late
          ∙ ap (λ (xs : List Leaf). get_or xs k Empty) (sym is);
    }
