use Rattle.std.proofs.lemmas.Result.{err_from_is_err_and, IfErr-weaker, on_ok_weaker}
use Rattle.pure_commands.specs.Ends.{streams_of}
use Rattle.pure_commands.proofs.EndLemmas.{keeps_same}
use Rattle.pure_commands.proofs.FollowLemmas.{told_tree, stopped_tree, unread_tree}
use Rattle.pure_commands.proofs.follow.follow.Goals as goal

pub returns-in_err-tree-clause-stops : goal.returns-in_err-tree-clause-stops
returns-in_err-tree-clause-stops g c =
    let old = streams_of g.R.Source g.W.Sink c.args.source.now c.args.out.now in
    let new = streams_of g.R.Source g.W.Sink c.read_tree_input.new.source c.args.out.now in
    let why = err_from_is_err_and c.from_residual.result c.from_residual.ensures.1 in
    rw (why.1, why.2) (unread_tree old new _ c.in_err-tree.ensures.refusal (keeps_same _))

pub write_schedule-requires : goal.write_schedule-requires
write_schedule-requires g c =
    let (bytes, all, read) = c.in_ok-tree.ensures.tree.gave in
    c.form_law.ensures.on_time bytes c.in_ok-tree.tree read

pub returns-clause-done : goal.returns-clause-done
returns-clause-done g c =
    let old = streams_of g.R.Source g.W.Sink c.args.source.now c.args.out.now in
    let new = streams_of g.R.Source g.W.Sink c.read_tree_input.new.source c.write_schedule.new.out in
    on_ok_weaker c.write_schedule.result (λ w. told_tree old new c.in_ok-tree.tree c.in_ok-tree.ensures.tree w) c.write_schedule.ensures.done

pub returns-clause-stops : goal.returns-clause-stops
returns-clause-stops g c =
    let old = streams_of g.R.Source g.W.Sink c.args.source.now c.args.out.now in
    let new = streams_of g.R.Source g.W.Sink c.read_tree_input.new.source c.write_schedule.new.out in
    IfErr-weaker c.write_schedule.result _ _ (λ r h. stopped_tree old new c.in_ok-tree.tree r c.in_ok-tree.ensures.tree h) c.write_schedule.ensures.stops
