use Rattle.std.proofs.Common.{◌∙◌, ap, sym, subst}
use Rattle.sched_base.specs.Sets.{SetContents}
use Rattle.run_tree.specs.Compiled.{tree_of}
use Rattle.pure_commands.specs.Ends.{streams_of}
use Rattle.pure_commands.specs.Input.{IsSchedulable}
use Rattle.pure_commands.proofs.EndLemmas.{keeps_same}
use Rattle.run_tool.proofs.PartLemmas.{stops_first, ends_above}
use Rattle.run_tool.proofs.StopLemmas.{refused_run, run_told, run_stopped, run_unread}
use Rattle.run_tool.proofs.exec.exec.Goals as goal

pub returns-in_err-set : goal.returns-in_err-set
returns-in_err-set g c =
    let old = streams_of g.R.Source g.W.Sink c.args.source.now c.args.out.now in
    let new = streams_of g.R.Source g.W.Sink c.read_input.new.source c.args.out.now in
    stops_first _ _ c.from_residual.ensures.1 (run_unread c.args.window c.args.met old new _ _ _ c.in_err-set.ensures.refusal (keeps_same _))

pub returns-in_err-plan : goal.returns-in_err-plan
returns-in_err-plan g c =
    let old = streams_of g.R.Source g.W.Sink c.args.source.now c.args.out.now in
    let new = streams_of g.R.Source g.W.Sink c.read_input.new.source c.args.out.now in
    stops_first _ _ c.from_residual-in_err-plan.ensures.1
    (run_stopped c.args.window c.args.met old new _ _ c.in_ok-set.set _ c.in_ok-set.ensures.set
    (refused_run c.args.window c.args.met _ _ _ c.in_ok-set.set _ c.in_err-plan.ensures.refused))

pub run_and_write-requires-clause-run : goal.run_and_write-requires-clause-run
run_and_write-requires-clause-run g c κs within =
    let plan = c.in_ok-plan.plan in
    subst (λ (s : SetContents). IsSchedulable s plan.tree.scale) (sym c.in_ok-plan.ensures.set) c.in_ok-plan.ensures.run

pub run_and_write-requires-clause-tree : goal.run_and_write-requires-clause-tree
run_and_write-requires-clause-tree g c κs within =
    c.in_ok-plan.ensures.tree ∙ ap (tree_of c.in_ok-plan.plan.tree.scale) (sym c.in_ok-plan.ensures.set)

pub run_and_write-requires-clause-ready : goal.run_and_write-requires-clause-ready
run_and_write-requires-clause-ready g c κs within = c.requires.ready

pub run_and_write-requires-clause-some_window : goal.run_and_write-requires-clause-some_window
run_and_write-requires-clause-some_window g c κs within = c.requires.some_window

pub run_and_write-requires-clause-small_window : goal.run_and_write-requires-clause-small_window
run_and_write-requires-clause-small_window g c κs within = c.requires.small_window

pub returns : goal.returns
returns g c =
    let old = streams_of g.R.Source g.W.Sink c.args.source.now c.args.out.now in
    let new = streams_of g.R.Source g.W.Sink c.read_input.new.source c.run_and_write.new.out in
    ends_above _ (rw c.in_ok-plan.ensures.set at c.run_and_write.ensures)
    (λ ran. run_told c.args.met old new _ _ c.in_ok-set.set c.in_ok-set.ensures.set ran)
    (λ r stops. run_stopped c.args.window c.args.met old new _ _ c.in_ok-set.set r c.in_ok-set.ensures.set stops)
