use Rattle.std.proofs.Common.{arith, refl, take, ◌+◌, get_or}
use Rattle.run_tree.specs.Tree.{numbers}
use Rattle.release_calendar.proofs.BegunLemmas.{listed_step}
use Rattle.release_calendar.proofs.ListedTurns.{first_among, first_more, no_node}
use Rattle.release_calendar.proofs.turns.mark_listed.Goals as goal

pub bounds-due-begun : goal.bounds-due-begun
bounds-due-begun c =
    let among = first_among c.args.begun.now c.args.count c.loop-k.k no_node c.requires.count c.loop-k-test.true in
    let within = c.requires.nodes c.loop-k.k among.0 in
    let at = among.1 in
    let kept = c.loop-k.auto.due in
    omega (arith, within, at, kept)

pub loop-k-preserved : goal.loop-k-preserved
loop-k-preserved c =
    let among = first_among c.args.begun.now c.args.count c.loop-k.k no_node c.requires.count c.loop-k-test.true in
    let within = c.requires.nodes c.loop-k.k among.0 in
    let at = among.1 in
    let kept = c.loop-k.auto.due in
    let on = c.loop-k-test.true in
    let count = c.requires.count in
    listed_step c.loop-k.due _ (numbers (take c.loop-k.k c.args.begun.now)) (numbers (take (c.loop-k.k + 1) c.args.begun.now)) (get_or c.args.begun.now
    c.loop-k.k no_node).0
    (omega (arith, within, at, kept)) refl (first_more c.args.begun.now c.loop-k.k no_node (omega (arith, on, count))) c.loop-k.invariant
