use Rattle.std.proofs.Common.{sym, arith}
use Rattle.tree_select.proofs.MarkedLemmas.{turned_dual, turned_leaf}
use Rattle.tree_select.proofs.refreshed.turn.Goals as goal

pub returns-in-Some : goal.returns-in-Some
returns-in-Some c =
    turned_dual c.args.tree.now c.requires.tree c.args.m.0 c.in-Some.primal.0 c.args.on c.args.stale.now c.args.runs.now
    c.turn_primal.new.stale c.turn_primal.new.runs c.requires.member c.requires.stale c.requires.runs
    (sym c.in-Some.ensures) c.turn_primal.ensures.stale c.turn_primal.ensures.runs

pub returns-in_default : goal.returns-in_default
returns-in_default c =
    turned_leaf c.args.tree.now c.requires.tree c.args.m.0 c.args.on c.args.stale.now c.args.runs.now c.requires.member c.requires.runs
    (sym c.in_default.ensures)

pub primal_of-requires : goal.primal_of-requires
primal_of-requires c = c.requires.member.0

pub bounds-runs-m : goal.bounds-runs-m
bounds-runs-m c = let b = c.requires.member.0 in let long = c.requires.runs in omega (arith, b, long)
