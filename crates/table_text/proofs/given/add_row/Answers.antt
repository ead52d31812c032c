use Rattle.std.proofs.Common.{◌<◌, length, subst, sym}
use Rattle.sched_base.specs.declared.rows.Leaf.{Leaf}
use Rattle.row_totals.specs.Sums.{IsAmong}
use Rattle.table_text.proofs.GivenLemmas.{period_at}
use Rattle.table_text.proofs.given.add_row.Goals as goal

pub bounds-tasks-j : goal.bounds-tasks-j
bounds-tasks-j c = subst (λ (leaf : Leaf). IsAmong (length c.args.tasks.now) leaf) c.in-Task.is c.requires.among

pub bounds-sums-j : goal.bounds-sums-j
bounds-sums-j c = subst (λ n. c.in-Task.id.0 < n) (sym c.requires.long) (subst (λ (leaf : Leaf). IsAmong (length c.args.tasks.now) leaf) c.in-Task.is
    c.requires.among)

pub bounds-sums-j-in-Task : goal.bounds-sums-j-in-Task
bounds-sums-j-in-Task c = subst (λ n. c.in-Task.id.0 < n) (sym c.requires.long) (subst (λ (leaf : Leaf). IsAmong (length c.args.tasks.now) leaf)
    c.in-Task.is c.requires.among)

pub ticks_of-requires-clause-small : goal.ticks_of-requires-clause-small
ticks_of-requires-clause-small c = c.requires.small

pub ticks_of-requires-clause-period : goal.ticks_of-requires-clause-period
ticks_of-requires-clause-period c =
    (period_at c.args.tasks.now c.in-Task.id.0 c.index-tasks-j.result (subst (λ (leaf : Leaf). IsAmong (length c.args.tasks.now) leaf) c.in-Task.is
    c.requires.among) c.index-tasks-j.is c.requires.periods).0

pub ticks_of-requires-clause-offset : goal.ticks_of-requires-clause-offset
ticks_of-requires-clause-offset c =
    (period_at c.args.tasks.now c.in-Task.id.0 c.index-tasks-j.result (subst (λ (leaf : Leaf). IsAmong (length c.args.tasks.now) leaf) c.in-Task.is
    c.requires.among) c.index-tasks-j.is c.requires.periods).1
