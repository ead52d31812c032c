use Rattle.std.proofs.Common.{◌≡◌, ◌∙◌, ◌&&◌, ap, arith, below_more, eqb, false, get_or, length, rules, sym, tests, true}
use Rattle.std.specs.Prelude.{nat_le}
use Rattle.std.proofs.lemmas.List.{get_or_default}
use Rattle.sched_base.specs.declared.sets.Task.{Task}
use Rattle.sched_base.specs.Sets.{no_task, task_at}
use Rattle.table_text.specs.Given.{is_given_again}
use Rattle.table_text.proofs.GivenLemmas.{all_again, one_fails}
use Rattle.table_text.proofs.repeat.are_given_again.Goals as goal

pub returns-then-not-is_given_again : goal.returns-then-not-is_given_again
returns-then-not-is_given_again c =
    let tasks = c.args.tasks.now in
    let j = c.loop-j.j in
    let is : c.index-tasks-j.result ≡ task_at tasks j = c.index-tasks-j.is ∙ get_or_default tasks j c.index-tasks-j.result no_task c.loop-j-test.true in
    let off : c.is_given_again.result ≡ false = search (rules, tests) in
    one_fails (is_given_again tasks c.args.from c.args.before.now c.args.after.now) (length tasks) j c.loop-j-test.true
    (ap (λ (t : Task). nat_le t.offset c.args.from && eqb (get_or c.args.after.now j 0) (get_or c.args.before.now j 0)) (sym is)
    ∙ sym c.is_given_again.ensures ∙ off)

pub loop-j-preserved : goal.loop-j-preserved
loop-j-preserved c =
    let tasks = c.args.tasks.now in
    let j = c.loop-j.j in
    let is : c.index-tasks-j.result ≡ task_at tasks j = c.index-tasks-j.is ∙ get_or_default tasks j c.index-tasks-j.result no_task c.loop-j-test.true in
    let on : c.is_given_again.result ≡ true = search (rules, tests) in
    below_more (λ k. is_given_again tasks c.args.from c.args.before.now c.args.after.now k ≡ true) j c.loop-j.invariant
    (ap (λ (t : Task). nat_le t.offset c.args.from && eqb (get_or c.args.after.now j 0) (get_or c.args.before.now j 0)) (sym is)
    ∙ sym c.is_given_again.ensures ∙ on)

pub returns : goal.returns
returns c =
    all_again (is_given_again c.args.tasks.now c.args.from c.args.before.now c.args.after.now) (length c.args.tasks.now) c.loop-j.j
    (let past = c.loop-j-test.false in omega (arith, past)) c.loop-j.invariant
