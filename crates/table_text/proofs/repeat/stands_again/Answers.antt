use Rattle.std.proofs.Common.{◌∙◌, ℕ, ◌+◌, ◌<◌, ◌≤◌, ◌^◌, arith}
use Rattle.std.proofs.lemmas.Result.{IfOk-from_err}
use Rattle.table_text.specs.Given.{IsSmall}
use Rattle.sched_base.specs.Tables.{all_rows}
use Rattle.table_text.proofs.GivenLemmas.{decided_by_sums}
use Rattle.table_text.proofs.repeat.stands_again.Goals as goal

pub returns : goal.returns
returns c =
    let told = rw (c.tasks-tasks.ensures.value, c.deref.ensures.value, c.deref-2.ensures.value) at c.are_given_again.ensures in
    let first = rw c.tasks-tasks.ensures.value at c.in_ok-before.ensures.sums in
    let second = rw c.tasks-tasks.ensures.value at c.in_ok-after.ensures.sums in
    told
    ∙ decided_by_sums c.args.set.now c.args.scale c.args.from c.args.scale (all_rows c.args.rows.now.lanes) c.in_ok-before.before.items
    c.in_ok-after.after.items first second

pub returns-in_err-before : goal.returns-in_err-before
returns-in_err-before c = IfOk-from_err _ _ c.from_residual.ensures.0

pub returns-in_err-after : goal.returns-in_err-after
returns-in_err-after c = IfOk-from_err _ _ c.from_residual-in_err-after.ensures.0

small_looks : (scale from horizon : ℕ) → from + scale ≤ horizon → horizon < 2 ^ 32
    → IsSmall (record { scale = scale; from = from; shift = 0 }) × IsSmall (record { scale = scale; from = from; shift = scale })
small_looks scale from horizon within few = (
  record { scale = omega (arith, within, few); units = omega (arith, within, few) },
  record { scale = omega (arith, within, few); units = omega (arith, within, few) },
)

pub given_each-requires-clause-small : goal.given_each-requires-clause-small
given_each-requires-clause-small c = (small_looks c.args.scale c.args.from c.args.set.now.horizon c.requires.within c.know_lawful.ensures.lawful.horizon_fits).0

pub given_each-requires-2-clause-small : goal.given_each-requires-2-clause-small
given_each-requires-2-clause-small c = (small_looks c.args.scale c.args.from c.args.set.now.horizon c.requires.within
    c.know_lawful.ensures.lawful.horizon_fits).1
