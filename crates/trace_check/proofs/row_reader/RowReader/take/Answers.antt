use Rattle.std.proofs.Common.{[], ◌++◌, drop, length, refl, subst, sym, ap, ◌∙◌, append_assoc}
use Rattle.std.proofs.lemmas.List.{take_at}
use Rattle.std.proofs.lemmas.Result.{IfOk-from_err}
use Rattle.trace_check.specs.declared.row_reader.Stop.TheVariants as stops
use Rattle.trace_check.specs.WholeRows.{AreRowsOf, StopIs}
use Rattle.trace_check.proofs.RestLemmas.{difference_within, less_still, rest_within}
use Rattle.trace_check.proofs.WholeRowLemmas.{rows_more, rows_left, rest_is}
use Rattle.trace_check.proofs.row_reader.RowReader.take.Goals as goal

pub loop-row-init : goal.loop-row-init
loop-row-init c = (([], refl), λ whole so. so)

pub overflow_sub-gone : goal.overflow_sub-gone
overflow_sub-gone c = rest_within _ c.loop-row.invariant.0.0 _ c.loop-row.invariant.0.1

pub add_ticks-requires-clause-read : goal.add_ticks-requires-clause-read
add_ticks-requires-clause-read c = c.in-Row.ensures.0

pub returns-in_err-push-in-Row-clause-within : goal.returns-in_err-push-in-Row-clause-within
returns-in_err-push-in-Row-clause-within c = IfOk-from_err _ _ c.from_residual.ensures.0

pub returns-in_err-push-in-Row-clause-read : goal.returns-in_err-push-in-Row-clause-read
returns-in_err-push-in-Row-clause-read c = IfOk-from_err _ _ c.from_residual.ensures.0

pub returns-in_err-push-in-Row-clause-stop : goal.returns-in_err-push-in-Row-clause-stop
returns-in_err-push-in-Row-clause-stop c = IfOk-from_err _ _ c.from_residual.ensures.0

pub returns-in_err-behind-in-Row-clause-within : goal.returns-in_err-behind-in-Row-clause-within
returns-in_err-behind-in-Row-clause-within c = IfOk-from_err _ _ c.from_residual-in_err-behind-in-Row.ensures.0

pub returns-in_err-behind-in-Row-clause-read : goal.returns-in_err-behind-in-Row-clause-read
returns-in_err-behind-in-Row-clause-read c = IfOk-from_err _ _ c.from_residual-in_err-behind-in-Row.ensures.0

pub returns-in_err-behind-in-Row-clause-stop : goal.returns-in_err-behind-in-Row-clause-stop
returns-in_err-behind-in-Row-clause-stop c = IfOk-from_err _ _ c.from_residual-in_err-behind-in-Row.ensures.0

pub loop-row-smaller : goal.loop-row-smaller
loop-row-smaller c = less_still _ _ _ c.in_ok-behind-in-Row.ensures.less c.in-Row.ensures.2

pub returns-in-Ends-clause-within : goal.returns-in-Ends-clause-within
returns-in-Ends-clause-within c = difference_within _ _

pub returns-in-Ends-clause-stop : goal.returns-in-Ends-clause-stop
returns-in-Ends-clause-stop c =
    subst (λ t. StopIs c.args.set.now.tasks c.loop-row.self.rows t stops.Ends) (sym (rest_is c.args.text.now c.loop-row.invariant.0.0 c.loop-row.rest.now
    c.loop-row.invariant.0.1)) c.in-Ends.ensures

pub returns-in-Fault-clause-within : goal.returns-in-Fault-clause-within
returns-in-Fault-clause-within c = difference_within _ _

pub returns-in-Fault-clause-stop : goal.returns-in-Fault-clause-stop
returns-in-Fault-clause-stop c =
    subst (λ t. StopIs c.args.set.now.tasks c.loop-row.self.rows t stops.Fault) (sym (rest_is c.args.text.now c.loop-row.invariant.0.0 c.loop-row.rest.now
    c.loop-row.invariant.0.1)) c.in-Fault.ensures

pub returns-in-Cut-clause-within : goal.returns-in-Cut-clause-within
returns-in-Cut-clause-within c = difference_within _ _

pub returns-in-Cut-clause-stop : goal.returns-in-Cut-clause-stop
returns-in-Cut-clause-stop c =
    subst (λ t. StopIs c.args.set.now.tasks c.loop-row.self.rows t stops.Cut) (sym (rest_is c.args.text.now c.loop-row.invariant.0.0 c.loop-row.rest.now
    c.loop-row.invariant.0.1)) c.in-Cut.ensures

pub next_line-requires-clause-totals : goal.next_line-requires-clause-totals
next_line-requires-clause-totals c =
    let so = c.loop-row.invariant.1 c.requires.0 c.requires.1 in
    rw c.deref.ensures.value so.totals

pub next_line-requires-clause-count : goal.next_line-requires-clause-count
next_line-requires-clause-count c =
    let so = c.loop-row.invariant.1 c.requires.0 c.requires.1 in
    ap length c.deref.ensures.value ∙ so.count

pub add_ticks-requires-clause-totals : goal.add_ticks-requires-clause-totals
add_ticks-requires-clause-totals c =
    let so = c.loop-row.invariant.1 c.requires.0 c.requires.1 in
    rw c.deref_mut.ensures.value so.totals

pub add_ticks-requires-clause-count : goal.add_ticks-requires-clause-count
add_ticks-requires-clause-count c =
    let so = c.loop-row.invariant.1 c.requires.0 c.requires.1 in
    ap length c.deref_mut.ensures.value ∙ so.count

pub take_short-requires : goal.take_short-requires
take_short-requires c =
    let tasks = c.args.set.now.tasks in
    let later = c.in-Row.later.now in
    let old = c.loop-row.self.totals in
    let new = c.add_ticks.new.totals in
    let long = c.add_ticks.auto.totals ∙ ap length c.deref_mut.ensures.value in
    let back = take_at new (drop (length new) old.items) old.len (long ∙ sym old.ok.0) in
    let next = c.in-Row.ensures in
    let items = c.in_ok-push-in-Row.ensures in
    let whole = c.requires.0 in
    let so = c.requires.1 in (
      whole,
      subst (λ sums. AreRowsOf tasks whole c.push.new.self sums later) (sym back)
          (rows_more tasks whole c.loop-row.rest.now later c.loop-row.self.rows c.push.new.self c.in-Row.row old.items new (c.loop-row.invariant.1 whole so)
          next.0 next.3 items
          c.add_ticks.ensures long),
    )

pub loop-row-preserved : goal.loop-row-preserved
loop-row-preserved c =
    let tasks = c.args.set.now.tasks in
    let later = c.in-Row.later.now in
    let old = c.loop-row.self.totals in
    let new = c.add_ticks.new.totals in
    let long = c.add_ticks.auto.totals ∙ ap length c.deref_mut.ensures.value in
    let back = take_at new (drop (length new) old.items) old.len (long ∙ sym old.ok.0) in
    let next = c.in-Row.ensures in
    let items = c.in_ok-push-in-Row.ensures in
    let gone = c.loop-row.invariant.0.0 in
    let run = c.in_ok-behind-in-Row.ensures in
    let past = gone ++ next.1.0 in (
      (
        past ++ run.split.0,
        c.loop-row.invariant.0.1 ∙ ap (λ t. gone ++ t) next.1.1 ∙ sym (append_assoc gone next.1.0 later)
            ∙ ap (λ t. past ++ t) run.split.1 ∙ sym (append_assoc past run.split.0 c.in_ok-behind-in-Row.behind.now),
      ),
      λ whole so. run.read whole (subst (λ sums. AreRowsOf tasks whole c.push.new.self sums later) (sym back)
          (rows_more tasks whole c.loop-row.rest.now later c.loop-row.self.rows c.push.new.self c.in-Row.row old.items new (c.loop-row.invariant.1 whole so)
          next.0 next.3 items
          c.add_ticks.ensures long)),
    )

pub returns-in-Ends-clause-read : goal.returns-in-Ends-clause-read
returns-in-Ends-clause-read c = λ whole so. rows_left _ c.args.text.now c.loop-row.invariant.0.0 c.loop-row.rest.now whole _ _ c.loop-row.invariant.0.1
    (c.loop-row.invariant.1 whole so)

pub returns-in-Fault-clause-read : goal.returns-in-Fault-clause-read
returns-in-Fault-clause-read c = λ whole so. rows_left _ c.args.text.now c.loop-row.invariant.0.0 c.loop-row.rest.now whole _ _ c.loop-row.invariant.0.1
    (c.loop-row.invariant.1 whole so)

pub returns-in-Cut-clause-read : goal.returns-in-Cut-clause-read
returns-in-Cut-clause-read c = λ whole so. rows_left _ c.args.text.now c.loop-row.invariant.0.0 c.loop-row.rest.now whole _ _ c.loop-row.invariant.0.1
    (c.loop-row.invariant.1 whole so)
