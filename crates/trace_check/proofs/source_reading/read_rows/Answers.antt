use Rattle.std.proofs.Common.{◌++◌, not, refl, sym, subst, arith}
use Rattle.std.proofs.lemmas.Result.{IfOk-from_err, err_from_is_err_and}
use Rattle.trace_check.specs.WholeRows.{StopIs}
use Rattle.trace_check.proofs.RestLemmas.{later_on, left_less, passed_small, passed_within, twice_fits, twice_more_fits}
use Rattle.trace_check.proofs.WholeRowLemmas.{stop_behind}
use Rattle.trace_check.proofs.SourceLemmas.{going_none, going_passed, going_filled, going_stops, going_some, going_ended, rows_stop, rows_stop_ended}
use Rattle.trace_check.proofs.TailSourceLemmas.{not_true_is}
use Rattle.trace_check.proofs.source_reading.read_rows.Goals as goal

pub loop-stop-init : goal.loop-stop-init
loop-stop-init g c = going_none _ _ c.args.window.now _ _ _ c.requires.within c.requires.none

pub take_from-requires : goal.take_from-requires
take_from-requires g c = (c.args.window.now.ahead ++ c.loop-stop.invariant.more, c.loop-stop.invariant.rows)

pub returns-in_err-stop-clause-read : goal.returns-in_err-stop-clause-read
returns-in_err-stop-clause-read g c = IfOk-from_err _ _ c.from_residual.ensures.0

pub returns-in_err-stop-clause-stops : goal.returns-in_err-stop-clause-stops
returns-in_err-stop-clause-stops g c = (let (fault, is, same) = err_from_is_err_and c.from_residual.result c.from_residual.ensures.1 in rw (is, same) tt)

pub returns-in_err-stop-clause-later : goal.returns-in_err-stop-clause-later
returns-in_err-stop-clause-later g c = c.loop-stop.invariant.later

pub fill-requires-clause-within : goal.fill-requires-clause-within
fill-requires-clause-within g c = passed_within c.loop-stop.window c.take_from.new.window c.loop-stop.invariant.within c.in_ok-stop.ensures.count
    c.in_ok-stop.ensures.limit

pub fill-requires-clause-small : goal.fill-requires-clause-small
fill-requires-clause-small g c = passed_small c.args.window.now c.loop-stop.window c.take_from.new.window _ c.loop-stop.invariant.limit
    c.in_ok-stop.ensures.limit c.requires.small

pub returns-in_err-ended-clause-read : goal.returns-in_err-ended-clause-read
returns-in_err-ended-clause-read g c = IfOk-from_err _ _ c.from_residual-in_err-ended.ensures.0

pub returns-in_err-ended-clause-later : goal.returns-in_err-ended-clause-later
returns-in_err-ended-clause-later g c = later_on _ _ _ c.loop-stop.invariant.later c.fill.ensures.later

pub returns-then-not-is_cut-clause-later : goal.returns-then-not-is_cut-clause-later
returns-then-not-is_cut-clause-later g c = later_on _ _ _ c.loop-stop.invariant.later c.fill.ensures.later

pub fill-requires-in-loop-stop-clause-within : goal.fill-requires-in-loop-stop-clause-within
fill-requires-in-loop-stop-clause-within g c = passed_within c.loop-stop.window c.take_from.new.window c.loop-stop.invariant.within
    c.in_ok-stop.ensures.count c.in_ok-stop.ensures.limit

pub fill-requires-in-loop-stop-clause-small : goal.fill-requires-in-loop-stop-clause-small
fill-requires-in-loop-stop-clause-small g c = passed_small c.args.window.now c.loop-stop.window c.take_from.new.window _ c.loop-stop.invariant.limit
    c.in_ok-stop.ensures.limit c.requires.small

pub returns-in_err-fill-clause-read : goal.returns-in_err-fill-clause-read
returns-in_err-fill-clause-read g c = IfOk-from_err _ _ c.from_residual-in_err-fill.ensures.0

pub returns-in_err-fill-clause-later : goal.returns-in_err-fill-clause-later
returns-in_err-fill-clause-later g c = later_on _ _ _ c.loop-stop.invariant.later c.fill-in-loop-stop.ensures.later

pub returns-in_err-stop-2-clause-read : goal.returns-in_err-stop-2-clause-read
returns-in_err-stop-2-clause-read g c = IfOk-from_err _ _ c.from_residual-in_err-stop-2.ensures.0

pub returns-in_err-stop-2-clause-stops : goal.returns-in_err-stop-2-clause-stops
returns-in_err-stop-2-clause-stops g c = (let (fault, is, same) = err_from_is_err_and c.from_residual-in_err-stop-2.result
    c.from_residual-in_err-stop-2.ensures.1 in rw (is, same) tt)

pub returns-in_err-stop-2-clause-later : goal.returns-in_err-stop-2-clause-later
returns-in_err-stop-2-clause-later g c = later_on _ _ _ c.loop-stop.invariant.later c.fill-in-loop-stop.ensures.later

pub returns-then-not-branch-clause-later : goal.returns-then-not-branch-clause-later
returns-then-not-branch-clause-later g c = later_on _ _ _ c.loop-stop.invariant.later c.fill-in-loop-stop.ensures.later

pub overflow_mul-least : goal.overflow_mul-least
overflow_mul-least g c = twice_fits _ c.ahead.type_inv.1

pub overflow_add-least : goal.overflow_add-least
overflow_add-least g c = twice_more_fits _ c.ahead.type_inv.1

pub loop-stop-smaller : goal.loop-stop-smaller
loop-stop-smaller g c =
    let filled = c.in_ok-fill.ensures.fills in
    left_less c.loop-stop.window c.take_from.new.window c.fill-in-loop-stop.new.self _ filled.more c.in_ok-stop.ensures.count c.in_ok-stop.ensures.limit
    c.ahead.ensures filled.ahead filled.count filled.limit
    filled.within (c.in_ok-fill.ensures.more c.if-not-branch.false)

pub returns-in_err-ended-clause-stops : goal.returns-in_err-ended-clause-stops
returns-in_err-ended-clause-stops g c =
    let (fault, is, same) = err_from_is_err_and c.from_residual-in_err-ended.result c.from_residual-in_err-ended.ensures.1 in
    let going = going_passed _ _ _ _ _ c.loop-stop.window c.take_from.new.window _ _ _ _ _ c.loop-stop.invariant c.in_ok-stop.ensures.read
    c.in_ok-stop.ensures.count c.in_ok-stop.ensures.limit in
    rw (is, same) (going_stops _ _ _ _ _ _ c.args.window.now c.take_from.new.window _ _ _ _ going c.in_err-ended.ensures.stops)

pub returns-then-not-is_cut-clause-read : goal.returns-then-not-is_cut-clause-read
returns-then-not-is_cut-clause-read g c =
    let going = going_passed _ _ _ _ _ c.loop-stop.window c.take_from.new.window _ _ _ _ _ c.loop-stop.invariant c.in_ok-stop.ensures.read
    c.in_ok-stop.ensures.count c.in_ok-stop.ensures.limit in
    let on = going_filled _ _ _ _ _ _ c.args.window.now c.take_from.new.window c.fill.new.self _ _ _ going c.in_ok-ended.ensures.fills
    c.in_ok-ended.ensures.later in
    let tasks = c.args.set.now.tasks in
    let rows = c.take_from.new.self.rows in
    let stop = c.in_ok-stop.stop in
    let ended = not c.in_ok-ended.field-0 in
    let none = c.if-not-is_cut.ensures.other refl in
    let ahead = c.in_ok-ended.ensures.fills.ahead in
    let is = subst (λ t. StopIs tasks rows t stop) (sym ahead) (stop_behind tasks rows c.take_from.new.window.ahead c.in_ok-ended.ensures.fills.more stop
    none c.in_ok-stop.ensures.stop) in (
      on.more,
      going_some _ _ _ _ c.args.window.now c.fill.new.self _ _ _ ended on (λ e. c.in_ok-ended.ensures.end (not_true_is c.in_ok-ended.field-0 e)),
      rows_stop tasks (c.args.window.now.ahead ++ on.more) c.fill.new.self.ahead rows c.take_from.new.self.totals.items stop ended on.rows none is,
    )

pub returns-in_err-fill-clause-stops : goal.returns-in_err-fill-clause-stops
returns-in_err-fill-clause-stops g c =
    let (fault, is, same) = err_from_is_err_and c.from_residual-in_err-fill.result c.from_residual-in_err-fill.ensures.1 in
    let going = going_passed _ _ _ _ _ c.loop-stop.window c.take_from.new.window _ _ _ _ _ c.loop-stop.invariant c.in_ok-stop.ensures.read
    c.in_ok-stop.ensures.count c.in_ok-stop.ensures.limit in
    rw (is, same) (going_stops _ _ _ _ _ _ c.args.window.now c.take_from.new.window _ _ _ _ going c.in_err-fill.ensures.stops)

pub take_last-requires : goal.take_last-requires
take_last-requires g c =
    let going = going_passed _ _ _ _ _ c.loop-stop.window c.take_from.new.window _ _ _ _ _ c.loop-stop.invariant c.in_ok-stop.ensures.read
    c.in_ok-stop.ensures.count c.in_ok-stop.ensures.limit in
    let on = going_filled _ _ _ _ _ _ c.args.window.now c.take_from.new.window c.fill-in-loop-stop.new.self _ _ _ going c.in_ok-fill.ensures.fills
    c.in_ok-fill.ensures.later in
    (_, on.rows)

pub returns-then-not-branch-clause-read : goal.returns-then-not-branch-clause-read
returns-then-not-branch-clause-read g c =
    let going = going_passed _ _ _ _ _ c.loop-stop.window c.take_from.new.window _ _ _ _ _ c.loop-stop.invariant c.in_ok-stop.ensures.read
    c.in_ok-stop.ensures.count c.in_ok-stop.ensures.limit in
    let on = going_filled _ _ _ _ _ _ c.args.window.now c.take_from.new.window c.fill-in-loop-stop.new.self _ _ _ going c.in_ok-fill.ensures.fills
    c.in_ok-fill.ensures.later in
    let over = c.if-not-branch.true in
    let end = c.in_ok-fill.ensures.end (grind arith) in
    let text = c.args.window.now.ahead ++ on.more in (
      on.more,
      going_ended _ _ _ _ c.args.window.now c.fill-in-loop-stop.new.self c.take_last.new.window _ _ _ on end,
      rows_stop_ended c.args.set.now.tasks text c.take_last.new.window.ahead c.take_last.new.self.rows c.take_last.new.self.totals.items c.in_ok-stop-2.stop
          (c.in_ok-stop-2.ensures text on.rows),
    )

pub loop-stop-preserved : goal.loop-stop-preserved
loop-stop-preserved g c =
    let going = going_passed _ _ _ _ _ c.loop-stop.window c.take_from.new.window _ _ _ _ _ c.loop-stop.invariant c.in_ok-stop.ensures.read
    c.in_ok-stop.ensures.count c.in_ok-stop.ensures.limit in
    going_filled _ _ _ _ _ _ c.args.window.now c.take_from.new.window c.fill-in-loop-stop.new.self _ _ _ going c.in_ok-fill.ensures.fills
    c.in_ok-fill.ensures.later
