use Rattle.std.proofs.Common.{◌≡◌, ◌∷◌, [], true, false, Some, refl, ap, sym, subst, arith}
use Rattle.sched_base.specs.declared.rows.Row.{Row}
use Rattle.trace_verdict.specs.declared.walks.Walk.{Walk}
use Rattle.trace_verdict.specs.Faults.{row_at}
use Rattle.trace_verdict.specs.Orders.{task_key}
use Rattle.trace_verdict.specs.Supplied.{entry_for, GoesPast, StandsAt}
use Rattle.trace_verdict.specs.Tally.{Goes}
use Rattle.trace_verdict.specs.Timed.{tally_of, Tallied}
use Rattle.trace_verdict.proofs.TimedLemmas.{gone_more}
use Rattle.trace_verdict.proofs.NearLemmas.{begins_before, far_paced, far_fits, pace_of}
use Rattle.trace_verdict.proofs.StepLemmas.{some_gone, step_preempted, step_moved}
use Rattle.trace_verdict.proofs.task_walks.TaskWalk.step_far.Goals as goal

pub returns-clause-gone : goal.returns-clause-gone
returns-clause-gone c = λ t.
    let old = c.args.self.now in
    let task = c.args.task in
    let place = c.args.place in
    let is = c.requires.row in
    let w = c.step.new.self in
    let u = c.tally_with-tally.result in
    let n = c.numbered-near.result in
    let row = c.step.ensures.row c.if-not-step.false in
    gone_more c.args._rows.now task place n.begin n.next n.owed old w u c.requires.gone c.requires.room
    (record { within = c.requires.within; key = subst (λ (r : Row). task_key r ≡ Some task) is (c.step.ensures.key c.if-not-step.false) })
    (subst (λ (a : Walk). GoesPast old.periods (entry_for task (row_at c.args._rows.now place) place ∷ []) a w) c.walk-walk.ensures
    (subst (λ (r : Row). GoesPast old.periods (entry_for task r place ∷ []) c.walk-walk.result w) is (c.step.ensures.past c.if-not-step.false place)))
    (λ e. subst (λ (r : Row). Tallied old.periods (r ∷ []) u) is (c.tally_with-tally.ensures.first e))
    (λ ne. subst (λ (r : Row). Goes old.periods (r ∷ []) (tally_of old) u) is (c.tally_with-tally.ensures.later ne))
    (far_paced old w u n c.args.row.now.end c.requires.gone.ready.lawful (let a = row.begun in let b = row.long in omega (arith, a, b))
    (c.step.ensures.tick c.if-not-step.false)
    (ap (λ (r : Row). r.end) c.tally_with-tally.ensures.before) c.tally_with-tally.ensures.last c.numbered-near.ensures.begin c.numbered-near.ensures.next
    c.numbered-near.ensures.owed)

pub numbered-near-requires-clause-fits : goal.numbered-near-requires-clause-fits
numbered-near-requires-clause-fits c =
    let t = c.if-not-step.false in
    let row = c.step.ensures.row t in
    far_fits c.args.self.now.periods c.tally_with-tally.result.last c.step.new.self.tick c.args.row.now.end c.requires.gone.ready.lawful
    (let a = row.begun in let b = row.long in omega (arith, a, b))
    c.tally_with-tally.ensures.last (c.step.ensures.tick t) (c.step.ensures.past t c.args.place).stands.ends

pub walk-walk-requires-clause-lawful : goal.walk-walk-requires-clause-lawful
walk-walk-requires-clause-lawful c = c.requires.gone.ready.lawful

pub walk-walk-requires-clause-begun : goal.walk-walk-requires-clause-begun
walk-walk-requires-clause-begun c = (c.requires.gone.ready.stands c.requires.begun).begun

pub step-requires-clause-lawful : goal.step-requires-clause-lawful
step-requires-clause-lawful c = c.requires.gone.ready.lawful

pub step-requires-clause-stands : goal.step-requires-clause-stands
step-requires-clause-stands c = subst (StandsAt c.args.self.now.periods) (sym c.walk-walk.ensures) (c.requires.gone.ready.stands c.requires.begun)

pub returns-then-not-step-clause-periods : goal.returns-then-not-step-clause-periods
returns-then-not-step-clause-periods c = refl

pub returns-then-not-step-clause-gone : goal.returns-then-not-step-clause-gone
returns-then-not-step-clause-gone c = λ is. (let e : false ≡ true = is in cc)

pub tally_with-tally-requires-clause-lawful : goal.tally_with-tally-requires-clause-lawful
tally_with-tally-requires-clause-lawful c = c.requires.gone.ready.lawful

pub tally_with-tally-requires-clause-row : goal.tally_with-tally-requires-clause-row
tally_with-tally-requires-clause-row c = c.step.ensures.row c.if-not-step.false

pub tally_with-tally-requires-clause-begun : goal.tally_with-tally-requires-clause-begun
tally_with-tally-requires-clause-begun c = λ some. begins_before c.args.self.now (pace_of c.args._rows.now c.args.task c.args.self.now c.requires.gone some)

pub tally_with-tally-requires-clause-few_preempted : goal.tally_with-tally-requires-clause-few_preempted
tally_with-tally-requires-clause-few_preempted c = λ some. step_preempted c.args._rows.now c.args.task c.args.self.now c.requires.gone (some_gone _ some)
    (omega arith)

pub tally_with-tally-requires-clause-few_moved : goal.tally_with-tally-requires-clause-few_moved
tally_with-tally-requires-clause-few_moved c = λ some. step_moved c.args._rows.now c.args.task c.args.self.now c.requires.gone (some_gone _ some) (omega arith)

pub numbered-near-requires-clause-lawful : goal.numbered-near-requires-clause-lawful
numbered-near-requires-clause-lawful c = c.requires.gone.ready.lawful

pub returns-clause-periods : goal.returns-clause-periods
returns-clause-periods c = refl
