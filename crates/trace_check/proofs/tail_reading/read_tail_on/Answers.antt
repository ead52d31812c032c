use Rattle.std.proofs.Common.{ℕ, ◌+◌, ◌^◌, ◌≡◌, ◌≤◌, ◌<◌, Bool, true, false, not, List, Option, length, subst, sym, ◌∙◌, arith, Fits, w64}
use Rattle.std.proofs.lemmas.Result.{IfOk-from_err, err_from_is_err_and}
use Rattle.text_window.specs.Windows.{WindowHeld}
use Rattle.trace_check.specs.Tails.{left_at, all_lines}
use Rattle.trace_check.proofs.RestLemmas.{ends_or_less, later_on, left_less, left_no_more, passed_small, passed_within, twice_fits, twice_more_fits}
use Rattle.trace_check.proofs.TailSourceLemmas.{TailGoing, not_begun, tail_none, tail_taken, set_now, set_other, taken_rest, tail_filled, tail_stops}
use Rattle.trace_check.proofs.TailSourceLemmas.{tail_other, tail_all, tail_skipped, not_true_is}
use Rattle.trace_check.proofs.tail_reading.read_tail_on.Goals as goal

-- few lines are left
left_few : (n left all : ℕ) → n + left ≡ all → all < 2 ^ 32 → left < 2 ^ 63
left_few n left all sum few = omega arith

-- and few were gone past
gone_fits : (n m left next all : ℕ) → n + left ≡ all → m + next ≡ left → all < 2 ^ 32 → Fits w64 (n + m)
gone_fits n m left next all sum more few = omega arith

-- where the source may go on it went on before
begun_not : (a b : Option (List ℕ)) (fa fb : ℕ) (begun now : Bool) (w u : WindowHeld) (all left : List (List ℕ)) (n : ℕ) → TailGoing a b fa fb begun now w u
    all n left → now ≡ false → begun ≡ false
begun_not a b fa fb begun now w u all left n g f = not_begun a b fa fb begun w u all left n (set_now a b fa fb begun now false w u all left n f g)

pub loop-at_end-init : goal.loop-at_end-init
loop-at_end-init g c = (
  tail_none _ _ c.args.ended c.args.window.now _ _ c.requires.end c.requires.within c.first-place.ensures.left,
  c.first-place.ensures.place,
)

pub returns-then-taken-clause-read : goal.returns-then-taken-clause-read
returns-then-taken-clause-read g c =
    let t = c.args.tail.now in
    let inv = c.loop-at_end.invariant in
    let taken = c.take-taken.result in
    let going = tail_taken _ _ _ _ c.args.ended c.loop-at_end.at_end c.args.window.now c.loop-at_end.window c.pass.new.self (all_lines t)
    (left_at t c.loop-at_end.place) (left_at t taken.place) c.ahead.result.now
    c.loop-at_end.count taken.count taken.gone inv.0 c.ahead.ensures c.take-taken.ensures.lines c.take-taken.ensures.count c.pass.ensures.ahead
    c.pass.ensures.count c.pass.ensures.limit in
    let now = set_now _ _ _ _ _ _ true _ _ _ _ _ c.if-at_end.true going in
    let other = set_other c.loop-at_end.at_end true (left_at t taken.place) c.ahead.result.now c.loop-at_end.window.ahead c.pass.new.self.ahead taken.gone
    c.if-at_end.true c.ahead.ensures c.pass.ensures.ahead
    (c.take-taken.ensures.other c.if-taken.true) in
    tail_other _ _ _ _ _ _ _ _ _ _ now other

pub returns-else-taken-clause-read : goal.returns-else-taken-clause-read
returns-else-taken-clause-read g c =
    let t = c.args.tail.now in
    let inv = c.loop-at_end.invariant in
    let taken = c.take-taken.result in
    let going = tail_taken _ _ _ _ c.args.ended c.loop-at_end.at_end c.args.window.now c.loop-at_end.window c.pass.new.self (all_lines t)
    (left_at t c.loop-at_end.place) (left_at t taken.place) c.ahead.result.now
    c.loop-at_end.count taken.count taken.gone inv.0 c.ahead.ensures c.take-taken.ensures.lines c.take-taken.ensures.count c.pass.ensures.ahead
    c.pass.ensures.count c.pass.ensures.limit in
    let now = set_now _ _ _ _ _ _ true _ _ _ _ _ c.if-at_end.true going in
    let over = c.take-taken.ensures.all c.if-at_end.true c.if-taken.false in
    tail_all _ _ _ _ _ _ _ _ _ _ now over.0 (sym (taken_rest c.ahead.result.now c.loop-at_end.window.ahead c.pass.new.self.ahead taken.gone c.ahead.ensures
    c.pass.ensures.ahead) ∙ over.1)

pub returns-in_err-skip_all-clause-stops : goal.returns-in_err-skip_all-clause-stops
returns-in_err-skip_all-clause-stops g c =
    let t = c.args.tail.now in
    let inv = c.loop-at_end.invariant in
    let taken = c.take-taken.result in
    let going = tail_taken _ _ _ _ c.args.ended c.loop-at_end.at_end c.args.window.now c.loop-at_end.window c.pass.new.self (all_lines t)
    (left_at t c.loop-at_end.place) (left_at t taken.place) c.ahead.result.now
    c.loop-at_end.count taken.count taken.gone inv.0 c.ahead.ensures c.take-taken.ensures.lines c.take-taken.ensures.count c.pass.ensures.ahead
    c.pass.ensures.count c.pass.ensures.limit in
    let now = set_now _ _ _ _ _ _ false _ _ _ _ _ c.if-at_end.false going in
    let (fault, is, same) = err_from_is_err_and c.from_residual.result c.from_residual.ensures.1 in
    rw (is, same) (tail_stops _ _ _ _ _ _ _ _ _ _ _ _ _ now c.in_err-skip_all.ensures.stops)

pub returns-then-taken-2-clause-read : goal.returns-then-taken-2-clause-read
returns-then-taken-2-clause-read g c =
    let t = c.args.tail.now in
    let inv = c.loop-at_end.invariant in
    let taken = c.take-taken.result in
    let going = tail_taken _ _ _ _ c.args.ended c.loop-at_end.at_end c.args.window.now c.loop-at_end.window c.pass.new.self (all_lines t)
    (left_at t c.loop-at_end.place) (left_at t taken.place) c.ahead.result.now
    c.loop-at_end.count taken.count taken.gone inv.0 c.ahead.ensures c.take-taken.ensures.lines c.take-taken.ensures.count c.pass.ensures.ahead
    c.pass.ensures.count c.pass.ensures.limit in
    let now = set_now _ _ _ _ _ _ false _ _ _ _ _ c.if-at_end.false going in
    let other = set_other c.loop-at_end.at_end false (left_at t taken.place) c.ahead.result.now c.loop-at_end.window.ahead c.pass.new.self.ahead taken.gone
    c.if-at_end.false c.ahead.ensures c.pass.ensures.ahead
    (c.take-taken.ensures.other c.if-taken-2.true) in
    tail_skipped _ _ _ _ _ _ _ _ _ _ _ now other (c.in_ok-skip_all.ensures.rest.0, c.in_ok-skip_all.ensures.rest.1)

pub returns-in_err-at_end-clause-stops : goal.returns-in_err-at_end-clause-stops
returns-in_err-at_end-clause-stops g c =
    let t = c.args.tail.now in
    let inv = c.loop-at_end.invariant in
    let taken = c.take-taken.result in
    let going = tail_taken _ _ _ _ c.args.ended c.loop-at_end.at_end c.args.window.now c.loop-at_end.window c.pass.new.self (all_lines t)
    (left_at t c.loop-at_end.place) (left_at t taken.place) c.ahead.result.now
    c.loop-at_end.count taken.count taken.gone inv.0 c.ahead.ensures c.take-taken.ensures.lines c.take-taken.ensures.count c.pass.ensures.ahead
    c.pass.ensures.count c.pass.ensures.limit in
    let now = set_now _ _ _ _ _ _ false _ _ _ _ _ c.if-at_end.false going in
    let (fault, is, same) = err_from_is_err_and c.from_residual-in_err-at_end.result c.from_residual-in_err-at_end.ensures.1 in
    rw (is, same) (tail_stops _ _ _ _ _ _ _ _ _ _ _ _ _ now c.in_err-at_end.ensures.stops)

pub loop-at_end-preserved : goal.loop-at_end-preserved
loop-at_end-preserved g c =
    let t = c.args.tail.now in
    let inv = c.loop-at_end.invariant in
    let taken = c.take-taken.result in
    let going = tail_taken _ _ _ _ c.args.ended c.loop-at_end.at_end c.args.window.now c.loop-at_end.window c.pass.new.self (all_lines t)
    (left_at t c.loop-at_end.place) (left_at t taken.place) c.ahead.result.now
    c.loop-at_end.count taken.count taken.gone inv.0 c.ahead.ensures c.take-taken.ensures.lines c.take-taken.ensures.count c.pass.ensures.ahead
    c.pass.ensures.count c.pass.ensures.limit in
    let now = set_now _ _ _ _ _ _ false _ _ _ _ _ c.if-at_end.false going in (
      tail_filled _ _ _ _ _ _ _ (not c.in_ok-at_end.field-0) _ _ _ _ _ _ now c.in_ok-at_end.ensures.fills c.in_ok-at_end.ensures.later
          (λ e. c.in_ok-at_end.ensures.end (not_true_is c.in_ok-at_end.field-0 e)),
      c.take-taken.ensures.place,
    )

pub first-place-requires : goal.first-place-requires
first-place-requires g c = c.requires.tail

pub take-taken-requires-clause-tail : goal.take-taken-requires-clause-tail
take-taken-requires-clause-tail g c = c.requires.tail

pub take-taken-requires-clause-place : goal.take-taken-requires-clause-place
take-taken-requires-clause-place g c = c.loop-at_end.invariant.1

pub take-taken-requires-clause-few : goal.take-taken-requires-clause-few
take-taken-requires-clause-few g c = left_few c.loop-at_end.count _ _ c.loop-at_end.invariant.0.size c.first-place.ensures.few

pub pass-requires : goal.pass-requires
pass-requires g c = subst (λ t. c.take-taken.result.gone ≤ length t) c.ahead.ensures c.take-taken.ensures.within

pub overflow_add-count : goal.overflow_add-count
overflow_add-count g c = gone_fits _ _ _ _ _ c.loop-at_end.invariant.0.size c.take-taken.ensures.count c.first-place.ensures.few

pub returns-then-taken-clause-later : goal.returns-then-taken-clause-later
returns-then-taken-clause-later g c = c.loop-at_end.invariant.0.later

pub returns-else-taken-clause-later : goal.returns-else-taken-clause-later
returns-else-taken-clause-later g c = c.loop-at_end.invariant.0.later

pub skip_all-requires-clause-within : goal.skip_all-requires-clause-within
skip_all-requires-clause-within g c =
    let first = begun_not _ _ _ _ c.args.ended c.loop-at_end.at_end c.args.window.now c.loop-at_end.window _ _ _ c.loop-at_end.invariant.0 c.if-at_end.false in
    passed_within c.loop-at_end.window c.pass.new.self (c.loop-at_end.invariant.0.within first) c.pass.ensures.count c.pass.ensures.limit

pub skip_all-requires-clause-small : goal.skip_all-requires-clause-small
skip_all-requires-clause-small g c =
    let first = begun_not _ _ _ _ c.args.ended c.loop-at_end.at_end c.args.window.now c.loop-at_end.window _ _ _ c.loop-at_end.invariant.0 c.if-at_end.false in
    passed_small c.args.window.now c.loop-at_end.window c.pass.new.self _ (c.loop-at_end.invariant.0.limit first) c.pass.ensures.limit (c.requires.small first)

pub returns-in_err-skip_all-clause-read : goal.returns-in_err-skip_all-clause-read
returns-in_err-skip_all-clause-read g c = IfOk-from_err _ _ c.from_residual.ensures.0

pub returns-in_err-skip_all-clause-later : goal.returns-in_err-skip_all-clause-later
returns-in_err-skip_all-clause-later g c = later_on _ _ _ c.loop-at_end.invariant.0.later c.skip_all.ensures.later

pub returns-then-taken-2-clause-later : goal.returns-then-taken-2-clause-later
returns-then-taken-2-clause-later g c = later_on _ _ _ c.loop-at_end.invariant.0.later c.skip_all.ensures.later

pub fill-requires-clause-within : goal.fill-requires-clause-within
fill-requires-clause-within g c =
    let first = begun_not _ _ _ _ c.args.ended c.loop-at_end.at_end c.args.window.now c.loop-at_end.window _ _ _ c.loop-at_end.invariant.0 c.if-at_end.false in
    passed_within c.loop-at_end.window c.pass.new.self (c.loop-at_end.invariant.0.within first) c.pass.ensures.count c.pass.ensures.limit

pub fill-requires-clause-small : goal.fill-requires-clause-small
fill-requires-clause-small g c =
    let first = begun_not _ _ _ _ c.args.ended c.loop-at_end.at_end c.args.window.now c.loop-at_end.window _ _ _ c.loop-at_end.invariant.0 c.if-at_end.false in
    passed_small c.args.window.now c.loop-at_end.window c.pass.new.self _ (c.loop-at_end.invariant.0.limit first) c.pass.ensures.limit (c.requires.small first)

pub returns-in_err-at_end-clause-read : goal.returns-in_err-at_end-clause-read
returns-in_err-at_end-clause-read g c = IfOk-from_err _ _ c.from_residual-in_err-at_end.ensures.0

pub returns-in_err-at_end-clause-later : goal.returns-in_err-at_end-clause-later
returns-in_err-at_end-clause-later g c = later_on _ _ _ c.loop-at_end.invariant.0.later c.fill.ensures.later

pub overflow_mul-least : goal.overflow_mul-least
overflow_mul-least g c = twice_fits _ c.ahead-in-loop-at_end.type_inv.1

pub overflow_add-least : goal.overflow_add-least
overflow_add-least g c = twice_more_fits _ c.ahead-in-loop-at_end.type_inv.1

pub loop-at_end-smaller : goal.loop-at_end-smaller
loop-at_end-smaller g c =
    let old = c.loop-at_end.window in
    let passed = c.pass.new.self in
    let new = c.fill.new.self in
    let filled = c.in_ok-at_end.ensures.fills in
    ends_or_less _ _ c.loop-at_end.at_end c.in_ok-at_end.field-0 c.if-at_end.false (left_no_more old passed new filled.more c.pass.ensures.count
    c.pass.ensures.limit filled.count filled.limit)
    (λ on. left_less old passed new _ filled.more c.pass.ensures.count c.pass.ensures.limit c.ahead-in-loop-at_end.ensures filled.ahead filled.count
    filled.limit filled.within (c.in_ok-at_end.ensures.more on))
