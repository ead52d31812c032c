use Rattle.std.proofs.Common.{◌≡◌, ℕ, ◌+◌, ◌-◌, ◌*◌, ◌/◌, ◌%◌, ◌<◌, ◌≤◌, min, ap, arith, mod-lt, mul-le-mul_left, sym, ◌∙◌}
use Rattle.std.proofs.Math.Nat.{mod_self}
use Rattle.run_tree.specs.Plans.{IsPlan, PlanContents, stop_of}
use Rattle.event_core.specs.Rounds.{rounds_before}
use Rattle.event_core.proofs.RoundsInOrder.{no_rounds}
use Rattle.merged_rounds.proofs.CountLemmas.{all_rounds_by, few_count, rounds_stay, some_rounds}
use Rattle.merged_rounds.proofs.LapLemmas.{turns_of}
use Rattle.std.proofs.lemmas.Result.{IfOk-from_err}
use Rattle.merged_rounds.proofs.counts.count_by_turn.Goals as goal

-- a hyperperiod has ticks
some_ticks : (p : PlanContents) → IsPlan p → (turn : ℕ) → turn ≡ p.tree.scale * p.tree.scale → 0 < turn
some_ticks p h turn is =
    let some = h.tree.tree.scaled in
    let square : p.tree.scale * 1 ≤ p.tree.scale * p.tree.scale = mul-le-mul_left p.tree.scale some in
    omega (arith, some, square, is)

pub count_up_to-requires-clause-here : goal.count_up_to-requires-clause-here
count_up_to-requires-clause-here c = sym (ap (rounds_before c.args.plan.now) c.requires.first ∙ no_rounds c.args.plan.now)

pub count_up_to-requires-clause-before : goal.count_up_to-requires-clause-before
count_up_to-requires-clause-before c =
    let first = c.requires.first in
    let e : min c.args.core.now.tick ((c.rounds_end-last.result - 1) % c.args.turn + 1) ≡ 0 = omega (arith, first) in
    sym (ap (rounds_before c.args.plan.now) e ∙ no_rounds c.args.plan.now)

pub count_up_to-requires-2-clause-before : goal.count_up_to-requires-2-clause-before
count_up_to-requires-2-clause-before c =
    let p = c.args.plan.now in
    let until = (c.rounds_end-last.result - 1) % c.args.turn + 1 in
    let some = some_ticks p c.know_lawful.ensures.lawful c.args.turn c.requires.turn in
    let low = mod-lt (c.rounds_end-last.result - 1) some in
    let here = c.in_ok-rest.ensures.here in
    let count = c.in_ok-rest.ensures.count in
    let reached = c.in_ok-rest.ensures.reached in
    count ∙ sym (rounds_stay p until (min c.count_up_to.new.core.tick (c.args.turn + 1)) c.count_up_to.new.core.tick (omega (arith, low, reached))
    (omega arith) (sym count ∙ here))

pub overflow_sub-both : goal.overflow_sub-both
overflow_sub-both c = let some = some_rounds c.args.plan.now c.args.turn in let is = c.in_ok-both.ensures.count in omega (arith, some, is)

pub count_all-requires-clause-all : goal.count_all-requires-clause-all
count_all-requires-clause-all c =
    let p = c.args.plan.now in
    let h = c.know_lawful.ensures.lawful in
    let turn = c.args.turn in
    let stop = stop_of p in
    let some = some_ticks p h turn c.requires.turn in
    let within = c.requires.within in
    let end = c.rounds_end-last.ensures.value in
    all_rounds_by p h c.requires.can turn (turns_of p h turn turn c.requires.turn some (mod_self turn)) some (omega (arith, within))
    ∙ sym (ap (λ e. (e - 1) / turn * (c.in_ok-both.both - 1) + c.in_ok-rest.rest) end
    ∙ ap (λ n. (stop - 1) / turn * (n - 1) + c.in_ok-rest.rest) c.in_ok-both.ensures.count
    ∙ ap (λ n. (stop - 1) / turn * (rounds_before p (turn + 1) - 1) + n) c.in_ok-rest.ensures.count
    ∙ ap (λ e. (stop - 1) / turn * (rounds_before p (turn + 1) - 1) + rounds_before p ((e - 1) % turn + 1)) end)

pub count_all-requires-clause-few : goal.count_all-requires-clause-few
count_all-requires-clause-few c =
    let m = c.args.plan.now.tree.processors in
    let few = few_count c.in_ok-both.both m c.know_lawful.ensures.lawful.sized.some_processors c.in_ok-both.ensures.few in
    omega (arith, few)

pub count_all-requires-clause-rest : goal.count_all-requires-clause-rest
count_all-requires-clause-rest c = few_count c.in_ok-rest.rest c.args.plan.now.tree.processors c.know_lawful.ensures.lawful.sized.some_processors
    c.in_ok-rest.ensures.few

pub nonzero_rem-last : goal.nonzero_rem-last
nonzero_rem-last c = some_ticks c.args.plan.now c.know_lawful.ensures.lawful c.args.turn c.requires.turn

pub count_up_to-requires-clause-belongs : goal.count_up_to-requires-clause-belongs
count_up_to-requires-clause-belongs c = c.requires.belongs

pub count_up_to-requires-clause-until : goal.count_up_to-requires-clause-until
count_up_to-requires-clause-until c =
    let end = c.rounds_end-last.ensures.value in
    let within = c.requires.within in
    let low = mod-lt (c.rounds_end-last.result - 1) (some_ticks c.args.plan.now c.know_lawful.ensures.lawful c.args.turn c.requires.turn) in
    omega (arith, within, low)

pub returns-in_err-rest-clause-count : goal.returns-in_err-rest-clause-count
returns-in_err-rest-clause-count c = IfOk-from_err _ _ c.from_residual.ensures.0

pub count_up_to-requires-2-clause-belongs : goal.count_up_to-requires-2-clause-belongs
count_up_to-requires-2-clause-belongs c = c.in_ok-rest.ensures.belongs

pub count_up_to-requires-2-clause-here : goal.count_up_to-requires-2-clause-here
count_up_to-requires-2-clause-here c = c.in_ok-rest.ensures.here

pub count_up_to-requires-2-clause-few : goal.count_up_to-requires-2-clause-few
count_up_to-requires-2-clause-few c = c.in_ok-rest.ensures.few

pub count_up_to-requires-2-clause-until : goal.count_up_to-requires-2-clause-until
count_up_to-requires-2-clause-until c = let within = c.requires.within in omega (arith, within)

pub returns-in_err-both-clause-count : goal.returns-in_err-both-clause-count
returns-in_err-both-clause-count c = IfOk-from_err _ _ c.from_residual-in_err-both.ensures.0

pub nonzero_div-last : goal.nonzero_div-last
nonzero_div-last c = some_ticks c.args.plan.now c.know_lawful.ensures.lawful c.args.turn c.requires.turn

pub returns-clause-count : goal.returns-clause-count
returns-clause-count c = c.count_all.ensures.count

pub returns-clause-fault : goal.returns-clause-fault
returns-clause-fault c = c.count_all.ensures.fault
