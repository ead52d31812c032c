use native.Mathlib.Numerals.{unary_clauses}
use Rattle.std.proofs.Common.{◌≡◌, ℕ, ◌+◌, ◌*◌, ◌<◌, List, Option, None, ap, arith, get_or, min, subst, sym, ◌∙◌, length, IfOk, ◌≤◌}
use Rattle.sched_base.specs.declared.rows.Leaf.{Leaf}
use Rattle.run_tree.specs.Plans.{stop_of}
use Rattle.run_tree.specs.Tree.{Tree}
use Rattle.event_core.specs.Rounds.{IsRoundUpTo}
use Rattle.merged_rounds.specs.Laps.{IsAllTold, IsSumUpTo, round_start}
use Rattle.merged_rounds.proofs.LapLemmas.{lap_over, lap_round, lap_told, told_all}
use Rattle.event_core.proofs.PlanRounds.{stop_fits}
use Rattle.std.proofs.Math.Nat.{mul-le-mul_right}
use Rattle.merged_rounds.proofs.laps.add_lap_round.Goals as goal

rounds_within : (i n m r all : ℕ) → i < n → r ≡ m → all ≡ n * m → (i + 1) * r ≤ all
rounds_within i n m r all l e long =
    let up : i + 1 ≤ n = omega (arith, l) in
    subst (λ (x : ℕ). (i + 1) * x ≤ all) (sym e) (subst (λ (x : ℕ). (i + 1) * m ≤ x) (sym long) (mul-le-mul_right m up))

pub returns-then-start-stop-clause-sum : goal.returns-then-start-stop-clause-sum
returns-then-start-stop-clause-sum c =
    let p = c.args.plan.now in
    let ends = c.args.lap.now.ends.items in
    let start : c.start_of.result ≡ round_start c.args.again.from ends c.args.i = c.start_of.ensures ∙ ap (λ (es : List ℕ). round_start c.args.again.from es
    c.args.i) c.deref.ensures.value in
    let stop = c.rounds_end-stop.ensures.value in
    let past = c.if-start-stop.true in
    subst (λ (n : ℕ). IsSumUpTo p n c.args.sum.now)
    (lap_over p c.args.again.from ends c.args.lap.now.told.items c.requires.again.lap c.args.i c.args.again.ticks c.requires.round
    (omega (arith, start, stop, past))) c.requires.sum

pub add_round-requires-clause-round : goal.add_round-requires-clause-round
add_round-requires-clause-round c =
    let p = c.args.plan.now in
    let ends = c.args.lap.now.ends.items in
    let start : c.start_of.result ≡ round_start c.args.again.from ends c.args.i = c.start_of.ensures ∙ ap (λ (es : List ℕ). round_start c.args.again.from es
    c.args.i) c.deref.ensures.value in
    let stop = c.rounds_end-stop.ensures.value in
    let on = c.if-start-stop.false in
    let early : round_start c.args.again.from ends c.args.i + c.args.again.ticks < stop_of p = omega (arith, start, stop, on) in
    let end : c.end_of-end.result ≡ min (get_or ends c.args.i 0 + c.args.again.ticks) (stop_of p) =
    c.end_of-end.ensures ∙ ap (λ (es : List ℕ). min (get_or es c.args.i 0 + c.args.again.ticks) c.rounds_end-stop.result) c.deref-2.ensures.value
    ∙ ap (λ (n : ℕ). min (get_or ends c.args.i 0 + c.args.again.ticks) n) stop in
    subst (λ (n : ℕ). IsRoundUpTo p (n + c.args.again.ticks) c.end_of-end.result) (sym start)
    (subst (λ (n : ℕ). IsRoundUpTo p (round_start c.args.again.from ends c.args.i + c.args.again.ticks) n) (sym end)
    (lap_round p c.rounds_end-stop.ensures.lawful c.args.again.from c.args.again.ticks c.requires.again.again ends c.args.lap.now.told.items
    c.requires.again.lap c.args.i c.requires.round early))

pub add_round-requires-clause-told : goal.add_round-requires-clause-told
add_round-requires-clause-told c =
    let p = c.args.plan.now in
    let ends = c.args.lap.now.ends.items in
    let all = c.args.lap.now.told.items in
    let start : c.start_of.result ≡ round_start c.args.again.from ends c.args.i = c.start_of.ensures ∙ ap (λ (es : List ℕ). round_start c.args.again.from es
    c.args.i) c.deref.ensures.value in
    let stop = c.rounds_end-stop.ensures.value in
    let on = c.if-start-stop.false in
    let early : round_start c.args.again.from ends c.args.i + c.args.again.ticks < stop_of p = omega (arith, start, stop, on) in
    let many : c.processors.result ≡ p.tree.processors = c.processors.ensures.value ∙ ap (λ (t : Tree). t.processors) c.tree.ensures.value in
    let told : IsAllTold p (round_start c.args.again.from ends c.args.i + c.args.again.ticks) c.end_of-end.result c.told_in-told.result.now =
    lap_told p c.rounds_end-stop.ensures.lawful c.args.again.from c.args.again.ticks c.requires.again.again ends all c.requires.again.lap c.args.i
    c.requires.round early
    c.end_of-end.result c.told_in-told.result.now (c.told_in-told.ensures.long ∙ many)
    (λ q l. c.told_in-told.ensures.each q (omega (arith, l, many))
    ∙ ap (λ (ts : List (Option Leaf)). get_or ts (c.args.i * c.processors.result + q) None) c.deref-3.ensures.value
    ∙ ap (λ (m : ℕ). get_or all (c.args.i * m + q) None) many) in
    told_all p (c.start_of.result + c.args.again.ticks) c.end_of-end.result c.told_in-told.result.now c.args.sum.now.rows.lanes
    (subst (λ (n : ℕ). IsAllTold p (n + c.args.again.ticks) c.end_of-end.result c.told_in-told.result.now) (sym start) told)

pub start_of-requires : goal.start_of-requires
start_of-requires c = let e = ap (λ (es : List ℕ). length es) c.deref.ensures.value in let l = c.requires.round in omega (arith, e, l)

pub overflow_add-start : goal.overflow_add-start
overflow_add-start c =
    let p = c.args.plan.now in
    let ends = c.args.lap.now.ends.items in
    let start : c.start_of.result ≡ round_start c.args.again.from ends c.args.i = c.start_of.ensures ∙ ap (λ (es : List ℕ). round_start c.args.again.from es
    c.args.i) c.deref.ensures.value in
    let round = c.requires.again.lap.round c.args.i c.requires.round in
    let above = round.above in
    let below = round.below in
    let fits = stop_fits p c.rounds_end-stop.ensures.lawful in
    let early = c.requires.early in
    omega (arith, start, above, below, fits, early)

pub end_of-end-requires-clause-round : goal.end_of-end-requires-clause-round
end_of-end-requires-clause-round c = let e = ap (λ (es : List ℕ). length es) c.deref-2.ensures.value in let l = c.requires.round in omega (arith, e, l)

pub end_of-end-requires-clause-fits : goal.end_of-end-requires-clause-fits
end_of-end-requires-clause-fits c =
    let p = c.args.plan.now in
    let ends = c.args.lap.now.ends.items in
    let end : get_or c.deref-2.result.now c.args.i 0 ≡ get_or ends c.args.i 0 = ap (λ (es : List ℕ). get_or es c.args.i 0) c.deref-2.ensures.value in
    let below = (c.requires.again.lap.round c.args.i c.requires.round).below in
    let fits = stop_fits p c.rounds_end-stop.ensures.lawful in
    let early = c.requires.early in
    omega (arith, end, below, fits, early)

pub told_in-told-requires : goal.told_in-told-requires
told_in-told-requires c =
    let p = c.args.plan.now in
    let many : c.processors.result ≡ p.tree.processors = c.processors.ensures.value ∙ ap (λ (t : Tree). t.processors) c.tree.ensures.value in
    let long = ap (λ (ts : List (Option Leaf)). length ts) c.deref-3.ensures.value ∙ c.requires.again.lap.long in
    rounds_within c.args.i _ p.tree.processors _ _ c.requires.round many long

pub add_round-requires-clause-sum : goal.add_round-requires-clause-sum
add_round-requires-clause-sum c =
    let p = c.args.plan.now in
    let ends = c.args.lap.now.ends.items in
    let start : c.start_of.result ≡ round_start c.args.again.from ends c.args.i = c.start_of.ensures ∙ ap (λ (es : List ℕ). round_start c.args.again.from es
    c.args.i) c.deref.ensures.value in
    let stop = c.rounds_end-stop.ensures.value in
    let on = c.if-start-stop.false in
    let e : min (round_start c.args.again.from ends c.args.i + c.args.again.ticks) (stop_of p) ≡ c.start_of.result + c.args.again.ticks = omega (
      arith,
      start,
      stop,
      on,
    ) in
    subst (λ (n : ℕ). IsSumUpTo p n c.args.sum.now) e c.requires.sum

pub returns-clause-sum : goal.returns-clause-sum
returns-clause-sum c =
    let p = c.args.plan.now in
    let ends = c.args.lap.now.ends.items in
    let end : c.end_of-end.result ≡ min (get_or ends c.args.i 0 + c.args.again.ticks) (stop_of p) =
    c.end_of-end.ensures ∙ ap (λ (es : List ℕ). min (get_or es c.args.i 0 + c.args.again.ticks) c.rounds_end-stop.result) c.deref-2.ensures.value
    ∙ ap (λ (n : ℕ). min (get_or ends c.args.i 0 + c.args.again.ticks) n) c.rounds_end-stop.ensures.value in
    simp unary_clauses (subst (λ (n : ℕ). IfOk c.add_round.result (λ _. IsSumUpTo p n c.add_round.new.sum)) end c.add_round.ensures.sum)

pub returns-clause-fault : goal.returns-clause-fault
returns-clause-fault c = c.add_round.ensures.fault
