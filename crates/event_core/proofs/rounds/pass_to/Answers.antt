use Rattle.std.proofs.Common.{Bool, false, get_or, length, refl, ◌≤◌, ◌∙◌}
use Rattle.std.specs.Prelude.{slice_index}
use Rattle.sched_base.specs.Counting.{bit}
use Rattle.std.proofs.Common.{◌*◌, ◌≡◌, ap}
use Rattle.std.proofs.Common.{List, ℕ, arith, subst, sym, ◌-◌}
use Rattle.event_core.specs.Serving.{IsServing, IsDrying}
use Rattle.event_core.proofs.DryLemmas.{passed}
use Rattle.event_core.proofs.rounds.pass_to.Goals as goal

pub run_dry-requires-clause-drying : goal.run_dry-requires-clause-drying
run_dry-requires-clause-drying c =
    let now = c.now.ensures.value in
    let above = c.requires.above in
    let below = c.requires.below in
    let tick = c.pass.ensures.tick in
    let nodes = c.requires.remains in
    subst (λ (ends : List ℕ). IsDrying c.args.plan.now.tree c.pass.new.self ends c.args.state.now.serving (λ (q : ℕ). ⊥)) (sym c.ends.ensures.values)
    (passed c.args.plan.now.tree c.requires.plan.tree.tree c.args.state.now.dues c.pass.new.self c.args.state.now.calendar.ends c.args.state.now.serving
    (c.args.end - c.now.result) c.requires.serving c.requires.fresh
    tick (omega (arith, tick, now, above, below)) c.pass.ensures.runs (λ x i on. let e = c.requires.enough x on in omega (arith, e, now))
    (λ x i. c.pass.ensures.spent x (let l = i.0 in omega (arith, l, nodes))))

pub returns-clause-serving : goal.returns-clause-serving
returns-clause-serving c = subst (λ (ends : List ℕ). IsServing c.args.plan.now.tree c.pass.new.self ends c.run_dry.new.self) c.ends.ensures.values
    c.run_dry.ensures.serving

pub returns-clause-long : goal.returns-clause-long
returns-clause-long c = c.run_dry.ensures.long

pub returns-clause-serves : goal.returns-clause-serves
returns-clause-serves c = c.run_dry.ensures.serves

pub returns-clause-runs : goal.returns-clause-runs
returns-clause-runs c = c.run_dry.ensures.runs

pub overflow_sub-ticks : goal.overflow_sub-ticks
overflow_sub-ticks c = subst (λ n. n ≤ c.args.end) (sym c.now.ensures.value) c.requires.above

pub pass-requires-clause-fits : goal.pass-requires-clause-fits
pass-requires-clause-fits c =
    let now = c.now.ensures.value in
    let above = c.requires.above in
    let below = c.requires.below in
    omega (arith, now, above, below)

pub pass-requires-clause-enough : goal.pass-requires-clause-enough
pass-requires-clause-enough c = λ x on. subst (λ n. c.args.end - n ≤ slice_index c.args.state.now.dues.remains x) (sym c.now.ensures.value)
    (c.requires.enough x on)

pub run_dry-requires-clause-long : goal.run_dry-requires-clause-long
run_dry-requires-clause-long c = record {
  dues = ap (λ (xs : List Bool). length xs) c.pass.ensures.runs ∙ c.requires.long.dues;
  ready = c.requires.long.ready;
  serves = c.requires.long.serves;
  stale = c.requires.long.stale;
  runs = c.requires.long.runs;
}

pub returns-clause-tick : goal.returns-clause-tick
returns-clause-tick c =
    let tick = c.pass.ensures.tick in
    let now = c.now.ensures.value in
    let above = c.requires.above in
    omega (arith, tick, now, above)

pub returns-clause-nodes : goal.returns-clause-nodes
returns-clause-nodes c = c.pass.ensures.nodes ∙ c.requires.remains

pub returns-clause-spent : goal.returns-clause-spent
returns-clause-spent c = λ x l.
    let d = c.args.state.now.dues in
    subst (λ n. slice_index c.pass.new.self.remains x ≡ slice_index d.remains x - bit (get_or d.runs x false) * (c.args.end - n)) c.now.ensures.value
    (c.pass.ensures.spent x l)

pub returns-clause-calendar : goal.returns-clause-calendar
returns-clause-calendar c = refl

pub returns-clause-places : goal.returns-clause-places
returns-clause-places c = refl

pub returns-clause-masks : goal.returns-clause-masks
returns-clause-masks c = refl
