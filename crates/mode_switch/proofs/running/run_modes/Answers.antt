use Rattle.std.proofs.Common.{◌≤◌, ◌<◌, [], ◌∷◌, Err, length, length-append, take, sym, ap, subst, arith}
use Rattle.sched_base.specs.Tables.{row_limit}
use Rattle.run_tree.specs.Plans.{PlanContents}
use Rattle.mode_join.proofs.ModeLemmas.{few_modes}
use Rattle.mode_switch.proofs.RunLemmas.{all_get, next_mode, modes_back, filled_after, own_after, stopped_in, ran_more, run_through, ran_first}
use Rattle.mode_switch.proofs.RunLemmas.{names_risen, are_back, refused_outcome, told_fault, no_answer, ran_none, ran_to_end}
use Rattle.mode_switch.specs.declared.answers.ModesFault.TheVariants as fault
use Rattle.mode_switch.specs.Runs.{CrewHeld}
use Rattle.mode_switch.proofs.running.run_modes.Goals as goal

pub plan-requires : goal.plan-requires
plan-requires g c = subst (λ n. c.loop-j.j < n) c.count-j-end.ensures.value c.loop-j-test.true

pub rounds-requires : goal.rounds-requires
rounds-requires g c = subst (λ n. c.loop-j.j < n) c.count-j-end.ensures.value c.loop-j-test.true

pub run_mode-requires-clause-executable : goal.run_mode-requires-clause-executable
run_mode-requires-clause-executable g c κs within =
    let next = next_mode c.args.modes.now c.count.ensures.lawful c.loop-j.j c.plan.result.now c.rounds.result c.plan.ensures.value c.rounds.ensures.value in
    record { compiled = next.compiled; rounds = next.count; few = next.few; some_window = c.requires.some_window; small_window = c.requires.small_window }

pub run_mode-requires-clause-kits : goal.run_mode-requires-clause-kits
run_mode-requires-clause-kits g c κs within =
    let next = next_mode c.args.modes.now c.count.ensures.lawful c.loop-j.j c.plan.result.now c.rounds.result c.plan.ensures.value c.rounds.ensures.value in
    let back = modes_back _ _ c.args.window (take c.loop-j.j c.args.modes.now.modes) c.loop-j.runs.items _ _ c.loop-j.invariant.ran in
    let filled = filled_after _ _ c.args.modes.now.processors _ _ back c.requires.kits in
    λ p below. filled p (let wide = next.wide in omega (arith, below, wide))

pub run_mode-requires-clause-jobs : goal.run_mode-requires-clause-jobs
run_mode-requires-clause-jobs g c κs within =
    let next = next_mode c.args.modes.now c.count.ensures.lawful c.loop-j.j c.plan.result.now c.rounds.result c.plan.ensures.value c.rounds.ensures.value in
    let back = modes_back _ _ c.args.window (take c.loop-j.j c.args.modes.now.modes) c.loop-j.runs.items _ _ c.loop-j.invariant.ran in
    let own = all_get _ c.args.modes.now.modes c.loop-j.j next.mode c.requires.jobs next.at in
    let after = own_after _ _ (length next.mode.plan.set.tasks) _ _ back own in
    λ t below. after t (subst (λ (p : PlanContents). t < length p.set.tasks) (sym next.plan) below)

pub returns-in-Err-clause-outcome : goal.returns-in-Err-clause-outcome
returns-in-Err-clause-outcome g c =
    let next = next_mode c.args.modes.now c.count.ensures.lawful c.loop-j.j c.plan.result.now c.rounds.result c.plan.ensures.value c.rounds.ensures.value in
    stopped_in _ _ c.args.window c.args.modes.now c.loop-j.j c.plan.result.now c.rounds.result next c.loop-j.runs.items _ _ _ c.loop-j.invariant.ran
    c.run_mode.result c.run_mode.ensures c.in-Err.fault c.in-Err.is c.in_mode.result c.in_mode.ensures

pub returns-in-Err-clause-first : goal.returns-in-Err-clause-first
returns-in-Err-clause-first g c =
    let next = next_mode c.args.modes.now c.count.ensures.lawful c.loop-j.j c.plan.result.now c.rounds.result c.plan.ensures.value c.rounds.ensures.value in
    let outcome =
    stopped_in _ _ c.args.window c.args.modes.now c.loop-j.j c.plan.result.now c.rounds.result next c.loop-j.runs.items _ _ _ c.loop-j.invariant.ran
    c.run_mode.result c.run_mode.ensures c.in-Err.fault c.in-Err.is c.in_mode.result c.in_mode.ensures in
    ran_first _ _ c.args.window c.args.modes.now.processors c.args.modes.now.modes c.count.ensures.lawful.each _ _ (Err c.in_mode.result) outcome

pub returns-in-Err-clause-risen : goal.returns-in-Err-clause-risen
returns-in-Err-clause-risen g c =
    let next = next_mode c.args.modes.now c.count.ensures.lawful c.loop-j.j c.plan.result.now c.rounds.result c.plan.ensures.value c.rounds.ensures.value in
    let outcome =
    stopped_in _ _ c.args.window c.args.modes.now c.loop-j.j c.plan.result.now c.rounds.result next c.loop-j.runs.items _ _ _ c.loop-j.invariant.ran
    c.run_mode.result c.run_mode.ensures c.in-Err.fault c.in-Err.is c.in_mode.result c.in_mode.ensures in
    names_risen _ _ c.args.window c.args.modes.now.processors c.args.modes.now.modes c.count.ensures.lawful.each
    (record { kits = c.args.kits.now.items; places = c.args.jobs.now.places }) _
    c.requires.kits c.in_mode.result outcome

pub returns-in-Err-clause-back : goal.returns-in-Err-clause-back
returns-in-Err-clause-back g c =
    let next = next_mode c.args.modes.now c.count.ensures.lawful c.loop-j.j c.plan.result.now c.rounds.result c.plan.ensures.value c.rounds.ensures.value in
    let outcome =
    stopped_in _ _ c.args.window c.args.modes.now c.loop-j.j c.plan.result.now c.rounds.result next c.loop-j.runs.items _ _ _ c.loop-j.invariant.ran
    c.run_mode.result c.run_mode.ensures c.in-Err.fault c.in-Err.is c.in_mode.result c.in_mode.ensures in
    are_back _ _ c.args.window c.args.modes.now.modes _ _ (Err c.in_mode.result) outcome

pub returns-in-Err-clause-gates : goal.returns-in-Err-clause-gates
returns-in-Err-clause-gates g c = tt

pub returns-in-Err-clause-whole : goal.returns-in-Err-clause-whole
returns-in-Err-clause-whole g c = tt

pub returns-in-Err-clause-jobs : goal.returns-in-Err-clause-jobs
returns-in-Err-clause-jobs g c = tt

pub loop-j-preserved : goal.loop-j-preserved
loop-j-preserved g c =
    let inv = c.loop-j.invariant in
    let next = next_mode c.args.modes.now c.count.ensures.lawful c.loop-j.j c.plan.result.now c.rounds.result c.plan.ensures.value c.rounds.ensures.value in
    let long = ap length c.push_reserved.ensures.items in
    let more = length-append c.loop-j.runs.items (c.in-Ok.executed ∷ []) in
    let count = inv.count in
    let room = inv.room in
    let same = c.push_reserved.ensures.capacity in
    record {
      count = omega (arith, long, more, count);
      room = omega (arith, room, same);
      ran = ran_more _ _ c.args.window c.args.modes.now c.loop-j.j c.plan.result.now c.rounds.result next c.loop-j.runs.items _ _ _ inv.ran c.run_mode.result
          c.run_mode.ensures
          c.in-Ok.executed c.in-Ok.is c.push_reserved.new.self.items c.push_reserved.ensures.items;
    }

pub invariant_of-result : goal.invariant_of-result
invariant_of-result g c =
    let are = c.count.ensures.lawful in
    let few = few_modes c.args.modes.now.processors are.some_processors c.args.modes.now.modes are.each in
    let rows = are.few_rows in
    let count = c.loop-j.invariant.count in
    let end = c.loop-j.auto.j-end in
    let value = c.count-j-end.ensures.value in
    let fits : length c.loop-j.runs.items ≤ row_limit = omega (arith, few, rows, count, end, value) in
    fits

pub returns-clause-gates : goal.returns-clause-gates
returns-clause-gates g c =
    let past : length c.args.modes.now.modes ≤ c.loop-j.j = omega (arith, c.count-j-end.ensures.value, c.loop-j-test.false) in
    (run_through _ _ c.args.window c.args.modes.now.processors c.args.modes.now.modes c.count.ensures.lawful.each c.loop-j.j c.loop-j.runs.items _ _ past
    c.loop-j.invariant.ran).gates

pub returns-clause-whole : goal.returns-clause-whole
returns-clause-whole g c =
    let past : length c.args.modes.now.modes ≤ c.loop-j.j = omega (arith, c.count-j-end.ensures.value, c.loop-j-test.false) in
    (run_through _ _ c.args.window c.args.modes.now.processors c.args.modes.now.modes c.count.ensures.lawful.each c.loop-j.j c.loop-j.runs.items _ _ past
    c.loop-j.invariant.ran).whole

pub returns-clause-jobs : goal.returns-clause-jobs
returns-clause-jobs g c =
    let past : length c.args.modes.now.modes ≤ c.loop-j.j = omega (arith, c.count-j-end.ensures.value, c.loop-j-test.false) in
    (run_through _ _ c.args.window c.args.modes.now.processors c.args.modes.now.modes c.count.ensures.lawful.each c.loop-j.j c.loop-j.runs.items _ _ past
    c.loop-j.invariant.ran).jobs

pub returns-clause-first : goal.returns-clause-first
returns-clause-first g c =
    let past : length c.args.modes.now.modes ≤ c.loop-j.j = omega (arith, c.count-j-end.ensures.value, c.loop-j-test.false) in
    (run_through _ _ c.args.window c.args.modes.now.processors c.args.modes.now.modes c.count.ensures.lawful.each c.loop-j.j c.loop-j.runs.items _ _ past
    c.loop-j.invariant.ran).first

pub returns-clause-back : goal.returns-clause-back
returns-clause-back g c =
    let past : length c.args.modes.now.modes ≤ c.loop-j.j = omega (arith, c.count-j-end.ensures.value, c.loop-j-test.false) in
    (run_through _ _ c.args.window c.args.modes.now.processors c.args.modes.now.modes c.count.ensures.lawful.each c.loop-j.j c.loop-j.runs.items _ _ past
    c.loop-j.invariant.ran).back

pub returns-clause-risen : goal.returns-clause-risen
returns-clause-risen g c = tt

pub returns-in_err-runs-clause-outcome : goal.returns-in_err-runs-clause-outcome
returns-in_err-runs-clause-outcome g c = refused_outcome _ _ c.args.window c.args.modes.now.modes
    (record { kits = c.args.kits.now.items; places = c.args.jobs.now.places }) c.from_residual.result c.from_residual.ensures.1

pub returns-in_err-runs-clause-gates : goal.returns-in_err-runs-clause-gates
returns-in_err-runs-clause-gates g c = no_answer c.from_residual.result fault.NoMemory _ c.from_residual.ensures.1

pub returns-in_err-runs-clause-whole : goal.returns-in_err-runs-clause-whole
returns-in_err-runs-clause-whole g c = no_answer c.from_residual.result fault.NoMemory _ c.from_residual.ensures.1

pub returns-in_err-runs-clause-jobs : goal.returns-in_err-runs-clause-jobs
returns-in_err-runs-clause-jobs g c = no_answer c.from_residual.result fault.NoMemory _ c.from_residual.ensures.1

pub returns-in_err-runs-clause-first : goal.returns-in_err-runs-clause-first
returns-in_err-runs-clause-first g c =
    let start : CrewHeld g.row.G.Denot _ = record { kits = c.args.kits.now.items; places = c.args.jobs.now.places } in
    ran_first g.G.Gate (record {
      id = λ j. (g.dyn-1.0.entry j.vtable).1.id j.value;
      used = λ j. (g.dyn-1.0.entry j.vtable).1.used j.value;
      faults = λ j. (g.dyn-1.0.entry j.vtable).1.faults j.value;
      made = λ j. (g.dyn-1.0.entry j.vtable).1.made j.value;
    }) c.args.window c.args.modes.now.processors c.args.modes.now.modes c.count.ensures.lawful.each start start c.from_residual.result
    (refused_outcome _ _ c.args.window c.args.modes.now.modes start c.from_residual.result c.from_residual.ensures.1)

pub returns-in_err-runs-clause-risen : goal.returns-in_err-runs-clause-risen
returns-in_err-runs-clause-risen g c = told_fault c.from_residual.result fault.NoMemory _ c.from_residual.ensures.1 tt

pub returns-in_err-runs-clause-back : goal.returns-in_err-runs-clause-back
returns-in_err-runs-clause-back g c =
    let start : CrewHeld g.row.G.Denot _ = record { kits = c.args.kits.now.items; places = c.args.jobs.now.places } in
    are_back _ _ c.args.window c.args.modes.now.modes start start c.from_residual.result
    (refused_outcome _ _ c.args.window c.args.modes.now.modes start c.from_residual.result c.from_residual.ensures.1)

pub loop-j-init : goal.loop-j-init
loop-j-init g c = record {
  count = ap length c.in_ok-runs.ensures.items;
  room = (let capacity = c.in_ok-runs.ensures.capacity in let count = c.count.ensures.value in omega (arith, capacity, count));
  ran = ran_none g.G.Gate (record {
    id = λ j. (g.dyn-1.0.entry j.vtable).1.id j.value;
    used = λ j. (g.dyn-1.0.entry j.vtable).1.used j.value;
    faults = λ j. (g.dyn-1.0.entry j.vtable).1.faults j.value;
    made = λ j. (g.dyn-1.0.entry j.vtable).1.made j.value;
  }) c.args.window c.args.modes.now.modes c.in_ok-runs.runs.items _ c.in_ok-runs.ensures.items;
}

pub overflow_cast-count : goal.overflow_cast-count
overflow_cast-count g c = let fits = c.count.type_inv in omega (arith, fits)

pub push_reserved-requires : goal.push_reserved-requires
push_reserved-requires g c =
    let long = c.loop-j.runs.ok.0 in
    let count = c.loop-j.invariant.count in
    let room = c.loop-j.invariant.room in
    let below = c.loop-j-test.true in
    let end = c.count-j-end.ensures.value in
    omega (arith, long, count, room, below, end)

pub returns-clause-outcome : goal.returns-clause-outcome
returns-clause-outcome g c =
    let past : length c.args.modes.now.modes ≤ c.loop-j.j = omega (arith, c.count-j-end.ensures.value, c.loop-j-test.false) in
    ran_to_end _ _ c.args.window c.args.modes.now.modes c.loop-j.j c.loop-j.runs.items _ _ past c.loop-j.invariant.ran
