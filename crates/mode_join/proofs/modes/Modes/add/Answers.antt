use Rattle.std.proofs.Common.{rules, ◌≡◌, ◌+◌, ◌*◌, ◌≤◌, ◌<◌, ◌^◌, ◌++◌, ◌∷◌, [], length, refl, sym, ap, ◌∙◌, arith}
use Rattle.std.proofs.lemmas.Result.{IfOk-from_err, MatchResult-from_err, err_from_is_err_and}
use Rattle.std.proofs.lemmas.List.Sums.{sum_by_push}
use Rattle.sched_base.specs.Sets.{SetContents}
use Rattle.sched_base.specs.Tables.{row_limit}
use Rattle.mode_join.specs.declared.mode.Mode.{Mode}
use Rattle.mode_join.specs.Joining.{rows_of}
use Rattle.mode_join.specs.Modes.{AreModes, IsMode, sets_of}
use Rattle.mode_join.proofs.ModeLemmas.{units_of, all_rows_of}
use Rattle.mode_join.proofs.ModeLemmas.{few_modes, small_end, mode_made, modes_push, overload_next, too_long_next}
use Rattle.mode_join.proofs.modes.Modes.add.Goals.{After-len-mode, In_ok-push}
use Rattle.mode_join.proofs.modes.Modes.add.Goals as goal

pub overflow_cast-mode : goal.overflow_cast-mode
overflow_cast-mode c =
    let are = c.self.invariant.0 in
    let few = few_modes c.self.inside.processors are.some_processors c.self.inside.modes.items are.each in
    let rows = are.few_rows in
    let short : length c.self.inside.modes.items < 2 ^ 32 = omega (arith, few, rows) in
    search rules

number : (c : After-len-mode) → c.len-mode.result ≡ length c.self.inside.modes.items
number c = search rules

pub returns-in-Some-clause-refused : goal.returns-in-Some-clause-refused
returns-in-Some-clause-refused c =
    let n = number (goal.at.returns-in-Some-clause-refused c).After-len-mode in
    rw (← c.self.view_is) (n, c.in-Some.ensures.some (sets_of c.self.inside.modes.items))

pub returns-in_err-plan-clause-refused : goal.returns-in_err-plan-clause-refused
returns-in_err-plan-clause-refused c =
    let n = number (goal.at.returns-in_err-plan-clause-refused c).After-len-mode in
    let why = err_from_is_err_and c.from_residual.result c.from_residual.ensures.1 in
    rw (← c.self.view_is) (rw (why.1, why.2)
    (overload_next c.self.inside.processors c.self.inside.modes.items c.args.set c.in_default.ensures.none c.len-mode.result n _ c.in_err-plan.ensures.refused))

pub returns-in_err-rounds-clause-refused : goal.returns-in_err-rounds-clause-refused
returns-in_err-rounds-clause-refused c =
    let n = number (goal.at.returns-in_err-rounds-clause-refused c).After-len-mode in
    let why = err_from_is_err_and c.from_residual-in_err-rounds.result c.from_residual-in_err-rounds.ensures.1 in
    rw (← c.self.view_is) (rw (why.1, why.2)
    (too_long_next c.self.inside.processors c.self.inside.modes.items c.self.invariant.0.each c.args.set c.in_default.ensures.none c.in_ok-plan.plan
    c.in_ok-plan.ensures.plan
    c.in_ok-plan.ensures.fits c.self.inside.rows c.len-mode.result c.self.invariant.1 n _ c.in_err-rounds.ensures.refused))

module _ (c : In_ok-push) where
  abbrev mode : Mode
  mode = record { plan = c.in_ok-plan.plan; rounds = c.in_ok-rounds.rounds; start = c.self.inside.end }

  is_mode : IsMode c.self.inside.processors mode
  is_mode = mode_made c.self.inside.processors c.args.set c.in_ok-plan.plan c.in_ok-rounds.rounds c.self.inside.end c.in_default.ensures.none
      c.set.ensures.lawful c.in_ok-plan.ensures.plan
      c.in_ok-plan.ensures.fits c.in_ok-rounds.ensures.count.0 c.in_ok-rounds.ensures.some

  items : c.push.new.self.items ≡ c.self.inside.modes.items ++ mode ∷ []
  items = c.in_ok-push.ensures.items

  width : c.in_ok-plan.plan.set.processors ≡ c.self.inside.processors
  width = is_mode.can_join.same_processors

  rows : c.in_ok-rounds.rounds * c.self.inside.processors ≡ rows_of c.in_ok-plan.plan
  rows = ap (λ w. c.in_ok-rounds.rounds * w) (sym width) ∙ ap (λ n. n * c.in_ok-plan.plan.set.processors) c.in_ok-rounds.ensures.count.0

  few : all_rows_of c.self.inside.modes.items + rows_of c.in_ok-plan.plan ≤ row_limit
  few =
      let most : c.self.inside.rows + c.in_ok-rounds.rounds * c.in_ok-plan.plan.set.processors ≤ row_limit = c.in_ok-rounds.ensures.count.1 in
      let same : c.in_ok-rounds.rounds * c.in_ok-plan.plan.set.processors ≡ rows_of c.in_ok-plan.plan = ap (λ n. n * c.in_ok-plan.plan.set.processors)
      c.in_ok-rounds.ensures.count.0 in
      let so_far : c.self.inside.rows ≡ all_rows_of c.self.inside.modes.items = c.self.invariant.1 in
      omega (arith, most, same, so_far)

  are : AreModes (record { processors = c.self.inside.processors; modes = c.push.new.self.items })
  are = rw items (modes_push c.self.inside.processors c.self.inside.modes.items mode c.self.invariant.0 is_mode c.self.invariant.2 few)

  horizon : c.horizon-horizon.result ≡ c.in_ok-plan.plan.set.horizon
  horizon = c.horizon-horizon.ensures.value ∙ ap (λ (s : SetContents). s.horizon) c.set.ensures.value

pub overflow_add-self-2 : goal.overflow_add-self-2
overflow_add-self-2 c =
    let after = (goal.at.overflow_add-self-2 c).In_ok-push in
    let small = small_end (record { processors = c.self.inside.processors; modes = c.self.inside.modes.items }) c.self.invariant.0 in
    let end = c.self.invariant.2 in
    let more = horizon after in
    let fits = (is_mode after).lawful.lawful.horizon_fits in
    omega (arith, small, end, more, fits)

pub invariant_of-self-2 : goal.invariant_of-self-2
invariant_of-self-2 c =
    let after = (goal.at.invariant_of-self-2 c).In_ok-push in
    let all = sum_by_push (λ (x : Mode). rows_of x.plan) c.self.inside.modes.items (mode after) in
    let units = sum_by_push (λ (x : Mode). x.plan.set.horizon) c.self.inside.modes.items (mode after) in
    let moved = ap all_rows_of (items after) in
    let moved' = ap units_of (items after) in
    let row = rows after in
    let by : c.in_ok-rounds.rounds * c.from.result ≡ c.in_ok-rounds.rounds * c.self.inside.processors = ap (λ w. c.in_ok-rounds.rounds * w) c.from.ensures in
    let so_far = c.self.invariant.1 in
    let end = c.self.invariant.2 in
    let more = horizon after in
    (are after, omega (arith, all, moved, row, by, so_far), omega (arith, units, moved', end, more))

pub returns-clause-ok : goal.returns-clause-ok
returns-clause-ok c =
    let after = (goal.at.returns-clause-ok c).In_ok-push in
    rw (← c.self.view_is) (mode after, c.in_ok-plan.ensures.plan.set, λ i. record { processors = c.self.inside.processors; modes = items after i })

pub returns-clause-lawful : goal.returns-clause-lawful
returns-clause-lawful c = are (goal.at.returns-clause-lawful c).In_ok-push

pub returns-in_err-plan-clause-ok : goal.returns-in_err-plan-clause-ok
returns-in_err-plan-clause-ok c = IfOk-from_err _ _ c.from_residual.ensures.0

pub returns-in_err-plan-clause-lawful : goal.returns-in_err-plan-clause-lawful
returns-in_err-plan-clause-lawful c = IfOk-from_err _ _ c.from_residual.ensures.0

pub returns-in_err-rounds-clause-ok : goal.returns-in_err-rounds-clause-ok
returns-in_err-rounds-clause-ok c = IfOk-from_err _ _ c.from_residual-in_err-rounds.ensures.0

pub returns-in_err-rounds-clause-lawful : goal.returns-in_err-rounds-clause-lawful
returns-in_err-rounds-clause-lawful c = IfOk-from_err _ _ c.from_residual-in_err-rounds.ensures.0

pub returns-in_err-push-clause-ok : goal.returns-in_err-push-clause-ok
returns-in_err-push-clause-ok c = IfOk-from_err _ _ c.from_residual-in_err-push.ensures.0

pub returns-in_err-push-clause-lawful : goal.returns-in_err-push-clause-lawful
returns-in_err-push-clause-lawful c = IfOk-from_err _ _ c.from_residual-in_err-push.ensures.0

pub plan_of-requires : goal.plan_of-requires
plan_of-requires c = c.in_default.ensures.none.can_repeat.whole_periods

pub rounds_after-requires : goal.rounds_after-requires
rounds_after-requires c =
    let few = c.self.invariant.0.few_rows in
    let so_far = c.self.invariant.1 in
    omega (arith, few, so_far)

pub returns-in_err-push-clause-refused : goal.returns-in_err-push-clause-refused
returns-in_err-push-clause-refused c =
    let why = err_from_is_err_and c.from_residual-in_err-push.result c.from_residual-in_err-push.ensures.1 in
    rw (why.1, why.2) tt

pub overflow_mul-self : goal.overflow_mul-self
overflow_mul-self c =
    let after = (goal.at.overflow_mul-self c).In_ok-push in
    let by : c.in_ok-rounds.rounds * c.from.result ≡ c.in_ok-rounds.rounds * c.self.inside.processors = ap (λ w. c.in_ok-rounds.rounds * w) c.from.ensures in
    let row = rows after in
    let most = few after in
    omega (arith, by, row, most)

pub overflow_add-self : goal.overflow_add-self
overflow_add-self c =
    let after = (goal.at.overflow_add-self c).In_ok-push in
    let by : c.in_ok-rounds.rounds * c.from.result ≡ c.in_ok-rounds.rounds * c.self.inside.processors = ap (λ w. c.in_ok-rounds.rounds * w) c.from.ensures in
    let row = rows after in
    let most = few after in
    let so_far = c.self.invariant.1 in
    omega (arith, by, row, most, so_far)

pub same-self : goal.same-self
same-self c = refl

pub same-self-in_err-plan : goal.same-self-in_err-plan
same-self-in_err-plan c = refl

pub same-self-in_err-rounds : goal.same-self-in_err-rounds
same-self-in_err-rounds c = refl

pub returns-in-Some-clause-err : goal.returns-in-Some-clause-err
returns-in-Some-clause-err c = refl

pub returns-in_err-plan-clause-err : goal.returns-in_err-plan-clause-err
returns-in_err-plan-clause-err c = MatchResult-from_err _ _ _ c.from_residual.ensures.0 (λ _. refl)

pub returns-in_err-rounds-clause-err : goal.returns-in_err-rounds-clause-err
returns-in_err-rounds-clause-err c = MatchResult-from_err _ _ _ c.from_residual-in_err-rounds.ensures.0 (λ _. refl)
