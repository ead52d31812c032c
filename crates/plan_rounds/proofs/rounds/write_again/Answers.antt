use Rattle.std.proofs.Common.{◌≡◌, ℕ, ◌+◌, ◌*◌, ◌<◌, ◌≤◌, min, inl, inr, Some, ap, arith, length, set, slice_get, subst, sym, ◌-◌, ◌∙◌}
use Rattle.std.proofs.lemmas.Bool.{cases_eq}
use Rattle.sched_base.specs.declared.rows.Leaf.{Leaf}
use Rattle.sched_base.specs.declared.rows.Row.{Row}
use Rattle.sched_base.specs.Tables.{RowAt}
use Rattle.event_core.specs.Rounds.{IsRoundUpTo}
use Rattle.event_core.proofs.PlanRounds.{stop_fits}
use Rattle.plan_rounds.proofs.AgainLemmas.{slice_get-set_same, slice_get-set_other, again_ends_at, again_few, again_place, again_round}
use Rattle.plan_rounds.proofs.AgainLemmas.{again_shows_at, again_wide, ended, rows_are}
use Rattle.plan_rounds.proofs.rounds.write_again.Goals as goal

pub overflow_sub-k : goal.overflow_sub-k
overflow_sub-k c = again_few c.args.plan.now c.know_lawful.ensures.lawful _ c.requires.rounds c.args.again c.requires.rounds.again c.requires.past
    c.requires.left c.table-old.result.now c.rounds.result c.table-old.ensures c.rounds.ensures.value

pub row-requires-clause-round : goal.row-requires-clause-round
row-requires-clause-round c =
    again_place c.args.plan.now c.know_lawful.ensures.lawful _ c.requires.rounds c.args.again c.requires.rounds.again c.requires.past c.requires.left
    c.table-old.result.now c.rounds.result c.table-old.ensures c.rounds.ensures.value

pub overflow_add-row : goal.overflow_add-row
overflow_add-row c =
    let p = c.args.plan.now in
    let h = c.know_lawful.ensures.lawful in
    let some = h.sized.some_processors in
    let ends = again_ends_at p h _ c.requires.rounds c.args.again c.requires.rounds.again c.requires.past c.requires.left c.table-old.result.now
    c.rounds.result c.table-old.ensures c.rounds.ensures.value
    0 c.row.result (omega (arith, some)) c.row.ensures.value in
    let below = (ended p h _ c.requires.rounds c.args.again c.requires.rounds.again c.requires.past c.requires.left).1.below in
    let fits = stop_fits p h in
    let early = c.requires.rounds.early in
    let past = c.requires.past in
    omega (arith, ends, below, fits, early, past)

pub row-leaf-requires-clause-round : goal.row-leaf-requires-clause-round
row-leaf-requires-clause-round c =
    again_place c.args.plan.now c.know_lawful.ensures.lawful _ c.requires.rounds c.args.again c.requires.rounds.again c.requires.past c.requires.left
    c.table-old.result.now c.rounds.result c.table-old.ensures c.rounds.ensures.value

pub bounds-rows-p : goal.bounds-rows-p
bounds-rows-p c =
    let wide = again_wide c.args.plan.now c.know_lawful.ensures.lawful _ c.requires.rounds c.args.again c.requires.rounds.again c.requires.past
    c.requires.left c.table-old.result.now c.rounds.result c.table-old.ensures c.rounds.ensures.value in
    let end = c.processors-p-end.ensures.value in
    let width = c.requires.rounds.width in
    let same = c.loop-p.auto.rows in
    let on = c.loop-p-test.true in
    omega (arith, wide, end, width, same, on)

pub loop-p-preserved : goal.loop-p-preserved
loop-p-preserved c = λ q l.
    let wide = again_wide c.args.plan.now c.know_lawful.ensures.lawful _ c.requires.rounds c.args.again c.requires.rounds.again c.requires.past
    c.requires.left c.table-old.result.now c.rounds.result c.table-old.ensures c.rounds.ensures.value in
    let all = c.processors-p-end.ensures.value in
    let width = c.requires.rounds.width in
    let same_long = c.loop-p.auto.rows in
    let on = c.loop-p-test.true in
    let written : Row = record { processor = c.loop-p.p; leaf = c.row-leaf.result.leaf; start = c.args.start; end = c.min-end.result } in
    elim (cases_eq q c.loop-p.p) [
      | inl same ↦ subst (λ (k : ℕ). (row : Row) × RowAt c.table-old.result.now.lanes k (c.rounds.result - c.args.again.rounds) row
          × (slice_get (set c.loop-p.rows c.loop-p.p written) k ≡ Some
          (record { processor = k; leaf = row.leaf; start = c.args.start; end = c.min-end.result }))) (sym same)
          (c.row-leaf.result, c.row-leaf.ensures.value, slice_get-set_same c.loop-p.rows c.loop-p.p written (omega (arith, wide, all, width, same_long, on)))
      | inr other ↦
          (let (row, at, is) = c.loop-p.invariant q (omega (arith, l, other)) in
          (row, at, slice_get-set_other c.loop-p.rows c.loop-p.p q written other ∙ is))
    ]

pub returns-clause-round : goal.returns-clause-round
returns-clause-round c =
    let p = c.args.plan.now in
    let h = c.know_lawful.ensures.lawful in
    let some = h.sized.some_processors in
    let ends = again_ends_at p h _ c.requires.rounds c.args.again c.requires.rounds.again c.requires.past c.requires.left c.table-old.result.now
    c.rounds.result c.table-old.ensures c.rounds.ensures.value
    0 c.row.result (omega (arith, some)) c.row.ensures.value in
    let round = again_round p h _ c.requires.rounds c.args.again c.requires.rounds.again c.requires.past c.requires.left in
    let is = c.min-end.ensures ∙ ap (λ n. min (n + c.args.again.ticks) c.rounds_end.result) ends
    ∙ ap (λ n. min ((ended p h _ c.requires.rounds c.args.again c.requires.rounds.again c.requires.past c.requires.left).0 + c.args.again.ticks) n)
    c.rounds_end.ensures.value in
    subst (λ (n : ℕ). IsRoundUpTo p c.args.start n) (sym is) round

pub returns-clause-rows : goal.returns-clause-rows
returns-clause-rows c =
    let p = c.args.plan.now in
    let h = c.know_lawful.ensures.lawful in
    let wide = again_wide p h _ c.requires.rounds c.args.again c.requires.rounds.again c.requires.past c.requires.left c.table-old.result.now
    c.rounds.result c.table-old.ensures c.rounds.ensures.value in
    let all = c.processors-p-end.ensures.value in
    let off = c.loop-p-test.false in
    let start = c.args.start in
    let end = c.min-end.result in
    rows_are p h start end c.loop-p.rows (c.loop-p.auto.rows ∙ c.requires.rounds.width) (λ q inside.
    let (row, at, is) = c.loop-p.invariant q (omega (arith, wide, all, off, inside)) in
    let shows = again_shows_at p h _ c.requires.rounds c.args.again c.requires.rounds.again c.requires.past c.requires.left c.table-old.result.now
    c.rounds.result c.table-old.ensures c.rounds.ensures.value q end row inside at in
    is ∙ ap (λ (l : Leaf). Some (record { processor = q; leaf = l; start = start; end = end })) shows)
