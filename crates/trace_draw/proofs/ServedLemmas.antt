-- What the rows at the places of a task did is what the task's rows did.
use Rattle.std.proofs.Common.{ℕ, ◌+◌, ◌≤◌, ◌<◌, ◌≡◌, inl, inr, min, max, List, [], ◌∷◌, cond, eqb, ltb, length, get_or, sym, refl, ap, ◌∙◌, subst, arith}
use Rattle.std.specs.List.{AllByRecursion}
use Rattle.std.proofs.lemmas.Bool.{cases_Bool, cond-true, cond-false}
use Rattle.sched_base.specs.declared.rows.Row.{Row}
use Rattle.sched_base.specs.Rows.{overlap, task_ticks}
use Rattle.trace_format.specs.Finishes.{finish_between}
use Rattle.trace_verdict.specs.declared.entries.Entry.{Entry}
use Rattle.trace_verdict.specs.Orders.{task_key, part, places, IsOrder, IsOrderOfTask}
use Rattle.trace_verdict.specs.Faults.{row_at}
use Rattle.trace_verdict.specs.Supply.{ticks_in}
use Rattle.trace_verdict.proofs.PartLemmas.{all_get, order_has}
use Rattle.trace_verdict.proofs.TickLemmas.{task_part_ticks}
use Rattle.trace_check.specs.Reaches.{reach_before}
use Rattle.trace_check.proofs.ReachLemmas.{finish_reach, reach_mine}
use Rattle.trace_draw.specs.Served.{given_at, reach_at}

-- an entry stands for the row at its place
record StandsFor (rows : List Row) (e : Entry) : Type 0 where
  pub place : e.place < length rows
  pub start : e.start ≡ (row_at rows e.place).start
  pub end : e.end ≡ (row_at rows e.place).end

order_stands : (rows : List Row) (es : List Entry) → IsOrder task_key rows es → AllByRecursion (StandsFor rows) es
order_stands rows es order =
    order_has task_key (StandsFor rows) rows es order (λ i c h e.
    let here : i ≡ 0 + i = omega arith in
    subst (λ w. StandsFor rows (record { key = c; start = (row_at rows i).start; place = w; end = (row_at rows i).end })) here
    (record { place = h; start = refl; end = refl }))

part_stands : (rows : List Row) (j : ℕ) (es : List Entry) → AllByRecursion (StandsFor rows) es → AllByRecursion (StandsFor rows) (part j es)
part_stands rows j [] all = tt
part_stands rows j (e ∷ es) all =
    let rest = part_stands rows j es all.1 in
    elim (cases_Bool (eqb e.key j)) [
      | inl t ↦ subst (AllByRecursion (StandsFor rows)) (sym (cond-true (eqb e.key j) (e ∷ part j es) (part j es) t)) (all.0, rest)
      | inr f ↦ subst (AllByRecursion (StandsFor rows)) (sym (cond-false (eqb e.key j) (e ∷ part j es) (part j es) f)) rest
    ]

within_places : (rows : List Row) (es : List Entry) → AllByRecursion (StandsFor rows) es → AllByRecursion (λ i. i < length rows) (places es)
within_places rows [] all = tt
within_places rows (e ∷ es) all = (all.0.place, within_places rows es all.1)

given_places : (rows : List Row) (a b : ℕ) (es : List Entry) → AllByRecursion (StandsFor rows) es → given_at rows (places es) a b ≡ ticks_in es a b
given_places rows a b [] all = refl
given_places rows a b (e ∷ es) all =
    ap (λ n. overlap n (row_at rows e.place).end a b + given_at rows (places es) a b) (sym all.0.start)
    ∙ (ap (λ n. overlap e.start n a b + given_at rows (places es) a b) (sym all.0.end) ∙ ap (λ n. overlap e.start e.end a b + n) (given_places rows a b es
    all.1))

reach_places : (rows : List Row) (b : ℕ) (es : List Entry) → AllByRecursion (StandsFor rows) es → reach_at rows (places es) b ≡ reach_before es b
reach_places rows b [] all = refl
reach_places rows b (e ∷ es) all =
    ap (λ n. cond (ltb n b) (max (row_at rows e.place).end (reach_at rows (places es) b)) (reach_at rows (places es) b)) (sym all.0.start)
    ∙ (ap (λ n. cond (ltb e.start b) (max n (reach_at rows (places es) b)) (reach_at rows (places es) b)) (sym all.0.end)
    ∙ ap (λ n. cond (ltb e.start b) (max e.end n) n) (reach_places rows b es all.1))

-- each place is that of a row
pub places_within : (rows : List Row) (j : ℕ) (ordered : List ℕ) → IsOrderOfTask rows j ordered → (i : ℕ) → i < length ordered → get_or ordered i 0 < length
    rows
places_within rows j ordered given i h =
    let all = within_places rows (part j given.0) (part_stands rows j given.0 (order_stands rows given.0 given.1)) in
    all_get (λ k. k < length rows) ordered i 0 (subst (AllByRecursion (λ k. k < length rows)) (sym given.2) all) h

-- the ticks
pub task_given : (rows : List Row) (j a b : ℕ) (ordered : List ℕ) → IsOrderOfTask rows j ordered → given_at rows ordered a b ≡ task_ticks rows j a b
task_given rows j a b ordered given =
    let all = part_stands rows j given.0 (order_stands rows given.0 given.1) in
    ap (λ l. given_at rows l a b) given.2 ∙ (given_places rows a b (part j given.0) all ∙ task_part_ticks j a b rows given.0 given.1.same)

-- the end of what was done
pub task_done : (rows : List Row) (j a b : ℕ) (ordered : List ℕ) → IsOrderOfTask rows j ordered → a ≤ b → max a (min b (reach_at rows ordered b))
    ≡ finish_between rows j a b
task_done rows j a b ordered given h =
    let all = part_stands rows j given.0 (order_stands rows given.0 given.1) in
    let reach = ap (λ l. reach_at rows l b) given.2 ∙ (reach_places rows b (part j given.0) all ∙ reach_mine rows j b (part j given.0) (
      given.0,
      given.1,
      refl,
    )) in
    ap (λ n. max a (min b n)) reach ∙ sym (finish_reach rows j a b h)
