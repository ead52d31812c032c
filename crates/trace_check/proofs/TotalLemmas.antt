-- The totals of rows with one row more.
use Rattle.std.proofs.Common.{ℕ, ◌+◌, ◌-◌, ◌*◌, ◌^◌, ◌<◌, ◌≤◌, ◌≡◌, inl, inr, eqb, true, false, List, [], ◌∷◌, ◌++◌, Some, length, refl, ap, subst, ◌∙◌, arith}
use Rattle.std.proofs.lemmas.Bool.{cases_Bool, eqb-true, leb-true}
use Rattle.sched_base.specs.Counting.{bit}
use Rattle.sched_base.specs.declared.rows.Leaf.{Leaf}
use Rattle.sched_base.specs.declared.rows.Leaf.TheVariants as leaves
use Rattle.sched_base.specs.declared.rows.Row.{Row}
use Rattle.sched_base.specs.declared.sets.Task.{Task}
use Rattle.sched_base.specs.Rows.{is_of_task}
use Rattle.sched_base.specs.Tables.{row_ticks, ticks_in}
use Rattle.row_totals.specs.Sums.{IsAmong, Adds, HaveRoomFor}
use Rattle.row_totals.proofs.SumLemmas.{ticks_in-append}
use Rattle.trace_verdict.specs.Orders.{leaf_key}
use Rattle.trace_check.specs.RowLines.{total_fits, AreTotals, IsRead}

pub known_among : (n : ℕ) (leaf : Leaf) → ((j : ℕ) → leaf_key leaf ≡ Some j → j < n) → IsAmong n leaf
known_among n (leaves.Task id) known = known id.0 refl
known_among n (leaves.Wait id) known = tt
known_among n (leaves.Idle number) known = tt
known_among n leaves.Empty known = tt

other_ticks : (j : ℕ) (r : Row) → is_of_task j r.leaf ≡ false → row_ticks j r ≡ 0
other_ticks j r other = ap (λ b. bit b * (r.end - r.start)) other ∙ (let e : 0 * (r.end - r.start) ≡ 0 = omega arith in e)

own_ticks : (j : ℕ) (r : Row) → is_of_task j r.leaf ≡ true → row_ticks j r ≡ r.end - r.start
own_ticks j r own = ap (λ b. bit b * (r.end - r.start)) own ∙ (let e : 1 * (r.end - r.start) ≡ r.end - r.start = omega arith in e)

leaf_fits : (done : List Row) (r : Row) (j : ℕ) (leaf : Leaf) → r.leaf ≡ leaf → ticks_in j done < 2 ^ 127 → total_fits done (r.end - r.start) leaf ≡ true
    → ticks_in j done + row_ticks j r < 2 ^ 127
leaf_fits done r j (leaves.Task id) is below fits =
    elim (cases_Bool (eqb id.0 j)) [
      | inl t ↦ (
          let within : ticks_in id.0 done + (r.end - r.start) ≤ 2 ^ 127 - 1 = leb-true _ _ fits in
          let here : ticks_in j done + (r.end - r.start) ≤ 2 ^ 127 - 1 = subst (λ (n : ℕ). ticks_in n done + (r.end - r.start) ≤ 2 ^ 127 - 1)
          (eqb-true id.0 j t) within in
          let own = own_ticks j r (ap (is_of_task j) is ∙ t) in
          omega (arith, here, own))
      | inr f ↦ (let none = other_ticks j r (ap (is_of_task j) is ∙ f) in omega (arith, below, none))
    ]
leaf_fits done r j (leaves.Wait id) is below fits = let none = other_ticks j r (ap (is_of_task j) is) in omega (arith, below, none)
leaf_fits done r j (leaves.Idle number) is below fits = let none = other_ticks j r (ap (is_of_task j) is) in omega (arith, below, none)
leaf_fits done r j leaves.Empty is below fits = let none = other_ticks j r (ap (is_of_task j) is) in omega (arith, below, none)

-- a row that was read leaves each total within its limit
total_fits_more : (tasks : List Task) (done : List Row) (r : Row) (totals : List ℕ) (j : ℕ) → AreTotals done totals → IsRead tasks done r → j < length totals
    → ticks_in j done + row_ticks j r < 2 ^ 127
total_fits_more tasks done r totals j are read within =
    let was = are j within in
    leaf_fits done r j r.leaf refl (omega (arith, was.0, was.1)) read.total

pub room_more : (tasks : List Task) (done : List Row) (r : Row) (totals : List ℕ) → AreTotals done totals → IsRead tasks done r → HaveRoomFor (r ∷ []) totals
room_more tasks done r totals are read j within =
    let was = are j within in
    let fits = total_fits_more tasks done r totals j are read within in
    omega (arith, was.0, fits)

pub totals_more : (tasks : List Task) (done : List Row) (r : Row) (old new : List ℕ) → AreTotals done old → IsRead tasks done r → length new ≡ length old
    → Adds (r ∷ []) old new → AreTotals (done ++ r ∷ []) new
totals_more tasks done r old new are read long adds j inside =
    let within : j < length old = omega (arith, inside, long) in
    let was = are j within in
    let fits = total_fits_more tasks done r old j are read within in
    let one = adds j within in
    let both = ticks_in-append j done (r ∷ []) in
    (omega (arith, was.0, one, both), omega (arith, was.0, one, fits))
