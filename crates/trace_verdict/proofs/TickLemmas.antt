-- The ticks of a task's rows, by its part of the sorted entries.
use Rattle.std.proofs.Common.{ℕ, ◌+◌, ◌*◌, ◌<◌, ◌≤◌, ◌≡◌, inl, inr, false, List, [], ◌∷◌, cond, eqb, sym, refl, ap, ◌∙◌, subst, arith}
use Rattle.std.specs.List.{AllByRecursion, IsDistinct, sum_by}
use Rattle.std.specs.List.Sorted.{IsPermutation}
use Rattle.std.proofs.lemmas.Bool.{cases_lt, cases_eq, cases_Bool, both_ways, eqb-true, eq-eqb, false_from_ne_true, cond-false}
use Rattle.std.proofs.lemmas.List.Sorted.{sum_by-IsPermutation}
use Rattle.std.proofs.lemmas.List.Sums.{sum_by-append, sum_by-cons}
use Rattle.sched_base.specs.declared.rows.Row.{Row}
use Rattle.sched_base.specs.declared.rows.Leaf.{Leaf}
use Rattle.sched_base.specs.declared.rows.Leaf.TheVariants as leaves
use Rattle.sched_base.specs.Counting.{bit}
use Rattle.sched_base.specs.Rows.{overlap, is_of_task, task_ticks}
use Rattle.trace_verdict.specs.Orders.{leaf_key, task_key, entry_of, entries_from, part}
use Rattle.trace_verdict.specs.Overlaps.{clash}
use Rattle.trace_verdict.specs.Searches.{IsWithin}
use Rattle.trace_verdict.specs.declared.entries.Entry.{Entry}
use Rattle.trace_verdict.specs.Supply.{ticks_in, Follows}
use Rattle.trace_verdict.proofs.OverlapLemmas.{Before, Rising, clash_from}

abbrev pub entry_ticks : ℕ → ℕ → ℕ → Entry → ℕ
entry_ticks j a b e = bit (eqb e.key j) * overlap e.start e.end a b

pub one_row : (j a b : ℕ) (r : Row) (i : ℕ) (leaf : Leaf) → sum_by (entry_ticks j a b) (entry_of (leaf_key leaf) r i) ≡ bit (is_of_task j leaf) * overlap
    r.start r.end a b
one_row j a b r i (leaves.Task id) = omega arith
one_row j a b r i (leaves.Wait id) = omega arith
one_row j a b r i (leaves.Idle k) = omega arith
one_row j a b r i leaves.Empty = omega arith

pub rows_ticks : (j a b i : ℕ) (rows : List Row) → sum_by (entry_ticks j a b) (entries_from task_key i rows) ≡ task_ticks rows j a b
rows_ticks j a b i [] = refl
rows_ticks j a b i (r ∷ rs) =
    let one = one_row j a b r i r.leaf in
    let rest = rows_ticks j a b (i + 1) rs in
    let split = sum_by-append (entry_ticks j a b) (entry_of (leaf_key r.leaf) r i) (entries_from task_key (i + 1) rs) in
    omega (arith, one, rest, split)

pub part_ticks : (j a b : ℕ) (es : List Entry) → ticks_in (part j es) a b ≡ sum_by (entry_ticks j a b) es
part_ticks j a b [] = refl
part_ticks j a b (e ∷ es) =
    let rest = part_ticks j a b es in
    let cons = sum_by-cons (entry_ticks j a b) e es in
    elim (cases_Bool (eqb e.key j)) [
      | inl yes_key ↦ (
          let here : ticks_in (part j (e ∷ es)) a b ≡ overlap e.start e.end a b + ticks_in (part j es) a b =
          ap (λ t. ticks_in (cond t (e ∷ part j es) (part j es)) a b) yes_key in
          let one = ap (λ t. bit t * overlap e.start e.end a b) yes_key in
          omega (arith, here, rest, one, cons))
      | inr other ↦ (
          let here : ticks_in (part j (e ∷ es)) a b ≡ ticks_in (part j es) a b = ap (λ t. ticks_in (cond t (e ∷ part j es) (part j es)) a b) other in
          let one = ap (λ t. bit t * overlap e.start e.end a b) other in
          omega (arith, here, rest, one, cons))
    ]

-- a task's part of the entries has just the ticks of its rows
pub task_part_ticks : (j a b : ℕ) (rows : List Row) (es : List Entry) → IsPermutation (entries_from task_key 0 rows) es → ticks_in (part j es) a
    b ≡ task_ticks rows j a b
task_part_ticks j a b rows es p = part_ticks j a b es ∙ (sum_by-IsPermutation (entry_ticks j a b) (entries_from task_key 0 rows) es p ∙ rows_ticks j a b 0 rows)

-- every entry of key j starts at x or later
abbrev pub Starts : ℕ → ℕ → List Entry → Type 0
Starts j x es = AllByRecursion (λ e. e.key ≡ j → x ≤ e.start) es

pub starts_after : (n stop : ℕ) (base : ℕ → ℕ) (j : ℕ) (e : Entry) (es : List Entry) → e.key ≡ j → IsWithin n stop base e →
    AllByRecursion (IsWithin n stop base) es
    → AllByRecursion (Before e) es → AllByRecursion (λ f. clash n e f ≡ false) es → Starts j e.end es
starts_after n stop base j e [] k w all up d = tt
starts_after n stop base j e (f ∷ es) k w all up d = (
  (λ same. elim (cases_lt f.start e.end) [
    | inr le ↦ le
    | inl over ↦ (elim up.0 [
      | inl less ↦ absurd (omega (arith, k, same, less))
      | inr level ↦ absurd (both_ways _ d.0 (clash_from n e f w.place all.0.place level.0 (omega (arith, level.1, all.0.long)) over))
    ])
  ]),
  starts_after n stop base j e es k w all.1 up.1 d.1,
)

pub follows_part : (n stop : ℕ) (base : ℕ → ℕ) (j x : ℕ) (es : List Entry) → x ≤ stop → AllByRecursion (IsWithin n stop base) es → Rising es →
    IsDistinct (clash n) es → Starts j x es → Follows stop x (part j es)
unfolding IsDistinct
follows_part n stop base j x [] h all rise d st = h
follows_part n stop base j x (e ∷ es) h all rise d st =
    elim (cases_eq e.key j) [
      | inl same ↦ (
          let rest = follows_part n stop base j e.end es all.0.ends all.1 rise.1 d.1 (starts_after n stop base j e es same all.0 all.1 rise.0 d.0) in
          subst (λ t. Follows stop x (cond t (e ∷ part j es) (part j es))) (sym (eq-eqb _ _ same)) (st.0 same, all.0.long, rest))
      | inr other ↦ (
          let rest = follows_part n stop base j x es h all.1 rise.1 d.1 st.1 in
          subst (λ t. Follows stop x (cond t (e ∷ part j es) (part j es))) (sym (false_from_ne_true _ (λ t. other (eqb-true _ _ t)))) rest)
    ]

pub starts_at_base : (n stop : ℕ) (base : ℕ → ℕ) (j : ℕ) (es : List Entry) → AllByRecursion (IsWithin n stop base) es → Starts j (base j) es
starts_at_base n stop base j [] all = tt
starts_at_base n stop base j (e ∷ es) all = ((λ same. subst (λ w. base w ≤ e.start) same all.0.begins), starts_at_base n stop base j es all.1)

pub no_part : (n stop : ℕ) (base : ℕ → ℕ) (j : ℕ) (es : List Entry) → AllByRecursion (IsWithin n stop base) es → stop < base j → part j es ≡ []
no_part n stop base j [] all h = refl
no_part n stop base j (e ∷ es) all h =
    let ne : eqb e.key j ≡ false = false_from_ne_true _ (λ t. (
    let b = subst (λ w. base w ≤ e.start) (eqb-true _ _ t) all.0.begins in
    absurd (omega (arith, b, all.0.long, all.0.ends, h)))) in
    cond-false _ _ _ ne ∙ no_part n stop base j es all.1 h
