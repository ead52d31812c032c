-- The rows of a table, and of a part of it, don't overlap where they have one processor or one task.
use Rattle.std.proofs.Common.{◌≡◌, ℕ, zero, suc, ◌<◌, ◌≤◌, true, List, [], ◌∷◌, ◌++◌, Some, refl, sym, ap, subst, arith, add-one, ◌⊎◌, inl, inr}
use Rattle.std.specs.Prelude.{slice_get}
use Rattle.std.specs.List.{AllByRecursion}
use Rattle.std.proofs.lemmas.Bool.{cases_order}
use Rattle.sched_base.specs.declared.rows.Row.{Row}
use Rattle.sched_base.specs.Rows.{is_of_task, DontOverlap, AllApart}
use Rattle.sched_base.specs.Tables.{RowAt, IsTable, all_rows}
use Rattle.sched_base.proofs.TableLemmas.{row_at, row_within}
use Rattle.sched_base.proofs.TickLemmas.{task_from_is_of_task}

-- what holds at each place holds of each item
AllByRecursion-at : {X : Type 0} (P : X → Type 0) (xs : List X) → ((k : ℕ) (x : X) → slice_get xs k ≡ Some x → P x) → AllByRecursion P xs
AllByRecursion-at P [] h = tt
AllByRecursion-at P (x ∷ xs) h = (h 0 x refl, AllByRecursion-at P xs (λ k y at. h (suc k) y at))

AllByRecursion-append : {X : Type 0} (P : X → Type 0) (xs ys : List X) → AllByRecursion P xs → AllByRecursion P ys → AllByRecursion P (xs ++ ys)
AllByRecursion-append P [] ys a b = b
AllByRecursion-append P (x ∷ xs) ys a b = (a.0, AllByRecursion-append P xs ys a.1 b)

-- each item of the rows of all lanes stands at a place
AllByRecursion-all_rows : (P : Row → Type 0) (lanes : List (List Row)) → ((p k : ℕ) (r : Row) → RowAt lanes p k r → P r) → AllByRecursion P (all_rows lanes)
AllByRecursion-all_rows P [] h = tt
AllByRecursion-all_rows P (lane ∷ lanes) h = AllByRecursion-append P lane (all_rows lanes) (AllByRecursion-at P lane (λ k r at. h 0 k r at))
    (AllByRecursion-all_rows P lanes (λ p k r at. h (suc p) k r at))

-- place (p, k) comes before place (q, j)
abbrev Before : ℕ → ℕ → ℕ → ℕ → Type 0
Before p k q j = (p < q) ⊎ ((p ≡ q) × (k < j))

-- what holds of any two places of a lane, in order, and of its rows and all later ones
AllApart-append : (P : Row → Row → Type 0) (xs ys : List Row) → ((k j : ℕ) (r s : Row) → k < j → slice_get xs k ≡ Some r → slice_get xs j ≡ Some s → P r s)
    → ((k : ℕ) (r : Row) → slice_get xs k ≡ Some r → AllByRecursion (P r) ys) → AllApart P ys → AllApart P (xs ++ ys)
AllApart-append P [] ys within across rest = rest
AllApart-append P (x ∷ xs) ys within across rest = (
  AllByRecursion-append (P x) xs ys (AllByRecursion-at (P x) xs (λ j s at. within 0 (suc j) x s (omega arith) refl at)) (across 0 x refl),
  AllApart-append P xs ys (λ k j r s lt at there. within (suc k) (suc j) r s (omega arith) at there) (λ k r at. across (suc k) r at) rest,
)

-- what holds of any two places in order holds of any two rows
AllApart-all_rows : (P : Row → Row → Type 0) (lanes : List (List Row)) → ((p k q j : ℕ) (r s : Row) → Before p k q j → RowAt lanes p k r →
    RowAt lanes q j s → P r s) → AllApart P (all_rows lanes)
AllApart-all_rows P [] h = tt
AllApart-all_rows P (lane ∷ lanes) h = AllApart-append P lane (all_rows lanes)
    (λ k j r s lt at there. h 0 k 0 j r s (inr (refl, lt)) at there)
    (λ k r at. AllByRecursion-all_rows (P r) lanes (λ q j s there. h 0 k (suc q) j r s (inl (omega arith)) at there))
    (AllApart-all_rows P lanes (λ p k q j r s before at there. h (suc p) k (suc q) j r s
    (elim before [ inl lt ↦ inl (omega arith) | inr same ↦ inr (ap suc same.0, same.1) ]) at there))

-- the rows of an earlier round end by the time that those of a later one start
pub earlier_ends : (lanes : List (List Row)) → IsTable lanes → (p q k j : ℕ) (r s : Row) → k < j → RowAt lanes p k r → RowAt lanes q j s → r.end ≤ s.start
earlier_ends lanes h p q k zero r s lt at there = absurd (omega arith)
earlier_ends lanes h p q k (suc j) r s lt at there =
    let inside = row_within lanes h q (suc j) s there in
    let last = row_at lanes h q j inside.0 (omega (arith, inside.1)) in
    let next : s.start ≡ last.0.end = h.next q j last.0 s last.1 (rw add-one there) in
    elim (cases_order k j) [
      | inl same ↦ (
          let together = h.together p q j r last.0 (subst (λ n. RowAt lanes p n r) same at) last.1 in
          omega (arith, together.1, next)
          )
      | inr rest ↦ elim rest [
        | inl earlier ↦ (
            let before = earlier_ends lanes h p q k j r last.0 earlier at last.1 in
            let some = (h.forward q j last.0 last.1).0 in
            omega (arith, before, some, next)
            )
        | inr later ↦ absurd (omega arith)
      ]
    ]

module _ (lanes part : List (List Row)) (h : IsTable lanes) (within : (p k : ℕ) (r : Row) → RowAt part p k r → RowAt lanes p k r) where
  -- no processor has two rows of the part at once
  pub processors_apart : AllApart (λ r s. r.processor ≡ s.processor → DontOverlap r s) (all_rows part)
  processors_apart = AllApart-all_rows (λ r s. r.processor ≡ s.processor → DontOverlap r s) part (λ p k q j r s before at there same.
      let p_is = h.own p k r (within p k r at) in
      let q_is = h.own q j s (within q j s there) in
      elim before [
        | inl lt ↦ absurd (omega (arith, p_is, q_is))
        | inr later ↦ inl (earlier_ends lanes h p q k j r s later.1 (within p k r at) (within q j s there))
      ])

  -- no task has two rows of the part at once
  pub tasks_apart : AllApart (λ r s. (t : ℕ) → is_of_task t r.leaf ≡ true → is_of_task t s.leaf ≡ true → DontOverlap r s) (all_rows part)
  tasks_apart = AllApart-all_rows (λ r s. (t : ℕ) → is_of_task t r.leaf ≡ true → is_of_task t s.leaf ≡ true → DontOverlap r s) part
      (λ p k q j r s before at there t is is'.
      let at' = within p k r at in
      let there' = within q j s there in
      elim (cases_order k j) [
        | inl same ↦ (
            let one : p ≡ q = h.once p q k r s (record { 0 = t }) at' (subst (λ n. RowAt lanes q n s) (sym same) there') (task_from_is_of_task t r.leaf is)
            (task_from_is_of_task t s.leaf is') in
            elim before [ inl lt ↦ absurd (omega (arith, one)) | inr later ↦ absurd (omega (arith, later.1, same)) ]
            )
        | inr rest ↦ elim rest [
          | inl lt ↦ inl (earlier_ends lanes h p q k j r s lt at' there')
          | inr gt ↦ inr (earlier_ends lanes h q p j k s r gt there' at')
        ]
      ])
