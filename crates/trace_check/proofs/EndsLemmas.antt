-- The ends that are kept of a task's rows, as rows are taken in.
use Rattle.std.proofs.Common.{zero, suc, ℕ, ◌+◌, ◌-◌, ◌*◌, ◌/◌, ◌<◌, ◌≤◌, ◌≡◌, ◌&&◌, inl, inr, max, ltb, Bool, true, false, cond, take, List, [], ◌∷◌}
use Rattle.std.proofs.Common.{◌++◌, length, length-append, get_or, set, replicate, sym, refl, ap, ◌∙◌, subst, arith}
use Rattle.std.proofs.Math.Nat.{mul-le-mul_right, lt-div-mul-add, div-mul-le_self, add-mul, mul_assoc}
use Rattle.std.proofs.Math.Seq.{take-suc}
use Rattle.std.proofs.lemmas.Bool.{cases_lt, cases_eq, eq-eqb, ne_eqb, lt-ltb, le-ltb, cond-true, cond-false, and_from}
use Rattle.std.proofs.lemmas.List.{length-set, get_or-set_same, get_or-set_other, get_or_append_left}
use Rattle.std.proofs.Math.Seq.{get_or-append_seam}
use Rattle.sched_base.specs.declared.rows.Leaf.{Leaf}
use Rattle.sched_base.specs.declared.rows.Leaf.TheVariants as leaves
use Rattle.sched_base.specs.declared.rows.Row.{Row}
use Rattle.sched_base.specs.declared.rows.TaskId.{TaskId}
use Rattle.sched_base.specs.declared.sets.Task.{Task}
use Rattle.sched_base.specs.Rows.{is_of_task}
use Rattle.sched_base.specs.Sets.{task_at}
use Rattle.sched_base.specs.Valid.{period_start}
use Rattle.trace_verdict.specs.Faults.{row_at}
use Rattle.trace_check.specs.declared.reaches.TaskReach.{TaskReach}
use Rattle.trace_check.specs.Reaches.{reach_rows, greatest_to, reach_to, AreEnds, HaveEnds, IsReachOf, AreReachesOf}

-- ---- the greatest of the first numbers

pub greatest_set : (xs : List ℕ) (i k e : ℕ) → i < length xs → i ≤ k → greatest_to (set xs i (max e (get_or xs i 0))) k ≡ max e (greatest_to xs k)
greatest_set [] i k e h g = absurd (omega (arith, h))
greatest_set (x ∷ xs) zero zero e h g = refl
greatest_set (x ∷ xs) zero (suc k) e h g = omega arith
greatest_set (x ∷ xs) (suc i) zero e h g = absurd (omega (arith, g))
greatest_set (x ∷ xs) (suc i) (suc k) e h g = (let rest = greatest_set xs i k e (omega (arith, h)) (omega (arith, g)) in omega (arith, rest))

pub greatest_kept : (xs : List ℕ) (i k v : ℕ) → k < i → greatest_to (set xs i v) k ≡ greatest_to xs k
greatest_kept [] i k v g = refl
greatest_kept (x ∷ xs) zero k v g = absurd (omega (arith, g))
greatest_kept (x ∷ xs) (suc i) zero v g = refl
greatest_kept (x ∷ xs) (suc i) (suc k) v g = ap (max x) (greatest_kept xs i k v (omega (arith, g)))

pub greatest_next : (xs : List ℕ) (k : ℕ) → suc k < length xs → greatest_to xs (suc k) ≡ max (greatest_to xs k) (get_or xs (suc k) 0)
greatest_next [] k h = absurd (omega (arith, h))
greatest_next (x ∷ []) k h = absurd (omega (arith, h))
greatest_next (x ∷ (y ∷ ys)) zero h = refl
greatest_next (x ∷ (y ∷ ys)) (suc k) h = (let rest = greatest_next (y ∷ ys) k (omega (arith, h)) in omega (arith, rest))

pub greatest_first : (xs : List ℕ) → 0 < length xs → greatest_to xs 0 ≡ get_or xs 0 0
greatest_first [] h = absurd (omega (arith, h))
greatest_first (x ∷ xs) h = refl

greatest_zeros : (n k : ℕ) → greatest_to (replicate n 0) k ≡ 0
greatest_zeros zero k = refl
greatest_zeros (suc n) zero = refl
greatest_zeros (suc n) (suc k) = (let rest = greatest_zeros n k in omega (arith, rest))

-- ---- rows

one_more : (t u : Bool) (q r m n : ℕ) → n ≡ cond u (max r m) m → cond t (max q n) n ≡ cond u (max r (cond t (max q m) m)) (cond t (max q m) m)
one_more true true q r m n h = omega (arith, h)
one_more true false q r m n h = omega (arith, h)
one_more false true q r m n h = h
one_more false false q r m n h = h

pub reach_more : (rows : List Row) (r : Row) (j b : ℕ) → reach_rows (rows ++ r ∷ []) j b ≡ cond (is_of_task j r.leaf && ltb r.start b)
    (max r.end (reach_rows rows j b)) (reach_rows rows j b)
reach_more [] r j b = refl
reach_more (q ∷ rows) r j b =
    one_more (is_of_task j q.leaf && ltb q.start b) (is_of_task j r.leaf && ltb r.start b) q.end r.end (reach_rows rows j b) (reach_rows (rows ++ r ∷ []) j
    b) (reach_more rows r j b)

pub reach_own : (rows : List Row) (r : Row) (j b : ℕ) → is_of_task j r.leaf ≡ true → r.start < b → reach_rows (rows ++ r ∷ []) j b ≡ max r.end
    (reach_rows rows j b)
reach_own rows r j b own early = reach_more rows r j b ∙ cond-true _ _ _ (and_from _ _ own (lt-ltb r.start b early))

pub reach_late : (rows : List Row) (r : Row) (j b : ℕ) → is_of_task j r.leaf ≡ true → b ≤ r.start → reach_rows (rows ++ r ∷ []) j b ≡ reach_rows rows j b
reach_late rows r j b own late = reach_more rows r j b ∙ cond-false _ _ _ (ap (λ t. t && ltb r.start b) own ∙ le-ltb r.start b late)

pub reach_other : (rows : List Row) (r : Row) (j b : ℕ) → is_of_task j r.leaf ≡ false → reach_rows (rows ++ r ∷ []) j b ≡ reach_rows rows j b
reach_other rows r j b other = reach_more rows r j b ∙ cond-false _ _ _ (ap (λ t. t && ltb r.start b) other)

-- ---- periods

-- a tick of period n is before the end of period k where n is at most k
pub in_period : (base span n k x : ℕ) → base + n * span ≤ x → x < base + n * span + span → (x < base + (k + 1) * span → n ≤ k)
    × (n ≤ k → x < base + (k + 1) * span)
in_period base span n k x low high = (
  λ h. (elim (cases_lt k n) [
    | inl below ↦ (let most : (k + 1) * span ≤ n * span = mul-le-mul_right span (omega (arith, below)) in absurd (omega (arith, most, low, h)))
    | inr above ↦ above
  ]),
  λ h. (
      let most : (n + 1) * span ≤ (k + 1) * span = mul-le-mul_right span (omega (arith, h)) in
      omega (arith, most, high)),
)

-- one before the first period is before the end of each
pub before_all : (base span k x : ℕ) → x < base → (x < base + (k + 1) * span → 0 ≤ k) × (0 ≤ k → x < base + (k + 1) * span)
before_all base span k x h = ((λ g. omega arith), λ g. omega (arith, h))

pub divided : (base span k x : ℕ) → 0 < span → base ≤ x → (x < base + (k + 1) * span → (x - base) / span ≤ k) × ((x - base) / span ≤ k →
    x < base + (k + 1) * span)
divided base span k x some low =
    let least : (x - base) / span * span ≤ x - base = div-mul-le_self (x - base) span in
    let most : x - base < (x - base) / span * span + span = lt-div-mul-add some in
    in_period base span ((x - base) / span) k x (omega (arith, least, low)) (omega (arith, most, low))

-- the end of period k in ticks
pub end_is : (scale : ℕ) (task : Task) (t : TaskReach) (k : ℕ) → IsReachOf scale task t → period_start scale task (k + 1) ≡ t.base + (k + 1) * t.span
end_is scale task t k is =
    add-mul task.offset ((k + 1) * task.period) scale
    ∙ (ap (λ w. task.offset * scale + w) (mul_assoc (k + 1) task.period scale)
    ∙ (ap (λ w. w + (k + 1) * (task.period * scale)) (sym is.base) ∙ ap (λ w. t.base + (k + 1) * w) (sym is.span)))

-- ---- a row more

-- as a row of the task is taken in: in the period n, where its end is kept
pub ends_set : (done : List Row) (r : Row) (j n v : ℕ) (old new : TaskReach) → AreEnds done j old → is_of_task j r.leaf ≡ true → new.base ≡ old.base →
    new.span ≡ old.span
    → new.begin ≡ new.base + new.number * new.span → ((k : ℕ) → (r.start < old.base + (k + 1) * old.span → n ≤ k)
    × (n ≤ k → r.start < old.base + (k + 1) * old.span))
    → n < length old.ends → v ≡ max r.end (get_or old.ends n 0) → new.ends ≡ set old.ends n v → AreEnds (done ++ r ∷ []) j new
ends_set done r j n v old new e own base span begin place within value items =
    let size : length new.ends ≡ length old.ends = ap length items ∙ length-set old.ends n v in
    record {
      some = λ h. (let had = e.some (omega (arith, h, size)) in omega (arith, had, span));
      begin = begin;
      each = λ k h. (
          let below : k < length old.ends = omega (arith, h, size) in
          let had = e.each k below in
          let tick : old.base + (k + 1) * old.span ≡ new.base + (k + 1) * new.span = ap (λ s. old.base + (k + 1) * s) (sym span)
          ∙ ap (λ b. b + (k + 1) * new.span) (sym base) in
          subst (λ b. greatest_to new.ends k ≡ reach_rows (done ++ r ∷ []) j b) tick
          (ap (λ xs. greatest_to xs k) (items ∙ ap (set old.ends n) value) ∙ (elim (cases_lt k n) [
            | inl under ↦
                greatest_kept old.ends n k (max r.end (get_or old.ends n 0)) under
                ∙ (had ∙ sym (reach_late done r j (old.base + (k + 1) * old.span) own (not_early r.start (old.base + (k + 1) * old.span) n k under
                (place k).0)))
            | inr over ↦
                greatest_set old.ends n k r.end within over
                ∙ (ap (max r.end) had ∙ sym (reach_own done r j (old.base + (k + 1) * old.span) own ((place k).1 over)))
          ])));
    }
  where
    not_early : (x b n k : ℕ) → k < n → (x < b → n ≤ k) → b ≤ x
    not_early x b n k under f = elim (cases_lt x b) [
      | inl early ↦ (let g = f early in absurd (omega (arith, g, under)))
      | inr late ↦ late
    ]

-- and where its end isn't kept
pub ends_past : (done : List Row) (r : Row) (j n : ℕ) (old new : TaskReach) → AreEnds done j old → is_of_task j r.leaf ≡ true → new.base ≡ old.base →
    new.span ≡ old.span
    → new.begin ≡ new.base + new.number * new.span → ((k : ℕ) → (r.start < old.base + (k + 1) * old.span → n ≤ k)
    × (n ≤ k → r.start < old.base + (k + 1) * old.span))
    → length old.ends ≤ n → new.ends ≡ old.ends → AreEnds (done ++ r ∷ []) j new
ends_past done r j n old new e own base span begin place past items =
    let size : length new.ends ≡ length old.ends = ap length items in
    record {
      some = λ h. (let had = e.some (omega (arith, h, size)) in omega (arith, had, span));
      begin = begin;
      each = λ k h. (
          let below : k < length old.ends = omega (arith, h, size) in
          let tick : old.base + (k + 1) * old.span ≡ new.base + (k + 1) * new.span = ap (λ s. old.base + (k + 1) * s) (sym span)
          ∙ ap (λ b. b + (k + 1) * new.span) (sym base) in
          subst (λ b. greatest_to new.ends k ≡ reach_rows (done ++ r ∷ []) j b) tick
          (ap (λ xs. greatest_to xs k) items ∙ (e.each k below ∙ sym (reach_late done r j (old.base + (k + 1) * old.span) own
          (elim (cases_lt r.start (old.base + (k + 1) * old.span)) [
            | inl early ↦ (let g = (place k).0 early in absurd (omega (arith, g, below, past)))
            | inr late ↦ late
          ])))));
    }

-- where no ends are kept nothing is said
pub ends_none : (done later : List Row) (j : ℕ) (t : TaskReach) → AreEnds done j t → length t.ends ≡ 0 → AreEnds later j t
ends_none done later j t e none = record { some = e.some; begin = e.begin; each = λ k h. absurd (omega (arith, h, none)) }

-- a row of another task
pub ends_other : (done : List Row) (r : Row) (j : ℕ) (t : TaskReach) → AreEnds done j t → is_of_task j r.leaf ≡ false → AreEnds (done ++ r ∷ []) j t
ends_other done r j t e other = record {
  some = e.some;
  begin = e.begin;
  each = λ k h. e.each k h ∙ sym (reach_other done r j (t.base + (k + 1) * t.span) other);
}

pub ends_new : (j n : ℕ) (t : TaskReach) → (0 < length t.ends → 0 < t.span) → t.begin ≡ t.base → t.number ≡ 0 → t.ends ≡ replicate n 0 → AreEnds [] j t
ends_new j n t some begin number items =
    let first : t.base ≡ t.base + 0 * t.span = omega arith in
    record {
      some = some;
      begin = begin ∙ (first ∙ ap (λ m. t.base + m * t.span) (sym number));
      each = λ k h. ap (λ xs. greatest_to xs k) items ∙ greatest_zeros n k;
    }

-- how far the rows reach that start before the end of period k
pub reach_kept : (rows : List Row) (j : ℕ) (t : TaskReach) (k before : ℕ) → AreEnds rows j t → k < length t.ends → before ≡ reach_to rows j t k
    → max before (get_or t.ends k 0) ≡ reach_to rows j t (k + 1)
reach_kept rows j t zero before e h b = (let first = greatest_first t.ends h in let is = e.each 0 h in omega (arith, first, is, b))
reach_kept rows j t (suc k) before e h b =
    let had = e.each k (omega (arith, h)) in
    let is = e.each (suc k) h in
    let next = greatest_next t.ends k h in
    let one : suc k + 1 ≡ suc (suc k) = omega arith in
    subst (λ n. max before (get_or t.ends (suc k) 0) ≡ reach_to rows j t n) (sym one) (omega (arith, had, is, next, b))

-- ---- all tasks

pub reaches_other : (done : List Row) (r : Row) (reaches : List TaskReach) → HaveEnds done reaches → ((j : ℕ) → j < length reaches →
    is_of_task j r.leaf ≡ false) → HaveEnds (done ++ r ∷ []) reaches
reaches_other done r reaches e other = λ j none h. ends_other done r j (get_or reaches j none) (e j none h) (other j h)

pub reaches_set : (done : List Row) (r : Row) (i : ℕ) (reaches : List TaskReach) (t : TaskReach) → i < length reaches → HaveEnds done reaches →
    AreEnds (done ++ r ∷ []) i t
    → ((j : ℕ) → (j ≡ i → ⊥) → is_of_task j r.leaf ≡ false) → HaveEnds (done ++ r ∷ []) (set reaches i t)
reaches_set done r i reaches t within e own other = λ j none h. (elim (cases_eq j i) [
  | inl here ↦ subst (λ k. AreEnds (done ++ r ∷ []) k (get_or (set reaches i t) k none)) (sym here) (subst (AreEnds (done ++ r ∷ []) i)
      (sym (get_or-set_same reaches i t none within)) own)
  | inr there ↦ subst (AreEnds (done ++ r ∷ []) j) (sym (get_or-set_other reaches i j t none there))
      (ends_other done r j (get_or reaches j none) (e j none (let size = length-set reaches i t in omega (arith, h, size))) (other j there))
])

pub periods_set : (scale i : ℕ) (tasks : List Task) (reaches : List TaskReach) (old t : TaskReach) → i < length reaches → old ≡ get_or reaches i old →
    t.base ≡ old.base → t.span ≡ old.span
    → AreReachesOf scale tasks reaches → AreReachesOf scale tasks (set reaches i t)
periods_set scale i tasks reaches old t within is base span p = λ j none h. (elim (cases_eq j i) [
  | inl here ↦ (
      let had : IsReachOf scale (task_at tasks i) old = subst (IsReachOf scale (task_at tasks i)) (sym is) (p i old within) in
      subst (λ k. IsReachOf scale (task_at tasks k) (get_or (set reaches i t) k none)) (sym here)
      (subst (IsReachOf scale (task_at tasks i)) (sym (get_or-set_same reaches i t none within)) (record { base = base ∙ had.base; span = span ∙ had.span })))
  | inr there ↦ subst (IsReachOf scale (task_at tasks j)) (sym (get_or-set_other reaches i j t none there)) (p j none (let size = length-set reaches i t in
      omega (arith, h, size)))
])

pub ends_push : (reaches : List TaskReach) (t : TaskReach) → HaveEnds [] reaches → ((j : ℕ) → AreEnds [] j t) → HaveEnds [] (reaches ++ t ∷ [])
ends_push reaches t e new = λ j none h. (elim (cases_lt j (length reaches)) [
  | inl below ↦ subst (AreEnds [] j) (sym (get_or_append_left reaches (t ∷ []) none j below)) (e j none below)
  | inr there ↦ (
      let all = length-append reaches (t ∷ []) in
      let here : length reaches ≡ j = omega (arith, h, there, all) in
      subst (λ k. AreEnds [] k (get_or (reaches ++ t ∷ []) k none)) here (subst (AreEnds [] (length reaches)) (sym (get_or-append_seam reaches t [] none))
      (new (length reaches))))
])

pub periods_push : (scale : ℕ) (tasks : List Task) (reaches : List TaskReach) (t : TaskReach) → AreReachesOf scale tasks reaches →
    IsReachOf scale (task_at tasks (length reaches)) t
    → AreReachesOf scale tasks (reaches ++ t ∷ [])
periods_push scale tasks reaches t p new = λ j none h. (elim (cases_lt j (length reaches)) [
  | inl below ↦ subst (IsReachOf scale (task_at tasks j)) (sym (get_or_append_left reaches (t ∷ []) none j below)) (p j none below)
  | inr there ↦ (
      let all = length-append reaches (t ∷ []) in
      let here : length reaches ≡ j = omega (arith, h, there, all) in
      subst (λ k. IsReachOf scale (task_at tasks k) (get_or (reaches ++ t ∷ []) k none)) here (subst (IsReachOf scale (task_at tasks (length reaches)))
      (sym (get_or-append_seam reaches t [] none)) new))
])

-- ---- loops

pub rows_step : (rows : List Row) (i : ℕ) (r : Row) → i < length rows → r ≡ row_at rows i → take (i + 1) rows ≡ take i rows ++ r ∷ []
rows_step rows i r h is =
    let one : i + 1 ≡ suc i = omega arith in
    ap (λ n. take n rows) one ∙ (take-suc rows i _ h ∙ ap (λ q. take i rows ++ q ∷ []) (sym is))

pub numbers_step : (xs : List ℕ) (k x : ℕ) → k < length xs → x ≡ get_or xs k 0 → take (k + 1) xs ≡ take k xs ++ x ∷ []
numbers_step xs k x h is =
    let one : k + 1 ≡ suc k = omega arith in
    ap (λ n. take n xs) one ∙ (take-suc xs k 0 h ∙ ap (λ q. take k xs ++ q ∷ []) (sym is))

pub own_task : (j : ℕ) (id : TaskId) (leaf : Leaf) → leaf ≡ leaves.Task id → j ≡ id.0 → is_of_task j leaf ≡ true
own_task j id leaf is here = ap (is_of_task j) is ∙ eq-eqb id.0 j (sym here)

pub other_task : (j : ℕ) (id : TaskId) (leaf : Leaf) → leaf ≡ leaves.Task id → (j ≡ id.0 → ⊥) → is_of_task j leaf ≡ false
other_task j id leaf is there = ap (is_of_task j) is ∙ ne_eqb id.0 j (λ e. there (sym e))

pub no_task_at : (j : ℕ) (leaf : Leaf) → ((id : TaskId) → leaf ≡ leaves.Task id → ⊥) → is_of_task j leaf ≡ false
no_task_at j (leaves.Task id) not = absurd (not id refl)
no_task_at j (leaves.Wait id) not = refl
no_task_at j (leaves.Idle n) not = refl
no_task_at j leaves.Empty not = refl

pub none_yet : (scale : ℕ) (tasks : List Task) (reaches : List TaskReach) → reaches ≡ [] → AreReachesOf scale tasks reaches × (length reaches ≡ 0)
    × HaveEnds [] reaches
none_yet scale tasks reaches is =
    let size : length reaches ≡ 0 = ap length is in
    ((λ j none h. absurd (omega (arith, h, size))), size, λ j none h. absurd (omega (arith, h, size)))
