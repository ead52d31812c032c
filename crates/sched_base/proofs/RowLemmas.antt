-- Rows of a schedule.
use Rattle.std.proofs.Common.{List, Some, [], ap, arith, eq-eqb, refl, slice_get, subst, suc, sym, true, zero, zero-add, ℕ, ◌++◌, ◌+◌, ◌∙◌, ◌∷◌, ◌≡◌}
use Rattle.std.proofs.lemmas.Bool.{eqb-true}
use Rattle.std.specs.List.{AllByRecursion}
use Rattle.sched_base.specs.declared.rows.Leaf.{Leaf}
use Rattle.sched_base.specs.declared.rows.Leaf.TheVariants.{Empty, Idle, Task, Wait}
use Rattle.sched_base.specs.declared.rows.Row.{Row}
use Rattle.sched_base.specs.Rows.{AllApart, is_of_task, task_ticks}

pub AllByRecursion-append : (P : Row → Type 0) (xs ys : List Row) → AllByRecursion P xs → AllByRecursion P ys → AllByRecursion P (xs ++ ys)
AllByRecursion-append P [] ys a b = b
AllByRecursion-append P (r ∷ rs) ys a b = (a.0, AllByRecursion-append P rs ys a.1 b)

-- what follows of each
pub AllByRecursion-by : (P Q : Row → Type 0) (xs : List Row) → ((r : Row) → P r → Q r) → AllByRecursion P xs → AllByRecursion Q xs
AllByRecursion-by P Q [] f a = tt
AllByRecursion-by P Q (r ∷ rs) f a = (f r a.0, AllByRecursion-by P Q rs f a.1)

-- for each j
pub AllByRecursion-each : (A : ℕ → Row → Type 0) (xs : List Row) → ((j : ℕ) → AllByRecursion (A j) xs) → AllByRecursion (λ r. (j : ℕ) → A j r) xs
AllByRecursion-each A [] f = tt
AllByRecursion-each A (r ∷ rs) f = ((λ j. (f j).0), AllByRecursion-each A rs (λ j. (f j).1))

-- of the row at place k
pub AllByRecursion-get : (P : Row → Type 0) (rows : List Row) (k : ℕ) (r : Row) → AllByRecursion P rows → slice_get rows k ≡ Some r → P r
AllByRecursion-get P [] k r a e = cc
AllByRecursion-get P (x ∷ rows) zero r a e = let same : x ≡ r = cc in subst P same a.0
AllByRecursion-get P (x ∷ rows) (suc k) r a e = AllByRecursion-get P rows k r a.1 e

-- of each two rows of two lists, where rows of both go together
pub AllApart-append : (R : Row → Row → Type 0) (P Q : Row → Type 0) (xs ys : List Row) → ((r q : Row) → P r → Q q → R r q) →
    AllByRecursion P xs → AllByRecursion Q ys → AllApart R xs → AllApart R ys → AllApart R (xs ++ ys)
AllApart-append R P Q [] ys f p q a b = b
AllApart-append R P Q (r ∷ rs) ys f p q a b =
    (AllByRecursion-append (R r) rs ys a.0 (AllByRecursion-by Q (R r) ys (λ y qy. f r y p.0 qy) q), AllApart-append R P Q rs ys f p.1 q a.1 b)

-- what each row has for itself, each two have
pub AllApart-from : (A : Row → Type 0) (R : Row → Row → Type 0) (xs : List Row) → ((r q : Row) → A r → A q → R r q) → AllByRecursion A xs → AllApart R xs
AllApart-from A R [] f a = tt
AllApart-from A R (r ∷ rs) f a = (each rs a.1, AllApart-from A R rs f a.1)
  where
    each : (qs : List Row) → AllByRecursion A qs → AllByRecursion (R r) qs
    each [] b = tt
    each (q ∷ qs) b = (f r q a.0 b.0, each qs b.1)

-- a leaf of task j is task j
pub is_of_task_same : (j : ℕ) (l : Leaf) → is_of_task j l ≡ true → l ≡ Task (record { 0 = j })
is_of_task_same j (Task id) e = ap (λ (x : ℕ). Task (record { 0 = x })) (eqb-true id.0 j e)
is_of_task_same j (Wait id) e = cc
is_of_task_same j (Idle number) e = cc
is_of_task_same j Empty e = cc

-- and the other way round
pub is_of_task_at : (j : ℕ) (l : Leaf) → l ≡ Task (record { 0 = j }) → is_of_task j l ≡ true
is_of_task_at j l e = ap (is_of_task j) e ∙ eq-eqb j j refl

-- the ticks of two lists
pub task_ticks-append : (xs ys : List Row) (j a b : ℕ) → task_ticks (xs ++ ys) j a b ≡ task_ticks xs j a b + task_ticks ys j a b
task_ticks-append [] ys j a b = sym (zero-add (task_ticks ys j a b))
task_ticks-append (r ∷ rs) ys j a b = let ih = task_ticks-append rs ys j a b in omega (arith, ih)

-- what follows of each two
pub AllApart-by : (R S : Row → Row → Type 0) (xs : List Row) → ((r q : Row) → R r q → S r q) → AllApart R xs → AllApart S xs
AllApart-by R S [] f a = tt
AllApart-by R S (r ∷ rs) f a = (AllByRecursion-by (R r) (S r) rs (λ q x. f r q x) a.0, AllApart-by R S rs f a.1)
