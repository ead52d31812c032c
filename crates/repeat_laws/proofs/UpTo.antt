-- The same set up to another horizon, task by task.
use Rattle.std.proofs.Common.{List, [], ◌∷◌, length, arith, get_or, subst, sym, take, zero, suc, ℕ, ◌<◌, ◌≡◌, ◌≢◌}
use Rattle.std.specs.List.{AllByRecursion}
use Rattle.sched_base.specs.declared.sets.Task.{Task}
use Rattle.sched_base.specs.Sets.{IsFree, IsLawfulTask, NamesDiffer}

-- what holds of all tasks holds of this one
item_of : (P : Task → Type 0) (tasks : List Task) (i : ℕ) (t : Task) → i < length tasks → t ≡ get_or tasks i t → AllByRecursion P tasks → P t
item_of P [] i t low at all = absurd (omega (arith, low))
item_of P (x ∷ xs) zero t low at all = subst P (sym at) all.0
item_of P (x ∷ xs) (suc i) t low at all = item_of P xs i t (omega (arith, low)) at all.1

pub lawful_item : (tasks : List Task) (i : ℕ) (t : Task) → i < length tasks → t ≡ get_or tasks i t → AllByRecursion IsLawfulTask tasks → IsLawfulTask t
lawful_item tasks i t low at each = item_of IsLawfulTask tasks i t low at each

-- no task before it has its name
pub free_before : (tasks : List Task) (i : ℕ) (t : Task) → i < length tasks → t ≡ get_or tasks i t → NamesDiffer tasks → IsFree t.name (take i tasks)
free_before [] i t low at differ = absurd (omega (arith, low))
free_before (x ∷ xs) zero t low at differ = tt
free_before (x ∷ xs) (suc i) t low at differ = (
  λ same. item_of (λ y. y.name ≢ x.name) xs i t (omega (arith, low)) at differ.0 (sym same),
  free_before xs i t (omega (arith, low)) at differ.1,
)
