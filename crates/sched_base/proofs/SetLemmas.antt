-- What a task at the end of a set leaves true.
use Rattle.std.proofs.Common.{◌≡◌, ◌+◌, ◌^◌, ◌<◌, List, [], ◌∷◌, ◌++◌, length, refl, sym, arith, length-append}
use Rattle.std.specs.List.{AllByRecursion}
use Rattle.sched_base.specs.declared.sets.Task.{Task}
use Rattle.sched_base.specs.Limits.{task_limit, unit_limit}
use Rattle.sched_base.specs.Sets.{SetContents, IsLawful, IsLawfulTask, IsFree, NamesDiffer}

-- numbers of units are below 2 ^ 32 where they are within the limit
pub units_within : unit_limit + 1 ≡ 2 ^ 32
units_within = refl

pub AllByRecursion-push : {A : Type 0} (P : A → Type 0) (xs : List A) (x : A) → AllByRecursion P xs → P x → AllByRecursion P (xs ++ x ∷ [])
AllByRecursion-push P [] x h p = (p, tt)
AllByRecursion-push P (y ∷ xs) x h p = (h.0, AllByRecursion-push P xs x h.1 p)

pub NamesDiffer-push : (ts : List Task) (t : Task) → NamesDiffer ts → IsFree t.name ts → NamesDiffer (ts ++ t ∷ [])
NamesDiffer-push [] t h free = (tt, tt)
NamesDiffer-push (s ∷ ts) t h free = (AllByRecursion-push _ ts t h.0 (λ same. free.0 (sym same)), NamesDiffer-push ts t h.1 free.1)

pub IsLawful-push : (s : SetContents) (t : Task) → IsLawful s → length s.tasks < task_limit → IsLawfulTask t → IsFree t.name s.tasks
    → IsLawful (record s { tasks = s.tasks ++ t ∷ [] })
IsLawful-push s t h room lawful free = record {
  some_processors = h.some_processors;
  few_processors = h.few_processors;
  some_horizon = h.some_horizon;
  horizon_fits = h.horizon_fits;
  few_tasks = omega (arith, length-append s.tasks (t ∷ []));
  each = AllByRecursion-push _ s.tasks t h.each lawful;
  names_differ = NamesDiffer-push s.tasks t h.names_differ free;
}
