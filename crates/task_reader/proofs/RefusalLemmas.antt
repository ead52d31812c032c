-- The refusals of a document, in the parts in which they are looked for.
use Rattle.std.proofs.Common.{◌≡◌, List, [], ◌∷◌, ◌++◌, Option, Some, None, refl}
use Rattle.std.specs.List.{AllByRecursion}
use Rattle.std.specs.Option.{option_or}
use Rattle.toml.specs.Data.{Members}
use Rattle.sched_base.specs.Sets.{IsLawful}
use Rattle.task_reader.specs.declared.refusals.Key.TheVariants as key
use Rattle.task_reader.specs.declared.refusals.ReadSet.{ReadSet}
use Rattle.task_reader.specs.Tree.{number_at, tasks_of}
use Rattle.task_reader.specs.Written.{written_tasks}
use Rattle.task_reader.specs.Members.{first_refusal}
use Rattle.task_reader.specs.Limits.{too_many}
use Rattle.task_reader.specs.Reading.{top_refusals, task_refusals, refusal_of, set_of}
use Rattle.task_reader.proofs.LimitsLemmas.{lawful_set}
use Rattle.task_reader.proofs.Parts.{unknown}

-- the first of some refusals
abbrev pub first : List (Option ReadSet) → Option ReadSet
first refusals = first_refusal (λ refusal. refusal) refusals

-- of two lists of refusals, one behind the other, the first one is that of the first, or else that of the second
first-append : (xs ys : List (Option ReadSet)) → first (xs ++ ys) ≡ option_or (first xs) (first ys)
first-append [] ys = refl
first-append (None ∷ xs) ys = first-append xs ys
first-append (Some r ∷ xs) ys = refl

-- where none comes first there is none
no_refusals : (xs : List (Option ReadSet)) → first xs ≡ None → AllByRecursion (λ r. r ≡ None) xs
no_refusals [] e = tt
no_refusals (None ∷ xs) e = (refl, no_refusals xs e)
no_refusals (Some r ∷ xs) e = absurd (let some = e in cc)

-- the refusals of a document, where it has no unknown key
pub refusal_of-known : (top : Members) → unknown top ≡ None → refusal_of top
    ≡ option_or (first (top_refusals top)) (option_or (too_many (written_tasks (tasks_of top))) (first (task_refusals (written_tasks (tasks_of top)))))
refusal_of-known top known =
    rw known (first-append (top_refusals top) (too_many (written_tasks (tasks_of top)) ∷ task_refusals (written_tasks (tasks_of top))))

-- a document without them has a lawful set
pub lawful_without : (top : Members) → first (top_refusals top) ≡ None → too_many (written_tasks (tasks_of top)) ≡ None
    → first (task_refusals (written_tasks (tasks_of top))) ≡ None → IsLawful (set_of top)
lawful_without top above few within =
    let top_passes = no_refusals (top_refusals top) above in
    let tasks_pass = no_refusals (task_refusals (written_tasks (tasks_of top))) within in
    lawful_set (number_at key.Processors top) (number_at key.Horizon top) (written_tasks (tasks_of top)) top_passes.1.1.0 top_passes.1.1.1.0 few
    tasks_pass.0 tasks_pass.1.0 tasks_pass.1.1.0 tasks_pass.1.1.1.0 tasks_pass.1.1.1.1.0
