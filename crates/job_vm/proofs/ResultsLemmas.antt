-- The line of a task, part by part.
use Rattle.std.proofs.Common.{ℕ, ◌<◌, ◌≡◌, List, [], ◌∷◌, ◌++◌, length, get_or, map, codes, sym, refl, ap, ◌∙◌, append_assoc, Option}
use Rattle.std.specs.Prelude.{decimal}
use Rattle.std.specs.List.{flat_map, range_with_len}
use Rattle.std.proofs.lemmas.List.{get_or_default}
use Rattle.sched_base.specs.declared.sets.Task.{Task}
use Rattle.sched_base.specs.Sets.{no_task, task_at}
use Rattle.sched_edges.specs.Lines.{line_end, line_of, word_line}
use Rattle.job_vm.specs.Results.{Told, told_at, job_line, jobs_text}
use Rattle.job_vm.specs.Seen.{JobSeen}

-- the words at the end of a line
ends : (numbers : List ℕ) → line_end (map decimal numbers) ≡ flat_map (λ n. 32 ∷ decimal n) numbers ++ 10 ∷ []
ends [] = refl
ends (n ∷ numbers) =
    ap (λ rest. 32 ∷ (decimal n ++ rest)) (ends numbers) ∙ ap (λ text. 32 ∷ text) (sym (append_assoc (decimal n) (flat_map (λ n. 32 ∷ decimal n) numbers)
    (10 ∷ [])))

-- a line is its beginning up to the units, then each number, and the line feed
pub job_line_is : (name : List ℕ) (told : Told)
    → job_line name told ≡ (codes "job " ++ (name ++ (32 ∷ decimal told.units))) ++ (flat_map (λ n. 32 ∷ decimal n) told.numbers ++ 10 ∷ [])
unfolding job_line line_of
job_line_is name told =
    let tail = flat_map (λ n. 32 ∷ decimal n) told.numbers ++ 10 ∷ [] in
    ap (λ rest. codes "job" ++ (32 ∷ (name ++ (32 ∷ (decimal told.units ++ rest))))) (ends told.numbers)
    ∙ ap (λ text. codes "job " ++ text) (sym (append_assoc name (32 ∷ decimal told.units) tail))

-- the line that is written of a task is its line
pub line_of_task : (tasks : List Task) (scale : ℕ) (jobs now : List (Option JobSeen)) (i : ℕ) (t : Task) (name : List ℕ) (told : Told) → i < length tasks →
    t ≡ get_or tasks i t
    → name ≡ t.name → now ≡ jobs → told_at scale now i ≡ told → job_line name told ≡ job_line (task_at tasks i).name (told_at scale jobs i)
line_of_task tasks scale jobs now i t name told within at named same is =
    let task : t ≡ task_at tasks i = at ∙ get_or_default tasks i t no_task within in
    let a : name ≡ (task_at tasks i).name = named ∙ ap (λ (u : Task). u.name) task in
    let b : told ≡ told_at scale jobs i = sym is ∙ ap (λ (seen : List (Option JobSeen)). told_at scale seen i) same in
    (λ k. job_line (a k) (b k))

-- the first line, and then the lines of the tasks
pub jobs_text_is : (told : ℕ → Told) (tasks : List Task)
    → jobs_text told tasks ≡ word_line (codes "run-jobs 1") ++ flat_map (λ i. job_line (task_at tasks i).name (told i)) (range_with_len 0 (length tasks))
unfolding jobs_text
jobs_text_is told tasks = refl
