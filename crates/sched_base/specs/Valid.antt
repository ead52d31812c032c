-- Valid schedules. This is the task model alone: no server, dual, budget or tree occurs here.
use Rattle.std.specs.Prelude.{ℕ, ◌+◌, ◌*◌, ◌<◌, ◌≤◌, ◌≡◌, true, List, length}
use Rattle.std.specs.List.{AllByRecursion}
use Rattle.sched_base.specs.declared.rows.Row.{Row}
use Rattle.sched_base.specs.declared.sets.Task.{Task}
use Rattle.sched_base.specs.Sets.{SetContents, task_at}
use Rattle.sched_base.specs.Rows.{is_of_task, task_ticks, DontOverlap, AllApart}

-- the tick at which period k of a task begins
abbrev pub period_start : ℕ → Task → ℕ → ℕ
period_start scale t k = (t.offset + k * t.period) * scale

-- the ticks that the rows give to task j in its period k
abbrev pub served : ℕ → SetContents → List Row → ℕ → ℕ → ℕ
served scale s rows j k = task_ticks rows j (period_start scale (task_at s.tasks j) k) (period_start scale (task_at s.tasks j) (k + 1))

-- the rows are a valid schedule of the set up to tick `stop`, in which each period that ends by `horizon` is served in full
pub record IsValid (s : SetContents) (scale horizon stop : ℕ) (rows : List Row) : Type 0 where
  pub bounded : AllByRecursion (λ r. (r.processor < s.processors) × (r.end ≤ stop)) rows
  -- no processor runs two rows at once
  pub processors_apart : AllApart (λ r q. r.processor ≡ q.processor → DontOverlap r q) rows
  -- no task runs on two processors at once
  pub tasks_apart : AllApart (λ r q. (j : ℕ) → is_of_task j r.leaf ≡ true → is_of_task j q.leaf ≡ true → DontOverlap r q) rows
  -- a period that ends by the horizon gives its task exactly its work
  pub full : (j k : ℕ) → j < length s.tasks → period_start scale (task_at s.tasks j) (k + 1) ≤ horizon →
      served scale s rows j k ≡ (task_at s.tasks j).work * scale
  -- no period gives more
  pub no_more : (j k : ℕ) → j < length s.tasks → served scale s rows j k ≤ (task_at s.tasks j).work * scale
  -- no task runs before its offset
  pub released : AllByRecursion (λ r. (j : ℕ) → j < length s.tasks → is_of_task j r.leaf ≡ true →
      (task_at s.tasks j).offset * scale ≤ r.start) rows
