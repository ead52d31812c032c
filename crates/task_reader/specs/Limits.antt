-- The refusals for numbers and names, of a document with the right keys and kinds.
use Rattle.std.specs.Prelude.{ℕ, suc, ℤ, pos, negsuc, Bool, false, ◌&&◌, nat_le, if◌then◌else◌, List, []}
use Rattle.std.specs.Prelude.{◌∷◌, ◌++◌, length}
use Rattle.std.specs.Prelude.{Option, Some, None, option_map}
use Rattle.std.specs.Str.{bytes_eq}
use Rattle.std.specs.List.{list_any}
use Rattle.sched_base.specs.Limits.{processor_limit, task_limit, unit_limit}
use Rattle.task_reader.specs.declared.refusals.ReadSet.{ReadSet}
use Rattle.task_reader.specs.declared.refusals.ReadSet.TheVariants.{BadProcessors, BadHorizon, TooManyTasks, SameName}
use Rattle.task_reader.specs.Written.{WrittenTask}

-- whether the whole number lies between the two, which it may equal
abbrev pub is_within : ℕ → ℕ → ℤ → Bool
is_within low high (pos n) = nat_le low n && nat_le n high
is_within low high (negsuc n) = false

-- whether the task has one of the earlier names
abbrev pub is_repeated : List WrittenTask → WrittenTask → Bool
is_repeated earlier t = list_any (λ (other : WrittenTask). bytes_eq other.name t.name) earlier

-- the first task, of which the first is task i, that has an earlier one's name
abbrev pub first_repeated : List WrittenTask → ℕ → List WrittenTask → Option ℕ
first_repeated earlier i [] = None
first_repeated earlier i (t ∷ ts) = if is_repeated earlier t then Some i else first_repeated (earlier ++ t ∷ []) (suc i) ts

-- the processors, if they aren't 1 up to the limit
abbrev pub bad_processors : ℤ → Option ReadSet
bad_processors z = if is_within 1 processor_limit z then None else Some (BadProcessors z)

-- the horizon, if it isn't 1 unit up to the limit
abbrev pub bad_horizon : ℤ → Option ReadSet
bad_horizon z = if is_within 1 unit_limit z then None else Some (BadHorizon z)

-- the tasks, if they are more than the limit
abbrev pub too_many : List WrittenTask → Option ReadSet
too_many ts = if nat_le (length ts) task_limit then None else Some (TooManyTasks (length ts))

-- the first task that has an earlier one's name
abbrev pub same_name : List WrittenTask → Option ReadSet
same_name ts = option_map (λ i. SameName i) (first_repeated [] 0 ts)
