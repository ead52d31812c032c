-- The set that words draw.
use Rattle.std.specs.Prelude.{ℕ, ◌+◌, ◌%◌, nat_le, true, false, List, [], ◌∷◌, ◌++◌, length, decimal, slice_index}
use Rattle.sched_base.specs.declared.sets.Task.{Task}
use Rattle.sched_base.specs.Sets.{SetContents}
use Rattle.sched_base.specs.Scale.{rate_of, total_of}

-- the period that a word chooses, in units
abbrev pub period_by : ℕ → ℕ
period_by w = slice_index (4 ∷ 5 ∷ 6 ∷ 10 ∷ 12 ∷ 15 ∷ 20 ∷ 30 ∷ []) (w % 8)

-- `t` followed by the number
abbrev pub name_of_number : ℕ → List ℕ
name_of_number k = 116 ∷ decimal k

-- the k-th task, counted from 0, if it is the one that two words choose: the first its period, the second its work
abbrev pub task_by : ℕ → ℕ → ℕ → Task
task_by k w v = record { name = name_of_number k; work = 1 + v % period_by w; period = period_by w; offset = 0 }

-- a task's weight is its rate at 60 ticks per unit; the weights may sum to 240
abbrev pub with_fitting : List Task → Task → List Task
with_fitting tasks t = elim (nat_le (total_of 60 tasks + rate_of 60 t) 240) [ true ↦ tasks ++ t ∷ [] | false ↦ tasks ]

-- the tasks once each pair of words in order has chosen one more, which is added where it fits
abbrev pub drawn_onto : List Task → List ℕ → List Task
drawn_onto tasks [] = tasks
drawn_onto tasks (w ∷ []) = tasks
drawn_onto tasks (w ∷ v ∷ words) = drawn_onto (with_fitting tasks (task_by (length tasks) w v)) words

-- the set that words draw
abbrev pub made_from : List ℕ → SetContents
made_from words = record { processors = 4; horizon = 6000; tasks = drawn_onto [] words }
