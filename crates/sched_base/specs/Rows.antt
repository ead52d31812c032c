-- Rows of a schedule, and the ticks that they give.
use Rattle.std.specs.Prelude.{ℕ, ◌+◌, ◌-◌, ◌*◌, ◌≤◌, ◌⊎◌, nat_eq, min, max, Bool, false, List, [], ◌∷◌}
use Rattle.std.specs.List.{AllByRecursion}
use Rattle.sched_base.specs.Counting.{bit}
use Rattle.sched_base.specs.declared.rows.Leaf.{Leaf}
use Rattle.sched_base.specs.declared.rows.Leaf.TheVariants.{Task, Wait, Idle, Empty}
use Rattle.sched_base.specs.declared.rows.Row.{Row}

-- whether the leaf is task j
abbrev pub is_of_task : ℕ → Leaf → Bool
is_of_task j (Task id) = nat_eq id.0 j
is_of_task j (Wait id) = false
is_of_task j (Idle number) = false
is_of_task j Empty = false

-- the ticks that lie both from `start` up to `end` and from a up to b
abbrev pub overlap : ℕ → ℕ → ℕ → ℕ → ℕ
overlap start end a b = min end b - max start a

-- the ticks from a up to b that these rows give to task j
abbrev pub task_ticks : List Row → ℕ → ℕ → ℕ → ℕ
task_ticks [] j a b = 0
task_ticks (r ∷ rows) j a b = bit (is_of_task j r.leaf) * overlap r.start r.end a b + task_ticks rows j a b

-- one ends before the other starts
abbrev pub DontOverlap : Row → Row → Type 0
DontOverlap r q = (r.end ≤ q.start) ⊎ (q.end ≤ r.start)

-- P holds of each two items of the list, the earlier one first
abbrev pub AllApart : {X : Type 0} → (X → X → Type 0) → List X → Type 0
AllApart P [] = Unit {0}
AllApart P (x ∷ xs) = AllByRecursion (P x) xs × AllApart P xs
