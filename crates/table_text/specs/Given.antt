-- What rows give of the periods that are open at a unit.
use Rattle.std.specs.Prelude.{ℕ, ◌≡◌, ◌<◌, ◌+◌, ◌^◌, ◌==◌, ◌&&◌, nat_le, Bool, List, length, slice_index}
use Rattle.sched_base.specs.declared.rows.Row.{Row}
use Rattle.sched_base.specs.declared.sets.Task.{Task}
use Rattle.sched_base.specs.Sets.{task_at}
use Rattle.repeat_laws.specs.Repeats.{given, open_since}
use Rattle.table_text.specs.declared.given.Look.{Look}

-- what the rows give task j of its period that is open at a unit, or of the one so many units later
abbrev pub given_at : Look → List Task → List Row → ℕ → ℕ
given_at look tasks rows j = given look.scale rows j (open_since look.from (task_at tasks j) + look.shift) (look.from + look.shift)

-- to each sum was added what the rows give its task
abbrev pub AddsGiven : Look → List Task → List Row → List ℕ → List ℕ → Type 0
AddsGiven look tasks rows before after = (j : ℕ) → j < length before → slice_index after j ≡ slice_index before j + given_at look tasks rows j

-- it can be added without overflow
abbrev pub HaveRoomFor : Look → List Task → List Row → List ℕ → Type 0
HaveRoomFor look tasks rows sums = (j : ℕ) → j < length sums → slice_index sums j + given_at look tasks rows j < 2 ^ 128

-- the numbers are so small that ticks can be computed with them
pub record IsSmall (look : Look) : Type 0 where
  pub scale : look.scale < 2 ^ 64
  pub units : look.from + look.shift < 2 ^ 32

-- whether task j is released by a unit, and its two sums are the same
abbrev pub is_given_again : List Task → ℕ → List ℕ → List ℕ → ℕ → Bool
is_given_again tasks from before after j = nat_le (task_at tasks j).offset from && slice_index after j == slice_index before j
