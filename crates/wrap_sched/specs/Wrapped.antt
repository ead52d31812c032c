-- The wrapped schedule: in each slice of time the tasks' shares are laid end to end, processor after processor.
use Rattle.std.specs.Prelude.{ℕ, suc, ◌+◌, ◌-◌, ◌*◌, ◌%◌, ◌==◌, ◌||◌, nat_lt, Bool, true, false, List, [], ◌∷◌, map, length}
use Rattle.std.specs.List.{range_with_len, list_any, flat_map}
use Rattle.sched_base.specs.declared.rows.Leaf.{Leaf}
use Rattle.sched_base.specs.declared.rows.Leaf.TheVariants.{Task, Wait, Idle}
use Rattle.sched_base.specs.declared.rows.Row.{Row}
use Rattle.sched_base.specs.declared.sets.Task as declared
use Rattle.sched_base.specs.Boundaries.{task_boundary}
use Rattle.sched_base.specs.Scale.{rate_of}
use Rattle.sched_base.specs.Sets.{SetContents, task_at}
use Rattle.wrap_sched.specs.Spans.{Span, spans_at}

-- whether unit x is a point: 0, or a boundary of a task
abbrev pub is_point : List declared.Task → ℕ → Bool
is_point tasks x = x == 0 || list_any (λ task. task_boundary task x) tasks

-- the slices, in units: from each point below the horizon to the next, and from the last to the horizon
abbrev pub slices : SetContents → List Span
slices s = spans_at (is_point s.tasks) s.horizon

-- the places that each task has in a slice of u units
abbrev pub shares : ℕ → ℕ → List declared.Task → List ℕ
shares scale u tasks = map (λ task. rate_of scale task * u) tasks

-- shares laid end to end from place q on: the first place of each, and the first behind them all
abbrev pub first_places : ℕ → List ℕ → List ℕ
first_places q [] = q ∷ []
first_places q (n ∷ ns) = q ∷ first_places (q + n) ns

-- which of the shares holds place q, where they are laid from place 0 on; their number where none does
abbrev pub holder : List ℕ → ℕ → ℕ
holder [] q = 0
holder (n ∷ ns) q = elim (nat_lt q n) [ true ↦ 0 | false ↦ suc (holder ns (q - n)) ]

-- whether a share begins, or the idle places begin, q places behind the first of a processor with that many places
abbrev pub is_cut : ℕ → List ℕ → ℕ → Bool
is_cut size ns q = list_any (λ first. first % size == q) (first_places 0 ns)

-- the rounds of a slice whose processors have that many places each
abbrev pub round_spans : ℕ → List ℕ → List Span
round_spans size ns = spans_at (is_cut size ns) size

-- what processor p runs in a slice from unit x on where share i holds its place; a task before its offset is shown as waiting
abbrev pub leaf_of : List declared.Task → ℕ → ℕ → ℕ → Leaf
leaf_of tasks x p i = elim (nat_lt i (length tasks)) [
  | true ↦ elim (nat_lt x (task_at tasks i).offset) [ true ↦ Wait (record { 0 = i }) | false ↦ Task (record { 0 = i }) ]
  | false ↦ Idle p
]

-- the row of processor p in a round of a slice that begins at unit x, with these shares, and that many places on each processor
abbrev pub row_of : List declared.Task → ℕ → ℕ → ℕ → List ℕ → Span → ℕ → Row
row_of tasks scale x size ns round p = record {
  processor = p;
  start = x * scale + round.begin;
  end = x * scale + round.end;
  leaf = leaf_of tasks x p (holder ns (p * size + round.begin));
}

-- the units of a slice
abbrev pub units : Span → ℕ
units slice = slice.end - slice.begin

-- the rounds of a slice
abbrev pub slice_rounds : ℕ → List declared.Task → Span → List Span
slice_rounds scale tasks slice = round_spans (units slice * scale) (shares scale (units slice) tasks)

-- the rows of a round of a slice, one for each of m processors
abbrev pub round_rows : ℕ → List declared.Task → ℕ → Span → Span → List Row
round_rows scale tasks m slice round = map (row_of tasks scale slice.begin (units slice * scale) (shares scale (units slice) tasks) round) (range_with_len 0 m)

-- the rows of a slice, round by round
abbrev pub slice_rows : ℕ → List declared.Task → ℕ → Span → List Row
slice_rows scale tasks m slice = flat_map (round_rows scale tasks m slice) (slice_rounds scale tasks slice)

-- the rows of the wrapped schedule up to the horizon, slice by slice
unfoldable pub wrapped : ℕ → SetContents → List Row
wrapped scale s = flat_map (slice_rows scale s.tasks s.processors) (slices s)

-- how many rounds it has
unfoldable pub wrapped_rounds : ℕ → SetContents → ℕ
wrapped_rounds scale s = length (flat_map (slice_rounds scale s.tasks) (slices s))
