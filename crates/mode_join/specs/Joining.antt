-- When a list of sets can be joined: sets that follow each other on the same processors, and switch where no period is open.
use Rattle.std.specs.Prelude.{ℕ, ◌+◌, ◌*◌, ◌/◌, ◌<◌, ◌≤◌, ◌≡◌, ◌≢◌, List, [], ◌∷◌, Some, slice_get, take}
use Rattle.std.specs.Int.{◌∣◌}
use Rattle.std.specs.List.{AllZip, sum_by}
use Rattle.sched_base.specs.Sets.{SetContents}
use Rattle.sched_base.specs.Scale.{IsScale}
use Rattle.sched_base.specs.Tables.{row_limit}
use Rattle.repeat_laws.specs.Repeats.{CanRepeat, IsFirstTask}
use Rattle.run_tree.specs.Compiled.{tree_of}
use Rattle.run_tree.specs.Plans.{PlanContents, rounds_of}
use Rattle.run_compile.specs.Answers.{IsOverload}
use Rattle.mode_join.specs.declared.faults.ModeKind.{ModeKind}
use Rattle.mode_join.specs.declared.faults.ModeKind.TheVariants as kind
use Rattle.mode_join.specs.declared.faults.ModeFault.{ModeFault}
use Rattle.mode_join.specs.declared.faults.ModeFault.TheVariants as fault

-- the set may be a mode on these processors: no period is open at its start or at its end
pub record CanJoin (processors : ℕ) (s : SetContents) : Type 0 where
  pub same_processors : s.processors ≡ processors
  pub can_repeat : CanRepeat s

-- the plan that the compiler makes of a set
pub record IsPlanOf (s : SetContents) (p : PlanContents) : Type 0 where
  pub set : p.set ≡ s
  pub scale : IsScale s.tasks p.tree.scale
  pub tree : p.tree ≡ tree_of p.tree.scale s

-- the rows of a plan's schedule, one for each round and processor
abbrev pub rows_of : PlanContents → ℕ
rows_of p = rounds_of p * p.set.processors

-- this is wrong with a set that would follow these others on so many processors
abbrev pub Has : ℕ → List SetContents → SetContents → ModeKind → Type 0
Has processors before s kind.Processors = s.processors ≢ processors
Has processors before s (kind.Offset task) = IsFirstTask (λ t. t.offset ≢ 0) s.tasks task
Has processors before s (kind.Period task) = IsFirstTask (λ t. t.period ∣ s.horizon → ⊥) s.tasks task
Has processors before s (kind.Overload total room) = IsOverload s total room
Has processors before s (kind.TooLong rows) =
    ((plans : List PlanContents) × (p : PlanContents) × AllZip IsPlanOf before plans × IsPlanOf s p
    × (row_limit < sum_by rows_of plans + rows_of p))
    × (rows ≡ (row_limit / processors + 1) * processors)

-- the order of kinds: of several that hold of one set the first is told
abbrev pub rank : ModeKind → ℕ
rank kind.Processors = 0
rank (kind.Offset task) = 1
rank (kind.Period task) = 2
rank (kind.Overload total room) = 3
rank (kind.TooLong rows) = 4

-- of what is wrong with the set this is the first
pub record IsFirstOf (processors : ℕ) (before : List SetContents) (s : SetContents) (k : ModeKind) : Type 0 where
  pub has : Has processors before s k
  pub first : (other : ModeKind) → Has processors before s other → rank k ≤ rank other

-- the processors of the first set
abbrev pub processors_of : List SetContents → ℕ
processors_of [] = 0
processors_of (s ∷ sets) = s.processors

-- this is wrong with set j of the list
abbrev pub HasAt : List SetContents → ℕ → ModeKind → Type 0
HasAt sets j k = (s : SetContents) × (slice_get sets j ≡ Some s) × Has (processors_of sets) (take j sets) s k

-- set j is the first that can't be a mode, and of what is wrong with it this is the first
pub record IsFirstFlaw (sets : List SetContents) (j : ℕ) (k : ModeKind) : Type 0 where
  pub has : HasAt sets j k
  pub first : (other : ModeKind) → HasAt sets j other → rank k ≤ rank other
  pub lowest : (i : ℕ) (other : ModeKind) → i < j → HasAt sets i other → ⊥

-- nothing is wrong with any set of the list
abbrev pub CanBeJoined : List SetContents → Type 0
CanBeJoined sets = (j : ℕ) (k : ModeKind) → HasAt sets j k → ⊥

-- what a refusal to join says of the list: which set and why, or nothing where memory was refused
abbrev pub SaysOf : List SetContents → ModeFault → Type 0
SaysOf sets (fault.Refused mode k) = IsFirstFlaw sets mode k
SaysOf sets fault.NoMemory = Unit {0}

-- a refusal of this set, of which this holds
abbrev pub RefusesAs : ℕ → (ModeKind → Type 0) → ModeFault → Type 0
RefusesAs j P (fault.Refused mode k) = (mode ≡ j) × P k
RefusesAs j P fault.NoMemory = Unit {0}

-- the set asks for too much
abbrev pub IsOverloadOf : SetContents → ModeKind → Type 0
IsOverloadOf s kind.Processors = ⊥
IsOverloadOf s (kind.Offset task) = ⊥
IsOverloadOf s (kind.Period task) = ⊥
IsOverloadOf s (kind.Overload total room) = IsOverload s total room
IsOverloadOf s (kind.TooLong rows) = ⊥

-- behind so many rows the plan's are too many
abbrev pub IsTooLongAfter : ℕ → PlanContents → ModeKind → Type 0
IsTooLongAfter before p kind.Processors = ⊥
IsTooLongAfter before p (kind.Offset task) = ⊥
IsTooLongAfter before p (kind.Period task) = ⊥
IsTooLongAfter before p (kind.Overload total room) = ⊥
IsTooLongAfter before p (kind.TooLong rows) =
    (row_limit < before + rows_of p) × (rows ≡ (row_limit / p.set.processors + 1) * p.set.processors)
