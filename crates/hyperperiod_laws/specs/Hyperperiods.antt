-- Schedules of reduction trees that come again after so many units.
use Rattle.std.specs.Prelude.{ℕ, ◌+◌, ◌*◌, ◌<◌, ◌≤◌, ◌≡◌, true, false, length, None}
use Rattle.std.specs.List.{AllByRecursion}
use Rattle.sched_base.specs.Scale.{PeriodsDivide}
use Rattle.sched_base.specs.Sets.{SetContents, IsLawful}
use Rattle.run_tree.specs.Boundaries.{set_boundary}
use Rattle.run_tree.specs.Runs.{due_left, ticks_below}
use Rattle.run_tree.specs.Tree.{Tree, IsMember, IsPack, leaf, member, members, dual}
use Rattle.run_tree.specs.TreeOfSet.{IsTreeOf, is_idle}
use Rattle.repeat_laws.specs.Repeats.{CanRepeat, up_to}

-- no pack holds two idle leaves, and one that holds an idle leaf alone is a root
pub record IdlesApart (t : Tree) : Type 0 where
  pub one : (p j k : ℕ) → IsPack t p → j < length (members t p) → k < length (members t p) → is_idle (leaf t (member t p j)) ≡ true →
      is_idle (leaf t (member t p k)) ≡ true → j ≡ k
  pub root : (p : ℕ) → IsPack t p → length (members t p) ≡ 1 → is_idle (leaf t (member t p 0)) ≡ true → dual t p ≡ None

-- a reduction tree of a set without offsets, with idle leaves apart, and a number of units that each period divides
pub record ComesRound (s : SetContents) (t : Tree) (units : ℕ) : Type 0 where
  pub lawful : IsLawful s
  pub tree : IsTreeOf s t
  pub idles : IdlesApart t
  pub some : 1 ≤ units
  pub closed : CanRepeat (up_to units s)

-- what is left of the due of node x of a set's tree at tick n
abbrev pub left_of : SetContents → Tree → ℕ → ℕ → ℕ
left_of s t x n = due_left (set_boundary s.tasks) t (ticks_below (set_boundary s.tasks) t n) x

-- A reduction tree of a set, with idle leaves apart, and a number of units that each period divides: from tick `start` on no task waits for its
-- offset, and so many units later as much is left there of each due as at that tick, but for those of idle leaves.
pub record IsLeftAgain (s : SetContents) (t : Tree) (units start : ℕ) : Type 0 where
  pub lawful : IsLawful s
  pub tree : IsTreeOf s t
  pub idles : IdlesApart t
  pub some : 1 ≤ units
  pub whole : PeriodsDivide s.tasks units
  pub released : AllByRecursion (λ k. k.offset * t.scale ≤ start) s.tasks
  pub left : (x : ℕ) → IsMember t x → is_idle (leaf t x) ≡ false → left_of s t x (start + units * t.scale) ≡ left_of s t x start
