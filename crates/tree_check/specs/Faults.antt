-- The faults of a tree that was read, by line and kind, and the first of them.
use Rattle.std.specs.Prelude.{ℕ, zero, suc, ◌+◌, ◌-◌, ◌*◌, ◌<◌, ◌≤◌, ◌≡◌, ◌≢◌, ◌⊎◌, List}
use Rattle.std.specs.Prelude.{◌++◌, Option, Some, None, length, map, sum, take}
use Rattle.std.specs.Prelude.{slice_index_or}
use Rattle.std.specs.List.{flat_map, position_from}
use Rattle.std.specs.Str.{bytes_eq}
use Rattle.sched_base.specs.declared.sets.Task.{Task}
use Rattle.sched_base.specs.Scale.{rate_of}
use Rattle.tree_check.specs.declared.faults.TreeKind.{TreeKind}
use Rattle.tree_check.specs.declared.faults.TreeKind.TheVariants.{Total, Unplaced, Member, Rate, Pair, Unfinished}
use Rattle.tree_check.specs.declared.written.Member as written
use Rattle.tree_check.specs.declared.written.Member.TheVariants.{Name, Number}
use Rattle.tree_check.specs.Written.{Pack, Written, level_at, pack_at, level_line, pack_line, end_line}

-- ---- what there is to place in a level

-- the rates of what level l has to place, by number: the tasks and then the idle leaves; in a higher level what each pack of
-- the level below lacks, by its printed rate. 0 says that there is nothing: a pack of the scale's rate has no dual.
abbrev pub to_place : Written → ℕ → List ℕ
to_place w zero = map (rate_of w.scale) w.set.tasks ++ w.idles
to_place w (suc l) = map (λ p. w.scale - p.rate) (level_at w l)

-- the rate of what has number i
abbrev pub rate_at : Written → ℕ → ℕ → ℕ
rate_at w l i = slice_index_or (to_place w l) i 0

-- the number of what a member of level 0 names, where it may be one
abbrev pub leaf_number : List Task → written.Member → Option ℕ
leaf_number tasks (Name name) = position_from (λ t. bytes_eq t.name name) 0 tasks
leaf_number tasks (Number k) = Some (length tasks + k)

-- the number of what a member of a higher level names; a name is none
abbrev pub dual_number : written.Member → Option ℕ
dual_number (Name name) = None
dual_number (Number j) = Some j

-- the number of what a member of level l names
abbrev pub named : Written → ℕ → written.Member → Option ℕ
named w zero x = leaf_number w.set.tasks x
named w (suc l) x = dual_number x

-- the rate of what is named, 0 where nothing is
abbrev pub rate_of_named : Written → ℕ → Option ℕ → ℕ
rate_of_named w l None = 0
rate_of_named w l (Some i) = rate_at w l i

-- the rate of a member, 0 where there isn't such a one
abbrev pub member_rate : Written → ℕ → written.Member → ℕ
member_rate w l x = rate_of_named w l (named w l x)

-- the members of these packs, in the order of their lines
abbrev pub members_of : List Pack → List written.Member
members_of packs = flat_map (λ p. p.members) packs

-- how many members stand in the packs before pack i
abbrev pub before : List Pack → ℕ → ℕ
before packs i = length (members_of (take i packs))

-- what member k of all members of a level names
abbrev pub names_at : Written → ℕ → ℕ → Option ℕ
names_at w l k = slice_index_or (map (named w l) (members_of (level_at w l))) k None

-- ---- the faults

-- something of level l is in no pack
abbrev pub LeavesOut : Written → ℕ → Type 0
LeavesOut w l = (i : ℕ) × (0 < rate_at w l i) × ((k : ℕ) → k < length (members_of (level_at w l)) → names_at w l k ≢ Some i)

-- there isn't what member k of the level names, or an earlier member names it too
abbrev pub IsBadMember : Written → ℕ → ℕ → Type 0
IsBadMember w l k = (rate_of_named w l (names_at w l k) ≡ 0) ⊎ ((j : ℕ) × (j < k) × (names_at w l j ≡ names_at w l k))

-- pack i of level l has a bad member
abbrev pub HasBadMember : Written → ℕ → ℕ → Type 0
HasBadMember w l i = (k : ℕ) × (before (level_at w l) i ≤ k) × (k < before (level_at w l) (suc i)) × IsBadMember w l k

-- the sum of the rates of its members
abbrev pub members_rate : Written → ℕ → Pack → ℕ
members_rate w l p = sum (map (member_rate w l) p.members)

-- pack i and an earlier one of its level have room in one
abbrev pub HasRoomWith : Written → ℕ → ℕ → Type 0
HasRoomWith w l i = (j : ℕ) × (j < i) × ((pack_at (level_at w l) j).rate + (pack_at (level_at w l) i).rate ≤ w.scale)

-- the line is that of a level of which this holds
abbrev pub IsLevelLine : Written → (ℕ → Type 0) → ℕ → Type 0
IsLevelLine w P line = (l : ℕ) × (l < length w.levels) × (line ≡ level_line w l) × P l

-- the line is that of a pack, by its level and number, of which this holds
abbrev pub IsPackLine : Written → (ℕ → ℕ → Type 0) → ℕ → Type 0
IsPackLine w P line = (l i : ℕ) × (l < length w.levels) × (i < length (level_at w l)) × (line ≡ pack_line w l i) × P l i

-- the last level has a pack that is no root
abbrev pub IsUnfinished : Written → Type 0
IsUnfinished w = (i : ℕ) × (i < length (level_at w (length w.levels - 1))) × ((pack_at (level_at w (length w.levels - 1)) i).rate < w.scale)

-- this kind of fault stands at this line
abbrev pub HasFault : Written → TreeKind → ℕ → Type 0
HasFault w Total line = (line ≡ level_line w 0) × (sum (to_place w 0) ≢ w.set.processors * w.scale)
HasFault w Unplaced line = IsLevelLine w (LeavesOut w) line
HasFault w Member line = IsPackLine w (HasBadMember w) line
HasFault w Rate line = IsPackLine w (λ l i. (pack_at (level_at w l) i).rate ≢ members_rate w l (pack_at (level_at w l) i)) line
HasFault w Pair line = IsPackLine w (HasRoomWith w) line
HasFault w Unfinished line = (line ≡ end_line w) × IsUnfinished w

-- the order of kinds: of several at one line the first is told
abbrev pub rank : TreeKind → ℕ
rank Total = 0
rank Unplaced = 1
rank Member = 2
rank Rate = 3
rank Pair = 4
rank Unfinished = 5

-- nothing is at fault
abbrev pub HasNone : (TreeKind → ℕ → Type 0) → Type 0
HasNone Has = (kind : TreeKind) (line : ℕ) → Has kind line → ⊥

-- of these faults this is the first: the least line, with the first kind that stands there
abbrev pub IsFirstOf : (TreeKind → ℕ → Type 0) → ℕ → TreeKind → Type 0
IsFirstOf Has line kind = Has kind line × ((other : TreeKind) (at : ℕ) → Has other at → (line < at) ⊎ ((line ≡ at) × (rank kind ≤ rank other)))

-- the text has no fault
abbrev pub HasNoFault : Written → Type 0
HasNoFault w = HasNone (HasFault w)

-- the least line at fault, with the first kind that stands there
abbrev pub IsFirstFault : Written → ℕ → TreeKind → Type 0
IsFirstFault w line kind = IsFirstOf (HasFault w) line kind
