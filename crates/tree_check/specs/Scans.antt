-- What a scan of a level's packs finds, and what its marks say.
use Rattle.std.specs.Prelude.{ℕ, ◌-◌, ◌*◌, ◌^◌, ◌<◌, ◌≤◌, ◌≡◌, ◌≢◌, ◌⊎◌, ◌==◌, nat_le, Bool}
use Rattle.std.specs.Prelude.{true, false, if◌then◌else◌, List, ◌++◌, Option}
use Rattle.std.specs.Prelude.{Some, None, length, map, min, sum, take, slice_index_or, MatchOption}
use Rattle.tree_check.specs.declared.faults.TreeKind.{TreeKind}
use Rattle.tree_check.specs.declared.faults.TreeKind.TheVariants as kinds
use Rattle.tree_check.specs.Written.{Pack, Written, level_at, pack_at, level_line, pack_line}
use Rattle.tree_check.specs.declared.check.Fault.{Fault}
use Rattle.tree_check.specs.Faults.{to_place, named, members_of, members_rate, HasBadMember, HasRoomWith, LeavesOut, HasNone, IsFirstOf}

-- ---- names

-- the rate of what is named, 0 where nothing is
abbrev pub rate_in : List ℕ → Option ℕ → ℕ
rate_in rates None = 0
rate_in rates (Some i) = slice_index_or rates i 0

-- what the members of these packs of level l name, in order
abbrev pub names_of : Written → ℕ → List Pack → List (Option ℕ)
names_of w l packs = map (named w l) (members_of packs)

-- ---- marks

-- one of these names is this
abbrev pub Stands : List (Option ℕ) → Option ℕ → Type 0
Stands names o = (j : ℕ) × (j < length names) × (slice_index_or names j None ≡ o)

-- what comes after these names names nothing, or one of them names it too
abbrev pub IsBadAfter : List ℕ → List (Option ℕ) → Option ℕ → Type 0
IsBadAfter rates names o = (rate_in rates o ≡ 0) ⊎ Stands names o

-- one of these further names is bad
abbrev pub HasBadAfter : List ℕ → List (Option ℕ) → List (Option ℕ) → Type 0
HasBadAfter rates names more = (k : ℕ) × (k < length more) × IsBadAfter rates (names ++ take k more) (slice_index_or more k None)

-- of what has a rate, just what these name is marked
pub record AreMarks (rates : List ℕ) (names : List (Option ℕ)) (marks : List Bool) : Type 0 where
  pub long : length marks ≡ length rates
  pub named : (n : ℕ) → 0 < slice_index_or rates n 0 → slice_index_or marks n false ≡ true → Stands names (Some n)
  pub marked : (n : ℕ) → 0 < slice_index_or rates n 0 → Stands names (Some n) → slice_index_or marks n false ≡ true

-- something with a rate has no mark
abbrev pub HasUnmarked : List ℕ → List Bool → Type 0
HasUnmarked rates marks = (i : ℕ) × (0 < slice_index_or rates i 0) × (slice_index_or marks i false ≡ false)

-- what placing further names tells: None where one is bad, else the sum of their rates, as far as a number goes
abbrev pub IsPlaced : List ℕ → List (Option ℕ) → List (Option ℕ) → Option ℕ → Type 0
IsPlaced rates names more o =
    MatchOption o (HasBadAfter rates names more)
    (λ s. (¬ HasBadAfter rates names more) × (s ≡ min (sum (map (rate_in rates) more)) (2 ^ 128 - 1)))

-- ---- packs

-- what a search of these faults finds: the first of them, or that there is none
abbrev pub IsFound : (TreeKind → ℕ → Type 0) → Option Fault → Type 0
IsFound Has o = MatchOption o (HasNone Has) (λ f. IsFirstOf Has f.line f.kind)

-- the least rate of the first n packs, as far as the scale goes: one of them is at most r exactly where it is
pub record IsLeast (scale : ℕ) (packs : List Pack) (n least : ℕ) : Type 0 where
  pub some : (r : ℕ) → r ≤ scale → least ≤ r → (j : ℕ) × (j < n) × ((pack_at packs j).rate ≤ r)
  pub all : (j : ℕ) → j < n → least ≤ (pack_at packs j).rate

-- what is wrong with a pack of this rate, where its members have this sum (None: one is bad), and the earlier packs this least rate
abbrev pub fault_of : Option ℕ → ℕ → ℕ → ℕ → Option TreeKind
fault_of None rate least scale = Some kinds.Member
fault_of (Some sum) rate least scale = if sum == rate then (if nat_le least (scale - rate) then Some kinds.Pair else None) else Some kinds.Rate

-- this kind of fault stands at the line of pack i of level l
abbrev pub HasPackFault : Written → ℕ → TreeKind → ℕ → Type 0
HasPackFault w l kinds.Total i = ⊥
HasPackFault w l kinds.Unplaced i = ⊥
HasPackFault w l kinds.Member i = HasBadMember w l i
HasPackFault w l kinds.Rate i = (pack_at (level_at w l) i).rate ≢ members_rate w l (pack_at (level_at w l) i)
HasPackFault w l kinds.Pair i = HasRoomWith w l i
HasPackFault w l kinds.Unfinished i = ⊥

-- it stands at one of the first n packs of level l
abbrev pub HasFaultBelow : Written → ℕ → ℕ → TreeKind → ℕ → Type 0
HasFaultBelow w l n kind line = (i : ℕ) × (i < n) × (line ≡ pack_line w l i) × HasPackFault w l kind i

-- the first fault stays; where there was none yet, one of this kind at this line is it
abbrev pub with_fault : Option Fault → Option TreeKind → ℕ → Option Fault
with_fault (Some f) kind line = Some f
with_fault None None line = None
with_fault None (Some kind) line = Some (record { line = line; kind = kind })

-- ---- a level

-- its leaves don't fill the processors: that can be so of level 0 alone
abbrev pub IsUnfilled : Written → ℕ → Type 0
IsUnfilled w l = (l ≡ 0) × (sum (to_place w 0) ≢ w.set.processors * w.scale)

-- this kind of fault stands at this line of level l
abbrev pub HasFaultIn : Written → ℕ → TreeKind → ℕ → Type 0
HasFaultIn w l kinds.Total line = (line ≡ level_line w l) × IsUnfilled w l
HasFaultIn w l kinds.Unplaced line = (line ≡ level_line w l) × LeavesOut w l
HasFaultIn w l kinds.Member line = HasFaultBelow w l (length (level_at w l)) kinds.Member line
HasFaultIn w l kinds.Rate line = HasFaultBelow w l (length (level_at w l)) kinds.Rate line
HasFaultIn w l kinds.Pair line = HasFaultBelow w l (length (level_at w l)) kinds.Pair line
HasFaultIn w l kinds.Unfinished line = ⊥

-- what is wrong at the line of level l itself
abbrev pub IsLineFault : Written → ℕ → Option TreeKind → Type 0
IsLineFault w l None = ¬ IsUnfilled w l × ¬ LeavesOut w l
IsLineFault w l (Some kinds.Total) = IsUnfilled w l
IsLineFault w l (Some kinds.Unplaced) = ¬ IsUnfilled w l × LeavesOut w l
IsLineFault w l (Some kinds.Member) = ⊥
IsLineFault w l (Some kinds.Rate) = ⊥
IsLineFault w l (Some kinds.Pair) = ⊥
IsLineFault w l (Some kinds.Unfinished) = ⊥
