-- The lines of a tree text, by what it says.
use Rattle.std.proofs.Common.{ℕ, zero, suc, ◌+◌, ◌^◌, ◌<◌, ◌≤◌, ◌≡◌, true, List, [], ◌∷◌, ◌++◌, map, length, codes, decimal}
use Rattle.std.specs.List.{AllByRecursion}
use Rattle.sched_base.specs.Names.{is_lawful_name}
use Rattle.sched_base.specs.Scale.{IsScale}
use Rattle.sched_base.specs.Sets.{IsLawful}
use Rattle.sched_edges.specs.Lines.{line_of, number_line, numbers_line}
use Rattle.trace_format.specs.declared.versions.Version.TheVariants.{One}
use Rattle.trace_format.specs.Lines.{task_line}
use Rattle.trace_format.specs.Conditions.{AreOnTime}
use Rattle.tree_check.specs.declared.written.Member.{Member}
use Rattle.tree_check.specs.declared.written.Member.TheVariants.{Name, Number}
use Rattle.tree_check.specs.Written.{Pack, Written}

-- the word of a member of level l
abbrev pub word_at : ℕ → Member → List ℕ
word_at zero (Name name) = name
word_at zero (Number k) = 45 ∷ decimal k
word_at (suc l) (Name name) = name
word_at (suc l) (Number j) = 126 ∷ decimal j

-- the line of a pack of level l
abbrev pub line_of_pack : ℕ → Pack → List ℕ
line_of_pack l p = line_of (codes "pack") (decimal p.rate ∷ map (word_at l) p.members)

-- the lines of the levels from l on
abbrev pub lines_of_levels : ℕ → List (List Pack) → List (List ℕ)
lines_of_levels l [] = []
lines_of_levels l (packs ∷ levels) = numbers_line (codes "level") l (length packs) ∷ (map (line_of_pack l) packs ++ lines_of_levels (l + 1) levels)

-- the lines of the idle leaves from k on
abbrev pub lines_of_idles : ℕ → List ℕ → List (List ℕ)
lines_of_idles k [] = []
lines_of_idles k (r ∷ rates) = numbers_line (codes "idle") k r ∷ lines_of_idles (k + 1) rates

-- from the `idles` line on
abbrev pub last_lines : Written → List (List ℕ)
last_lines w =
    number_line (codes "idles") (length w.idles) ∷ (lines_of_idles 0 w.idles
    ++ (lines_of_levels 0 w.levels ++ number_line (codes "levels") (length w.levels) ∷ []))

-- all lines
abbrev pub tree_lines : Written → List (List ℕ)
tree_lines w =
    number_line (codes "run-tree") 1 ∷ (number_line (codes "processors") w.set.processors ∷ (number_line (codes "horizon") w.set.horizon
    ∷ (number_line (codes "scale") w.scale ∷ (number_line (codes "tasks") (length w.set.tasks) ∷ (map (task_line One) w.set.tasks ++ last_lines w)))))

-- a member of level l is read again: a lawful name, in level 0 alone, or a number that fits
abbrev pub IsWritable : ℕ → Member → Type 0
IsWritable l (Name name) = (l ≡ 0) × (is_lawful_name name ≡ true)
IsWritable l (Number n) = n < 2 ^ 32

-- a pack of level l is
pub record IsPackLine (scale l : ℕ) (p : Pack) : Type 0 where
  pub within : p.rate ≤ scale
  pub some : 0 < length p.members
  pub each : AllByRecursion (IsWritable l) p.members

-- a level is
pub record IsLevelLines (scale l : ℕ) (packs : List Pack) : Type 0 where
  pub some : 0 < length packs
  pub few : length packs ≤ 1280
  pub each : AllByRecursion (IsPackLine scale l) packs

-- the levels from l on are
abbrev pub AreLevels : ℕ → ℕ → List (List Pack) → Type 0
AreLevels scale l [] = Unit {0}
AreLevels scale l (packs ∷ levels) = IsLevelLines scale l packs × AreLevels scale (l + 1) levels

-- what a text says is within the form's limits
pub record IsText (w : Written) : Type 0 where
  pub lawful : IsLawful w.set
  pub on_time : AreOnTime w.set.tasks
  pub is_scale : IsScale w.set.tasks w.scale
  pub scale_fits : w.scale ≤ 2 ^ 94
  pub few_idles : length w.idles ≤ 1024
  pub idles : AllByRecursion (λ r. (1 ≤ r) × (r ≤ w.scale)) w.idles
  pub some_level : 0 < length w.levels
  pub few_levels : length w.levels < 10 ^ 64
  pub levels : AreLevels w.scale 0 w.levels
