-- The compiled tree of a set: first fit and idle fill at level 0, and first fit over the duals at each further level.
use Rattle.std.specs.Prelude.{ℕ, zero, suc, ◌-◌, ◌*◌, List, [], ◌∷◌, length, map, sum}
use Rattle.sched_base.specs.declared.rows.Leaf.TheVariants.{Task, Idle}
use Rattle.sched_base.specs.Sets.{SetContents}
use Rattle.sched_base.specs.Scale.{rate_of}
use Rattle.sched_base.specs.FirstFit.{first_with_room, idles}
use Rattle.run_tree.specs.declared.kinds.Kind.TheVariants as kind
use Rattle.run_tree.specs.Tree.{Tree}
use Rattle.run_tree.specs.Making.{Making, Item, started, put, last_rates, lower_packs, new_level, dual_items}

-- each item in order goes into the first pack of the last level that has room, or into a new one
abbrev pub pack_items : List Item → Making → Making
pack_items [] m = m
pack_items (x ∷ items) m = pack_items items (put x.kind x.rate (first_with_room m.tree.scale x.rate (last_rates m)) m)

-- tasks of these rates, from number j on
abbrev pub task_items : ℕ → List ℕ → List Item
task_items j [] = []
task_items j (rate ∷ rates) = record { kind = kind.Leaf (Task (record { 0 = j })); rate = rate } ∷ task_items (suc j) rates

-- idle leaves of these rates, from number k on, at the ends of the packs from b on; none where the rate is 0
abbrev pub put_idles : ℕ → ℕ → List ℕ → Making → Making
put_idles b k [] m = m
put_idles b k (zero ∷ rates) m = put_idles (suc b) k rates m
put_idles b k (suc rate ∷ rates) m = put_idles (suc b) (suc k) rates (put (kind.Leaf (Idle k)) (suc rate) b m)

-- the last level with its slack given to idle leaves
abbrev pub filled_up : Making → Making
filled_up m = put_idles 0 0 (idles m.tree.scale (m.tree.processors * m.tree.scale - sum (last_rates m)) (last_rates m)) m

-- level 0: the tasks by first fit, then the idle leaves
abbrev pub first_level : ℕ → ℕ → List ℕ → Making
first_level processors scale rates = filled_up (pack_items (task_items 0 rates) (started processors scale))

-- one more level, of the duals of these packs by first fit
abbrev pub level_above : Making → List ℕ → Making
level_above m packs = pack_items (dual_items m.tree packs) (new_level m)

-- one level more over these packs, and those above it; none where no pack is left
abbrev pub climb_by : List ℕ → Making → (Making → Making) → Making
climb_by [] m higher = m
climb_by (p ∷ packs) m higher = higher (level_above m (p ∷ packs))

-- levels while some pack of the last one isn't a root, at most so many
abbrev pub climb : ℕ → Making → Making
climb zero m = m
climb (suc more) m = climb_by (lower_packs m) m (climb more)

-- each level has fewer packs that aren't roots than the one below, so there are at most as many levels as packs
abbrev pub all_levels : Making → Making
all_levels m = climb (length m.last) m

-- the compiled tree of tasks of these rates
unfoldable pub tree_of_rates : ℕ → ℕ → List ℕ → Tree
tree_of_rates processors scale rates = (all_levels (first_level processors scale rates)).tree

-- the compiled tree of a set
abbrev pub tree_of : ℕ → SetContents → Tree
tree_of scale s = tree_of_rates s.processors scale (map (rate_of scale) s.tasks)
