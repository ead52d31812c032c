-- Worked sets, whose trees and schedules are computed from the definitions.
use Rattle.std.proofs.Common.{◌≡◌, ℕ, true, false, List, [], ◌∷◌, map, get_or, Some, None, refl}
use Rattle.sched_base.specs.declared.rows.Leaf.{Leaf}
use Rattle.sched_base.specs.declared.rows.Leaf.TheVariants.{Task, Wait}
use Rattle.sched_base.specs.declared.rows.Row.{Row}
use Rattle.sched_base.specs.declared.sets.Task as declared
use Rattle.sched_base.specs.Sets.{SetContents}
use Rattle.sched_base.specs.Places.{onto_next}
use Rattle.run_tree.specs.declared.kinds.Kind.TheVariants as kind
use Rattle.run_tree.specs.Windows.{window_end}
use Rattle.run_tree.specs.Tree.{Node, Tree}
use Rattle.run_tree.specs.Boundaries.{is_boundary, set_boundary}
use Rattle.run_tree.specs.Runs.{runs, runs_now, ticks_below}
use Rattle.run_tree.specs.Rounds.{is_event}
use Rattle.run_tree.specs.Schedule.{onto_at, round_rows, schedule}
use Rattle.run_tree.specs.TreeOfSet.{task_id}
use Rattle.run_tree.specs.Making.{put}
use Rattle.run_tree.specs.Compiled.{tree_of, tree_of_rates}

-- a task whose name is one letter
abbrev named : ℕ → ℕ → ℕ → ℕ → declared.Task
named letter work period offset = record { name = letter ∷ []; work = work; period = period; offset = offset }

abbrev leaf_node : ℕ → ℕ → ℕ → ℕ → Node
leaf_node j rate home place = record { kind = kind.Leaf (Task (task_id j)); rate = rate; home = home; place = place; members = []; dual = None }

abbrev lower_pack : ℕ → ℕ → List ℕ → ℕ → Node
lower_pack level rate members dual = record { kind = kind.Pack level; rate = rate; home = 0; place = 0; members = members; dual = Some dual }

abbrev root : ℕ → ℕ → List ℕ → Node
root level rate members = record { kind = kind.Pack level; rate = rate; home = 0; place = 0; members = members; dual = None }

abbrev dual_node : ℕ → ℕ → ℕ → ℕ → Node
dual_node primal rate home place = record { kind = kind.Dual (record { 0 = primal }); rate = rate; home = home; place = place; members = []; dual = None }

abbrev row : ℕ → ℕ → ℕ → Leaf → Row
row processor start end leaf = record { processor = processor; start = start; end = end; leaf = leaf }

abbrev task_row : ℕ → ℕ → ℕ → ℕ → Row
task_row processor start end j = row processor start end (Task (task_id j))

-- ---- three tasks of rate 2/3 on two processors

abbrev three_set : SetContents
three_set = record { processors = 2; horizon = 3; tasks = named 97 2 3 0 ∷ named 98 2 3 0 ∷ named 99 2 3 0 ∷ [] }

abbrev three : Tree
three = record {
  processors = 2;
  scale = 3;
  levels = 2;
  nodes =
      lower_pack 0 2 (1 ∷ []) 7 ∷ leaf_node 0 2 0 0
      ∷ lower_pack 0 2 (3 ∷ []) 8 ∷ leaf_node 1 2 2 0
      ∷ lower_pack 0 2 (5 ∷ []) 9 ∷ leaf_node 2 2 4 0
      ∷ root 1 3 (7 ∷ 8 ∷ 9 ∷ [])
      ∷ dual_node 0 1 6 0 ∷ dual_node 2 1 6 1 ∷ dual_node 4 1 6 2 ∷ [];
}

pub three_compiled : tree_of 3 three_set ≡ three
unfolding tree_of_rates put
three_compiled = refl

-- the duals of the higher pack run 0 to 3, 3 to 6 and 6 to 9
pub three_duals : map (λ tick. get_or tick 7 false ∷ get_or tick 8 false ∷ get_or tick 9 false ∷ []) (ticks_below (set_boundary three_set.tasks) three 9)
    ≡ (true ∷ false ∷ false ∷ []) ∷ (true ∷ false ∷ false ∷ []) ∷ (true ∷ false ∷ false ∷ [])
    ∷ (false ∷ true ∷ false ∷ []) ∷ (false ∷ true ∷ false ∷ []) ∷ (false ∷ true ∷ false ∷ [])
    ∷ (false ∷ false ∷ true ∷ []) ∷ (false ∷ false ∷ true ∷ []) ∷ (false ∷ false ∷ true ∷ []) ∷ []
unfolding runs runs_now window_end is_boundary
three_duals = refl

-- b runs and then a on the first processor, c and then b on the second
pub three_rows : schedule three_set.tasks three 9 ≡
    task_row 0 0 3 1 ∷ task_row 1 0 3 2
    ∷ task_row 0 3 6 0 ∷ task_row 1 3 6 2
    ∷ task_row 0 6 9 0 ∷ task_row 1 6 9 1 ∷ []
unfolding schedule round_rows is_event onto_at onto_next runs runs_now window_end is_boundary
three_rows = refl

-- ---- five tasks of rate 3/5 on three processors: two reductions

abbrev five_set : SetContents
five_set = record { processors = 3; horizon = 5; tasks = named 97 3 5 0 ∷ named 98 3 5 0 ∷ named 99 3 5 0 ∷ named 100 3 5 0 ∷ named 101 3 5 0 ∷ [] }

abbrev five : Tree
five = record {
  processors = 3;
  scale = 5;
  levels = 3;
  nodes =
      lower_pack 0 3 (1 ∷ []) 11 ∷ leaf_node 0 3 0 0
      ∷ lower_pack 0 3 (3 ∷ []) 12 ∷ leaf_node 1 3 2 0
      ∷ lower_pack 0 3 (5 ∷ []) 14 ∷ leaf_node 2 3 4 0
      ∷ lower_pack 0 3 (7 ∷ []) 15 ∷ leaf_node 3 3 6 0
      ∷ lower_pack 0 3 (9 ∷ []) 17 ∷ leaf_node 4 3 8 0
      ∷ lower_pack 1 4 (11 ∷ 12 ∷ []) 19 ∷ dual_node 0 2 10 0 ∷ dual_node 2 2 10 1
      ∷ lower_pack 1 4 (14 ∷ 15 ∷ []) 20 ∷ dual_node 4 2 13 0 ∷ dual_node 6 2 13 1
      ∷ lower_pack 1 2 (17 ∷ []) 21 ∷ dual_node 8 2 16 0
      ∷ root 2 5 (19 ∷ 20 ∷ 21 ∷ [])
      ∷ dual_node 10 1 18 0 ∷ dual_node 13 1 18 1 ∷ dual_node 16 3 18 2 ∷ [];
}

pub five_compiled : tree_of 5 five_set ≡ five
unfolding tree_of_rates put
five_compiled = refl

-- a runs 0 to 5 and 15 to 25
pub five_first : map (λ tick. get_or tick 1 false) (ticks_below (set_boundary five_set.tasks) five 25)
    ≡ true ∷ true ∷ true ∷ true ∷ true ∷ false ∷ false ∷ false ∷ false ∷ false ∷ false ∷ false ∷ false ∷ false ∷ false ∷ true ∷ true ∷ true ∷ true ∷ true
    ∷ true ∷ true ∷ true ∷ true ∷ true ∷ []
unfolding runs runs_now window_end is_boundary
five_first = refl

pub five_rows : schedule five_set.tasks five 25 ≡
    task_row 0 0 5 0 ∷ task_row 1 0 5 1 ∷ task_row 2 0 5 3
    ∷ task_row 0 5 10 2 ∷ task_row 1 5 10 1 ∷ task_row 2 5 10 3
    ∷ task_row 0 10 15 4 ∷ task_row 1 10 15 1 ∷ task_row 2 10 15 3
    ∷ task_row 0 15 25 4 ∷ task_row 1 15 25 0 ∷ task_row 2 15 25 2 ∷ []
unfolding schedule round_rows is_event onto_at onto_next runs runs_now window_end is_boundary
five_rows = refl

-- ---- two tasks of rate 1/2 on one processor, of which the first is released at unit 1

abbrev late_set : SetContents
late_set = record { processors = 1; horizon = 5; tasks = named 97 1 2 1 ∷ named 98 1 2 0 ∷ [] }

abbrev late : Tree
late = record { processors = 1; scale = 2; levels = 1; nodes = root 0 2 (1 ∷ 2 ∷ []) ∷ leaf_node 0 1 0 0 ∷ leaf_node 1 1 0 1 ∷ [] }

pub late_compiled : tree_of 2 late_set ≡ late
unfolding tree_of_rates put
late_compiled = refl

-- the processor idles for a up to its release, and then both take turns
pub late_rows : schedule late_set.tasks late 10 ≡
    row 0 0 1 (Wait (task_id 0)) ∷ task_row 0 1 2 1 ∷ task_row 0 2 3 1 ∷ task_row 0 3 4 0 ∷ task_row 0 4 5 0
    ∷ task_row 0 5 6 1 ∷ task_row 0 6 7 1 ∷ task_row 0 7 8 0 ∷ task_row 0 8 9 0 ∷ task_row 0 9 10 1 ∷ []
unfolding schedule round_rows is_event onto_at onto_next runs runs_now window_end is_boundary
late_rows = refl
