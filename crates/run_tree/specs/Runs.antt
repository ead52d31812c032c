-- Which nodes run at each tick.
use Rattle.std.specs.Prelude.{ℕ, zero, suc, ◌-◌, ◌*◌, ◌/◌, ◌&&◌, not, Bool, true, false, List, [], ◌∷◌, ◌++◌, map, filter}
use Rattle.std.specs.Prelude.{drop, length}
use Rattle.std.specs.Prelude.{Option, Some, None, slice_index_or, count_by}
use Rattle.std.specs.List.{range_with_len}
use Rattle.sched_base.specs.declared.rows.Leaf.{Leaf}
use Rattle.sched_base.specs.Candidates.{earliest, is_at}
use Rattle.run_tree.specs.declared.kinds.Kind.{Kind}
use Rattle.run_tree.specs.declared.kinds.Kind.TheVariants as kind
use Rattle.run_tree.specs.Tree.{Tree, kind_at, rate, home, place, members, dual, level, is_leaf}
use Rattle.run_tree.specs.Boundaries.{is_boundary}
use Rattle.run_tree.specs.Windows.{window_begin, window_end}

-- ---- one tick, from what is left of each member's due and where its window ends

-- whether member x is the one that its pack picks: the one with due left whose window ends first
abbrev pub is_picked : Tree → (ℕ → ℕ) → (ℕ → ℕ) → ℕ → Bool
is_picked t remain end x = is_at (earliest (map (λ m. record { end = end m; remain = remain m }) (members t (home t x)))) (place t x)

-- a root runs, and a pack with a dual runs where the dual doesn't
abbrev pub unless_dual : Option ℕ → (ℕ → Bool) → Bool
unless_dual None runs = true
unless_dual (Some d) runs = not (runs d)

-- whether a pack runs that has so many levels above its own; a dual runs where its pack runs and picks it
abbrev pub pack_runs : Tree → (ℕ → Bool) → ℕ → ℕ → Bool
pack_runs t picked zero p = true
pack_runs t picked (suc above) p = unless_dual (dual t p) (λ d. pack_runs t picked above (home t d) && picked d)

-- a member runs where its pack runs and picks it
abbrev pub node_runs : Tree → (ℕ → Bool) → Kind → ℕ → Bool
node_runs t picked (kind.Leaf leaf) x = pack_runs t picked (t.levels - 1 - level t (home t x)) (home t x) && picked x
node_runs t picked (kind.Pack level) x = pack_runs t picked (t.levels - 1 - level) x
node_runs t picked (kind.Dual primal) x = pack_runs t picked (t.levels - 1 - level t (home t x)) (home t x) && picked x

-- whether node x runs
unfoldable pub runs_now : Tree → (ℕ → ℕ) → (ℕ → ℕ) → ℕ → Bool
runs_now t remain end x = node_runs t (is_picked t remain end) (kind_at t x) x

-- ---- all ticks: `past` has for each earlier tick the nodes that ran, so its length is the tick

-- what is left of the due of member x: its rate for each unit of its window, less the ticks at which it ran there
abbrev pub due_left : (Leaf → ℕ → Bool) → Tree → List (List Bool) → ℕ → ℕ
due_left of_leaf t past x =
    let u = length past / t.scale in
    let begin = window_begin (is_boundary of_leaf t x) u in
    let end = window_end (is_boundary of_leaf t x) u in
    rate t x * (end - begin) - count_by (λ tick. slice_index_or tick x false) (drop (begin * t.scale) past)

-- the unit at which the window of node x ends
abbrev pub window_end_now : (Leaf → ℕ → Bool) → Tree → List (List Bool) → ℕ → ℕ
window_end_now of_leaf t past x = window_end (is_boundary of_leaf t x) (length past / t.scale)

-- which nodes run at the next tick
abbrev pub next_tick : (Leaf → ℕ → Bool) → Tree → List (List Bool) → List Bool
next_tick of_leaf t past = map (runs_now t (due_left of_leaf t past) (window_end_now of_leaf t past)) (range_with_len 0 (length t.nodes))

-- the past, and who runs at the next tick
abbrev pub with_next_tick : (Leaf → ℕ → Bool) → Tree → List (List Bool) → List (List Bool)
with_next_tick of_leaf t past = past ++ next_tick of_leaf t past ∷ []

-- which nodes run at all ticks below n
abbrev pub ticks_below : (Leaf → ℕ → Bool) → Tree → ℕ → List (List Bool)
ticks_below of_leaf t zero = []
ticks_below of_leaf t (suc n) = with_next_tick of_leaf t (ticks_below of_leaf t n)

-- whether node x runs at tick n
unfoldable pub runs : (Leaf → ℕ → Bool) → Tree → ℕ → ℕ → Bool
runs of_leaf t x n = slice_index_or (next_tick of_leaf t (ticks_below of_leaf t n)) x false

-- the leaves that run at tick n
abbrev pub chosen : (Leaf → ℕ → Bool) → Tree → ℕ → List ℕ
chosen of_leaf t n = filter (λ x. is_leaf (kind_at t x) && runs of_leaf t x n) (range_with_len 0 (length t.nodes))
