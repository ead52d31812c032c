-- The compiled tree holds each task once, and idle leaves with the numbers below their count.
use Rattle.std.proofs.Common.{◌≡◌, ℕ, zero, suc, ◌+◌, ◌<◌, ◌&&◌, List, [], ◌∷◌, ◌++◌, map, length, get_or, take, refl, ap, arith, ◌⊎◌, inl, inr, sym}
use Rattle.std.proofs.Common.{subst, ◌∙◌}
use Rattle.std.proofs.lemmas.Bool.{cases_lt}
use Rattle.std.proofs.lemmas.List.{length-map, get_or-map}
use Rattle.sched_base.specs.Counting.{sum_to, bit}
use Rattle.sched_base.specs.declared.rows.Leaf.{Leaf}
use Rattle.sched_base.specs.declared.rows.Leaf.TheVariants.{Task, Idle}
use Rattle.sched_base.specs.declared.rows.TaskId.{TaskId}
use Rattle.sched_base.specs.declared.sets.Task as declared
use Rattle.sched_base.specs.Scale.{rate_of}
use Rattle.run_tree.specs.declared.kinds.Kind.{Kind}
use Rattle.run_tree.specs.declared.kinds.Kind.TheVariants as kind
use Rattle.run_tree.specs.Tree.{Node, Tree, is_leaf, leaf_of, leaf, rate, no_node, IsLeaf}
use Rattle.run_tree.specs.TreeOfSet.{task_id, is_idle, is_real, HoldsTasks, NumbersIdles}
use Rattle.run_tree.specs.Compiled.{task_items}
use Rattle.sched_base.proofs.SumLemmas.{sum_to_front}
use Rattle.tree_laws.proofs.LeafEntries.{Entry, entries, entry_of, kind_entry, no_entry, entry_at, entries_before, leaf_from}
use Rattle.tree_laws.proofs.PackItems.{item_entries}
use Rattle.tree_laws.proofs.IdleLeaves.{idle_entries}

-- ---- how many entries are idle

abbrev pub idles_in : List Entry → ℕ
idles_in [] = 0
idles_in (e ∷ es) = bit (is_idle e.leaf) + idles_in es

pub idles_in-append : (es fs : List Entry) → idles_in (es ++ fs) ≡ idles_in es + idles_in fs
idles_in-append [] fs = omega arith
idles_in-append (e ∷ es) fs = let ih = idles_in-append es fs in omega (arith, ih)

abbrev pub idle_bit : List Node → ℕ → ℕ
idle_bit ns x = bit (is_leaf (get_or ns x no_node).kind && is_idle (leaf_of (get_or ns x no_node).kind))

pub idles_counted : (ns : List Node) → sum_to (length ns) (idle_bit ns) ≡ idles_in (entries ns)
idles_counted [] = refl
idles_counted (n ∷ ns) =
    let ih = idles_counted ns in
    let front = sum_to_front (length ns) (idle_bit (n ∷ ns)) in
    let here = one n.kind n.rate in
    let both = idles_in-append (entry_of n) (entries ns) in
    omega (arith, ih, front, here, both)
  where
    one : (k : Kind) (rate : ℕ) → bit (is_leaf k && is_idle (leaf_of k)) ≡ idles_in (kind_entry k rate)
    one (kind.Leaf leaf) rate = omega arith
    one (kind.Pack level) rate = refl
    one (kind.Dual primal) rate = refl

pub tasks_no_idles : (j : ℕ) (rates : List ℕ) → idles_in (item_entries (task_items j rates)) ≡ 0
tasks_no_idles j [] = refl
tasks_no_idles j (r ∷ rs) = let ih = tasks_no_idles (suc j) rs in omega (arith, ih)

pub idles_all : (k : ℕ) (amounts : List ℕ) → idles_in (idle_entries k amounts) ≡ length (idle_entries k amounts)
idles_all k [] = refl
idles_all k (zero ∷ amounts) = idles_all k amounts
idles_all k (suc a ∷ amounts) = let ih = idles_all (suc k) amounts in omega (arith, ih)

-- ---- which leaf an entry is

pub idle_at : (k : ℕ) (amounts : List ℕ) (i : ℕ) → i < length (idle_entries k amounts) → (get_or (idle_entries k amounts) i no_entry).leaf ≡ Idle (k + i)
idle_at k [] i l = absurd (omega arith)
idle_at k (zero ∷ amounts) i l = idle_at k amounts i l
idle_at k (suc a ∷ amounts) zero l = ap Idle (omega arith)
idle_at k (suc a ∷ amounts) (suc i) l = idle_at (suc k) amounts i (omega arith) ∙ ap Idle (omega arith)

module _ (amounts : List ℕ) where
  -- the entries of tasks from number j on, and of the idle leaves
  abbrev pub all : ℕ → List ℕ → List Entry
  all j rates = item_entries (task_items j rates) ++ idle_entries 0 amounts

  pub task_entry : (j : ℕ) (rates : List ℕ) (i : ℕ) → i < length rates → (i < length (all j rates)) × (get_or (all j rates) i no_entry ≡ record
      { leaf = Task (task_id (j + i)); rate = get_or rates i 0 })
  task_entry j [] i l = absurd (omega arith)
  task_entry j (r ∷ rs) zero l = (omega arith, ap (λ n. let e : Entry = record { leaf = Task (task_id n); rate = r } in e) (omega arith))
  task_entry j (r ∷ rs) (suc i) l =
      let (b, e) = task_entry (suc j) rs i (omega arith) in
      (omega (arith, b), e ∙ ap (λ n. let x : Entry = record { leaf = Task (task_id n); rate = get_or rs i 0 } in x) (omega arith))

  -- entry i is that of a task, or of an idle leaf
  abbrev pub IsEntry : ℕ → List ℕ → ℕ → Leaf → Type 0
  IsEntry j rates i leaf = ((i < length rates) × (leaf ≡ Task (task_id (j + i)))) ⊎ ((n : ℕ) × (i ≡ length rates + n)
      × (n < length (idle_entries 0 amounts)) × (leaf ≡ Idle n))

  pub entry_is : (j : ℕ) (rates : List ℕ) (i : ℕ) → i < length (all j rates) → IsEntry j rates i (get_or (all j rates) i no_entry).leaf
  entry_is j [] i l = inr (i, omega arith, l, idle_at 0 amounts i l ∙ ap Idle (omega arith))
  entry_is j (r ∷ rs) zero l = inl (omega arith, ap (λ n. Task (task_id n)) (omega arith))
  entry_is j (r ∷ rs) (suc i) l =
      elim (entry_is (suc j) rs i (omega arith)) [
        | inl task ↦ (let b = task.0 in inl (omega arith, task.1 ∙ ap (λ n. Task (task_id n)) (omega arith)))
        | inr idle ↦ (let (n, at, b, e) = idle in inr (n, omega (arith, at), b, e))
      ]

-- ---- the leaves of a tree with such entries

module _ (t : Tree) (rates amounts : List ℕ) (is : entries t.nodes ≡ all amounts 0 rates) where
  -- how many leaves come before node x
  abbrev pub before : ℕ → ℕ
  before x = length (entries (take x t.nodes))

  pub leaf_is : (x : ℕ) → IsLeaf t x → IsEntry amounts 0 rates (before x) (leaf t x)
  leaf_is x i =
      let (a, la, ea, at) = entry_at t.nodes x i.0 i.1 in
      let b : a < length (all amounts 0 rates) = (let z = ap length is in omega (arith, z, la)) in
      let same : (get_or (all amounts 0 rates) a no_entry).leaf ≡ leaf t x = ap (λ (e : Entry). e.leaf) (ap (λ es. get_or es a no_entry) (sym is) ∙ ea) in
      let P : Leaf → Type 0 = λ l. IsEntry amounts 0 rates a l in
      let Q : ℕ → Type 0 = λ n. IsEntry amounts 0 rates n (leaf t x) in
      subst Q at (subst P same (entry_is amounts 0 rates a b))

  pub alone : (x y : ℕ) → IsLeaf t x → IsLeaf t y → before x ≡ before y → x ≡ y
  alone x y ix iy e =
      elim (cases_lt x y) [
        | inl l ↦ absurd (let z = entries_before t.nodes x y l iy.0 ix.1 in omega (arith, z, e))
        | inr ge ↦ elim (cases_lt y x) [
          | inl l ↦ absurd (let z = entries_before t.nodes y x l ix.0 iy.1 in omega (arith, z, e))
          | inr le ↦ omega (arith, ge, le)
        ]
      ]

  pub of_task : (x : ℕ) (id : TaskId) → IsLeaf t x → leaf t x ≡ Task id → (before x ≡ id.0) × (id.0 < length rates)
  of_task x id i e =
      elim (leaf_is x i) [
        | inl task ↦ (let same : id ≡ task_id (0 + before x) = cc (task.1, e) in let f = ap (λ (n : TaskId). n.0) same in let l = task.0 in
            (omega (arith, f), omega (arith, f, l)))
        | inr idle ↦ absurd (let f = idle.3 in cc (f, e))
      ]

  pub of_idle : (x number : ℕ) → IsLeaf t x → leaf t x ≡ Idle number → (before x ≡ length rates + number) × (number < length (idle_entries 0 amounts))
  of_idle x number i e =
      elim (leaf_is x i) [
        | inl task ↦ absurd (let f = task.1 in cc (f, e))
        | inr idle ↦ (let (n, at, b, f) = idle in let same : number ≡ n = cc (f, e) in (omega (arith, at, same), omega (arith, b, same)))
      ]

  pub holds_tasks : (tasks : List declared.Task) → rates ≡ map (rate_of t.scale) tasks → HoldsTasks tasks t
  holds_tasks tasks are = record {
    has_task = λ j l. (
        let lr : j < length rates = (let a = ap length are in let b = length-map tasks (rate_of t.scale) in omega (arith, a, b, l)) in
        let (b, e) = task_entry amounts 0 rates j lr in
        let lb : j < length (entries t.nodes) = (let a = ap length is in omega (arith, a, b)) in
        let (x, lx, is_leaf, at) = leaf_from t.nodes j lb in
        let both = sym at ∙ ap (λ es. get_or es j no_entry) is ∙ e in (
          x,
          (lx, is_leaf),
          ap (λ (z : Entry). z.leaf) both ∙ ap (λ n. Task (task_id n)) (omega arith),
          ap (λ (z : Entry). z.rate) both
              ∙ ap (λ rs. get_or rs j 0) are ∙ get_or-map (rate_of t.scale) tasks j _ 0 l,
        ));
    once = λ x y id ix iy ex ey. alone x y ix iy ((of_task x id ix ex).0 ∙ sym (of_task y id iy ey).0);
    known = λ x id i e. (let a = (of_task x id i e).1 in let b = ap length are in let c = length-map tasks (rate_of t.scale) in omega (arith, a, b, c));
    real = λ x i. elim (leaf_is x i) [ inl task ↦ ap is_real task.1 | inr idle ↦ (let (n, at, b, f) = idle in ap is_real f) ];
  }

  pub numbers_idles : NumbersIdles t
  numbers_idles = record {
    below = λ x number i e. (
        let a = (of_idle x number i e).1 in
        let counted = idles_counted t.nodes ∙ ap idles_in is ∙ idles_in-append (item_entries (task_items 0 rates)) (idle_entries 0 amounts) in
        let none = tasks_no_idles 0 rates in
        let every = idles_all 0 amounts in
        omega (arith, a, counted, none, every));
    once = λ x y number ix iy ex ey. alone x y ix iy ((of_idle x number ix ex).0 ∙ sym (of_idle y number iy ey).0);
  }
