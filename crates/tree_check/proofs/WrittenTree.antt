-- What a reduction tree of a set is written as has no fault.
use Rattle.std.proofs.Common.{◌≡◌, ℕ, zero, suc, ◌+◌, ◌-◌, ◌<◌, ◌≢◌, ◌⊎◌, true, false, List, [], ◌∷◌, ◌++◌, Some, None, map, length, get_or, refl, ap}
use Rattle.std.proofs.Common.{arith, inl, inr, sym, subst, ◌∙◌, eq-eqb}
use Rattle.std.proofs.lemmas.Bool.{cases_Bool, cond-true, cond-false, both_ways, eqb-true}
use Rattle.std.proofs.lemmas.List.{get_or-map, length-map, get_or_append_left, get_or-append_right, map-append}
use Rattle.std.proofs.lemmas.List.FromFn.{get_or-map-range_with_len, length-map-range_with_len}
use Rattle.std.proofs.lemmas.Slice.Eq.{bytes_eq-Decides}
use Rattle.std.specs.List.{position_from, flat_map}
use Rattle.std.specs.Str.{bytes_eq}
use Rattle.sched_base.specs.declared.rows.Leaf.{Leaf}
use Rattle.sched_base.specs.declared.rows.Leaf.TheVariants.{Task, Wait, Idle, Empty}
use Rattle.sched_base.specs.declared.sets.Task as declared
use Rattle.sched_base.specs.Scale.{rate_of}
use Rattle.sched_base.specs.Sets.{SetContents, IsLawful, IsFree, NamesDiffer, task_at, no_task}
use Rattle.run_tree.specs.declared.kinds.Kind.{Kind}
use Rattle.run_tree.specs.declared.kinds.Kind.TheVariants as kind
use Rattle.run_tree.specs.Tree.{Tree, IsTree, IsMember, IsLeaf, IsDual, kind_at, leaf, leaf_of, rate, home, level, primal, primal_of, members, dual}
use Rattle.run_tree.specs.Tree.{is_leaf, is_pack, is_dual}
use Rattle.run_tree.specs.TreeOfSet.{IsTreeOf, task_id, idle_count, is_real}
use Rattle.run_tree.specs.Schedule.{packs_at}
use Rattle.run_tree.specs.Plans.{PlanContents}
use Rattle.run_tree.proofs.KindLemmas.{KindOf, kind_of}
use Rattle.tree_text.specs.Text.{is_idle_leaf, idle_node, place_in_level}
use Rattle.tree_text.proofs.SearchLemmas.{idle_found}
use Rattle.tree_check.specs.declared.written.Member.{Member}
use Rattle.tree_check.specs.declared.written.Member.TheVariants.{Number}
use Rattle.tree_check.specs.Written.{Pack, Written, level_at, kind_written, pack_written, written_of, no_pack}
use Rattle.tree_check.specs.Faults.{rate_at, named, members_of, names_at}
use Rattle.tree_check.proofs.LevelNodes.{pack_of, placed, nodes_of}

-- the task of a name is found
pub name_found : (tasks : List declared.Task) (i j : ℕ) → NamesDiffer tasks → j < length tasks → position_from (λ (u : declared.Task). bytes_eq u.name
    (task_at tasks j).name) i tasks ≡ Some (i + j)
name_found [] i j d l = absurd (omega (arith, l))
name_found (u ∷ ts) i zero d l =
    cond-true (bytes_eq u.name u.name) (Some i) (position_from (λ (v : declared.Task). bytes_eq v.name u.name) (i + 1) ts)
    ((bytes_eq-Decides u.name u.name).1 refl) ∙ ap Some (omega arith)
name_found (u ∷ ts) i (suc j) d l =
    let name = (task_at ts j).name in
    let differs : bytes_eq u.name name ≡ false = elim (cases_Bool (bytes_eq u.name name)) [
      | inr off ↦ off
      | inl on ↦ absurd (free ts j d.0 (omega (arith, l)) (sym ((bytes_eq-Decides u.name name).0 on)))
    ] in
    cond-false (bytes_eq u.name name) (Some i) (position_from (λ (v : declared.Task). bytes_eq v.name name) (i + 1) ts) differs
    ∙ name_found ts (i + 1) j d.1 (omega (arith, l)) ∙ ap Some (omega arith)
  where
    free : (xs : List declared.Task) (k : ℕ) → IsFree u.name xs → k < length xs → (task_at xs k).name ≢ u.name
    free [] k f m = absurd (omega (arith, m))
    free (x ∷ xs) zero f m = f.0
    free (x ∷ xs) (suc k) f m = free xs k f.1 (omega (arith, m))

pub is_idle_true : (k : ℕ) (leaf : Leaf) → is_idle_leaf k leaf ≡ true → leaf ≡ Idle k
is_idle_true k (Task id) e = absurd (both_ways false refl e)
is_idle_true k (Wait id) e = absurd (both_ways false refl e)
is_idle_true k (Idle number) e = ap Idle (eqb-true number k e)
is_idle_true k Empty e = absurd (both_ways false refl e)

pub idle_is_leaf : (k : ℕ) (c : Kind) → leaf_of c ≡ Idle k → is_leaf c ≡ true
idle_is_leaf k (kind.Leaf leaf) e = refl
idle_is_leaf k (kind.Pack level) e = cc
idle_is_leaf k (kind.Dual primal) e = cc

module _ (s : SetContents) (t : Tree) (ls : IsLawful s) (h : IsTreeOf s t) where
  abbrev pub p : PlanContents
  p = record { set = s; tree = t }

  abbrev pub w : Written
  w = written_of p

  abbrev pub ht : IsTree t
  ht = h.tree

  abbrev pub count : ℕ
  count = length s.tasks

  pub levels_long : length w.levels ≡ t.levels
  levels_long = length-map-range_with_len (λ l. map (pack_written p) (packs_at t l)) 0 t.levels

  pub level_is : (l : ℕ) → l < t.levels → level_at w l ≡ map (pack_written p) (packs_at t l)
  level_is l b = get_or-map-range_with_len (λ l. map (pack_written p) (packs_at t l)) 0 t.levels l l [] b (omega arith)

  pub level_long : (l : ℕ) → l < t.levels → length (level_at w l) ≡ length (packs_at t l)
  level_long l b = ap length (level_is l b) ∙ length-map (packs_at t l) (pack_written p)

  pub pack_is : (l i : ℕ) → l < t.levels → i < length (packs_at t l) → get_or (level_at w l) i no_pack ≡ pack_written p (pack_of t l i)
  pack_is l i b li = ap (λ ps. get_or ps i no_pack) (level_is l b) ∙ get_or-map (pack_written p) (packs_at t l) i 0 no_pack li

  abbrev pub word : ℕ → Member
  word x = kind_written p (kind_at t x)

  pub members_are : (l : ℕ) → l < t.levels → members_of (level_at w l) ≡ map word (nodes_of t l)
  members_are l b = ap members_of (level_is l b) ∙ listed (packs_at t l)
    where
      listed : (ps : List ℕ) → members_of (map (pack_written p) ps) ≡ map word (flat_map (members t) ps)
      listed [] = refl
      listed (q ∷ ps) = ap (λ ms. map word (members t q) ++ ms) (listed ps) ∙ sym (map-append word (members t q) (flat_map (members t) ps))

  pub members_long : (l : ℕ) → l < t.levels → length (members_of (level_at w l)) ≡ length (nodes_of t l)
  members_long l b = ap length (members_are l b) ∙ length-map (nodes_of t l) word

  pub name_is : (l k : ℕ) → l < t.levels → k < length (nodes_of t l) → names_at w l k ≡ named w l (word (get_or (nodes_of t l) k 0))
  name_is l k b lk =
      ap (λ ms. get_or (map (named w l) ms) k None) (members_are l b)
      ∙ get_or-map (named w l) (map word (nodes_of t l)) k (Number 0) None (let n = length-map (nodes_of t l) word in omega (arith, lk, n))
      ∙ ap (named w l) (get_or-map word (nodes_of t l) k 0 (Number 0) lk)

  -- ---- what a number stands for

  abbrev pub Is : ℕ → ℕ → ℕ → Type 0
  Is zero n x = IsLeaf t x × (((j : ℕ) × (leaf t x ≡ Task (task_id j)) × (n ≡ j) × (j < count)) ⊎ ((k : ℕ) × (leaf t x ≡ Idle k) × (n ≡ count + k)))
  Is (suc l) n x = IsDual t x × (n < length (packs_at t l)) × (pack_of t l n ≡ primal t x)

  pub is_alone : (l n x y : ℕ) → Is l n x → Is l n y → x ≡ y
  is_alone zero n x y a b = go a.1 b.1
    where
      Either : ℕ → Type 0
      Either z = ((j : ℕ) × (leaf t z ≡ Task (task_id j)) × (n ≡ j) × (j < count)) ⊎ ((k : ℕ) × (leaf t z ≡ Idle k) × (n ≡ count + k))

      go : Either x → Either y → x ≡ y
      go (inl (j, e, f, g)) (inl (j', e', f', g')) = let same : j' ≡ j = omega (arith, f, f') in h.tasks.once x y (task_id j) a.0 b.0 e
          (e' ∙ ap (λ i. Task (task_id i)) same)
      go (inl (j, e, f, g)) (inr (k, e', f')) = absurd (omega (arith, f, f', g))
      go (inr (k, e, f)) (inl (j, e', f', g)) = absurd (omega (arith, f, f', g))
      go (inr (k, e, f)) (inr (k', e', f')) = let same : k' ≡ k = omega (arith, f, f') in h.idles.once x y k a.0 b.0 e (e' ∙ ap Idle same)
  is_alone (suc l) n x y a b =
      let dx = ht.duals_are x a.0 in
      let dy = ht.duals_are y b.0 in
      let same : primal t x ≡ primal t y = sym a.2 ∙ b.2 in
      let e : Some x ≡ Some y = sym dx.1 ∙ ap (dual t) same ∙ dy.1 in
      cc (e)

  -- the rates of what there is to place
  pub place_task : (j : ℕ) → j < count → rate_at w 0 j ≡ rate_of t.scale (task_at s.tasks j)
  place_task j l =
      let n = length-map s.tasks (rate_of t.scale) in
      get_or_append_left (map (rate_of t.scale) s.tasks) w.idles 0 j (omega (arith, l, n)) ∙ get_or-map (rate_of t.scale) s.tasks j no_task 0 l

  pub idles_long : length w.idles ≡ idle_count t
  idles_long = length-map-range_with_len (λ k. rate t (idle_node t k)) 0 (idle_count t)

  pub place_idle : (k : ℕ) → k < idle_count t → rate_at w 0 (count + k) ≡ rate t (idle_node t k)
  place_idle k l =
      let n = length-map s.tasks (rate_of t.scale) in
      let e : count + k - count ≡ k = omega arith in
      get_or-append_right (map (rate_of t.scale) s.tasks) w.idles count (count + k) 0 n (omega arith)
      ∙ ap (λ i. get_or w.idles i 0) e
      ∙ get_or-map-range_with_len (λ k. rate t (idle_node t k)) 0 (idle_count t) k k 0 l (omega arith)

  pub place_dual : (l i : ℕ) → l < t.levels → i < length (packs_at t l) → rate_at w (suc l) i ≡ t.scale - rate t (pack_of t l i)
  place_dual l i b li = get_or-map (λ (q : Pack). t.scale - q.rate) (level_at w l) i no_pack 0 (let n = level_long l b in omega (arith, li, n))
      ∙ ap (λ (q : Pack). t.scale - q.rate) (pack_is l i b li)

  pub idle_at : (x k : ℕ) → IsLeaf t x → leaf t x ≡ Idle k → idle_node t k ≡ x
  idle_at x k i e = idle_found t k x i.0 (λ y l. elim (cases_Bool (is_idle_leaf k (leaf_of (kind_at t y)))) [
    | inr off ↦ off
    | inl on ↦ absurd (let f = is_idle_true k (leaf t y) on in
        let same = h.idles.once y x k ((let b = i.0 in omega (arith, l, b)), idle_is_leaf k (kind_at t y) f) i f e in omega (arith, same, l))
  ]) (ap (is_idle_leaf k) e ∙ eq-eqb k k refl)

  -- ---- a member names what it is, with its rate

  abbrev pub Names : ℕ → ℕ → Type 0
  Names l x = (n : ℕ) × (named w l (word x) ≡ Some n) × (rate_at w l n ≡ rate t x) × Is l n x

  pub leaf_names : (x : ℕ) → IsLeaf t x → Names 0 x
  leaf_names x i = by_kind (kind_at t x) refl
    where
      by_leaf : (f : Leaf) → kind_at t x ≡ kind.Leaf f → Names 0 x
      by_leaf (Task id) e =
          let of : leaf t x ≡ Task id = ap leaf_of e in
          let below = h.tasks.known x id i of in
          let (y, iy, ey, ry) = h.tasks.has_task id.0 below in
          let same : x ≡ y = h.tasks.once x y id i iy of ey in (
            id.0,
            ap (λ k. named w 0 (kind_written p k)) e ∙ name_found s.tasks 0 id.0 ls.names_differ below ∙ ap Some (omega arith),
            place_task id.0 below
                ∙ sym ry ∙ ap (rate t) (sym same),
            (i, inl (id.0, of, refl, below)),
          )
      by_leaf (Idle k) e =
          let of : leaf t x ≡ Idle k = ap leaf_of e in
          (count + k, ap (λ k. named w 0 (kind_written p k)) e, place_idle k (h.idles.below x k i of) ∙ ap (rate t) (idle_at x k i of), (i, inr (k, of, refl)))
      by_leaf (Wait id) e = absurd (both_ways (is_real (leaf t x)) (ap (λ k. is_real (leaf_of k)) e) (h.tasks.real x i))
      by_leaf Empty e = absurd (both_ways (is_real (leaf t x)) (ap (λ k. is_real (leaf_of k)) e) (h.tasks.real x i))

      by_kind : (k : Kind) → kind_at t x ≡ k → Names 0 x
      by_kind (kind.Leaf f) e = by_leaf f e
      by_kind (kind.Pack l) e = absurd (both_ways (is_leaf (kind_at t x)) (ap is_leaf e) i.1)
      by_kind (kind.Dual q) e = absurd (both_ways (is_leaf (kind_at t x)) (ap is_leaf e) i.1)

  pub dual_names : (x : ℕ) → IsDual t x → Names (suc (level t (primal t x))) x
  dual_names x i =
      let d = ht.duals_are x i in
      let q = primal t x in
      let l = level t q in
      let at = placed t q d.0 in
      let low = ht.leveled q d.0 in
      let has = ht.has_dual q x d.0 d.1 in
      let n = place_in_level t q in
      (n, by_kind (kind_at t x) refl, place_dual l n low at.0 ∙ (let e = ap (rate t) at.1 in let r = has.2 in omega (arith, e, r)), (i, at.0, at.1))
    where
      by_kind : (k : Kind) → kind_at t x ≡ k → named w (suc (level t (primal t x))) (word x) ≡ Some (place_in_level t (primal t x))
      by_kind (kind.Dual q) e = ap (λ k. named w (suc (level t (primal t x))) (kind_written p k)) e ∙ ap (λ k. Some (place_in_level t (primal_of k))) (sym e)
      by_kind (kind.Pack l) e = absurd (both_ways (is_dual (kind_at t x)) (ap is_dual e) i.1)
      by_kind (kind.Leaf f) e = absurd (both_ways (is_dual (kind_at t x)) (ap is_dual e) i.1)

  pub names : (x l : ℕ) → IsMember t x → level t (home t x) ≡ l → Names l x
  names x l i e = go (kind_of (kind_at t x))
    where
      go : KindOf (kind_at t x) → Names l x
      go (inl a_leaf) = let P : ℕ → Type 0 = λ n. Names n x in subst P (sym (ht.leaves_are x (i.0, a_leaf)).0 ∙ e) (leaf_names x (i.0, a_leaf))
      go (inr (inl a_dual)) = let P : ℕ → Type 0 = λ n. Names n x in subst P (sym (ht.duals_are x (i.0, a_dual)).2 ∙ e) (dual_names x (i.0, a_dual))
      go (inr (inr a_pack)) = absurd (both_ways (is_pack (kind_at t x)) i.1 a_pack)

  pub rate_some : (x : ℕ) → IsMember t x → 0 < rate t x
  rate_some x i = go (kind_of (kind_at t x))
    where
      go : KindOf (kind_at t x) → 0 < rate t x
      go (inl a_leaf) = (ht.leaves_are x (i.0, a_leaf)).1
      go (inr (inl a_dual)) = let d = ht.duals_are x (i.0, a_dual) in let has = ht.has_dual (primal t x) x d.0 d.1 in let r = has.2 in let l = has.3 in
          omega (arith, r, l)
      go (inr (inr a_pack)) = absurd (both_ways (is_pack (kind_at t x)) i.1 a_pack)
