-- Trees that differ in the numbers of their nodes alone: the same nodes run at each tick.
use Rattle.std.proofs.Common.{◌≡◌, ℕ, zero, suc, ◌+◌, ◌-◌, ◌*◌, ◌/◌, ◌<◌, ◌&&◌, not, Bool, true, false, List, [], ◌∷◌, ◌++◌, map, length, drop}
use Rattle.std.proofs.Common.{get_or, count_by, cond, Option, Some, None, option_map, refl, ap, ap₂, arith, sym, subst, ◌∙◌}
use Rattle.std.proofs.lemmas.List.FromFn.{get_or-map-range_with_len}
use Rattle.std.proofs.lemmas.List.Sums.{sum_by-cons}
use Rattle.sched_base.specs.declared.rows.Leaf.{Leaf}
use Rattle.sched_base.specs.Candidates.{earliest, is_at}
use Rattle.sched_base.specs.declared.candidates.Candidate.{Candidate}
use Rattle.run_tree.specs.declared.kinds.Kind.{Kind}
use Rattle.run_tree.specs.declared.kinds.Kind.TheVariants as kind
use Rattle.run_tree.specs.Tree.{Tree, IsTree, IsPack, IsMember, kind_at, is_leaf, is_pack, is_dual, leaf, leaf_of, level, level_of, primal, rate}
use Rattle.run_tree.specs.Tree.{home, place, member, members, dual}
use Rattle.run_tree.specs.Windows.{window_begin, window_end}
use Rattle.run_tree.specs.Boundaries.{any_of, member_boundary, pack_boundary, node_boundary, is_boundary}
use Rattle.tree_text_laws.specs.Renumbered.{renumbered, IsRenumbered}
use Rattle.run_tree.specs.Runs.{is_picked, unless_dual, pack_runs, node_runs, runs_now, due_left, window_end_now, next_tick, ticks_below, runs}

-- ---- functions and lists

pub same_function : {A B : Type 0} (f g : A → B) → ((x : A) → f x ≡ g x) → f ≡ g
same_function f g h = λ i x. h x i

pub map_moved : {A : Type 0} (f : ℕ → ℕ) (g k : ℕ → A) (xs : List ℕ) → ((i : ℕ) → i < length xs → g (f (get_or xs i 0)) ≡ k (get_or xs i 0)) →
    map g (map f xs) ≡ map k xs
map_moved f g k [] h = refl
map_moved f g k (x ∷ xs) h = ap₂ (λ y ys. y ∷ ys) (h 0 (omega arith)) (map_moved f g k xs (λ i l. h (suc i) (omega (arith, l))))

any_moved : (f : ℕ → ℕ) (g k : ℕ → Bool) (xs : List ℕ) → ((i : ℕ) → i < length xs → g (f (get_or xs i 0)) ≡ k (get_or xs i 0)) →
    any_of g (map f xs) ≡ any_of k xs
any_moved f g k [] h = refl
any_moved f g k (x ∷ xs) h =
    ap₂ (λ (b : Bool) (c : Bool). elim b as (λ y. Bool) [ true ↦ true | false ↦ c ]) (h 0 (omega arith))
    (any_moved f g k xs (λ i l. h (suc i) (omega (arith, l))))

-- ---- trees

pub level_kept : (f : ℕ → ℕ) (c : Kind) → level_of (renumbered f c) ≡ level_of c
level_kept f (kind.Leaf leaf) = refl
level_kept f (kind.Pack level) = refl
level_kept f (kind.Dual primal) = refl

pub leaf_kept : (f : ℕ → ℕ) (c : Kind) → leaf_of (renumbered f c) ≡ leaf_of c
leaf_kept f (kind.Leaf leaf) = refl
leaf_kept f (kind.Pack level) = refl
leaf_kept f (kind.Dual primal) = refl

pub is_leaf_kept : (f : ℕ → ℕ) (c : Kind) → is_leaf (renumbered f c) ≡ is_leaf c
is_leaf_kept f (kind.Leaf leaf) = refl
is_leaf_kept f (kind.Pack level) = refl
is_leaf_kept f (kind.Dual primal) = refl

pub is_pack_kept : (f : ℕ → ℕ) (c : Kind) → is_pack (renumbered f c) ≡ is_pack c
is_pack_kept f (kind.Leaf leaf) = refl
is_pack_kept f (kind.Pack level) = refl
is_pack_kept f (kind.Dual primal) = refl

leaf_no_pack : (c : Kind) → is_leaf c ≡ true → is_pack c ≡ false
leaf_no_pack (kind.Leaf f) e = refl
leaf_no_pack (kind.Pack m) e = cc
leaf_no_pack (kind.Dual q) e = refl

dual_no_pack : (c : Kind) → is_dual c ≡ true → is_pack c ≡ false
dual_no_pack (kind.Leaf f) e = refl
dual_no_pack (kind.Pack m) e = cc
dual_no_pack (kind.Dual q) e = refl

module _ (of_leaf : Leaf → ℕ → Bool) (f : ℕ → ℕ) (t u : Tree) (h : IsTree t) (r : IsRenumbered f t u) where
  abbrev n_nodes : ℕ
  n_nodes = length t.nodes

  pub level_same : (x : ℕ) → x < n_nodes → level u (f x) ≡ level t x
  level_same x l = ap level_of (r.kinds x l) ∙ level_kept f (kind_at t x)

  pub leaf_same : (x : ℕ) → x < n_nodes → leaf u (f x) ≡ leaf t x
  leaf_same x l = ap leaf_of (r.kinds x l) ∙ leaf_kept f (kind_at t x)

  member_in : (p k : ℕ) → IsPack t p → k < length (members t p) → IsMember t (member t p k)
  member_in p k i l = (h.members_are p k i l).0

  -- the primal of a dual
  primal_in : (x : ℕ) (q : ℕ) → x < n_nodes → kind_at t x ≡ kind.Dual (record { 0 = q }) → IsPack t q
  primal_in x q l e = subst (IsPack t) (ap (λ c. primal_number c) e) (h.duals_are x (l, ap is_dual e)).0
    where
      primal_number : Kind → ℕ
      primal_number (kind.Leaf leaf) = 0
      primal_number (kind.Pack level) = 0
      primal_number (kind.Dual primal) = primal.0

  -- ---- boundaries

  -- of a member, by those of packs
  member_same : (of_u of_t : ℕ → ℕ → Bool) (x v : ℕ) → x < n_nodes → ((q : ℕ) → IsPack t q → of_u (f q) v ≡ of_t q v)
      → member_boundary of_leaf of_u (kind_at u (f x)) v ≡ member_boundary of_leaf of_t (kind_at t x) v
  member_same of_u of_t x v l packs = ap (λ c. member_boundary of_leaf of_u c v) (r.kinds x l) ∙ go (kind_at t x) refl
    where
      go : (c : Kind) → kind_at t x ≡ c → member_boundary of_leaf of_u (renumbered f c) v ≡ member_boundary of_leaf of_t c v
      go (kind.Leaf leaf) e = refl
      go (kind.Pack level) e = refl
      go (kind.Dual primal) e = packs primal.0 (primal_in x primal.0 l e)

  pack_boundary_same : (l p v : ℕ) → IsPack t p → pack_boundary of_leaf u l (f p) v ≡ pack_boundary of_leaf t l p v
  pack_boundary_same zero p v i =
      ap (any_of (λ x. member_boundary of_leaf (λ q w. false) (kind_at u x) v)) (r.packed p i)
      ∙ any_moved f (λ x. member_boundary of_leaf (λ q w. false) (kind_at u x) v) (λ x. member_boundary of_leaf (λ q w. false) (kind_at t x) v)
      (members t p) (λ k lk. member_same (λ q w. false) (λ q w. false) (member t p k) v (member_in p k i lk).0 (λ q iq. refl))
  pack_boundary_same (suc l) p v i =
      ap (any_of (λ x. member_boundary of_leaf (λ q w. pack_boundary of_leaf u l q w) (kind_at u x) v)) (r.packed p i)
      ∙ any_moved f (λ x. member_boundary of_leaf (λ q w. pack_boundary of_leaf u l q w) (kind_at u x) v) (λ x. member_boundary of_leaf
      (λ q w. pack_boundary of_leaf t l q w) (kind_at t x) v) (members t p)
      (λ k lk. member_same (λ q w. pack_boundary of_leaf u l q w) (λ q w. pack_boundary of_leaf t l q w) (member t p k) v (member_in p k i lk).0
      (λ q iq. pack_boundary_same l q v iq))

  pub boundary_same : (x : ℕ) → x < n_nodes → is_boundary of_leaf u (f x) ≡ is_boundary of_leaf t x
  unfolding is_boundary
  boundary_same x l = same_function (λ v. node_boundary of_leaf u (f x) (kind_at u (f x)) v) (λ v. node_boundary of_leaf t x (kind_at t x) v) (λ v. (
      ap (λ c. node_boundary of_leaf u (f x) c v) (r.kinds x l) ∙ go v (kind_at t x) refl))
    where
      go : (v : ℕ) (c : Kind) → kind_at t x ≡ c → node_boundary of_leaf u (f x) (renumbered f c) v ≡ node_boundary of_leaf t x c v
      go v (kind.Leaf leaf) e = refl
      go v (kind.Pack level) e = pack_boundary_same level x v (l, ap is_pack e)
      go v (kind.Dual primal) e =
          let i = primal_in x primal.0 l e in
          ap (λ m. pack_boundary of_leaf u m (f primal.0) v) (level_same primal.0 i.0) ∙ pack_boundary_same (level t primal.0) primal.0 v i

  -- ---- ticks

  -- the same nodes ran
  abbrev pub AreSame : List Bool → List Bool → Type 0
  AreSame a b = (x : ℕ) → x < n_nodes → get_or a (f x) false ≡ get_or b x false

  abbrev pub Match : List (List Bool) → List (List Bool) → Type 0
  Match [] [] = Unit {0}
  Match [] (b ∷ ts) = ⊥
  Match (a ∷ us) [] = ⊥
  Match (a ∷ us) (b ∷ ts) = AreSame a b × Match us ts

  match_long : (us ts : List (List Bool)) → Match us ts → length us ≡ length ts
  match_long [] [] m = refl
  match_long [] (b ∷ ts) m = absurd m
  match_long (a ∷ us) [] m = absurd m
  match_long (a ∷ us) (b ∷ ts) m = ap suc (match_long us ts m.1)

  match_drop : (k : ℕ) (us ts : List (List Bool)) → Match us ts → Match (drop k us) (drop k ts)
  match_drop zero us ts m = m
  match_drop (suc k) [] [] m = tt
  match_drop (suc k) [] (b ∷ ts) m = absurd m
  match_drop (suc k) (a ∷ us) [] m = absurd m
  match_drop (suc k) (a ∷ us) (b ∷ ts) m = match_drop k us ts m.1

  match_push : (us ts : List (List Bool)) (a b : List Bool) → Match us ts → AreSame a b → Match (us ++ a ∷ []) (ts ++ b ∷ [])
  match_push [] [] a b m s = (s, tt)
  match_push [] (y ∷ ts) a b m s = absurd m
  match_push (x ∷ us) [] a b m s = absurd m
  match_push (x ∷ us) (y ∷ ts) a b m s = (m.0, match_push us ts a b m.1 s)

  match_count : (x : ℕ) (us ts : List (List Bool)) → x < n_nodes → Match us ts → count_by (λ tick. get_or tick (f x) false) us ≡ count_by
      (λ tick. get_or tick x false) ts
  match_count x [] [] l m = refl
  match_count x [] (b ∷ ts) l m = absurd m
  match_count x (a ∷ us) [] l m = absurd m
  match_count x (a ∷ us) (b ∷ ts) l m =
      sum_by-cons (λ tick. cond (get_or tick (f x) false) 1 0) a us ∙ ap₂ (λ (c : Bool) (k : ℕ). cond c 1 0 + k) (m.0 x l) (match_count x us ts l m.1)
      ∙ sym (sum_by-cons (λ tick. cond (get_or tick x false) 1 0) b ts)

  -- ---- what is left, and where a window ends

  -- what is left, by all that it hangs on
  abbrev left_by : ℕ → (ℕ → Bool) → ℕ → ℕ → (ℕ → ℕ) → ℕ
  left_by rate boundary tick scale ran = rate * (window_end boundary (tick / scale) - window_begin boundary (tick / scale)) - ran (window_begin boundary
      (tick / scale) * scale)

  pub due_same : (us ts : List (List Bool)) → Match us ts → (x : ℕ) → x < n_nodes → due_left of_leaf u us (f x) ≡ due_left of_leaf t ts x
  due_same us ts m x l =
      let ran : (λ k. count_by (λ tick. get_or tick (f x) false) (drop k us)) ≡ (λ k. count_by (λ tick. get_or tick x false) (drop k ts)) =
      same_function _ _ (λ k. match_count x (drop k us) (drop k ts) l (match_drop k us ts m)) in
      let a = r.rates x l in
      let b = boundary_same x l in
      let c = match_long us ts m in
      let d = r.scale_same in
      λ i. left_by (a i) (b i) (c i) (d i) (ran i)

  end_same : (us ts : List (List Bool)) → Match us ts → (x : ℕ) → x < n_nodes → window_end_now of_leaf u us (f x) ≡ window_end_now of_leaf t ts x
  end_same us ts m x l =
      let b = boundary_same x l in
      let c = match_long us ts m in
      let d = r.scale_same in
      λ i. window_end (b i) (c i / d i)

  -- ---- who runs

  picked_same : (remain_u end_u remain_t end_t : ℕ → ℕ) → ((x : ℕ) → x < n_nodes → remain_u (f x) ≡ remain_t x) → ((x : ℕ) → x < n_nodes →
      end_u (f x) ≡ end_t x)
      → (x : ℕ) → IsMember t x → is_picked u remain_u end_u (f x) ≡ is_picked t remain_t end_t x
  picked_same remain_u end_u remain_t end_t left ends x i =
      let up = (h.homes_are x i).0 in
      let of_u : ℕ → Candidate = λ m. record { end = end_u m; remain = remain_u m } in
      let of_t : ℕ → Candidate = λ m. record { end = end_t m; remain = remain_t m } in
      ap₂ (λ p k. is_at (earliest (map of_u (members u p))) k) (r.homes x i) (r.places x i)
      ∙ ap (λ ms. is_at (earliest (map of_u ms)) (place t x)) (r.packed (home t x) up)
      ∙ ap (λ cs. is_at (earliest cs) (place t x)) (map_moved f of_u of_t (members t (home t x)) (λ k lk. (
      let m = member_in (home t x) k up lk in
      ap₂ (λ e q. record { end = e; remain = q }) (ends (member t (home t x) k) m.0) (left (member t (home t x) k) m.0))))

  module _ (pick_u pick_t : ℕ → Bool) (same : (x : ℕ) → IsMember t x → pick_u (f x) ≡ pick_t x) where
    pack_same : (above p : ℕ) → IsPack t p → pack_runs u pick_u above (f p) ≡ pack_runs t pick_t above p
    pack_same zero p i = refl
    pack_same (suc above) p i = ap (λ o. unless_dual o (λ d. pack_runs u pick_u above (home u d) && pick_u d)) (r.duals p i)
        ∙ go (λ q iq. pack_same above q iq) (dual t p) refl
      where
        go : ((q : ℕ) → IsPack t q → pack_runs u pick_u above (f q) ≡ pack_runs t pick_t above q) → (o : Option ℕ) → dual t p ≡ o →
            unless_dual (option_map f o) (λ d. pack_runs u pick_u above (home u d) && pick_u d) ≡ unless_dual o (λ d. pack_runs t pick_t above (home t d) &&
            pick_t d)
        go ih None e = refl
        go ih (Some d) e =
            let has = (h.has_dual p d i e).0 in
            let m : IsMember t d = (has.0, dual_no_pack (kind_at t d) has.1) in
            ap not (ap₂ (λ a b. a && b) (ap (pack_runs u pick_u above) (r.homes d m) ∙ ih (home t d) (h.homes_are d m).0) (same d m))

    above_same : (x : ℕ) → IsMember t x → pack_runs u pick_u (u.levels - 1 - level u (home u (f x))) (home u (f x)) && pick_u (f x) ≡ (pack_runs t pick_t
        (t.levels - 1 - level t (home t x)) (home t x) && pick_t x)
    above_same x m =
        let up = (h.homes_are x m).0 in
        let home_is = r.homes x m in
        let level_is = ap (level u) home_is ∙ level_same (home t x) up.0 in
        ap₂ (λ a b. a && b)
        (ap₂ (λ (k : ℕ) (q : ℕ). pack_runs u pick_u (k - 1 - level u q) q) r.levels_same home_is
        ∙ ap (λ k. pack_runs u pick_u (t.levels - 1 - k) (f (home t x))) (level_same (home t x) up.0)
        ∙ pack_same (t.levels - 1 - level t (home t x)) (home t x) up) (same x m)

    node_same : (x : ℕ) → x < n_nodes → node_runs u pick_u (kind_at u (f x)) (f x) ≡ node_runs t pick_t (kind_at t x) x
    node_same x l = ap (λ c. node_runs u pick_u c (f x)) (r.kinds x l) ∙ go (kind_at t x) refl
      where
        go : (c : Kind) → kind_at t x ≡ c → node_runs u pick_u (renumbered f c) (f x) ≡ node_runs t pick_t c x
        go (kind.Leaf leaf) e = above_same x (l, leaf_no_pack (kind_at t x) (ap is_leaf e))
        go (kind.Pack level) e = ap (λ k. pack_runs u pick_u (k - 1 - level) (f x)) r.levels_same ∙ pack_same (t.levels - 1 - level) x (l, ap is_pack e)
        go (kind.Dual primal) e = above_same x (l, dual_no_pack (kind_at t x) (ap is_dual e))

  now_same : (remain_u end_u remain_t end_t : ℕ → ℕ) → ((x : ℕ) → x < n_nodes → remain_u (f x) ≡ remain_t x) → ((x : ℕ) → x < n_nodes → end_u (f x) ≡ end_t x)
      → (x : ℕ) → x < n_nodes → runs_now u remain_u end_u (f x) ≡ runs_now t remain_t end_t x
  unfolding runs_now
  now_same remain_u end_u remain_t end_t left ends x l =
      node_same (is_picked u remain_u end_u) (is_picked t remain_t end_t) (λ y i. picked_same remain_u end_u remain_t end_t left ends y i) x l

  next_same : (us ts : List (List Bool)) → Match us ts → AreSame (next_tick of_leaf u us) (next_tick of_leaf t ts)
  next_same us ts m x l =
      get_or-map-range_with_len (runs_now u (due_left of_leaf u us) (window_end_now of_leaf u us)) 0 (length u.nodes) (f x) (f x) false (r.low x l)
      (omega arith)
      ∙ now_same (due_left of_leaf u us) (window_end_now of_leaf u us) (due_left of_leaf t ts) (window_end_now of_leaf t ts) (due_same us ts m)
      (end_same us ts m) x l
      ∙ sym (get_or-map-range_with_len (runs_now t (due_left of_leaf t ts) (window_end_now of_leaf t ts)) 0 (length t.nodes) x x false l (omega arith))

  pub ticks_same : (n : ℕ) → Match (ticks_below of_leaf u n) (ticks_below of_leaf t n)
  ticks_same zero = tt
  ticks_same (suc n) =
      let ih = ticks_same n in
      match_push (ticks_below of_leaf u n) (ticks_below of_leaf t n) (next_tick of_leaf u (ticks_below of_leaf u n))
      (next_tick of_leaf t (ticks_below of_leaf t n)) ih
      (next_same (ticks_below of_leaf u n) (ticks_below of_leaf t n) ih)

  -- a node runs where its other self does
  pub runs_same : (x n : ℕ) → x < n_nodes → runs of_leaf u (f x) n ≡ runs of_leaf t x n
  unfolding runs
  runs_same x n l = next_same (ticks_below of_leaf u n) (ticks_below of_leaf t n) (ticks_same n) x l
