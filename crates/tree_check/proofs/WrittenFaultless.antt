-- No fault stands in what a reduction tree of a set is written as.
use Rattle.std.proofs.Common.{◌≡◌, ℕ, zero, suc, ◌+◌, ◌-◌, ◌*◌, ◌<◌, ◌≤◌, ◌≢◌, ◌⊎◌, List, [], ◌∷◌, Option, Some, None, map, length, get_or, take}
use Rattle.std.proofs.Common.{refl, ap, ap₂, arith, inl, inr, sym, subst, ◌∙◌}
use Rattle.std.specs.Prelude.{sum}
use Rattle.std.proofs.lemmas.Bool.{cases_lt, cases_Bool}
use Rattle.std.proofs.lemmas.List.{get_or-map, length-map, length-append, get_or_past}
use Rattle.sched_base.specs.declared.rows.Leaf.{Leaf}
use Rattle.sched_base.specs.declared.rows.Leaf.TheVariants.{Task, Wait, Idle, Empty}
use Rattle.sched_base.specs.Counting.{sum_to, bit}
use Rattle.sched_base.specs.Scale.{rate_of}
use Rattle.sched_base.specs.Sets.{SetContents, IsLawful}
use Rattle.sched_base.proofs.CountingLemmas.{bit_at, bit_off, find_below}
use Rattle.sched_base.proofs.SumLemmas.{sum_to-same}
use Rattle.sched_base.proofs.ListLemmas.{sum_list}
use Rattle.run_tree.specs.Tree.{Tree, IsTree, IsPack, IsMember, IsLeaf, IsDual, kind_at, leaf, leaf_of, rate, home, level, primal, member, members}
use Rattle.run_tree.specs.Tree.{dual, is_leaf}
use Rattle.run_tree.specs.TreeOfSet.{IsTreeOf, task_id}
use Rattle.run_tree.specs.Schedule.{packs_at}
use Rattle.run_tree.proofs.KindLemmas.{not_pack_leaf, not_pack}
use Rattle.run_tree.proofs.TreeLemmas.{leaf_at_level}
use Rattle.tree_laws.proofs.MakingSteps.{Among}
use Rattle.tree_laws.proofs.LastLevel.{AreApart}
use Rattle.tree_laws.proofs.FirstLevel.{same_total}
use Rattle.tree_text.specs.Text.{is_idle_leaf}
use Rattle.tree_text.proofs.SearchLemmas.{idle_absent}
use Rattle.tree_check.specs.declared.faults.TreeKind.TheVariants as kinds
use Rattle.tree_check.specs.declared.written.Member.TheVariants.{Number}
use Rattle.tree_check.specs.Written.{Pack, Written, level_at, pack_at}
use Rattle.tree_check.specs.Faults.{to_place, rate_at, named, rate_of_named, member_rate, members_of, before, names_at, members_rate, HasNoFault}
use Rattle.tree_check.proofs.Apart.{sum_of_all}
use Rattle.tree_check.proofs.Faultless.{number_in, there_is}
use Rattle.tree_check.proofs.TextLevels.{total_places}
use Rattle.tree_check.proofs.LevelNodes.{pack_of, pack_in, packs_apart, nodes_of, node_in_level, nodes_apart, nodes_all}
use Rattle.tree_check.proofs.WrittenTree.{w, ht, levels_long, level_long, pack_is, word, members_long, name_is, is_alone, place_dual, place_idle}
use Rattle.tree_check.proofs.WrittenTree.{idles_long, is_idle_true, idle_is_leaf, leaf_names, dual_names, names, rate_some, Names, Is}

-- a task's number
abbrev pub id_of : Leaf → ℕ
id_of (Task id) = id.0
id_of (Wait id) = 0
id_of (Idle number) = 0
id_of Empty = 0

pub sum_list_same : (f g : ℕ → ℕ) (xs : List ℕ) → ((k : ℕ) → k < length xs → f (get_or xs k 0) ≡ g (get_or xs k 0)) → sum_list f xs ≡ sum_list g xs
sum_list_same f g [] same = refl
sum_list_same f g (x ∷ xs) same = ap₂ (λ a b. a + b) (same 0 (omega arith)) (sum_list_same f g xs (λ k l. same (suc k) (omega (arith, l))))

pub sum_list_map : (f g : ℕ → ℕ) (xs : List ℕ) → sum_list f (map g xs) ≡ sum_list (λ x. f (g x)) xs
sum_list_map f g [] = refl
sum_list_map f g (x ∷ xs) = ap (λ n. f (g x) + n) (sum_list_map f g xs)

pub total_listed : (f : ℕ → ℕ) (n : ℕ) (rs : List ℕ) → length rs ≡ n → ((k : ℕ) → k < n → get_or rs k 0 ≡ f k) → sum rs ≡ sum_to n f
total_listed f n rs e at = same_total rs ∙ total_places rs ∙ ap (λ k. sum_to k (λ i. get_or rs i 0)) e ∙ sum_to-same n (λ i. get_or rs i 0) f at

pub before_le : (packs : List Pack) (i : ℕ) → before packs i ≤ length (members_of packs)
before_le [] zero = omega arith
before_le [] (suc i) = omega arith
before_le (q ∷ packs) zero = omega arith
before_le (q ∷ packs) (suc i) =
    let ih = before_le packs i in
    let a = length-append q.members (members_of (take i packs)) in
    let b = length-append q.members (members_of packs) in
    omega (arith, ih, a, b)

module _ (s : SetContents) (t : Tree) (ls : IsLawful s) (h : IsTreeOf s t) where
  abbrev pub text : Written
  text = w s t ls h

  abbrev pub tree_is : IsTree t
  tree_is = ht s t ls h

  -- a pack that is no root has its dual
  pub dual_of : (q : ℕ) → IsPack t q → rate t q < t.scale → (d : ℕ) × IsDual t d × (primal t d ≡ q) × (level t (home t d) ≡ suc (level t q))
  dual_of q i less = go (dual t q) refl
    where
      go : (o : Option ℕ) → dual t q ≡ o → (d : ℕ) × IsDual t d × (primal t d ≡ q) × (level t (home t d) ≡ suc (level t q))
      go None e = absurd (let full = tree_is.roots_are q i e in omega (arith, full, less))
      go (Some d) e = let has = tree_is.has_dual q d i e in let up = (tree_is.duals_are d has.0).2 in (d, has.0, has.1, up ∙ ap (λ x. suc (level t x)) has.1)

  -- what there is to place is placed
  abbrev pub IsPlaced : ℕ → ℕ → Type 0
  IsPlaced l i = (x : ℕ) × IsMember t x × (level t (home t x) ≡ l) × (named text l (word s t ls h x) ≡ Some i)

  pub leaf_placed : (x i : ℕ) → IsLeaf t x → ((n : ℕ) → Is s t ls h 0 n x → n ≡ i) → IsPlaced 0 i
  leaf_placed x i is one =
      let (n, e, r, si) = leaf_names s t ls h x is in
      (x, (is.0, not_pack_leaf (kind_at t x) is.1), (tree_is.leaves_are x is).0, e ∙ ap Some (one n si))

  pub is_placed : (l i : ℕ) → l ≤ t.levels → 0 < rate_at text l i → IsPlaced l i
  is_placed zero i b some =
      elim (cases_lt i (length s.tasks)) [
        | inl low ↦ (let (x, is, e, r) = h.tasks.has_task i low in leaf_placed x i is (λ n si. task_number i x e n si.1))
        | inr high ↦ elim (find_below (length t.nodes) (λ x. is_idle_leaf (i - length s.tasks) (leaf_of (kind_at t x)))) [
          | inl found ↦ (let (x, lx, on) = found in let e = is_idle_true (i - length s.tasks) (leaf t x) on in
              leaf_placed x i (lx, idle_is_leaf (i - length s.tasks) (kind_at t x) e) (λ n si. idle_number x e high n si.1))
          | inr none ↦ absurd (let k = i - length s.tasks in
              let there = there_is text 0 i some in
              let n = length-append (map (rate_of t.scale) s.tasks) text.idles in
              let m = length-map s.tasks (rate_of t.scale) in
              let c = idles_long s t ls h in
              let at = place_idle s t ls h k (omega (arith, there, n, m, c, high)) in
              let zero_rate = idle_absent t k (length t.nodes) refl none in
              let e = ap (rate_at text 0) (back high) in
              omega (arith, at, zero_rate, e, some))
        ]
      ]
    where
      Either : ℕ → ℕ → Type 0
      Either n x = ((j : ℕ) × (leaf t x ≡ Task (task_id j)) × (n ≡ j) × (j < length s.tasks)) ⊎ ((k : ℕ) × (leaf t x ≡ Idle k) × (n ≡ length s.tasks + k))

      task_number : (i x : ℕ) → leaf t x ≡ Task (task_id i) → (n : ℕ) → Either n x → n ≡ i
      task_number i x e n (inl (j, f, is, low)) = let g : j ≡ i = ap id_of (sym f ∙ e) in is ∙ g
      task_number i x e n (inr (k, f, is)) = absurd (cc (f, e))

      idle_number : (x : ℕ) → leaf t x ≡ Idle (i - length s.tasks) → length s.tasks ≤ i → (n : ℕ) → Either n x → n ≡ i
      idle_number x e high n (inl (j, f, is, low)) = absurd (cc (f, e))
      idle_number x e high n (inr (k, f, is)) = let same : k ≡ i - length s.tasks = cc (f, e) in omega (arith, is, same, high)

      back : length s.tasks ≤ i → length s.tasks + (i - length s.tasks) ≡ i
      back high = omega (arith, high)
  is_placed (suc l) i b some =
      let there = there_is text (suc l) i some in
      let n = length-map (level_at text l) (λ (q : Pack). t.scale - q.rate) in
      let m = level_long s t ls h l (omega (arith, b)) in
      let li : i < length (packs_at t l) = omega (arith, there, n, m) in
      let q = pack_of t l i in
      let is = pack_in t l i li in
      let at = place_dual s t ls h l i (omega (arith, b)) li in
      let (d, id, from, up) = dual_of q is.0 (omega (arith, at, some)) in
      let (k, e, r, si) = dual_names s t ls h d id in
      let low : level t (primal t d) ≡ l = ap (level t) from ∙ is.1 in
      let number : k ≡ i = packs_apart t l k i (let a = si.1 in let z = ap (λ j. length (packs_at t j)) low in omega (arith, a, z)) li
      (ap (λ j. pack_of t j k) (sym low) ∙ si.2 ∙ from) in
      (d, (id.0, not_pack (kind_at t d) id.1), up ∙ ap suc is.1, ap (λ j. named text (suc j) (word s t ls h d)) (sym low) ∙ e ∙ ap Some number)

  -- ---- the kinds

  pub levels_are : (l : ℕ) → l < length text.levels → l < t.levels
  levels_are l b = let n = levels_long s t ls h in omega (arith, b, n)

  pub none_unplaced : (l i : ℕ) → l < t.levels → 0 < rate_at text l i → ((k : ℕ) → k < length (members_of (level_at text l)) → names_at text l k ≢ Some i) → ⊥
  none_unplaced l i b some none =
      let (x, is, at, e) = is_placed l i (omega (arith, b)) some in
      let P : ℕ → Type 0 = λ n. Among x (nodes_of t n) in
      let (k, lk, here) = subst P at (nodes_all t tree_is x is) in
      let long = members_long s t ls h l b in
      none k (omega (arith, lk, long)) (name_is s t ls h l k b lk ∙ ap (λ y. named text l (word s t ls h y)) here ∙ e)

  abbrev pub node_k : ℕ → ℕ → ℕ
  node_k l k = get_or (nodes_of t l) k 0

  pub names_k : (l k : ℕ) → k < length (nodes_of t l) → Names s t ls h l (node_k l k)
  names_k l k lk = let m = node_in_level t tree_is l k lk in names s t ls h (node_k l k) l m.0 m.1

  pub none_absent : (l k : ℕ) → l < t.levels → k < length (nodes_of t l) → rate_of_named text l (names_at text l k) ≡ 0 → ⊥
  none_absent l k b lk z =
      let (n, e, r, si) = names_k l k lk in
      let at = ap (rate_of_named text l) (name_is s t ls h l k b lk ∙ e) in
      let some = rate_some s t ls h (node_k l k) (node_in_level t tree_is l k lk).0 in
      omega (arith, at, r, some, z)

  pub none_twice : (l j k : ℕ) → l < t.levels → j < k → k < length (nodes_of t l) → names_at text l j ≡ names_at text l k → ⊥
  none_twice l j k b less lk same =
      let lj : j < length (nodes_of t l) = omega (arith, less, lk) in
      let (n, e, r, si) = names_k l k lk in
      let (n', e', r', si') = names_k l j lj in
      let both : Some n' ≡ Some n = sym e' ∙ sym (name_is s t ls h l j b lj) ∙ same ∙ name_is s t ls h l k b lk ∙ e in
      let number : n' ≡ n = cc (both) in
      let P : ℕ → Type 0 = λ i. Is s t ls h l i (node_k l j) in
      let z = nodes_apart t tree_is l j k lj lk (is_alone s t ls h l n (node_k l j) (node_k l k) (subst P number si') si) in
      omega (arith, z, less)

  pub rate_sums : (l i : ℕ) → l < t.levels → i < length (packs_at t l) → (pack_at (level_at text l) i).rate ≡ members_rate text l (pack_at (level_at text l) i)
  rate_sums l i b li =
      let q = pack_of t l i in
      let is = pack_in t l i li in
      let e = pack_is s t ls h l i b li in
      let word' = word s t ls h in
      let ws = map word' (members t q) in
      let a = length-map (members t q) word' in
      let c = length-map ws (member_rate text l) in
      let added = total_listed (λ k. rate t (member t q k)) (length (members t q)) (map (member_rate text l) ws) (omega (arith, a, c)) (λ k lk.
      let m = tree_is.members_are q k is.0 lk in
      let (n, f, r, si) = names s t ls h (member t q k) l m.0 (ap (level t) m.1 ∙ is.1) in
      get_or-map (member_rate text l) ws k (Number 0) 0 (omega (arith, lk, a)) ∙ ap (member_rate text l) (get_or-map word' (members t q) k 0 (Number 0) lk)
      ∙ ap (rate_of_named text l) f ∙ r) in
      ap (λ (z : Pack). z.rate) e ∙ sym (tree_is.summed q is.0) ∙ sym added ∙ sym (ap (members_rate text l) e)

  pub pair_exceeds : (l j i : ℕ) → l < t.levels → j < i → i < length (packs_at t l) → (pack_at (level_at text l) j).rate + (pack_at (level_at text l)
      i).rate ≤ t.scale → ⊥
  pair_exceeds l j i b less li room =
      let lj : j < length (packs_at t l) = omega (arith, less, li) in
      let a = pack_in t l j lj in let c = pack_in t l i li in
      let over = tree_is.pairs (pack_of t l j) (pack_of t l i) a.0 c.0 (λ e. (let z = packs_apart t l j i lj li e in omega (arith, z, less))) (a.1 ∙ sym c.1) in
      let ra = ap (λ (z : Pack). z.rate) (pack_is s t ls h l j b lj) in
      let rc = ap (λ (z : Pack). z.rate) (pack_is s t ls h l i b li) in
      omega (arith, over, ra, rc, room)

  pub none_unfinished : (l i : ℕ) → suc l ≡ t.levels → i < length (packs_at t l) → (pack_at (level_at text l) i).rate < t.scale → ⊥
  none_unfinished l i last li less =
      let is = pack_in t l i li in
      let r = ap (λ (z : Pack). z.rate) (pack_is s t ls h l i (omega (arith, last)) li) in
      let (d, id, from, up) = dual_of (pack_of t l i) is.0 (omega (arith, less, r)) in
      let home_is = tree_is.homes_are d (id.0, not_pack (kind_at t d) id.1) in
      let low = tree_is.leveled (home t d) home_is.0 in
      let at = is.1 in
      omega (arith, low, up, at, last)

  -- the leaves fill the processors
  pub fills : sum (to_place text 0) ≡ s.processors * t.scale
  fills =
      let xs = nodes_of t 0 in
      let number : ℕ → ℕ = λ x. number_in (named text 0 (word s t ls h x)) in
      let ns = map number xs in
      let long = length-map xs number in
      let number_k : (k : ℕ) → (lk : k < length xs) → get_or ns k 0 ≡ (names_k 0 k lk).0 = λ k lk. get_or-map number xs k 0 0 lk
      ∙ ap number_in (names_k 0 k lk).1 in
      let rate_k : (k : ℕ) → k < length xs → rate_at text 0 (get_or ns k 0) ≡ rate t (node_k 0 k) = λ k lk. ap (rate_at text 0) (number_k k lk)
      ∙ (names_k 0 k lk).2 in
      let g : ℕ → ℕ = λ x. bit (is_leaf (kind_at t x)) * rate t x in
      let apart : AreApart ns = (λ i j li lj e. (
      let mi : i < length xs = omega (arith, li, long) in let mj : j < length xs = omega (arith, lj, long) in
      let ni = names_k 0 i mi in let nj = names_k 0 j mj in
      let same : ni.0 ≡ nj.0 = sym (number_k i mi) ∙ e ∙ number_k j mj in
      let P : ℕ → Type 0 = λ n. Is s t ls h 0 n (node_k 0 i) in
      nodes_apart t tree_is 0 i j mi mj (is_alone s t ls h 0 nj.0 (node_k 0 i) (node_k 0 j) (subst P same ni.3) nj.3))) in
      let low : (k : ℕ) → k < length ns → get_or ns k 0 < length (to_place text 0) = (λ k lk. (
      let m : k < length xs = omega (arith, lk, long) in
      let r = rate_k k m in
      let some = rate_some s t ls h (node_k 0 k) (node_in_level t tree_is 0 k m).0 in
      there_is text 0 (get_or ns k 0) (omega (arith, r, some)))) in
      let all : (i : ℕ) → i < length (to_place text 0) → 0 < rate_at text 0 i → Among i ns = (λ i li some. (
      let (x, is, at, e) = is_placed 0 i (omega arith) some in
      let P : ℕ → Type 0 = λ n. Among x (nodes_of t n) in
      let (k, lk, here) = subst P at (nodes_all t tree_is x is) in
      (k, (omega (arith, lk, long)), get_or-map number xs k 0 0 lk ∙ ap number here ∙ ap number_in e))) in
      let placed = sum_of_all (length (to_place text 0)) (rate_at text 0) ns apart low all in
      let mapped = sum_list_map (rate_at text 0) number xs in
      let same = sum_list_same (λ x. rate_at text 0 (number x)) g xs (λ k lk. (
      let m = node_in_level t tree_is 0 k lk in
      let is = leaf_at_level t tree_is (node_k 0 k) m.0 m.1 in
      let one = ap (λ b. b * rate t (node_k 0 k)) (bit_at (is_leaf (kind_at t (node_k 0 k))) is) in
      let r = rate_k k lk in
      let at = ap (rate_at text 0) (get_or-map number xs k 0 0 lk) in
      omega (arith, one, r, at))) in
      let leaves = sum_of_all (length t.nodes) g xs (nodes_apart t tree_is 0) (λ k lk. (node_in_level t tree_is 0 k lk).0.0)
      (λ x lx some. elim (cases_Bool (is_leaf (kind_at t x))) [
        | inr off ↦ absurd (let z = ap (λ b. b * rate t x) (bit_off (is_leaf (kind_at t x)) off) in omega (arith, z, some))
        | inl on ↦ (let P : ℕ → Type 0 = λ n. Among x (nodes_of t n) in subst P (tree_is.leaves_are x (lx, on)).0 (nodes_all t tree_is x (
          lx,
          not_pack_leaf (kind_at t x) on,
        )))
      ]) in
      let whole = tree_is.total in
      let m = ap (λ n. n * t.scale) h.processors in
      same_total (to_place text 0) ∙ total_places (to_place text 0) ∙ sym placed ∙ mapped ∙ same ∙ leaves ∙ whole ∙ m

  pub written_faultless : HasNoFault text
  written_faultless kinds.Total line (e, ne) = ne fills
  written_faultless kinds.Unplaced line (l, b, e, (i, some, none)) = none_unplaced l i (levels_are l b) some none
  written_faultless kinds.Member line (l, i, b, li, e, (k, low, high, bad)) =
      let b' = levels_are l b in
      let long = members_long s t ls h l b' in
      let le = before_le (level_at text l) (suc i) in
      let lk : k < length (nodes_of t l) = omega (arith, high, le, long) in
      elim bad [ inl z ↦ none_absent l k b' lk z | inr twice ↦ (let (j, lj, same) = twice in none_twice l j k b' lj lk same) ]
  written_faultless kinds.Rate line (l, i, b, li, e, ne) = ne (rate_sums l i (levels_are l b) (let n = level_long s t ls h l (levels_are l b) in
      omega (arith, li, n)))
  written_faultless kinds.Pair line (l, i, b, li, e, (j, lj, room)) = pair_exceeds l j i (levels_are l b) lj (let n = level_long s t ls h l (levels_are l b)
      in omega (arith, li, n)) room
  written_faultless kinds.Unfinished line (e, (i, li, less)) =
      let l = length text.levels - 1 in
      let some : 0 < length text.levels = elim (cases_lt 0 (length text.levels)) [
        | inl more ↦ more
        | inr none ↦ absurd (let z = ap length (get_or_past text.levels l [] (omega (arith, none))) in omega (arith, z, li))
      ] in
      let n = levels_long s t ls h in
      let last : suc l ≡ t.levels = omega (arith, some, n) in
      none_unfinished l i last (let m = level_long s t ls h l (omega (arith, last)) in omega (arith, li, m)) less
