-- What a plan is written as is within the limits of a text's form, where it has few idle leaves.
use Rattle.std.proofs.Common.{◌≡◌, ℕ, zero, suc, ◌+◌, ◌-◌, ◌*◌, ◌^◌, ◌<◌, ◌≤◌, ◌&&◌, Bool, true, false, leb, List, [], ◌∷◌, map, max, eqb, length}
use Rattle.std.proofs.Common.{get_or, refl, ap, arith, inl, inr, sym, subst, ◌∙◌, le_refl, eq-eqb, mul-le-mul_right}
use Rattle.std.proofs.Math.Nat.{pow-le-pow_right}
use Rattle.std.specs.List.{AllByRecursion, range_with_len, sum_by}
use Rattle.std.proofs.lemmas.Bool.{both_ways, cases_Bool, cases_eq, cases_lt, and_from, and_parts, le-leb, leb-true, ne_eqb}
use Rattle.std.proofs.lemmas.List.{length-map}
use Rattle.std.proofs.lemmas.List.FromFn.{length-map-range_with_len}
use Rattle.std.proofs.lemmas.List.Sums.{sum_by-cons}
use Rattle.sched_base.specs.declared.rows.Leaf.{Leaf}
use Rattle.sched_base.specs.declared.rows.Leaf.TheVariants.{Task, Wait, Idle, Empty}
use Rattle.sched_base.specs.Counting.{sum_to, bit}
use Rattle.sched_base.specs.Sets.{SetContents, IsLawful, IsLawfulTask, no_task}
use Rattle.sched_base.proofs.CountingLemmas.{bit_at, bit_off, find_below}
use Rattle.sched_base.proofs.ListLemmas.{length-passing}
use Rattle.sched_base.proofs.SumLemmas.{sum_to-add, sum_to-alone, sum_to-le, sum_to-mul, sum_to-one, sum_to-ones, sum_to-same, sum_to-swap}
use Rattle.sched_base.proofs.SumLemmas.{sum_to-zero, term-le-sum_to}
use Rattle.run_tree.specs.declared.kinds.Kind.{Kind}
use Rattle.run_tree.specs.declared.kinds.Kind.TheVariants as kind
use Rattle.run_tree.specs.Tree.{Tree, IsTree, IsPack, IsMember, IsLeaf, at_level, kind_at, is_leaf, is_pack, is_dual, leaf, leaf_of, level, primal_of}
use Rattle.run_tree.specs.Tree.{home, place, rate, member, members}
use Rattle.run_tree.specs.TreeOfSet.{IsTreeOf, idle_count, is_idle, is_real}
use Rattle.run_tree.specs.Compiled.{task_items, tree_of_rates}
use Rattle.run_tree.specs.Schedule.{packs_at}
use Rattle.run_tree.specs.Plans.{PlanContents}
use Rattle.run_tree.proofs.TreeLemmas.{pack_at}
use Rattle.sched_laws.proofs.LevelBound.{packs_of, members_pair, duals-le-packs, levels_bound_at}
use Rattle.sched_laws.proofs.LevelCounts.{first_rate}
use Rattle.trace_format.specs.Conditions.{AreOnTime}
use Rattle.tree_laws.specs.Raised.{RatesFit}
use Rattle.tree_laws.proofs.CompiledTree.{each, fit, given, tree_leaves}
use Rattle.tree_laws.proofs.FewPacks.{amounts_long}
use Rattle.tree_laws.proofs.IdleLeaves.{idle_entries}
use Rattle.tree_laws.proofs.LastLevel.{length_packed}
use Rattle.tree_laws.proofs.PackItems.{item_entries}
use Rattle.tree_laws.proofs.Sizes.{idle_leaves}
use Rattle.tree_laws.proofs.TasksHeld.{idles_in, idles_counted, idles_in-append, tasks_no_idles, idles_all}
use Rattle.tree_text.specs.Text.{idle_node, is_idle_leaf}
use Rattle.tree_check.specs.declared.written.Member.{Member}
use Rattle.tree_check.specs.declared.written.Member.TheVariants.{Name, Number}
use Rattle.tree_check.specs.Written.{Pack, IsMemberAt, IsWrittenPack, IsWrittenLevel, IsWritten, level_at, kind_written, pack_written, written_of}
use Rattle.tree_check.proofs.LevelLists.{all_at}
use Rattle.tree_check.proofs.LevelNodes.{pack_in, packs_all, placed}
use Rattle.tree_check.proofs.WrittenTree.{levels_long, level_is, level_long, rate_some, idle_at, idle_is_leaf, is_idle_true}
use Rattle.tree_text_laws.proofs.TreeLines.{IsWritable, IsPackLine, IsLevelLines, AreLevels, IsText}

-- ---- how many packs a level has

module _ (t : Tree) (h : IsTree t) where
  -- a pack with room for another one of its rate
  abbrev is_small : ℕ → Bool
  is_small p = at_level t 0 p && leb (2 * rate t p) t.scale

  -- two such would have room in one
  one_small : sum_to (length t.nodes) (λ p. bit (is_small p)) ≤ 1
  one_small = sum_to-alone (length t.nodes) is_small (λ j k lj lk ej ek.
      let a = and_parts (at_level t 0 j) (leb (2 * rate t j) t.scale) ej in
      let b = and_parts (at_level t 0 k) (leb (2 * rate t k) t.scale) ek in
      let ij = pack_at t 0 j lj a.0 in
      let ik = pack_at t 0 k lk b.0 in
      let rj = leb-true (2 * rate t j) t.scale a.1 in
      let rk = leb-true (2 * rate t k) t.scale b.1 in
      elim (cases_eq j k) [
        | inl same ↦ same
        | inr ne ↦ absurd (let over = h.pairs j k ij.0 ik.0 ne (ij.1 ∙ sym ik.1) in omega (arith, over, rj, rk))
      ])

  -- so level 0 has few packs
  first_few : packs_of t 0 ≤ 2 * t.processors + 1
  first_few =
      let each = sum_to-le (length t.nodes) (λ p. bit (at_level t 0 p) * t.scale) (λ p. bit (at_level t 0 p) * rate t p * 2 + bit (is_small p) * t.scale)
      (λ p b.
      elim (cases_Bool (at_level t 0 p)) [
        | inr off ↦ (let z = bit_off (at_level t 0 p) off in let e = ap (λ w. w * t.scale) z in omega (arith, e))
        | inl on ↦
            (let z = bit_at (at_level t 0 p) on in
            let e = ap (λ w. w * t.scale) z in
            let r = ap (λ w. w * rate t p * 2) z in
            elim (cases_lt t.scale (2 * rate t p)) [
              | inl big ↦ omega (arith, e, r, big)
              | inr low ↦ (let one = ap (λ w. w * t.scale) (bit_at (is_small p) (and_from (at_level t 0 p) (leb (2 * rate t p) t.scale) on
                  (le-leb (2 * rate t p) t.scale low))) in omega (arith, e, r, one))
            ])
      ]) in
      let split = sum_to-add (length t.nodes) (λ p. bit (at_level t 0 p) * rate t p * 2) (λ p. bit (is_small p) * t.scale) in
      let twice = sum_to-mul (length t.nodes) (λ p. bit (at_level t 0 p) * rate t p) 2 in
      let scaled = sum_to-mul (length t.nodes) (λ p. bit (at_level t 0 p)) t.scale in
      let small = sum_to-mul (length t.nodes) (λ p. bit (is_small p)) t.scale in
      let one = mul-le-mul_right t.scale one_small in
      let rates = first_rate (λ leaf u. true) t h (λ x i. record { first = refl; later = λ u. (suc u, le_refl (suc u), omega arith, refl) }) in
      let all : packs_of t 0 * t.scale ≤ (2 * t.processors + 1) * t.scale = omega (arith, each, split, twice, scaled, small, one, rates) in
      elim (cases_lt (2 * t.processors + 1) (packs_of t 0)) [
        | inr fine ↦ fine
        | inl over ↦ absurd (let more = mul-le-mul_right t.scale over in let some = h.scaled in omega (arith, all, more, some))
      ]

  -- and no further level has more
  each_few : (n l : ℕ) → 1 ≤ n → packs_of t 0 ≤ n → packs_of t l ≤ n
  each_few n zero some few = few
  each_few n (suc l) some few =
      let ih = each_few n l some few in
      let pairs = members_pair t h l in
      let less = duals-le-packs t h l in
      omega (arith, ih, pairs, less, some)

  packs_long : (l : ℕ) → length (packs_at t l) ≡ packs_of t l
  packs_long l =
      length-passing (at_level t l) (length t.nodes) 0
      ∙ sum_to-same (length t.nodes) (λ k. bit (at_level t l (0 + k))) (λ k. bit (at_level t l k)) (λ k lk. (let e : 0 + k ≡ k = omega arith in
      ap (λ x. bit (at_level t l x)) e))

  pub few_at : (l : ℕ) → t.processors ≤ 32 → length (packs_at t l) ≤ 65
  few_at l few =
      let first = first_few in
      let each = each_few 65 l (omega arith) (omega (arith, first, few)) in
      let long = packs_long l in
      omega (arith, each, long)

  -- the levels are few as well
  pub levels_few : t.processors ≤ 32 → t.levels ≤ 8
  levels_few few = go t.levels refl
    where
      go : (n : ℕ) → n ≡ t.levels → t.levels ≤ 8
      go zero e = omega (arith, e)
      go (suc k) e = elim (levels_bound_at t h k (omega (arith, e))) [
        | inl none ↦ omega (arith, e, none)
        | inr high ↦ elim (cases_lt k 7) [
          | inl low ↦ omega (arith, e, low)
          | inr many ↦ absurd (
              let grows : 2 ^ 7 ≤ 2 ^ k = pow-le-pow_right {n = 2} (omega arith) many in
              let less = duals-le-packs t h 0 in
              let first = first_few in
              omega (arith, high, grows, less, first, few))
        ]
      ]

-- ---- idle leaves

module _ (s : SetContents) (t : Tree) (ls : IsLawful s) (h : IsTreeOf s t) where
  abbrev n_nodes : ℕ
  n_nodes = length t.nodes

  -- whether node x is idle leaf k
  abbrev is_number : ℕ → ℕ → Bool
  is_number k x = is_idle_leaf k (leaf_of (kind_at t x))

  -- how many nodes are
  abbrev of_number : ℕ → ℕ
  of_number k = sum_to n_nodes (λ x. bit (is_number k x))

  of_number_one : (k : ℕ) → of_number k ≤ 1
  of_number_one k = sum_to-alone n_nodes (is_number k) (λ i j li lj ei ej.
      let a = is_idle_true k (leaf_of (kind_at t i)) ei in
      let b = is_idle_true k (leaf_of (kind_at t j)) ej in
      h.idles.once i j k (li, idle_is_leaf k (kind_at t i) a) (lj, idle_is_leaf k (kind_at t j) b) a b)

  -- each idle leaf has one number below their count
  one_number : (x : ℕ) → x < n_nodes → sum_to (idle_count t) (λ k. bit (is_number k x)) ≡ bit (is_leaf (kind_at t x) && is_idle (leaf t x))
  one_number x l = by_kind (kind_at t x) refl
    where
      by_leaf : (f : Leaf) → kind_at t x ≡ kind.Leaf f → sum_to (idle_count t) (λ k. bit (is_idle_leaf k f)) ≡ bit (is_idle f)
      by_leaf (Task id) e = sum_to-zero (idle_count t) (λ k. 0) (λ k lk. refl)
      by_leaf (Wait id) e = sum_to-zero (idle_count t) (λ k. 0) (λ k lk. refl)
      by_leaf (Idle number) e =
          let low = h.idles.below x number (l, ap is_leaf e) (ap leaf_of e) in
          sum_to-one (idle_count t) (λ k. bit (eqb number k)) number low (λ k lk ne. bit_off (eqb number k) (ne_eqb number k (λ same. ne (sym same))))
          ∙ bit_at (eqb number number) (eq-eqb number number refl)
      by_leaf Empty e = sum_to-zero (idle_count t) (λ k. 0) (λ k lk. refl)

      by_kind : (k : Kind) → kind_at t x ≡ k → sum_to (idle_count t) (λ n. bit (is_idle_leaf n (leaf_of (kind_at t x)))) ≡ bit (is_leaf (kind_at t x) &&
          is_idle (leaf_of (kind_at t x)))
      by_kind (kind.Leaf f) e =
          ap (λ c. sum_to (idle_count t) (λ n. bit (is_idle_leaf n (leaf_of c)))) e ∙ by_leaf f e ∙ ap (λ c. bit (is_leaf c && is_idle (leaf_of c))) (sym e)
      by_kind (kind.Pack m) e =
          ap (λ c. sum_to (idle_count t) (λ n. bit (is_idle_leaf n (leaf_of c)))) e ∙ sum_to-zero (idle_count t) (λ k. 0) (λ k lk. refl)
          ∙ ap (λ c. bit (is_leaf c && is_idle (leaf_of c))) (sym e)
      by_kind (kind.Dual q) e =
          ap (λ c. sum_to (idle_count t) (λ n. bit (is_idle_leaf n (leaf_of c)))) e ∙ sum_to-zero (idle_count t) (λ k. 0) (λ k lk. refl)
          ∙ ap (λ c. bit (is_leaf c && is_idle (leaf_of c))) (sym e)

  all_numbers : sum_to (idle_count t) of_number ≡ idle_count t
  all_numbers =
      sum_to-swap (idle_count t) n_nodes (λ k x. bit (is_number k x))
      ∙ sum_to-same n_nodes (λ x. sum_to (idle_count t) (λ k. bit (is_number k x))) (λ x. bit (is_leaf (kind_at t x) && is_idle (leaf t x))) one_number

  -- so each number below their count is one's
  each_number : (k : ℕ) → k < idle_count t → 1 ≤ of_number k
  each_number k l =
      let all = all_numbers in
      let both = sum_to-add (idle_count t) of_number (λ i. 1 - of_number i) in
      let same = sum_to-same (idle_count t) (λ i. of_number i + (1 - of_number i)) (λ i. 1) (λ i li. (let one = of_number_one i in omega (arith, one))) in
      let ones = sum_to-ones (idle_count t) in
      let term = term-le-sum_to (idle_count t) (λ i. 1 - of_number i) k l in
      omega (arith, all, both, same, ones, term)

  -- its rate is from 1 to the scale
  idle_rate : (k : ℕ) → k < idle_count t → (1 ≤ rate t (idle_node t k)) × (rate t (idle_node t k) ≤ t.scale)
  idle_rate k l = elim (find_below n_nodes (is_number k)) [
    | inr none ↦ absurd (let some = each_number k l in let z = sum_to-zero n_nodes (λ x. bit (is_number k x)) (λ x lx. bit_off (is_number k x) (none x lx))
        in omega (arith, some, z))
    | inl found ↦
        (let (x, lx, on) = found in
        let is = is_idle_true k (leaf_of (kind_at t x)) on in
        let a_leaf : IsLeaf t x = (lx, idle_is_leaf k (kind_at t x) is) in
        let at = idle_at s t ls h x k a_leaf is in
        let e = ap (rate t) at in
        let member_is : IsMember t x = (lx, leaf_no_pack (kind_at t x) a_leaf.1) in
        let some = rate_some s t ls h x member_is in
        let home_is = h.tree.homes_are x member_is in
        let term = term-le-sum_to (length (members t (home t x))) (λ j. rate t (member t (home t x) j)) (place t x) home_is.1 in
        let here = ap (rate t) home_is.2 in
        let sum = h.tree.summed (home t x) home_is.0 in
        let within = h.tree.within (home t x) home_is.0 in
        (omega (arith, e, some), omega (arith, e, term, here, sum, within)))
  ]
    where
      leaf_no_pack : (c : Kind) → is_leaf c ≡ true → is_pack c ≡ false
      leaf_no_pack (kind.Leaf f) e = refl
      leaf_no_pack (kind.Pack m) e = cc
      leaf_no_pack (kind.Dual q) e = refl

  idle_rates : (k n : ℕ) → k + n ≤ idle_count t → AllByRecursion (λ r. (1 ≤ r) × (r ≤ t.scale)) (map (λ i. rate t (idle_node t i)) (range_with_len k n))
  idle_rates k zero l = tt
  idle_rates k (suc n) l = (idle_rate k (omega (arith, l)), idle_rates (k + 1) n (omega (arith, l)))

  -- a tree has a level: its leaves stand in one
  pub some_level : 0 < t.levels
  some_level = elim (cases_lt 0 t.levels) [
    | inl some ↦ some
    | inr none ↦ absurd (
        let z = sum_to-zero n_nodes (λ x. bit (is_leaf (kind_at t x)) * rate t x) (λ x lx. elim (cases_Bool (is_leaf (kind_at t x))) [
          | inr off ↦ (let e = ap (λ b. b * rate t x) (bit_off (is_leaf (kind_at t x)) off) in omega (arith, e))
          | inl on ↦ absurd (
              let home_is = h.tree.homes_are x (lx, no_pack (kind_at t x) on) in
              let low = h.tree.leveled (home t x) home_is.0 in
              omega (arith, low, none))
        ]) in
        let whole = h.tree.total in
        let some = h.tree.scaled in
        let a = h.processors in
        let b = ls.some_processors in
        let c : 1 * t.scale ≤ t.processors * t.scale = mul-le-mul_right t.scale (omega (arith, a, b)) in
        omega (arith, z, whole, some, c))
  ]
    where
      no_pack : (c : Kind) → is_leaf c ≡ true → is_pack c ≡ false
      no_pack (kind.Leaf f) e = refl
      no_pack (kind.Pack m) e = cc
      no_pack (kind.Dual q) e = refl

  -- ---- packs

  abbrev pub p : PlanContents
  p = record { set = s; tree = t }

  module _ (few : idle_count t ≤ 1024) where
    pub few_packs : (l : ℕ) → length (packs_at t l) ≤ 65
    few_packs l = few_at t h.tree l (let a = h.processors in let b = ls.few_processors in omega (arith, a, b))

    writable : (l x : ℕ) → IsMember t x → level t (home t x) ≡ l → IsWritable l (kind_written p (kind_at t x))
    writable l x i at = by_kind (kind_at t x) refl
      where
        by_leaf : (f : Leaf) → kind_at t x ≡ kind.Leaf f → l ≡ 0 → IsWritable l (kind_written p (kind.Leaf f))
        by_leaf (Task id) e z = (z, (all_at IsLawfulTask no_task s.tasks id.0 ls.each (h.tasks.known x id (i.0, ap is_leaf e) (ap leaf_of e))).name)
        by_leaf (Idle k) e z = (let low = h.idles.below x k (i.0, ap is_leaf e) (ap leaf_of e) in omega (arith, low, few))
        by_leaf (Wait id) e z = absurd (both_ways (is_real (leaf t x)) (ap (λ k. is_real (leaf_of k)) e) (h.tasks.real x (i.0, ap is_leaf e)))
        by_leaf Empty e z = absurd (both_ways (is_real (leaf t x)) (ap (λ k. is_real (leaf_of k)) e) (h.tasks.real x (i.0, ap is_leaf e)))

        by_kind : (k : Kind) → kind_at t x ≡ k → IsWritable l (kind_written p k)
        by_kind (kind.Leaf f) e = by_leaf f e (sym at ∙ (h.tree.leaves_are x (i.0, ap is_leaf e)).0)
        by_kind (kind.Pack m) e = absurd (both_ways (is_pack (kind_at t x)) i.1 (ap is_pack e))
        by_kind (kind.Dual q) e =
            let is = (h.tree.duals_are x (i.0, ap is_dual e)).0 in
            let here = placed t q.0 (subst (IsPack t) (ap primal_of e) is) in
            let low = here.0 in
            let most = few_packs (level t q.0) in
            omega (arith, low, most)

    all_mapped : {A B : Type 0} (P : B → Type 0) (f : A → B) (d : A) (xs : List A) → ((i : ℕ) → i < length xs → P (f (get_or xs i d))) →
        AllByRecursion P (map f xs)
    all_mapped P f d [] h = tt
    all_mapped P f d (x ∷ xs) h = (h 0 (omega arith), all_mapped P f d xs (λ i l. h (suc i) (omega (arith, l))))

    pack_line : (l q : ℕ) → IsPack t q → level t q ≡ l → IsPackLine t.scale l (pack_written p q)
    pack_line l q i at = record {
      within = h.tree.within q i;
      some = (let n = length-map (members t q) (λ x. kind_written p (kind_at t x)) in let m = h.tree.filled q i in omega (arith, n, m));
      each = all_mapped (IsWritable l) (λ x. kind_written p (kind_at t x)) 0 (members t q) (λ k lk. (let m = h.tree.members_are q k i lk in
          writable l (member t q k) m.0 (ap (level t) m.1 ∙ at)));
    }

    pub level_lines : (l : ℕ) → l < t.levels → IsLevelLines t.scale l (map (pack_written p) (packs_at t l))
    level_lines l b =
        let n = length-map (packs_at t l) (pack_written p) in
        let most = few_packs l in
        record {
          some = (let (q, i, at) = h.tree.each_level l b in let (k, lk, e) = packs_all t l q i at in omega (arith, n, lk));
          few = omega (arith, n, most);
          each = all_mapped (IsPackLine t.scale l) (pack_written p) 0 (packs_at t l) (λ i li. (let is = pack_in t l i li in
              pack_line l (get_or (packs_at t l) i 0) is.0 is.1));
        }

    level_list : (l n : ℕ) → l + n ≤ t.levels → AreLevels t.scale l (map (λ l. map (pack_written p) (packs_at t l)) (range_with_len l n))
    level_list l zero b = tt
    level_list l (suc n) b = (level_lines l (omega (arith, b)), level_list (l + 1) n (omega (arith, b)))

    pub is_text : AreOnTime s.tasks → t.scale ≤ 2 ^ 94 → IsText (written_of p)
    is_text on_time small =
        let levels = length-map-range_with_len (λ l. map (pack_written p) (packs_at t l)) 0 t.levels in
        let idles = length-map-range_with_len (λ k. rate t (idle_node t k)) 0 (idle_count t) in
        let some = some_level in
        let most = levels_few t h.tree (let a = h.processors in let b = ls.few_processors in omega (arith, a, b)) in
        record {
          lawful = ls;
          on_time = on_time;
          is_scale = h.scale;
          scale_fits = small;
          few_idles = omega (arith, idles, few);
          idles = idle_rates 0 (idle_count t) (omega arith);
          some_level = omega (arith, levels, some);
          few_levels = omega (arith, levels, most);
          levels = level_list 0 t.levels (omega arith);
        }

    -- ---- the limits of a tree that is read

    each_weaker : {A : Type 0} (P Q : A → Type 0) (xs : List A) → ((x : A) → P x → Q x) → AllByRecursion P xs → AllByRecursion Q xs
    each_weaker P Q [] to all = tt
    each_weaker P Q (x ∷ xs) to all = (to x all.0, each_weaker P Q xs to all.1)

    member_form : (l : ℕ) (m : Member) → IsWritable l m → IsMemberAt l m
    member_form l (Name name) w = w.0
    member_form l (Number n) w = w

    pack_form : (l : ℕ) (k : Pack) → IsPackLine t.scale l k → IsWrittenPack t.scale l k
    pack_form l k i = record { within = i.within; some = i.some; each = each_weaker (IsWritable l) (IsMemberAt l) k.members (member_form l) i.each }

    level_form : (l : ℕ) → l < t.levels → IsWrittenLevel t.scale l (level_at (written_of p) l)
    level_form l b =
        let i = level_lines l b in
        subst (IsWrittenLevel t.scale l) (sym (level_is s t ls h l b))
        (record {
          some = i.some;
          few = i.few;
          each = each_weaker (IsPackLine t.scale l) (IsWrittenPack t.scale l) (map (pack_written p) (packs_at t l))
              (pack_form l) i.each;
        })

    lines_few : (a n : ℕ) → a + n ≤ t.levels → sum_by (λ k. suc (length (level_at (written_of p) k))) (range_with_len a n) ≤ n * 66
    lines_few a zero b = omega arith
    lines_few a (suc n) b =
        let ih = lines_few (a + 1) n (omega (arith, b)) in
        let front = sum_by-cons (λ k. suc (length (level_at (written_of p) k))) a (range_with_len (a + 1) n) in
        let long = level_long s t ls h a (omega (arith, b)) in
        let few = few_packs a in
        omega (arith, ih, front, long, few)

    pub is_written : t.scale ≤ 2 ^ 94 → IsWritten (written_of p)
    is_written small =
        let levels = levels_long s t ls h in
        let idles = length-map-range_with_len (λ k. rate t (idle_node t k)) 0 (idle_count t) in
        let some = some_level in
        let most = levels_few t h.tree (let a = h.processors in let b = ls.few_processors in omega (arith, a, b)) in
        let tasks = ls.few_tasks in
        let lines = lines_few 0 t.levels (omega arith) in
        let counted = ap (λ n. sum_by (λ k. suc (length (level_at (written_of p) k))) (range_with_len 0 n)) levels in
        record {
          lawful = ls;
          is_scale = h.scale;
          scale_fits = small;
          few_idles = omega (arith, idles, few);
          idles = idle_rates 0 (idle_count t) (omega arith);
          some_level = omega (arith, levels, some);
          levels = λ l b. level_form l (omega (arith, b, levels));
          lines_fit = omega (arith, tasks, idles, few, lines, counted, most);
        }

-- ---- the compiled tree

-- it has a task's leaf for each rate, and few idle ones
pub compiled_few : (processors scale : ℕ) (rates : List ℕ) → RatesFit processors scale rates → idle_count (tree_of_rates processors scale rates) ≤ max
    processors (length rates)
compiled_few processors scale rates h =
    let t = tree_of_rates processors scale rates in
    let amounts = given processors scale rates h in
    let counted = idles_counted t.nodes ∙ ap idles_in (tree_leaves processors scale rates h) ∙ idles_in-append (item_entries (task_items 0 rates))
    (idle_entries 0 amounts) in
    let tasks = tasks_no_idles 0 rates in
    let all = idles_all 0 amounts in
    let long = idle_leaves 0 amounts in
    let few = amounts_long processors scale rates h.some_processors h.some_scale (each processors scale rates h) (fit processors scale rates h) in
    let servers = length_packed scale rates [] in
    omega (arith, counted, tasks, all, long, few, servers)
