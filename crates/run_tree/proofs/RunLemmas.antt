-- Which nodes run, tick by tick.
use Rattle.std.proofs.Common.{Bool, None, Option, Some, [], ap, ap₂, arith, cond, count_by, drop, false, get_or, inl, inr, length, length-append, not}
use Rattle.std.proofs.Common.{refl, subst, suc, sym, take, true, zero, ℕ, ◌&&◌, ◌*◌, ◌-◌, ◌/◌, ◌<◌, ◌∙◌, ◌∷◌, ◌≡◌, ◌≤◌}
use Rattle.std.proofs.lemmas.Bool.{cases_lt}
use Rattle.std.proofs.lemmas.List.{take-append-le, take_all}
use Rattle.std.proofs.lemmas.List.FromFn.{get_or-map-range_with_len}
use Rattle.std.proofs.lemmas.List.Sums.{sum_by-take-drop, sum_by_push}
use Rattle.run_tree.specs.declared.kinds.Kind.{Kind}
use Rattle.sched_base.specs.declared.rows.Leaf.{Leaf}
use Rattle.sched_base.specs.Counting.{ticks}
use Rattle.sched_base.proofs.CountingLemmas.{cond_bit}
use Rattle.sched_base.proofs.UnitLemmas.{tick_from}
use Rattle.run_tree.specs.Windows.{window_begin, window_end}
use Rattle.run_tree.specs.Tree.{IsMember, IsPack, IsTree, Tree, dual, home, is_pack, kind_at, leaf, level, level_of, primal, rate}
use Rattle.run_tree.specs.Boundaries.{HaveBoundaries, is_boundary}
use Rattle.run_tree.specs.Runs.{due_left, is_picked, next_tick, node_runs, pack_runs, runs, runs_now, ticks_below, unless_dual, window_end_now}
use Rattle.run_tree.proofs.KindLemmas.{not_pack}
use Rattle.run_tree.proofs.WindowLemmas.{begin_is}
use Rattle.run_tree.proofs.BoundaryLemmas.{member_has}
use Rattle.run_tree.specs.declared.kinds.Kind.TheVariants as kind

-- a pack's run is said by the levels above it, a member's by its pack and the pick
pub node_runs_pack : (t : Tree) (picked : ℕ → Bool) (m : Kind) (x : ℕ) → is_pack m ≡ true → node_runs t picked m x ≡ pack_runs t picked
    (t.levels - 1 - level_of m) x
node_runs_pack t picked (kind.Leaf leaf) x e = cc
node_runs_pack t picked (kind.Pack level) x e = refl
node_runs_pack t picked (kind.Dual primal) x e = cc

pub node_runs_member : (t : Tree) (picked : ℕ → Bool) (m : Kind) (x : ℕ) → is_pack m ≡ false →
    node_runs t picked m x ≡ (pack_runs t picked (t.levels - 1 - level t (home t x)) (home t x) && picked x)
node_runs_member t picked (kind.Leaf leaf) x e = refl
node_runs_member t picked (kind.Pack level) x e = cc
node_runs_member t picked (kind.Dual primal) x e = refl

pub pack_runs_dual : (t : Tree) (picked : ℕ → Bool) (above p d : ℕ) → dual t p ≡ Some d → pack_runs t picked (suc above) p ≡ not (pack_runs t picked above
    (home t d) && picked d)
pack_runs_dual t picked above p d e = ap (λ o. unless_dual o (λ c. pack_runs t picked above (home t c) && picked c)) e

module _ (t : Tree) (h : IsTree t) (remain end : ℕ → ℕ) where
  -- a pack runs as the levels above say
  pub now_pack : (p : ℕ) → IsPack t p → runs_now t remain end p ≡ pack_runs t (is_picked t remain end) (t.levels - 1 - level t p) p
  unfolding runs_now
  now_pack p i = node_runs_pack t (is_picked t remain end) (kind_at t p) p i.1

  -- a member runs where its home runs and picks it
  pub now_member : (x : ℕ) → IsMember t x → runs_now t remain end x ≡ (runs_now t remain end (home t x) && is_picked t remain end x)
  unfolding runs_now
  now_member x i = node_runs_member t (is_picked t remain end) (kind_at t x) x i.1
      ∙ ap (λ (b : Bool). b && is_picked t remain end x) (sym (now_pack (home t x) (h.homes_are x i).0))

  -- a root runs
  pub now_root : (p : ℕ) → IsPack t p → dual t p ≡ None → runs_now t remain end p ≡ true
  now_root p i e = now_pack p i ∙ go (t.levels - 1 - level t p)
    where
      go : (above : ℕ) → pack_runs t (is_picked t remain end) above p ≡ true
      go zero = refl
      go (suc above) = ap (λ o. unless_dual o (λ d. pack_runs t (is_picked t remain end) above (home t d) && is_picked t remain end d)) e

  -- a pack with a dual runs where the dual does not
  pub now_rests : (p d : ℕ) → IsPack t p → dual t p ≡ Some d → runs_now t remain end p ≡ not (runs_now t remain end d)
  unfolding runs_now
  now_rests p d i e =
      let (dual_d, primal_d, sum, short) = h.has_dual p d i e in
      let up = (h.duals_are d dual_d).2 in
      let top = h.leveled (home t d) (h.homes_are d (dual_d.0, not_pack (kind_at t d) dual_d.1)).0 in
      let same = ap (level t) primal_d in
      let steps : t.levels - 1 - level t p ≡ suc (t.levels - 1 - level t (home t d)) = omega (arith, up, top, same) in
      now_pack p i
      ∙ ap (λ above. pack_runs t (is_picked t remain end) above p) steps
      ∙ pack_runs_dual t (is_picked t remain end) (t.levels - 1 - level t (home t d)) p d e
      ∙ ap not (sym (node_runs_member t (is_picked t remain end) (kind_at t d) d (not_pack (kind_at t d) dual_d.1)))

-- who runs depends on the picks alone
module _ (t : Tree) (h : IsTree t) (picked picked' : ℕ → Bool) (same : (x : ℕ) → IsMember t x → picked x ≡ picked' x) where
  -- a pack runs alike under picks that agree on members
  pub same_pack_runs : (above p : ℕ) → IsPack t p → pack_runs t picked above p ≡ pack_runs t picked' above p
  same_pack_runs zero p i = refl
  same_pack_runs (suc above) p i = go (same_pack_runs above) (dual t p) refl
    where
      go : ((q : ℕ) → IsPack t q → pack_runs t picked above q ≡ pack_runs t picked' above q) → (o : Option ℕ) → dual t p ≡ o →
          pack_runs t picked (suc above) p ≡ pack_runs t picked' (suc above) p
      go ih None e =
          ap (λ o. unless_dual o (λ c. pack_runs t picked above (home t c) && picked c)) e
          ∙ sym (ap (λ o. unless_dual o (λ c. pack_runs t picked' above (home t c) && picked' c)) e)
      go ih (Some d) e =
          (let x = (h.has_dual p d i e).0 in
          let m : IsMember t d = (x.0, not_pack (kind_at t d) x.1) in
          pack_runs_dual t picked above p d e
          ∙ ap₂ (λ a b. not (a && b)) (ih (home t d) (h.homes_are d m).0) (same d m)
          ∙ sym (pack_runs_dual t picked' above p d e))

module _ (of_leaf : Leaf → ℕ → Bool) (t : Tree) where
  -- what is left and where windows end at tick n
  abbrev pub left_at : ℕ → ℕ → ℕ
  left_at n = due_left of_leaf t (ticks_below of_leaf t n)

  -- where the windows of the nodes end at tick n
  abbrev pub ends_at : ℕ → ℕ → ℕ
  ends_at n = window_end_now of_leaf t (ticks_below of_leaf t n)

  -- who runs at a tick, from what is left then
  pub runs_is : (x n : ℕ) → x < length t.nodes → runs of_leaf t x n ≡ runs_now t (left_at n) (ends_at n) x
  unfolding runs
  runs_is x n l = get_or-map-range_with_len (runs_now t (left_at n) (ends_at n)) 0 (length t.nodes) x x false l (omega arith)

  -- there are as many ticks as passed
  pub length-ticks : (n : ℕ) → length (ticks_below of_leaf t n) ≡ n
  length-ticks zero = refl
  length-ticks (suc n) = let ih = length-ticks n in let a = length-append (ticks_below of_leaf t n) (next_tick of_leaf t (ticks_below of_leaf t n) ∷ []) in
      omega (arith, ih, a)

  -- the first ticks are those of an earlier time
  pub take-ticks : (b n : ℕ) → b ≤ n → take b (ticks_below of_leaf t n) ≡ ticks_below of_leaf t b
  take-ticks b zero l = let e : 0 ≡ b = omega arith in subst (λ (x : ℕ). take x (ticks_below of_leaf t 0) ≡ ticks_below of_leaf t x) e refl
  take-ticks b (suc n) l =
      elim (cases_lt b (suc n)) [
        | inl m ↦
            (let ih = take-ticks b n (omega arith) in
            let long = length-ticks n in
            take-append-le b (ticks_below of_leaf t n) (next_tick of_leaf t (ticks_below of_leaf t n) ∷ []) (omega (arith, long)) ∙ ih)
        | inr m ↦
            (let e : suc n ≡ b = omega arith in
            let long = length-ticks (suc n) in
            subst (λ (x : ℕ). take x (ticks_below of_leaf t (suc n)) ≡ ticks_below of_leaf t x) e (take_all (suc n) (ticks_below of_leaf t (suc n))
            (omega (arith, long))))
      ]

  -- how often node x ran
  pub count_ticks : (x n : ℕ) → count_by (λ row. get_or row x false) (ticks_below of_leaf t n) ≡ ticks (runs of_leaf t x) n
  unfolding runs
  count_ticks x zero = refl
  count_ticks x (suc n) =
      let ih = count_ticks x n in
      let push = sum_by_push (λ row. cond (get_or row x false) 1 0) (ticks_below of_leaf t n) (next_tick of_leaf t (ticks_below of_leaf t n)) in
      let last = cond_bit (get_or (next_tick of_leaf t (ticks_below of_leaf t n)) x false) in
      omega (arith, ih, push, last)

  -- the rows from tick b on
  pub count_from : (x b n : ℕ) → b ≤ n → count_by (λ row. get_or row x false) (drop b (ticks_below of_leaf t n)) ≡ ticks (runs of_leaf t x) n - ticks
      (runs of_leaf t x) b
  count_from x b n l =
      let cut = sum_by-take-drop (λ row. cond (get_or row x false) 1 0) (ticks_below of_leaf t n) b in
      let front = ap (λ rows. count_by (λ row. get_or row x false) rows) (take-ticks b n l) in
      let f = count_ticks x b in
      let w = count_ticks x n in
      omega (arith, cut, front, f, w)

  -- what is left of a due, by counts of ticks
  pub left_is : (x n : ℕ) → (let u = n / t.scale in let b = window_begin (is_boundary of_leaf t x) u in let e = window_end (is_boundary of_leaf t x) u in
      b * t.scale ≤ n → left_at n x ≡ rate t x * (e - b) - (ticks (runs of_leaf t x) n - ticks (runs of_leaf t x) (b * t.scale)))
  left_is x n l =
      let long = length-ticks n in
      let cut = count_from x (window_begin (is_boundary of_leaf t x) (n / t.scale) * t.scale) n l in
      ap (λ m. rate t x * (window_end (is_boundary of_leaf t x) (m / t.scale) - window_begin (is_boundary of_leaf t x) (m / t.scale))
      - count_by (λ row. get_or row x false) (drop (window_begin (is_boundary of_leaf t x) (m / t.scale) * t.scale) (ticks_below of_leaf t n))) long
      ∙ ap (λ c. rate t x * (window_end (is_boundary of_leaf t x) (n / t.scale) - window_begin (is_boundary of_leaf t x) (n / t.scale)) - c) cut

  -- where a window ends, by its unit
  pub ends_is : (x n : ℕ) → ends_at n x ≡ window_end (is_boundary of_leaf t x) (n / t.scale)
  ends_is x n = ap (λ m. window_end (is_boundary of_leaf t x) (m / t.scale)) (length-ticks n)

module _ (of_leaf : Leaf → ℕ → Bool) (t : Tree) (h : IsTree t) where
  -- a member runs where its home runs and picks it
  pub run_member : (x n : ℕ) → IsMember t x → runs of_leaf t x n ≡ (runs of_leaf t (home t x) n && is_picked t (left_at of_leaf t n) (ends_at of_leaf t n) x)
  run_member x n i =
      runs_is of_leaf t x n i.0
      ∙ now_member t h (left_at of_leaf t n) (ends_at of_leaf t n) x i
      ∙ ap (λ (b : Bool). b && is_picked t (left_at of_leaf t n) (ends_at of_leaf t n) x) (sym (runs_is of_leaf t (home t x) n (h.homes_are x i).0.0))

module _ (of_leaf : Leaf → ℕ → Bool) (t : Tree) (h : IsTree t) (leaves : HaveBoundaries of_leaf t) where
  -- a window begins no later than the tick that it holds
  pub on_time : (x n : ℕ) → IsMember t x → window_begin (is_boundary of_leaf t x) (n / t.scale) * t.scale ≤ n
  on_time x n i = tick_from n (window_begin (is_boundary of_leaf t x) (n / t.scale)) t.scale h.scaled (begin_is (is_boundary of_leaf t x)
      (member_has of_leaf t h leaves x i).first (n / t.scale)).below
