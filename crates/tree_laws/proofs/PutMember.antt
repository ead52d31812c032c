-- A member more, in a pack that stands or in a new one.
use Rattle.std.proofs.Common.{◌≡◌, ℕ, suc, ◌+◌, ◌-◌, ◌*◌, ◌<◌, ◌≤◌, ◌≢◌, true, false, List, [], ◌∷◌, ◌++◌, map, length, get_or, set, None, refl, ap}
use Rattle.std.proofs.Common.{arith, inl, inr, sym, ap₂, ◌∙◌}
use Rattle.std.proofs.lemmas.Bool.{cases_eq, both_ways}
use Rattle.std.proofs.lemmas.List.{length-append, get_or-set_same, get_or-set_other, length-set, length-map, get_or-map, map-append, ext_get_or}
use Rattle.sched_base.specs.Counting.{sum_to, bit}
use Rattle.sched_base.specs.FirstFit.{with_item}
use Rattle.run_tree.specs.declared.kinds.Kind.{Kind}
use Rattle.run_tree.specs.declared.kinds.Kind.TheVariants as kind
use Rattle.run_tree.specs.Tree.{Tree, kind_at, rate, members, dual, level, is_pack, is_leaf, IsPack}
use Rattle.run_tree.specs.Making.{Making, opened, joined_at, last_rates}
use Rattle.sched_base.proofs.SumLemmas.{sum_to-same}
use Rattle.tree_laws.proofs.NodeParts.{node_rate, node_members, node_level, node_dual, is_pack_node, is_leaf_node}
use Rattle.tree_laws.proofs.NewMember.{Joins, IsMade, old_pack, made}
use Rattle.tree_laws.proofs.NewPack.{open_pack, open_old, open_new, open_long, opened_below, opened_pack}
use Rattle.tree_laws.proofs.Duals.{join_duals, lift_duals}
use Rattle.tree_laws.proofs.MakingSteps.{Grows, leaf_grows, dual_grows, last_at, IsMaking, Serves, step_join}
use Rattle.tree_laws.proofs.FirstFitRates.{with_item_old}

-- the pack that a dual comes from
abbrev pub IsNext : Tree → ℕ → Kind → Type 0
IsNext t r (kind.Leaf leaf) = t.levels ≡ 1
IsNext t r (kind.Pack level) = ⊥
IsNext t r (kind.Dual q) = IsPack t q.0 × (suc (suc (level t q.0)) ≡ t.levels) × (dual t q.0 ≡ None) × (rate t q.0 < t.scale) × (r + rate t q.0 ≡ t.scale)

pub join_step : (c : Kind) (m : Making) (qs rs : List ℕ) (r b : ℕ) → IsMaking m qs → b < length m.last → rate m.tree (last_at m b) + r ≤ m.tree.scale →
    0 < r → IsNext m.tree r c → Serves c qs rs →
    IsMaking (joined_at c r b m) rs × Grows m.tree (joined_at c r b m).tree (last_at m b) r c
join_step (kind.Leaf leaf) m qs rs r b h l fits some next serves =
    let p = last_at m b in
    let is = h.last_packs b l in
    let g = leaf_grows leaf r p m.tree is.0 in
    let ok = made m.tree (joined_at (kind.Leaf leaf) r b m).tree p r (kind.Leaf leaf) g.joins h.made fits some (let a = is.1 in omega (arith, a, next)) in
    let d = join_duals m.tree (joined_at (kind.Leaf leaf) r b m).tree p r leaf g.joins h.made g.keeps (λ x lx. g.dual_same x lx (λ name. name)) is.2 h.duals in
    (step_join m (joined_at (kind.Leaf leaf) r b m).tree qs rs (kind.Leaf leaf) r b h g l ok d serves (λ j lj name. name), g)
join_step (kind.Pack level) m qs rs r b h l fits some next serves = absurd next
join_step (kind.Dual id) m qs rs r b h l fits some next serves =
    let q = id.0 in
    let p = last_at m b in
    let is = h.last_packs b l in
    let g = dual_grows q r p m.tree is.0 next.0 in
    let t : Tree = (joined_at (kind.Dual id) r b m).tree in
    let ok = made m.tree t p r (kind.Dual id) g.joins h.made fits some tt in
    let apart : q ≢ p = (λ e. let a = is.1 in let f = next.1 in let z = ap (level m.tree) e in omega (arith, a, f, z)) in
    let up : level m.tree p ≡ suc (level m.tree q) = (let a = is.1 in let f = next.1 in omega (arith, a, f)) in
    let d = lift_duals m.tree t p q r g.joins h.made g.keeps (λ x lx ne. g.dual_same x lx ne) (g.dual_named q next.0.0 refl) is.2 next.2 next.0 apart next.4
    next.3 up h.duals in (
      step_join m t qs rs (kind.Dual id) r b h g l ok d serves (λ j lj name. (let a = (h.last_packs j lj).1 in let f = next.1 in let z = ap (level m.tree)
          name in omega (arith, a, f, z))),
      g,
    )

pub next_open : (c : Kind) (m : Making) (qs : List ℕ) (r : ℕ) → IsMaking m qs → IsNext m.tree r c → IsNext (opened m).tree r c
next_open (kind.Leaf leaf) m qs r h next = next
next_open (kind.Pack level) m qs r h next = absurd next
next_open (kind.Dual id) m qs r h next =
    let q = id.0 in
    let l = m.tree.levels - 1 in
    let o = open_old l m.tree q next.0.0 in
    let some = h.some_level in (
      opened_pack l m.tree h.made (omega (arith, some)) q next.0,
      ap (λ y. suc (suc (node_level y))) o ∙ next.1,
      ap node_dual o ∙ next.2,
      (let a = ap node_rate o in let b = next.3 in omega (arith, a, b)),
      (let a = ap node_rate o in let b = next.4 in omega (arith, a, b)),
    )

-- the rates of the last level
pub open_rates : (m : Making) (qs : List ℕ) → IsMaking m qs → last_rates (opened m) ≡ last_rates m ++ 0 ∷ []
open_rates m qs h =
    map-append (rate (opened m).tree) m.last (length m.tree.nodes ∷ [])
    ∙ ap (λ xs. xs ++ rate (opened m).tree (length m.tree.nodes) ∷ []) (same_rates m.last (λ i l. ap node_rate (open_old (m.tree.levels - 1) m.tree
    (last_at m i) (h.last_packs i l).0.0)))
    ∙ ap (λ x. last_rates m ++ node_rate x ∷ []) (open_new (m.tree.levels - 1) m.tree)
  where
    same_rates : (ps : List ℕ) → ((i : ℕ) → i < length ps → rate (opened m).tree (get_or ps i 0) ≡ rate m.tree (get_or ps i 0)) → map (rate (opened m).tree)
        ps ≡ map (rate m.tree) ps
    same_rates [] f = refl
    same_rates (p ∷ ps) f = ap₂ (λ x xs. x ∷ xs) (f 0 (omega arith)) (same_rates ps (λ i l. f (suc i) (omega arith)))

pub join_rates : (m : Making) (t : Tree) (qs : List ℕ) (r b : ℕ) (c : Kind) → IsMaking m qs → b < length m.last → Grows m.tree t (last_at m b) r c →
    map (rate t) m.last ≡ with_item r b (last_rates m)
join_rates m t qs r b c h l g =
    ext_get_or 0 (map (rate t) m.last) (set (last_rates m) b (get_or (last_rates m) b 0 + r)) (length-map m.last (rate t)
    ∙ sym (length-map m.last (rate m.tree)) ∙ sym (length-set (last_rates m) b (get_or (last_rates m) b 0 + r)))
    (λ i li. (let long = length-map m.last (rate t) in let long' = length-map m.last (rate m.tree) in
    let lm : i < length m.last = omega (arith, li, long) in
    get_or-map (rate t) m.last i 0 0 lm
    ∙ elim (cases_eq i b) [
      | inl e ↦ (let f : rate t (last_at m i) ≡ rate m.tree (last_at m b) + r = ap (λ y. rate t (last_at m y)) e ∙ g.joins.rate_here in
          f ∙ ap (λ y. y + r) (sym (get_or-map (rate m.tree) m.last b 0 0 l)) ∙ sym (get_or-set_same (last_rates m) b (get_or (last_rates m) b 0 + r) 0
          (omega (arith, l, long'))) ∙ ap (λ y. get_or (set (last_rates m) b (get_or (last_rates m) b 0 + r)) y 0) (sym e))
      | inr ne ↦ (g.joins.rates (last_at m i) (h.last_packs i lm).0.0 (λ e. ne (h.last_apart i b lm l e)) ∙ sym (get_or-map (rate m.tree) m.last i 0 0 lm)
          ∙ sym (get_or-set_other (last_rates m) b i (get_or (last_rates m) b 0 + r) 0 ne))
    ]))
    ∙ with_item_old r b (last_rates m) (let long = length-map m.last (rate m.tree) in omega (arith, l, long))

-- every pack has members, but perhaps one
abbrev pub FilledBut : Tree → ℕ → Type 0
FilledBut t p = (q : ℕ) → IsPack t q → q ≢ p → 0 < length (members t q)

abbrev pub Filled : Tree → Type 0
Filled t = (q : ℕ) → IsPack t q → 0 < length (members t q)

pub join_filled : (s t : Tree) (p r : ℕ) (c : Kind) → Joins s t p r c → IsMade s → FilledBut s p → Filled t
join_filled s t p r c j h f q i =
    let is = old_pack s t p r c j h q i in
    elim (cases_eq q p) [
      | inl e ↦ (let a = ap length (ap (members t) e ∙ j.here) in let long = length-append (members s p) (length s.nodes ∷ []) in omega (arith, a, long))
      | inr ne ↦ (let a = ap length (j.others q is.0 ne) in let b = f q is ne in omega (arith, a, b))
    ]

pub open_filled : (m : Making) (qs : List ℕ) → IsMaking m qs → Filled m.tree → FilledBut (opened m).tree (length m.tree.nodes)
open_filled m qs h f q i ne =
    let some = h.some_level in
    let b = opened_below (m.tree.levels - 1) m.tree h.made (omega (arith, some)) q i.0 ne in
    let o = open_old (m.tree.levels - 1) m.tree q b in
    let a = ap (λ y. length (node_members y)) o in
    let g = f q (b, sym (ap is_pack_node o) ∙ i.1) in
    omega (arith, a, g)

-- the rates of the leaves
abbrev pub leaf_sum : Tree → ℕ
leaf_sum t = sum_to (length t.nodes) (λ x. bit (is_leaf (kind_at t x)) * rate t x)

abbrev pub leaf_part : Kind → ℕ → ℕ
leaf_part (kind.Leaf leaf) r = r
leaf_part (kind.Pack level) r = 0
leaf_part (kind.Dual primal) r = 0

pub part_is : (c : Kind) (r : ℕ) → bit (is_leaf c) * r ≡ leaf_part c r
part_is (kind.Leaf leaf) r = omega arith
part_is (kind.Pack level) r = omega arith
part_is (kind.Dual primal) r = omega arith

pub pack_part : (k : Kind) → is_pack k ≡ true → bit (is_leaf k) ≡ 0
pack_part (kind.Leaf leaf) e = absurd (both_ways false refl e)
pack_part (kind.Pack level) e = refl
pack_part (kind.Dual primal) e = refl

pub join_sum : (s t : Tree) (p r : ℕ) (c : Kind) → Joins s t p r c → leaf_sum t ≡ leaf_sum s + leaf_part c r
join_sum s t p r c j =
    let count = ap (λ n. sum_to n (λ x. bit (is_leaf (kind_at t x)) * rate t x)) j.long in
    let last = ap (λ y. bit (is_leaf_node y) * node_rate y) j.added ∙ part_is c r in
    let front = sum_to-same (length s.nodes) (λ x. bit (is_leaf (kind_at t x)) * rate t x) (λ x. bit (is_leaf (kind_at s x)) * rate s x) (λ x l.
    elim (cases_eq x p) [
      | inl e ↦ (let a = pack_part (kind_at t p) (j.packs p j.is_p.0 ∙ j.is_p.1) in let b = pack_part (kind_at s p) j.is_p.1 in
          omega (
            arith,
            ap (λ w. w * rate t p) a,
            ap (λ w. w * rate s p) b,
            ap (λ y. bit (is_leaf (kind_at t y)) * rate t y) e,
            ap (λ y. bit (is_leaf (kind_at s y)) * rate s y) e,
          ))
      | inr ne ↦ ap₂ (λ a b. bit a * b) (j.leaves x l) (j.rates x l ne)
    ]) in
    omega (arith, count, last, front)

pub open_sum : (l : ℕ) (s : Tree) → leaf_sum (open_pack l s) ≡ leaf_sum s
open_sum l s =
    let t : Tree = open_pack l s in
    let count = ap (λ n. sum_to n (λ x. bit (is_leaf (kind_at t x)) * rate t x)) (open_long l s) in
    let last = ap (λ y. bit (is_leaf_node y) * node_rate y) (open_new l s) in
    let front = sum_to-same (length s.nodes) (λ x. bit (is_leaf (kind_at t x)) * rate t x) (λ x. bit (is_leaf (kind_at s x)) * rate s x)
    (λ x b. ap (λ y. bit (is_leaf_node y) * node_rate y) (open_old l s x b)) in
    omega (arith, count, last, front)
