-- Items that go to the homes of first fit are packed by first fit.
use Rattle.std.proofs.Common.{◌≡◌, ℕ, suc, ◌-◌, ◌<◌, List, [], ◌∷◌, map, length, get_or, refl, ap₂, arith, sym, subst, ◌∙◌}
use Rattle.std.specs.List.{AllByRecursion}
use Rattle.sched_base.specs.FirstFit.{first_with_room, homes_from}
use Rattle.run_tree.specs.declared.kinds.Kind.TheVariants as kind
use Rattle.run_tree.specs.Tree.{Tree, rate}
use Rattle.run_tree.specs.Making.{Making, Item, put, last_rates, dual_items, put_items}
use Rattle.run_tree.specs.Compiled.{pack_items}
use Rattle.tree_laws.proofs.NodeParts.{node_id}
use Rattle.tree_laws.proofs.MakingSteps.{IsMaking}
use Rattle.tree_laws.proofs.FirstFitRates.{room_is}
use Rattle.tree_laws.proofs.PutMember.{Filled}
use Rattle.tree_laws.proofs.PackItems.{IsPut, put_first, leaf_next, leaf_serves, dual_next, dual_serves, IsLeafItem}

abbrev pub item_rates : List Item → List ℕ
item_rates items = map (λ (x : Item). x.rate) items

pub leaves_follow : (items : List Item) (m : Making) → IsMaking m [] → Filled m.tree → m.tree.levels ≡ 1 → AllByRecursion (IsLeafItem m.tree.scale) items →
    put_items items (homes_from m.tree.scale (item_rates items) (last_rates m)) m ≡ pack_items items m
leaves_follow [] m h f one all = refl
leaves_follow (x ∷ items) m h f one all =
    let b = first_with_room m.tree.scale x.rate (last_rates m) in
    let made : Making = put x.kind x.rate b m in
    let p : IsPut m made [] x.kind x.rate b = put_first m [] [] x.kind x.rate b h f all.0.1 (leaf_next x.kind x.rate m.tree one all.0.0)
    (leaf_serves x.kind all.0.0) all.0.2 (room_is m.tree.scale x.rate (last_rates m)) in
    let P : ℕ → Type 0 = λ s. AllByRecursion (IsLeafItem s) items in
    sym (ap₂ (λ s ss. put_items items (homes_from s (item_rates items) ss) made) p.scale_same p.rates)
    ∙ leaves_follow items made p.making p.filled (p.levels_same ∙ one) (subst P (sym p.scale_same) all.1)

pub duals_follow : (qs : List ℕ) (t : Tree) (m : Making) → IsMaking m qs → Filled m.tree → m.tree.scale ≡ t.scale → ((i : ℕ) → i < length qs →
    rate m.tree (get_or qs i 0) ≡ rate t (get_or qs i 0)) →
    put_items (dual_items t qs) (homes_from m.tree.scale (item_rates (dual_items t qs)) (last_rates m)) m ≡ pack_items (dual_items t qs) m
duals_follow [] t m h f scale same = refl
duals_follow (q ∷ qs) t m h f scale same =
    let r = t.scale - rate t q in
    let b = first_with_room m.tree.scale r (last_rates m) in
    let made : Making = put (kind.Dual (node_id q)) r b m in
    let now = same 0 (omega arith) in
    let less = (h.waiting 0 (omega arith)).3 in
    let p : IsPut m made qs (kind.Dual (node_id q)) r b = put_first m (q ∷ qs) qs (kind.Dual (node_id q)) r b h f (omega (arith, less, now, scale))
    (dual_next q qs m t h scale now) (dual_serves q qs h.apart) (omega (arith, less, now, scale)) (room_is m.tree.scale r (last_rates m)) in
    sym (ap₂ (λ s ss. put_items (dual_items t qs) (homes_from s (item_rates (dual_items t qs)) ss) made) p.scale_same p.rates)
    ∙ duals_follow qs t made p.making p.filled (p.scale_same ∙ scale) (λ i l. (let v = h.waiting (suc i) (omega arith) in p.kept (get_or qs i 0) v.0 v.1
    ∙ same (suc i) (omega arith)))
