-- Items that go to homes that are told, whatever rule told them.
use Rattle.std.proofs.Common.{◌≡◌, ℕ, zero, suc, ◌+◌, ◌-◌, ◌<◌, ◌≤◌, List, [], ◌∷◌, ◌++◌, map, length, get_or, refl, ap, arith, sym, subst, ◌∙◌}
use Rattle.std.proofs.lemmas.List.{append_assoc, append-nil}
use Rattle.std.specs.List.{AllByRecursion}
use Rattle.sched_base.specs.FirstFit.{with_item}
use Rattle.run_tree.specs.declared.kinds.Kind.TheVariants as kind
use Rattle.run_tree.specs.Tree.{Tree, rate}
use Rattle.run_tree.specs.Making.{Making, Item, put, put_items, last_rates, dual_items}
use Rattle.tree_laws.proofs.NodeParts.{node_id}
use Rattle.tree_laws.proofs.LeafEntries.{entries, kind_entry}
use Rattle.tree_laws.proofs.MakingSteps.{IsMaking}
use Rattle.tree_laws.proofs.PutMember.{Filled, leaf_sum}
use Rattle.tree_laws.proofs.PackItems.{IsPut, put_at, leaf_next, leaf_serves, dual_next, dual_serves, IsLeafItem, parts, item_entries}

-- the rates of packs once each item has gone to the pack that is told
abbrev pub told_rates : List ℕ → List ℕ → List ℕ → List ℕ
told_rates [] homes ss = ss
told_rates (r ∷ rs) [] ss = ss
told_rates (r ∷ rs) (b ∷ homes) ss = told_rates rs homes (with_item r b ss)

abbrev pub item_rates : List Item → List ℕ
item_rates items = map (λ (x : Item). x.rate) items

-- each of these is at most the scale
abbrev pub Within : ℕ → List ℕ → Type 0
Within scale ss = (i : ℕ) → i < length ss → get_or ss i 0 ≤ scale

-- ---- a pack's rate only grows

pub with_item_grows : (r b : ℕ) (ss : List ℕ) (i : ℕ) → i < length ss → (i < length (with_item r b ss)) × (get_or ss i 0 ≤ get_or (with_item r b ss) i 0)
with_item_grows r b [] i l = absurd (omega arith)
with_item_grows r zero (s ∷ ss) zero l = (omega arith, omega arith)
with_item_grows r zero (s ∷ ss) (suc i) l = (omega arith, omega arith)
with_item_grows r (suc b) (s ∷ ss) zero l = (omega arith, omega arith)
with_item_grows r (suc b) (s ∷ ss) (suc i) l = let ih = with_item_grows r b ss i (omega arith) in (let a = ih.0 in omega (arith, a), ih.1)

pub told_grow : (rs homes ss : List ℕ) (i : ℕ) → i < length ss → (i < length (told_rates rs homes ss)) × (get_or ss i 0 ≤ get_or (told_rates rs homes ss) i 0)
told_grow [] homes ss i l = (l, omega arith)
told_grow (r ∷ rs) [] ss i l = (l, omega arith)
told_grow (r ∷ rs) (b ∷ homes) ss i l =
    let one = with_item_grows r b ss i l in
    let ih = told_grow rs homes (with_item r b ss) i one.0 in
    (ih.0, (let a = one.1 in let z = ih.1 in omega (arith, a, z)))

-- pack b with the item
pub with_item_at : (r b : ℕ) (ss : List ℕ) → b < length ss → (b < length (with_item r b ss)) × (get_or (with_item r b ss) b 0 ≡ get_or ss b 0 + r)
with_item_at r b [] l = absurd (omega arith)
with_item_at r zero (s ∷ ss) l = (omega arith, refl)
with_item_at r (suc b) (s ∷ ss) l = let ih = with_item_at r b ss (omega arith) in (let a = ih.0 in omega (arith, a), ih.1)

-- the item is in some pack
pub with_item_in : (r b : ℕ) (ss : List ℕ) → (i : ℕ) × (i < length (with_item r b ss)) × (r ≤ get_or (with_item r b ss) i 0)
with_item_in r b [] = (0, omega arith, omega arith)
with_item_in r zero (s ∷ ss) = (0, omega arith, omega arith)
with_item_in r (suc b) (s ∷ ss) = let (i, l, le) = with_item_in r b ss in (suc i, omega (arith, l), le)

-- so the item has room where all packs are within the scale in the end
pub told_room : (scale r b : ℕ) (rs homes ss : List ℕ) → Within scale (told_rates (r ∷ rs) (b ∷ homes) ss) → (r ≤ scale) × (b < length ss →
    get_or ss b 0 + r ≤ scale)
told_room scale r b rs homes ss w =
    let (i, li, le) = with_item_in r b ss in
    let g = told_grow rs homes (with_item r b ss) i li in
    let f = w i g.0 in (
      (let a = g.1 in omega (arith, a, le, f)),
      (λ l. (
          let at = with_item_at r b ss l in
          let h = told_grow rs homes (with_item r b ss) b at.0 in
          let e = w b h.0 in
          let a = at.1 in let z = h.1 in omega (arith, a, z, e))),
    )

-- what told items leave
pub record IsTold (m made : Making) (items : List Item) (homes : List ℕ) : Type 0 where
  pub making : IsMaking made []
  pub filled : Filled made.tree
  pub scale_same : made.tree.scale ≡ m.tree.scale
  pub levels_same : made.tree.levels ≡ m.tree.levels
  pub processors_same : made.tree.processors ≡ m.tree.processors
  pub rates : last_rates made ≡ told_rates (item_rates items) homes (last_rates m)
  pub sum : leaf_sum made.tree ≡ leaf_sum m.tree + parts items
  pub leaves : entries made.tree.nodes ≡ entries m.tree.nodes ++ item_entries items

pub told_none : (m : Making) (homes : List ℕ) → IsMaking m [] → Filled m.tree → IsTold m m [] homes
told_none m homes h f = record {
  making = h;
  filled = f;
  scale_same = refl;
  levels_same = refl;
  processors_same = refl;
  rates = refl;
  sum = omega arith;
  leaves = sym (append-nil (entries m.tree.nodes));
}

pub told_step : (m n made : Making) (rs : List ℕ) (x : Item) (items : List Item) (b : ℕ) (homes : List ℕ) → IsPut m n rs x.kind x.rate b →
    IsTold n made items homes → IsTold m made (x ∷ items) (b ∷ homes)
told_step m n made rs x items b homes p rest = record {
  making = rest.making;
  filled = rest.filled;
  scale_same = rest.scale_same ∙ p.scale_same;
  levels_same = rest.levels_same ∙ p.levels_same;
  processors_same = rest.processors_same ∙ p.processors_same;
  rates = rest.rates ∙ ap (told_rates (item_rates items) homes) p.rates;
  sum = (let a = rest.sum in let z = p.sum in omega (arith, a, z));
  leaves = rest.leaves ∙ ap (λ ys. ys ++ item_entries items) p.leaves ∙ append_assoc (entries m.tree.nodes) (kind_entry x.kind x.rate) (item_entries items);
}

-- the packs are within the scale after the items
abbrev pub WithinAfter : Making → List Item → List ℕ → Type 0
WithinAfter m items homes = Within m.tree.scale (told_rates (item_rates items) homes (last_rates m))

pub after_put : (m n : Making) (rs : List ℕ) (x : Item) (items : List Item) (b : ℕ) (homes : List ℕ) → IsPut m n rs x.kind x.rate b →
    WithinAfter m (x ∷ items) (b ∷ homes) → WithinAfter n items homes
after_put m n rs x items b homes p w i l =
    let e : told_rates (item_rates items) homes (last_rates n) ≡ told_rates (item_rates items) homes (with_item x.rate b (last_rates m)) =
    ap (told_rates (item_rates items) homes) p.rates in
    let f = w i (let z = ap length e in omega (arith, z, l)) in
    let at = ap (λ ss. get_or ss i 0) e in
    let s = p.scale_same in
    omega (arith, f, at, s)

pub told_leaves : (items : List Item) (homes : List ℕ) (m : Making) → IsMaking m [] → Filled m.tree → m.tree.levels ≡ 1 → length homes ≡ length items →
    AllByRecursion (IsLeafItem m.tree.scale) items → WithinAfter m items homes →
    IsTold m (put_items items homes m) items homes
told_leaves [] homes m h f one long all w = told_none m homes h f
told_leaves (x ∷ items) [] m h f one long all w = absurd (omega (arith, long))
told_leaves (x ∷ items) (b ∷ homes) m h f one long all w =
    let n : Making = put x.kind x.rate b m in
    let room = told_room m.tree.scale x.rate b (item_rates items) homes (last_rates m) w in
    let p : IsPut m n [] x.kind x.rate b = put_at m [] [] x.kind x.rate b h f all.0.1 (leaf_next x.kind x.rate m.tree one all.0.0)
    (leaf_serves x.kind all.0.0) room.0 room.1 in
    let P : ℕ → Type 0 = λ s. AllByRecursion (IsLeafItem s) items in
    told_step m n (put_items items homes n) [] x items b homes p
    (told_leaves items homes n p.making p.filled (p.levels_same ∙ one) (omega (arith, long)) (subst P (sym p.scale_same) all.1) (after_put m n [] x items b
    homes p w))

pub told_duals : (qs homes : List ℕ) (t : Tree) (m : Making) → IsMaking m qs → Filled m.tree → m.tree.scale ≡ t.scale → ((i : ℕ) → i < length qs →
    rate m.tree (get_or qs i 0) ≡ rate t (get_or qs i 0)) → length homes ≡ length qs → WithinAfter m (dual_items t qs) homes →
    IsTold m (put_items (dual_items t qs) homes m) (dual_items t qs) homes
told_duals [] homes t m h f scale same long w = told_none m homes h f
told_duals (q ∷ qs) [] t m h f scale same long w = absurd (omega (arith, long))
told_duals (q ∷ qs) (b ∷ homes) t m h f scale same long w =
    let r = t.scale - rate t q in
    let x : Item = record { kind = kind.Dual (node_id q); rate = r } in
    let n : Making = put x.kind r b m in
    let less = (h.waiting 0 (omega arith)).3 in
    let now = same 0 (omega arith) in
    let room = told_room m.tree.scale r b (item_rates (dual_items t qs)) homes (last_rates m) w in
    let p : IsPut m n qs x.kind r b = put_at m (q ∷ qs) qs x.kind r b h f (omega (arith, less, now, scale)) (dual_next q qs m t h scale now)
    (dual_serves q qs h.apart) room.0 room.1 in
    told_step m n (put_items (dual_items t qs) homes n) qs x (dual_items t qs) b homes p
    (told_duals qs homes t n p.making p.filled (p.scale_same ∙ scale) (λ i l. (let v = h.waiting (suc i) (omega arith) in p.kept (get_or qs i 0) v.0 v.1
    ∙ same (suc i) (omega arith))) (omega (arith, long)) (after_put m n qs x (dual_items t qs) b homes p w))
