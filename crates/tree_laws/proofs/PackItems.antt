-- Items packed one after another.
use Rattle.std.proofs.Common.{◌≡◌, ℕ, zero, suc, ◌+◌, ◌-◌, ◌<◌, ◌≤◌, Bool, List, [], ◌∷◌, ◌++◌, map, length, get_or, refl, ap, arith, ◌⊎◌, inl, inr}
use Rattle.std.proofs.Common.{sym, subst, subst₂, ap₂, ◌∙◌, nat_lt}
use Rattle.std.proofs.lemmas.Bool.{cases_Bool, ltb-true, ltb-false}
use Rattle.std.proofs.lemmas.List.{get_or_push, length-append, length-map, get_or-map}
use Rattle.std.proofs.lemmas.List.{append_assoc, append-nil}
use Rattle.std.specs.List.{AllByRecursion}
use Rattle.sched_base.specs.FirstFit.{first_with_room, with_item, packed_from}
use Rattle.sched_base.specs.declared.rows.Leaf.{Leaf}
use Rattle.run_tree.specs.declared.kinds.Kind.{Kind}
use Rattle.run_tree.specs.declared.kinds.Kind.TheVariants as kind
use Rattle.run_tree.specs.Tree.{Tree, rate, level, IsPack}
use Rattle.run_tree.specs.Making.{Making, Item, opened, joined_at, put, put_in, last_rates, dual_items}
use Rattle.run_tree.specs.Compiled.{pack_items}
use Rattle.tree_laws.proofs.NodeParts.{node_rate, node_level, node_id}
use Rattle.tree_laws.proofs.LeafEntries.{Entry, entries, kind_entry, entries_any, entries_open, FromPack}
use Rattle.tree_laws.proofs.NewPack.{open_old, open_new, open_long}
use Rattle.tree_laws.proofs.MakingSteps.{Grows, last_at, Among, IsMaking, Serves, step_open}
use Rattle.tree_laws.proofs.FirstFitRates.{IsRoom, room_is, with_item_last, PairsExceed, pairs_with_item}
use Rattle.tree_laws.proofs.PutMember.{IsNext, join_step, next_open, open_rates, join_rates, Filled, join_filled, open_filled, leaf_sum, leaf_part}
use Rattle.tree_laws.proofs.PutMember.{join_sum, open_sum}

pub record IsPut (m made : Making) (rs : List ℕ) (c : Kind) (r b : ℕ) : Type 0 where
  pub making : IsMaking made rs
  pub filled : Filled made.tree
  pub rates : last_rates made ≡ with_item r b (last_rates m)
  pub sum : leaf_sum made.tree ≡ leaf_sum m.tree + leaf_part c r
  pub scale_same : made.tree.scale ≡ m.tree.scale
  pub levels_same : made.tree.levels ≡ m.tree.levels
  pub processors_same : made.tree.processors ≡ m.tree.processors
  -- the packs of the level below are as they were
  pub leaves : entries made.tree.nodes ≡ entries m.tree.nodes ++ kind_entry c r
  pub kept : (q : ℕ) → IsPack m.tree q → suc (suc (level m.tree q)) ≡ m.tree.levels → rate made.tree q ≡ rate m.tree q

pub processors_join : (c : Kind) (r b : ℕ) (m : Making) → (joined_at c r b m).tree.processors ≡ m.tree.processors
processors_join (kind.Leaf leaf) r b m = refl
processors_join (kind.Pack level) r b m = refl
processors_join (kind.Dual q) r b m = refl

pub from_next : (c : Kind) (t : Tree) (r : ℕ) → IsNext t r c → FromPack t c
from_next (kind.Leaf leaf) t r next = tt
from_next (kind.Pack level) t r next = absurd next
from_next (kind.Dual q) t r next = next.0

module _ (m : Making) (qs rs : List ℕ) (c : Kind) (r b : ℕ) (h : IsMaking m qs) (f : Filled m.tree) (some : 0 < r) (next : IsNext m.tree r c)
    (serves : Serves c qs rs) where
  pub put_old : b < length m.last → rate m.tree (last_at m b) + r ≤ m.tree.scale → IsPut m (joined_at c r b m) rs c r b
  put_old l fits =
      let (is, g) = join_step c m qs rs r b h l fits some next serves in
      record {
        making = is;
        filled = join_filled m.tree (joined_at c r b m).tree (last_at m b) r c g.joins h.made (λ q i ne. f q i);
        rates = rates_of c g l;
        sum = join_sum m.tree (joined_at c r b m).tree (last_at m b) r c g.joins;
        scale_same = g.joins.scale_same;
        levels_same = g.joins.levels_same;
        processors_same = processors_join c r b m;
        leaves = entries_any c r (last_at m b) m.tree (h.last_packs b l).0 (from_next c m.tree r next);
        kept = λ q i low. g.joins.rates q i.0 (λ e. (let a = (h.last_packs b l).1 in let z = ap (level m.tree) e in omega (arith, a, z, low)));
      }
    where
      rates_of : (d : Kind) → Grows m.tree (joined_at d r b m).tree (last_at m b) r d → b < length m.last → last_rates (joined_at d r b m) ≡ with_item r b
          (last_rates m)
      rates_of d g l = join_rates m (joined_at d r b m).tree qs r b d h l g

  pub put_new : length m.last ≤ b → r ≤ m.tree.scale → IsPut m (joined_at c r (length m.last) (opened m)) rs c r b
  put_new l fits =
      let o = step_open m qs h in
      let at : last_at (opened m) (length m.last) ≡ length m.tree.nodes = get_or_push m.last (length m.tree.nodes) 0 (length m.last) refl in
      let zero_rate : rate (opened m).tree (last_at (opened m) (length m.last)) ≡ 0 = ap (rate (opened m).tree) at
      ∙ ap node_rate (open_new (m.tree.levels - 1) m.tree) in
      let long = length-append m.last (length m.tree.nodes ∷ []) in
      let below : length m.last < length (opened m).last = omega (arith, long) in
      let (is, g) = join_step c (opened m) qs rs r (length m.last) o below (omega (arith, zero_rate, fits)) some (next_open c m qs r h next) serves in
      let t : Tree = (joined_at c r (length m.last) (opened m)).tree in
      record {
        making = is;
        filled = join_filled (opened m).tree t (last_at (opened m) (length m.last)) r c g.joins o.made (λ q i ne. open_filled m qs h f q i
            (λ e. ne (e ∙ sym at)));
        rates = rates_of c g o below l;
        sum = (let a = join_sum (opened m).tree t (last_at (opened m) (length m.last)) r c g.joins in let z = open_sum (m.tree.levels - 1) m.tree in
            omega (arith, a, z));
        scale_same = g.joins.scale_same;
        levels_same = g.joins.levels_same;
        processors_same = processors_join c r (length m.last) (opened m);
        leaves = entries_any c r (last_at (opened m) (length m.last)) (opened m).tree (o.last_packs (length m.last) below).0 (from_next c (opened m).tree r
            (next_open c m qs r h next)) ∙ ap (λ xs. xs ++ kind_entry c r) (entries_open (m.tree.levels - 1) m.tree);
        kept = λ q i low. (let e = open_old (m.tree.levels - 1) m.tree q i.0 in
            g.joins.rates q (let a = i.0 in let n = open_long (m.tree.levels - 1) m.tree in omega (arith, a, n))
            (λ s. (let z = (o.last_packs (length m.last) below).1 in let y = ap (level (opened m).tree) s in let w = ap node_level e in
            omega (arith, z, y, w, low))) ∙ ap node_rate e);
      }
    where
      rates_of : (d : Kind) → Grows (opened m).tree (joined_at d r (length m.last) (opened m)).tree (last_at (opened m) (length m.last)) r d →
          IsMaking (opened m) qs → length m.last < length (opened m).last → length m.last ≤ b →
          last_rates (joined_at d r (length m.last) (opened m)) ≡ with_item r b (last_rates m)
      rates_of d g o below l =
          (let long = length-map m.last (rate m.tree) in
          join_rates (opened m) (joined_at d r (length m.last) (opened m)).tree qs r (length m.last) d o below g
          ∙ ap (with_item r (length m.last)) (open_rates m qs h) ∙ with_item_last r b (last_rates m) (omega (arith, long, l)) (length m.last) (sym long))

  -- into pack b, or a new one
  pub put_at : r ≤ m.tree.scale → (b < length (last_rates m) → get_or (last_rates m) b 0 + r ≤ m.tree.scale) → IsPut m (put c r b m) rs c r b
  unfolding put
  put_at fits room =
      let P : Bool → Type 0 = λ old. IsPut m (put_in c r b m old) rs c r b in
      elim (cases_Bool (nat_lt b (length m.last))) [
        | inl e ↦ (let l = ltb-true b (length m.last) e in
            let long = length-map m.last (rate m.tree) in
            let at = get_or-map (rate m.tree) m.last b 0 0 l in
            let here = room (omega (arith, l, long)) in
            subst P (sym e) (put_old l (omega (arith, at, here))))
        | inr e ↦ subst P (sym e) (put_new (ltb-false b (length m.last) e) fits)
      ]

  -- into the first pack that has room
  pub put_first : r ≤ m.tree.scale → IsRoom m.tree.scale r (last_rates m) b → IsPut m (put c r b m) rs c r b
  put_first fits room = put_at fits room.fits

abbrev pub parts : List Item → ℕ
parts [] = 0
parts (x ∷ xs) = leaf_part x.kind x.rate + parts xs

abbrev pub IsLeafKind : Kind → Type 0
IsLeafKind (kind.Leaf leaf) = Unit {0}
IsLeafKind (kind.Pack level) = ⊥
IsLeafKind (kind.Dual q) = ⊥

abbrev pub item_entries : List Item → List Entry
item_entries [] = []
item_entries (x ∷ xs) = kind_entry x.kind x.rate ++ item_entries xs

-- what items that are packed leave
pub record IsPacked (m packed : Making) (xs : List Item) : Type 0 where
  pub making : IsMaking packed []
  pub filled : Filled packed.tree
  pub pairs : PairsExceed packed.tree.scale (last_rates packed)
  pub scale_same : packed.tree.scale ≡ m.tree.scale
  pub levels_same : packed.tree.levels ≡ m.tree.levels
  pub processors_same : packed.tree.processors ≡ m.tree.processors
  pub rates : last_rates packed ≡ packed_from m.tree.scale (map (λ x. x.rate) xs) (last_rates m)
  pub sum : leaf_sum packed.tree ≡ leaf_sum m.tree + parts xs
  pub leaves : entries packed.tree.nodes ≡ entries m.tree.nodes ++ item_entries xs

abbrev pub IsLeafItem : ℕ → Item → Type 0
IsLeafItem scale x = IsLeafKind x.kind × (0 < x.rate) × (x.rate ≤ scale)

pub serves_leaf : (leaf : Leaf) → Serves (kind.Leaf leaf) [] []
serves_leaf leaf = record { rest = λ p a. inr a; was = λ i l. absurd (omega arith); apart = λ i j l. absurd (omega arith) }

pub pairs_put : (m made : Making) (rs : List ℕ) (c : Kind) (r b : ℕ) → IsPut m made rs c r b → IsRoom m.tree.scale r (last_rates m) b →
    PairsExceed m.tree.scale (last_rates m) → PairsExceed made.tree.scale (last_rates made)
pairs_put m made rs c r b put room h =
    subst₂ (λ s xs. PairsExceed s xs) (sym put.scale_same) (sym put.rates) (pairs_with_item m.tree.scale r b (last_rates m) room h)

-- a leaf may come to level 0
pub leaf_next : (c : Kind) (r : ℕ) (t : Tree) → t.levels ≡ 1 → IsLeafKind c → IsNext t r c
leaf_next (kind.Leaf leaf) r t one ok = one
leaf_next (kind.Pack level) r t one ok = absurd ok
leaf_next (kind.Dual q) r t one ok = absurd ok

pub leaf_serves : (c : Kind) → IsLeafKind c → Serves c [] []
leaf_serves (kind.Leaf leaf) ok = serves_leaf leaf
leaf_serves (kind.Pack level) ok = absurd ok
leaf_serves (kind.Dual q) ok = absurd ok

-- the dual of the first pack that waits may come next
pub dual_next : (q : ℕ) (qs : List ℕ) (m : Making) (t : Tree) → IsMaking m (q ∷ qs) → m.tree.scale ≡ t.scale → rate m.tree q ≡ rate t q →
    IsNext m.tree (t.scale - rate t q) (kind.Dual (node_id q))
dual_next q qs m t h scale now =
    let w = h.waiting 0 (omega arith) in
    let less = w.3 in
    (w.0, w.1, w.2, w.3, omega (arith, less, now, scale))

pub dual_serves : (q : ℕ) (qs : List ℕ) → ((i j : ℕ) → i < length (q ∷ qs) → j < length (q ∷ qs) → get_or (q ∷ qs) i 0 ≡ get_or (q ∷ qs) j 0 → i ≡ j) →
    Serves (kind.Dual (node_id q)) (q ∷ qs) qs
dual_serves q qs apart = record {
  rest = among;
  was = λ i l. (suc i, omega arith, refl, (λ e. (let z = apart (suc i) 0 (omega arith) (omega arith) e in omega (arith, z))));
  apart = λ i j li lj e. (let z = apart (suc i) (suc j) (omega arith) (omega arith) e in omega (arith, z));
}
  where
    among : (p : ℕ) → Among p (q ∷ qs) → (p ≡ q) ⊎ Among p qs
    among p (zero, l, e) = inl (sym e)
    among p (suc i, l, e) = inr (i, omega arith, e)

pub pack_leaves : (xs : List Item) (m : Making) → IsMaking m [] → Filled m.tree → PairsExceed m.tree.scale (last_rates m) → m.tree.levels ≡ 1 →
    AllByRecursion (IsLeafItem m.tree.scale) xs → IsPacked m (pack_items xs m) xs
pack_leaves [] m h f pairs one all = record {
  making = h;
  filled = f;
  pairs = pairs;
  scale_same = refl;
  levels_same = refl;
  processors_same = refl;
  rates = refl;
  sum = omega arith;
  leaves = sym (append-nil (entries m.tree.nodes));
}
pack_leaves (x ∷ xs) m h f pairs one all =
    let b = first_with_room m.tree.scale x.rate (last_rates m) in
    let room = room_is m.tree.scale x.rate (last_rates m) in
    let put' : IsPut m (put x.kind x.rate b m) [] x.kind x.rate b = put_first m [] [] x.kind x.rate b h f all.0.1 (leaf_next x.kind x.rate m.tree one
    all.0.0) (leaf_serves x.kind all.0.0) all.0.2 room in
    let rest = pack_leaves xs (put x.kind x.rate b m) put'.making put'.filled (pairs_put m (put x.kind x.rate b m) [] x.kind x.rate b put' room pairs)
    (put'.levels_same ∙ one)
    (let P : ℕ → Type 0 = λ s. AllByRecursion (IsLeafItem s) xs in subst P (sym put'.scale_same) all.1) in
    record {
      making = rest.making;
      filled = rest.filled;
      pairs = rest.pairs;
      scale_same = rest.scale_same ∙ put'.scale_same;
      levels_same = rest.levels_same ∙ put'.levels_same;
      processors_same = rest.processors_same ∙ put'.processors_same;
      rates = rest.rates ∙ ap₂ (λ s ss. packed_from s (map (λ (y : Item). y.rate) xs) ss) put'.scale_same put'.rates;
      sum = (let a = rest.sum in let z = put'.sum in omega (arith, a, z));
      leaves = rest.leaves ∙ ap (λ ys. ys ++ item_entries xs) put'.leaves ∙ append_assoc (entries m.tree.nodes) (kind_entry x.kind x.rate) (item_entries xs);
    }

pub pack_duals : (qs : List ℕ) (t : Tree) (m : Making) → IsMaking m qs → Filled m.tree → PairsExceed m.tree.scale (last_rates m) → m.tree.scale ≡ t.scale →
    ((i : ℕ) → i < length qs → rate m.tree (get_or qs i 0) ≡ rate t (get_or qs i 0)) →
    IsPacked m (pack_items (dual_items t qs) m) (dual_items t qs)
pack_duals [] t m h f pairs scale same = record {
  making = h;
  filled = f;
  pairs = pairs;
  scale_same = refl;
  levels_same = refl;
  processors_same = refl;
  rates = refl;
  sum = omega arith;
  leaves = sym (append-nil (entries m.tree.nodes));
}
pack_duals (q ∷ qs) t m h f pairs scale same =
    let r = t.scale - rate t q in
    let b = first_with_room m.tree.scale r (last_rates m) in
    let room = room_is m.tree.scale r (last_rates m) in
    let less = (h.waiting 0 (omega arith)).3 in
    let now = same 0 (omega arith) in
    let put' : IsPut m (put (kind.Dual (node_id q)) r b m) qs (kind.Dual (node_id q)) r b = put_first m (q ∷ qs) qs (kind.Dual (node_id q)) r b h f
    (omega (arith, less, now, scale)) (dual_next q qs m t h scale now) (dual_serves q qs h.apart) (omega (arith, less, now, scale)) room in
    let rest = pack_duals qs t (put (kind.Dual (node_id q)) r b m) put'.making put'.filled (pairs_put m (put (kind.Dual (node_id q)) r b m) qs
    (kind.Dual (node_id q)) r b put' room pairs) (put'.scale_same ∙ scale)
    (λ i l. (let v = h.waiting (suc i) (omega arith) in put'.kept (get_or qs i 0) v.0 v.1 ∙ same (suc i) (omega arith))) in
    record {
      making = rest.making;
      filled = rest.filled;
      pairs = rest.pairs;
      scale_same = rest.scale_same ∙ put'.scale_same;
      levels_same = rest.levels_same ∙ put'.levels_same;
      processors_same = rest.processors_same ∙ put'.processors_same;
      rates = rest.rates ∙ ap₂ (λ s ss. packed_from s (map (λ (y : Item). y.rate) (dual_items t qs)) ss) put'.scale_same put'.rates;
      sum = (let a = rest.sum in let z = put'.sum in omega (arith, a, z));
      leaves = rest.leaves ∙ ap (λ ys. ys ++ item_entries (dual_items t qs)) (put'.leaves ∙ append-nil (entries m.tree.nodes));
    }
