-- One leaf more of level 0, as the members of a pack come in their order.
use Rattle.std.proofs.Common.{◌≡◌, ℕ, suc, ◌+◌, ◌<◌, List, Option, map, length, get_or, take, refl, ap, ap₂, arith, sym, subst, ◌∙◌}
use Rattle.std.proofs.lemmas.List.{get_or-map, get_or_default, length-append, length-map, take_all}
use Rattle.std.proofs.lemmas.List.Concat.{get_or-flat_map}
use Rattle.std.proofs.lemmas.List.Folds.{length-flat_map-take}
use Rattle.sched_base.specs.declared.rows.Leaf.{Leaf}
use Rattle.sched_base.specs.Sets.{SetContents}
use Rattle.run_tree.specs.declared.kinds.Kind.TheVariants as kind
use Rattle.run_tree.specs.Making.{Making, Item, started, put, put_items, lifted}
use Rattle.run_tree.specs.Maker.{packs_named}
use Rattle.tree_check.specs.declared.written.Member.{Member}
use Rattle.tree_check.specs.declared.written.Member.TheVariants.{Number}
use Rattle.tree_check.specs.Written.{Pack, Written, IsWritten, level_at, pack_at, no_pack}
use Rattle.tree_check.specs.Faults.{before, members_of, member_rate, named, leaf_number, to_place, HasNoFault}
use Rattle.tree_check.specs.TextTree.{leaf_named, leaf_item, homes_from, number_of, text_making}
use Rattle.tree_check.specs.FirstSteps.{first_making, MayCome}
use Rattle.tree_check.proofs.FirstStepsLemmas.{may_come, put_items_more, home_at, items, homes, items_long, homes_long, rates_long}
use Rattle.tree_check.proofs.Told.{item_rates}
use Rattle.tree_check.proofs.LevelLists.{length-homes}
use Rattle.tree_check.specs.Scans.{rate_in}
use Rattle.tree_check.proofs.MoreHomes.{members_more}
use Rattle.tree_check.proofs.PackScans.{rate_same}

-- leaf x of this rate may come to pack i, and then one member more is in
pub record IsLeafStep (w : Written) (i j : ℕ) (x : Member) : Type 0 where
  pub asks : MayCome (first_making w (before (level_at w 0) i + j)) (member_rate w 0 x) i
  pub next : put (kind.Leaf (leaf_named (named w 0 x) x)) (member_rate w 0 x) i (first_making w (before (level_at w 0) i + j)) ≡ first_making w
      (before (level_at w 0) i + (j + 1))

module _ (w : Written) (iw : IsWritten w) (nf : HasNoFault w) (i j : ℕ) (li : i < length (level_at w 0))
    (lj : j < length (pack_at (level_at w 0) i).members) where
  abbrev pub packs : List Pack
  packs = level_at w 0

  abbrev pub k : ℕ
  k = before packs i + j

  abbrev pub x : Member
  x = get_or (pack_at packs i).members j (Number 0)

  abbrev pub no_item : Item
  no_item = record { kind = kind.Pack 0; rate = 0 }

  pub low : k < length (members_of packs)
  low = let room = length-flat_map-take (λ (q : Pack). q.members) packs i no_pack li in omega (arith, room, lj)

  pub member_is : get_or (members_of packs) k (Number 0) ≡ x
  member_is = get_or-flat_map (λ (q : Pack). q.members) packs i j no_pack (Number 0) li lj

  pub item_is : get_or (items w iw nf) k no_item ≡ leaf_item w x
  item_is = get_or-map (leaf_item w) (members_of packs) k (Number 0) no_item low ∙ ap (leaf_item w) member_is

  pub rate_is : get_or (item_rates (items w iw nf)) k 0 ≡ member_rate w 0 x
  rate_is = (let n = items_long w iw nf in get_or-map (λ (y : Item). y.rate) (items w iw nf) k no_item 0 (omega (arith, n, low)))
      ∙ ap (λ (y : Item). y.rate) item_is

  pub home_is : get_or (homes w iw nf) k 0 ≡ i
  home_is = home_at 0 packs i j li lj ∙ (let e : 0 + i ≡ i = omega arith in e)

  pub leaf_step : IsLeafStep w i j x
  unfolding first_making
  leaf_step = record {
    asks = (let P : ℕ → ℕ → Type 0 = λ r b. MayCome (first_making w k) r b in subst (λ (b : ℕ). P (member_rate w 0 x) b) home_is
        (subst (λ (r : ℕ). P r (get_or (homes w iw nf) k 0)) rate_is (may_come w iw nf k low)));
    next = (
        let n = items_long w iw nf in
        let h = homes_long w iw nf in
        let r = rates_long w iw nf in
        let more = put_items_more k (items w iw nf) (homes w iw nf) _ no_item (omega (arith, n, low)) (omega (arith, n, h, r)) in
        let e : suc k ≡ before packs i + (j + 1) = omega arith in
        sym (ap (first_making w) (sym e) ∙ more
        ∙ ap₂ (λ (y : Item) b. put y.kind y.rate b (first_making w k)) item_is home_is));
  }

-- once all members of a pack are in, the next pack's come
pub pack_done : (packs : List Pack) (i : ℕ) → i < length packs → before packs i + length (pack_at packs i).members ≡ before packs (suc i)
pack_done packs i li =
    let a = ap length (members_more i packs li) in
    let b = length-append (members_of (take i packs)) (pack_at packs i).members in
    let e : suc i ≡ i + 1 = omega arith in
    let f = ap (before packs) e in
    omega (arith, a, b, f)

-- what the code has in hand as member j of pack i comes
pub record IsAtLeaf (w : Written) (i j : ℕ) (ms : List Member) (rs : List ℕ) (m : Making) (x : Member) (y : Leaf) (r : ℕ) : Type 0 where
  pub pack : i < length (level_at w 0)
  pub members : ms ≡ (pack_at (level_at w 0) i).members
  pub place : j < length ms
  pub member : x ≡ get_or ms j x
  pub rates : rs ≡ to_place w 0
  pub maker : m ≡ first_making w (before (level_at w 0) i + j)
  pub leaf : y ≡ leaf_named (leaf_number w.set.tasks x) x
  pub rate : r ≡ rate_in rs (named w 0 x)

-- the same, from what the code looks up
pub at_leaf : (w : Written) (i j : ℕ) (ms : List Member) (rs : List ℕ) (m : Making) (x : Member) (y : Leaf) (r : ℕ) (s : SetContents) (name : Option ℕ) →
    i < length (level_at w 0)
    → ms ≡ (pack_at (level_at w 0) i).members → j < length ms → x ≡ get_or ms j x → rs ≡ to_place w 0 → m ≡ first_making w (before (level_at w 0) i + j)
    → s ≡ w.set → y ≡ leaf_named (leaf_number s.tasks x) x → name ≡ named w 0 x → r ≡ rate_in rs name → IsAtLeaf w i j ms rs m x y r
at_leaf w i j ms rs m x y r s name pack members place member rates maker set_is leaf name_is rate = record {
  pack = pack;
  members = members;
  place = place;
  member = member;
  rates = rates;
  maker = maker;
  leaf = leaf ∙ ap (λ (z : SetContents). leaf_named (leaf_number z.tasks x) x) set_is;
  rate = rate ∙ ap (rate_in rs) name_is;
}

module _ (w : Written) (iw : IsWritten w) (nf : HasNoFault w) (i j : ℕ) (ms : List Member) (rates : List ℕ) (maker : Making) (x : Member) (leaf : Leaf)
    (rate : ℕ) (a : IsAtLeaf w i j ms rates maker x leaf rate) where
  pub there : j < length (pack_at (level_at w 0) i).members
  there = let e = ap length a.members in let l = a.place in omega (arith, e, l)

  pub x_is : get_or (pack_at (level_at w 0) i).members j (Number 0) ≡ x
  x_is = sym (a.member ∙ get_or_default ms j x (Number 0) a.place ∙ ap (λ xs. get_or xs j (Number 0)) a.members)

  pub at_step : IsLeafStep w i j x
  at_step = subst (IsLeafStep w i j) x_is (leaf_step w iw nf i j a.pack there)

  pub r_is : member_rate w 0 x ≡ rate
  r_is = sym (a.rate ∙ ap (λ rs. rate_in rs (named w 0 x)) a.rates ∙ sym (rate_same w 0 (named w 0 x)))

  pub leaf_asks : MayCome maker rate i
  leaf_asks =
      let P : Making → ℕ → Type 0 = λ m r. MayCome m r i in
      subst (λ (m : Making). P m rate) (sym a.maker) (subst (λ (r : ℕ). P (first_making w (before (level_at w 0) i + j)) r) r_is at_step.asks)

  pub leaf_next : put (kind.Leaf leaf) rate i maker ≡ first_making w (before (level_at w 0) i + (j + 1))
  leaf_next =
      ap (λ y. put (kind.Leaf y) rate i maker) a.leaf
      ∙ ap (λ m. put (kind.Leaf (leaf_named (leaf_number w.set.tasks x) x)) rate i m) a.maker
      ∙ ap (λ r. put (kind.Leaf (leaf_named (leaf_number w.set.tasks x) x)) r i (first_making w (before (level_at w 0) i + j))) (sym r_is)
      ∙ at_step.next

-- with all members in, level 0 is whole
pub first_whole : (w : Written) → first_making w (before (level_at w 0) (length (level_at w 0))) ≡ text_making w 0
unfolding first_making text_making
first_whole w =
    let packs = level_at w 0 in
    let all = ap (λ ps. length (members_of ps)) (take_all (length packs) packs (omega arith)) in
    let n = length-map (members_of packs) (leaf_item w) in
    let h = length-homes 0 packs in
    ap₂ (λ (xs : List Item) hs. put_items xs hs (started w.set.processors w.scale))
    (take_all (before packs (length packs)) (map (leaf_item w) (members_of packs)) (omega (arith, all, n)))
    (take_all (before packs (length packs)) (homes_from 0 packs) (omega (arith, all, h)))

pub first_start : (w : Written) → first_making w 0 ≡ started w.set.processors w.scale
unfolding first_making
first_start w = go (map (leaf_item w) (members_of (level_at w 0)))
  where
    go : (xs : List Item) → put_items (take 0 xs) (take 0 (homes_from 0 (level_at w 0))) (started w.set.processors w.scale) ≡ started w.set.processors w.scale
    go xs = refl

-- one level more
pub text_more : (w : Written) (l : ℕ) → text_making w (suc l) ≡ lifted (packs_named (text_making w l) (map number_of (members_of (level_at w (suc l)))))
    (homes_from 0 (level_at w (suc l))) (text_making w l)
unfolding text_making
text_more w l = refl
