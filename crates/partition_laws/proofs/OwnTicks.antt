-- Where every pack of level 0 is a root, each of them is a part of the plan by itself, so its members run where their likes do.
use Rattle.std.proofs.Common.{Bool, ap, arith, false, length, subst, sym, true, ℕ, ◌*◌, ◌/◌, ◌<◌, ◌∙◌, ◌≡◌}
use Rattle.std.specs.Prelude.{option_map}
use Rattle.run_tree.specs.Boundaries.{set_boundary}
use Rattle.run_tree.specs.Plans.{IsPlan, PlanContents}
use Rattle.run_tree.specs.Runs.{runs}
use Rattle.run_tree.specs.Tree.{IsMember, IsPack, dual, is_pack, kind_at, leaf, member, members, place, rate}
use Rattle.run_tree.proofs.KindLemmas.{not_pack_leaf}
use Rattle.partition_laws.specs.Partitions.{AreAlike, IsOwnPlan, IsPartitioned, first_pack, member_count, member_of}
use Rattle.partition_laws.specs.Parts.{IsPartPlan}
use Rattle.partition_laws.proofs.FlatTrees.{first_of, is_first, member_from, root_pack}
use Rattle.partition_laws.proofs.PartTicks.{runs_there}
pub use Rattle.partition_laws.proofs.PartNodes.{plan_leaves}

-- of a node of the own plan, the one whose like it is: the pack, or the member of it at the same place
abbrev pub own_onto : PlanContents → PlanContents → ℕ → ℕ → ℕ
own_onto whole own i x = elim (is_pack (kind_at own.tree x)) [ true ↦ first_pack whole.tree i | false ↦ member_of whole.tree i (place own.tree x) ]

module _ (whole own : PlanContents) (i f : ℕ) (w : IsPlan whole) (o : IsPlan own) (roots : IsPartitioned whole.tree) (is : IsOwnPlan whole own i f) where
  -- the one pack of the own plan
  pub own_is_pack : IsPack own.tree (first_pack own.tree 0)
  own_is_pack = is_first own.tree o.tree.tree is.root 0 (let one = is.one in omega (arith, one))

  -- has members
  pub own_member : (k : ℕ) → k < member_count own.tree 0 → IsMember own.tree (member_of own.tree 0 k)
  own_member k l = (o.tree.tree.members_are (first_pack own.tree 0) k own_is_pack l).0

  -- there is no other pack
  pub own_pack_is : (p : ℕ) → IsPack own.tree p → first_pack own.tree 0 ≡ p
  own_pack_is p j =
      let (a, l, same) = first_of own.tree o.tree.tree is.root p j in
      let one = is.one in
      let first : 0 ≡ a = omega (arith, l, one) in
      ap (first_pack own.tree) first ∙ same

  -- so each member is one of that
  pub own_member_is : (x : ℕ) → IsMember own.tree x → (k : ℕ) × (k < member_count own.tree 0) × (member_of own.tree 0 k ≡ x)
  own_member_is x m =
      let (a, k, l, lk, same) = member_from own.tree o.tree.tree is.root x m in
      let one = is.one in
      let first : a ≡ 0 = omega (arith, l, one) in
      let P : ℕ → Type 0 = λ b. (k < member_count own.tree b) × (member_of own.tree b k ≡ x) in
      let at = subst P first ((lk, same)) in
      (k, at.0, at.1)

  -- a pack is the like of the pack
  pub onto_pack : (p : ℕ) → IsPack own.tree p → own_onto whole own i p ≡ first_pack whole.tree i
  onto_pack p j = ap (λ (b : Bool). elim b as (λ y. ℕ) [ true ↦ first_pack whole.tree i | false ↦ member_of whole.tree i (place own.tree p) ]) j.1

  -- and member k of the member k of it
  pub onto_member : (k : ℕ) → k < member_count own.tree 0 → own_onto whole own i (member_of own.tree 0 k) ≡ member_of whole.tree i k
  onto_member k l =
      let (m, _, at) = o.tree.tree.members_are (first_pack own.tree 0) k own_is_pack l in
      ap (λ (b : Bool). elim b as (λ y. ℕ) [ true ↦ first_pack whole.tree i | false ↦ member_of whole.tree i (place own.tree (member_of own.tree 0 k)) ]) m.1
      ∙ ap (member_of whole.tree i) at

  -- what holds of each member of the one pack and the one whose like it is holds of each member
  pub by_place : (P : ℕ → ℕ → Type 0) → ((k : ℕ) → k < member_count own.tree 0 → P (member_of whole.tree i k) (member_of own.tree 0 k)) →
      (x : ℕ) → IsMember own.tree x → P (own_onto whole own i x) x
  by_place P each x m =
      let (k, l, same) = own_member_is x m in
      let Q : ℕ → Type 0 = λ y. P (own_onto whole own i y) y in
      let R : ℕ → Type 0 = λ y. P y (member_of own.tree 0 k) in
      subst Q same (subst R (sym (onto_member k l)) (each k l))

  -- the pack is a part of the plan
  pub is_part : IsPartPlan whole own (own_onto whole own i) f
  is_part = record {
    some = is.some;
    scale = is.scale;
    horizon = is.horizon;
    packs = λ p j. subst (IsPack whole.tree) (sym (onto_pack p j)) (is_first whole.tree w.tree.tree roots i is.pack);
    same = λ p j. ap (λ q. length (members whole.tree q)) (onto_pack p j) ∙ sym is.same ∙ ap (λ q. length (members own.tree q)) (own_pack_is p j);
    members_are = λ p k j l. (
        let P : ℕ → Type 0 = λ q. k < length (members own.tree q) → member_of whole.tree i k ≡ own_onto whole own i (member own.tree q k) in
        ap (λ q. member whole.tree q k) (onto_pack p j) ∙ subst P (own_pack_is p j) (λ lk. sym (onto_member k lk)) l);
    duals_are = λ p j. (
        let root = root_pack whole.tree w.tree.tree roots (first_pack whole.tree i) (is_first whole.tree w.tree.tree roots i is.pack) in
        ap (dual whole.tree) (onto_pack p j) ∙ root ∙ sym (ap (option_map (own_onto whole own i)) (root_pack own.tree o.tree.tree is.root p j)));
    alike = λ x leaf_x. by_place (λ y z. AreAlike whole.set.tasks own.set.tasks (leaf whole.tree y) (leaf own.tree z)) is.alike x (
      leaf_x.0,
      not_pack_leaf (kind_at own.tree x) leaf_x.1,
    );
    rates = λ x m. by_place (λ y z. rate whole.tree y ≡ f * rate own.tree z) is.rates x m;
  }

  -- so a member runs where its like does
  pub runs_own : (n k : ℕ) → k < member_count own.tree 0 →
      runs (set_boundary whole.set.tasks) whole.tree (member_of whole.tree i k) n ≡ runs (set_boundary own.set.tasks) own.tree (member_of own.tree 0 k) (n / f)
  runs_own n k l =
      ap (λ x. runs (set_boundary whole.set.tasks) whole.tree x n) (sym (onto_member k l))
      ∙ runs_there whole own (own_onto whole own i) f w o is_part n (member_of own.tree 0 k) (own_member k l)
