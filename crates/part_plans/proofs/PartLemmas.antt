-- The plan that is found for a part, and one after the other.
use Rattle.std.proofs.Common.{◌≡◌, ◌∙◌, ℕ, ◌*◌, ◌<◌, ◌≤◌}
use Rattle.std.proofs.Common.{List, [], ◌∷◌, ◌++◌, length, get_or, arith, inl, inr, subst, suc, zero}
use Rattle.sched_base.specs.declared.rows.Leaf.{Leaf}
use Rattle.sched_base.specs.declared.rows.Leaf.TheVariants.{Empty}
use Rattle.sched_base.proofs.TableLemmas.{slice_get-push}
use Rattle.run_tree.specs.Plans.{IsPlan, PlanContents}
use Rattle.run_tree.specs.Schedule.{packs_at}
use Rattle.run_tree.specs.Tree.{Tree, leaf}
use Rattle.partition_laws.specs.Parts.{IsPartPlan}
use Rattle.part_plans.specs.Likeness.{ArePacksLike, IsNodeLike}
use Rattle.part_plans.specs.PartPlans.{ArePartPlans, IsPartPlanOf}
use Rattle.part_plans.specs.declared.parts.PartPlan.{PartPlan}

-- a scale is no multiple by 0
some_factor : (scale factor ticks : ℕ) → 0 < scale → scale ≡ factor * ticks → 1 ≤ factor
some_factor scale zero ticks pos e = absurd (omega (arith, pos, e))
some_factor scale (suc factor) ticks pos e = omega arith

-- a plan whose nodes are all like those that are noted is that of their part
pub part_from : (whole own : PlanContents) (onto : List ℕ) (factor : ℕ) → IsPlan whole → whole.tree.scale ≡ factor * own.tree.scale →
    whole.set.horizon ≡ own.set.horizon → ((n : ℕ) → n < length own.tree.nodes → IsNodeLike whole own onto factor n) →
    IsPartPlan whole own (λ x. get_or onto x 0) factor
part_from whole own onto factor h scale horizon like = record {
  some = some_factor whole.tree.scale factor own.tree.scale h.tree.tree.scaled scale;
  scale = scale;
  horizon = horizon;
  packs = λ p is. ((like p is.0).pack is).pack;
  same = λ p is. ((like p is.0).pack is).members_like.same;
  members_are = λ p k is l. ((like p is.0).pack is).members_like.each k l;
  duals_are = λ p is. ((like p is.0).pack is).dual_like;
  alike = λ x is. (like x is.0).alike is;
  rates = λ x is. (like x is.0).rates is;
}

-- leaves that stand for nodes are what the nodes that are noted show
abbrev pub ShowLikes : Tree → List ℕ → List Leaf → Type 0
ShowLikes whole onto leaves =
    (length leaves ≡ length onto) × ((x : ℕ) → x < length onto → get_or leaves x Empty ≡ leaf whole (get_or onto x 0))

-- these are packs of level 0, by their numbers
abbrev pub AreFirst : Tree → List ℕ → Type 0
AreFirst whole packs = (k : ℕ) → k < length packs → get_or packs k 0 < length (packs_at whole 0)

-- these are nodes, by their numbers
abbrev pub AreNodes : Tree → List ℕ → Type 0
AreNodes whole onto = (x : ℕ) → x < length onto → get_or onto x 0 < length whole.nodes

-- the same of trees and lists that are the same
pub packs_moved : (s t whole own : Tree) (o q onto packs : List ℕ) → s ≡ whole → t ≡ own → o ≡ onto → q ≡ packs → ArePacksLike s t o q →
    ArePacksLike whole own onto packs
packs_moved s t whole own o q onto packs es et eo eq like =
    subst (λ (x : Tree). ArePacksLike x own onto packs) es
    (subst (λ (x : Tree). ArePacksLike s x onto packs) et
    (subst (λ (xs : List ℕ). ArePacksLike s t xs packs) eo
    (subst (λ (xs : List ℕ). ArePacksLike s t o xs) eq like)))

pub shown_moved : (s whole : Tree) (o onto : List ℕ) (leaves : List Leaf) → s ≡ whole → o ≡ onto → ShowLikes s o leaves →
    ShowLikes whole onto leaves
shown_moved s whole o onto leaves es eo shown =
    subst (λ (x : Tree). ShowLikes x onto leaves) es (subst (λ (xs : List ℕ). ShowLikes s xs leaves) eo shown)

-- a plan of a part, with what is found beside it
pub part_found : (whole : PlanContents) (found : PartPlan) → IsPartPlan whole found.plan (λ x. get_or found.onto.items x 0) found.factor →
    length found.onto.items ≡ length found.plan.tree.nodes → ShowLikes whole.tree found.onto.items found.leaves.items →
    ArePacksLike whole.tree found.plan.tree found.onto.items found.packs.items → AreFirst whole.tree found.packs.items → IsPartPlanOf whole found
part_found whole found part long shown like first = record {
  part = part;
  onto_long = long;
  leaves_long = shown.0 ∙ long;
  leaves = λ x is. shown.1 x (let l = is.0 in omega (arith, l, long));
  packs_long = like.long;
  packs_within = λ k l. first k (let many = like.long in omega (arith, l, many));
  packs = like.each;
}

-- one plan more
pub one_more : (whole : PlanContents) (parts : List PartPlan) (next : PartPlan) → ArePartPlans whole parts → IsPartPlanOf whole next →
    ArePartPlans whole (parts ++ next ∷ [])
one_more whole parts next are is c p at = elim (slice_get-push parts next p c at) [
  | inl before ↦ are c p before.1
  | inr last ↦ subst (IsPartPlanOf whole) last.1 is
]
