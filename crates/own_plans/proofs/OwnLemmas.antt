-- The own plan that is found for a pack, and one after the other.
use Rattle.std.proofs.Common.{◌≡◌, ◌∙◌, ℕ, suc, zero, ◌*◌, ◌<◌, ◌≤◌, List, [], ◌∷◌, ◌++◌, length, ap, arith, get_or, slice_get, Some, inl, inr, subst, sym}
use Rattle.sched_base.specs.declared.rows.Leaf.{Leaf}
use Rattle.sched_base.specs.declared.rows.Leaf.TheVariants.{Empty}
use Rattle.sched_base.proofs.TableLemmas.{slice_get-push}
use Rattle.run_tree.specs.Plans.{PlanContents}
use Rattle.run_tree.specs.Schedule.{packs_at}
use Rattle.run_tree.specs.Tree.{Tree, leaf, member, members}
use Rattle.partition_laws.specs.Partitions.{IsOwnPlan, IsPartitioned, first_pack}
use Rattle.own_plans.specs.OwnPlans.{AreMembersAlike, IsOwnPlanOf}
use Rattle.own_plans.specs.declared.owns.OwnPlan.{OwnPlan}

-- these are the own plans of packs in turn
abbrev pub AreInTurn : PlanContents → List OwnPlan → Type 0
AreInTurn whole owns = (k : ℕ) (own : OwnPlan) → slice_get owns k ≡ Some own → IsOwnPlanOf whole k own

-- and so they are with that of the next pack
pub one_more : (whole : PlanContents) (owns : List OwnPlan) (next : OwnPlan) → AreInTurn whole owns → IsOwnPlanOf whole (length owns) next →
    AreInTurn whole (owns ++ next ∷ [])
one_more whole owns next are is k own at = elim (slice_get-push owns next own k at) [
  | inl before ↦ are k own before.1
  | inr last ↦ subst (λ n. IsOwnPlanOf whole n own) (sym last.0) (subst (IsOwnPlanOf whole (length owns)) last.1 is)
]

-- the leaves that stand for the members of pack q of one tree are those of the members of pack p of another in turn
abbrev pub ShowMembers : List Leaf → Tree → ℕ → Tree → ℕ → Type 0
ShowMembers leaves s p t q = (k : ℕ) → k < length (members t q) → get_or leaves (member t q k) Empty ≡ leaf s (member s p k)

-- a plan that is checked against pack p, and whose leaves show its members, is the pack's own
pub own_found : (whole : PlanContents) (i : ℕ) (found : OwnPlan) (s t : Tree) (p q : ℕ) → IsOwnPlan whole found.plan i found.factor → s ≡ whole.tree →
    t ≡ found.plan.tree → p ≡ first_pack whole.tree i → q ≡ first_pack found.plan.tree 0 →
    length found.leaves.items ≡ length t.nodes → ShowMembers found.leaves.items s p t q → IsOwnPlanOf whole i found
own_found whole i found s t p q own ss st sp sq long shown =
    let items = found.leaves.items in
    record {
      own = own;
      long = subst (λ (u : Tree). length items ≡ length u.nodes) st long;
      leaves =
          subst (λ (u : Tree). ShowMembers items u (first_pack whole.tree i) found.plan.tree (first_pack found.plan.tree 0)) ss
          (subst (λ (u : Tree). ShowMembers items s (first_pack whole.tree i) u (first_pack found.plan.tree 0)) st
          (subst (λ n. ShowMembers items s (first_pack whole.tree i) t n) sq
          (subst (λ n. ShowMembers items s n t q) sp shown)));
    }

-- one is some
pub some_one : (n : ℕ) → n ≡ 1 → 0 < n
some_one n e = omega arith

-- a scale is no multiple by 0
some_factor : (scale factor ticks : ℕ) → 0 < scale → scale ≡ factor * ticks → 1 ≤ factor
some_factor scale zero ticks pos e = absurd (omega (arith, pos, e))
some_factor scale (suc factor) ticks pos e = omega arith

-- packs whose members are alike, of trees that are those of the plans
pub own_is : (whole own : PlanContents) (i factor : ℕ) (s t : Tree) (p q : ℕ) → 0 < whole.tree.scale → i < length (packs_at whole.tree 0) →
    whole.tree.scale ≡ factor * own.tree.scale → whole.set.horizon ≡ own.set.horizon → s ≡ whole.tree → t ≡ own.tree →
    p ≡ first_pack s i → q ≡ first_pack t 0 → length (packs_at t 0) ≡ 1 → IsPartitioned t → AreMembersAlike whole own p q factor →
    IsOwnPlan whole own i factor
own_is whole own i factor s t p q scaled pack scale horizon ss st sp sq one root alike =
    let members_alike : AreMembersAlike whole own (first_pack whole.tree i) (first_pack own.tree 0) factor =
    subst (λ n. AreMembersAlike whole own n (first_pack own.tree 0) factor) (sp ∙ ap (λ (u : Tree). first_pack u i) ss)
    (subst (λ n. AreMembersAlike whole own p n factor) (sq ∙ ap (λ (u : Tree). first_pack u 0) st) alike) in
    record {
      some = some_factor whole.tree.scale factor own.tree.scale scaled scale;
      scale = scale;
      horizon = horizon;
      pack = pack;
      one = subst (λ (u : Tree). length (packs_at u 0) ≡ 1) st one;
      root = subst IsPartitioned st root;
      same = members_alike.same;
      rates = members_alike.rates;
      alike = members_alike.alike;
    }

-- the packs of both have as many members
pub same_members : (whole own : PlanContents) (i factor : ℕ) (s t : Tree) (p q : ℕ) → IsOwnPlan whole own i factor → s ≡ whole.tree → t ≡ own.tree →
    p ≡ first_pack whole.tree i → q ≡ first_pack own.tree 0 → length (members t q) ≡ length (members s p)
same_members whole own i factor s t p q is ss st sp sq =
    ap (λ (u : Tree). length (members u q)) st ∙ ap (λ n. length (members own.tree n)) sq ∙ is.same
    ∙ ap (λ n. length (members whole.tree n)) (sym sp) ∙ ap (λ (u : Tree). length (members u p)) (sym ss)
