-- The events of a plan whose packs of level 0 are all roots are those of the packs' own plans.
use Rattle.std.proofs.Common.{arith, false, length, true, ℕ, ◌%◌, ◌/◌, ◌<◌, ◌∙◌, ◌≡◌}
use Rattle.run_tree.specs.Boundaries.{set_boundary}
use Rattle.run_tree.specs.Plans.{IsPlan, PlanContents}
use Rattle.run_tree.specs.Rounds.{is_event}
use Rattle.run_tree.specs.Schedule.{packs_at}
use Rattle.run_tree.specs.Tree.{IsMember}
use Rattle.partition_laws.specs.Partitions.{AreOwnPlans, IsOwnPlan, IsPartitioned, member_count, member_of}
use Rattle.partition_laws.specs.Parts.{IsPartPlan}
use Rattle.partition_laws.proofs.FlatTrees.{member_from}
use Rattle.partition_laws.proofs.OwnTicks.{is_part, onto_member, own_member, own_onto}
use Rattle.partition_laws.proofs.PartEvents.{HasLike}
use Rattle.partition_laws.proofs.PartEvents as parts

-- each event of the own plan is one of the whole plan
pub event_there : (whole own : PlanContents) (i f : ℕ) (w : IsPlan whole) (o : IsPlan own) (roots : IsPartitioned whole.tree) (is : IsOwnPlan whole own i f) →
    (n : ℕ) → 0 < n → n % f ≡ 0 → is_event (set_boundary own.set.tasks) own.tree (n / f) ≡ true → is_event (set_boundary whole.set.tasks) whole.tree n ≡ true
event_there whole own i f w o roots is = parts.event_there whole own (own_onto whole own i) f w o (is_part whole own i f w o roots is)

module _ (whole : PlanContents) (own : ℕ → PlanContents) (factor : ℕ → ℕ) (w : IsPlan whole) (o : (i : ℕ) → IsPlan (own i)) (roots : IsPartitioned
    whole.tree) (are : AreOwnPlans whole own factor) where
  -- the packs are parts of the plan
  pub are_parts : (i : ℕ) → i < length (packs_at whole.tree 0) → IsPartPlan whole (own i) (own_onto whole (own i) i) (factor i)
  are_parts i l = is_part whole (own i) i (factor i) w (o i) roots (are i l)

  -- each member has a like in the own plan of its pack
  pub has_own : (x : ℕ) → IsMember whole.tree x → HasLike whole own (λ i. own_onto whole (own i) i) factor (length (packs_at whole.tree 0)) w (λ i l. o i)
      are_parts x
  has_own x m =
      let (i, k, li, lk, same) = member_from whole.tree w.tree.tree roots x m in
      let l : k < member_count (own i).tree 0 = (let s = (are i li).same in omega (arith, s, lk)) in (
        i,
        member_of (own i).tree 0 k,
        li,
        own_member whole (own i) i (factor i) w (o i) roots (are i li) k l,
        onto_member whole (own i) i (factor i) w (o i)
            roots (are i li) k l ∙ same,
      )

  -- a tick is an event of the whole plan where it is one of the own plan of some pack
  pub event_of_some : (n i : ℕ) → 0 < n → i < length (packs_at whole.tree 0) → n % factor i ≡ 0 →
      is_event (set_boundary (own i).set.tasks) (own i).tree (n / factor i) ≡ true → is_event (set_boundary whole.set.tasks) whole.tree n ≡ true
  event_of_some n i some l z e = event_there whole (own i) i (factor i) w (o i) roots (are i l) n some z e

  -- and else it is none
  pub event_of_none : (n : ℕ) → 0 < n → ((i : ℕ) → i < length (packs_at whole.tree 0) → n % factor i ≡ 0 →
      is_event (set_boundary (own i).set.tasks) (own i).tree (n / factor i) ≡ false) → is_event (set_boundary whole.set.tasks) whole.tree n ≡ false
  event_of_none n some none =
      parts.event_of_none whole own (λ i. own_onto whole (own i) i) factor (length (packs_at whole.tree 0)) w (λ i l. o i) are_parts has_own n some none
