use Rattle.std.proofs.Common.{◌≡◌, ◌∙◌, ◌<◌, Option, None, Some, ap, length, refl, subst, sym}
use Rattle.sched_base.specs.declared.rows.Leaf.{Leaf}
use Rattle.run_tree.specs.Tree.{Tree}
use Rattle.run_tree.specs.Schedule.{packs_at}
use Rattle.event_core.specs.Cores.{places_of}
use Rattle.event_core.proofs.FirstLevel.{some_level}
use Rattle.part_rounds.proofs.PlacedLemmas.{no_leaves, placed_first}
use Rattle.part_rounds.proofs.placed.none_placed.Goals as goal

-- what holds of no Some holds of None alone
only_none : (P : Option Leaf → Type 0) → ((x : Leaf) → P (Some x) → ⊥) → (o : Option Leaf) → P o → o ≡ None
only_none P none None h = refl
only_none P none (Some x) h = absurd (none x h)

pub packs-packs-requires : goal.packs-packs-requires
packs-packs-requires c = let h = c.know_lawful.ensures.lawful in subst (λ (t : Tree). 0 < t.levels) (sym c.tree.ensures.value)
    (some_level c.args.plan.now.tree h.tree.tree h.sized.some_processors)

pub returns : goal.returns
returns c =
    let p = c.args.plan.now in
    let packs = c.packs-packs.ensures ∙ ap (λ t. length (packs_at t 0)) c.tree.ensures.value in
    let core = c.in_ok-core.ensures in
    placed_first p _ c.requires.on_time
    (c.in_ok-copy.ensures ∙ c.places.ensures ∙ core.1.at.placed ∙ ap (places_of p) core.0)
    (c.in_ok-new.ensures.room ∙ packs)
    (c.in_ok-vec.ensures.items_if_clones_equal (only_none _ (λ x same. same)) ∙ ap no_leaves packs)
