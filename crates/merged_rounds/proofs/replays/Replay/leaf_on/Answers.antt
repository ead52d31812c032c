use Rattle.std.proofs.Common.{◌∙◌, ℕ, List, Option, None, ap, arith, get_or, length, sym}
use Rattle.sched_base.specs.declared.rows.Leaf.{Leaf}
use Rattle.sched_base.specs.Places.{Placing}
use Rattle.run_tree.specs.Boundaries.{set_boundary}
use Rattle.run_tree.proofs.ScheduleLemmas.{length-places}
use Rattle.event_core.proofs.RowsGone.{pack_within}
use Rattle.merged_rounds.proofs.ReplayLemmas.{onto_end}
use Rattle.merged_rounds.proofs.ReplaySteps.{shown_by}
use Rattle.merged_rounds.proofs.replays.Replay.leaf_on.Goals as goal

pub pack_on-requires : goal.pack_on-requires
pack_on-requires c =
    let p = c.args.plan.now in
    let onto = ap (λ (w : Placing). length w.onto) c.requires.belongs.places ∙ length-places (set_boundary p.set.tasks) p.tree c.args.end in
    let l = c.requires.processor in
    omega (arith, onto, l)

pub leaf_of-requires : goal.leaf_of-requires
leaf_of-requires c = λ k at.
    let p = c.args.plan.now in
    let b = c.requires.belongs in
    let onto = ap (λ (w : Placing). w.onto) b.places ∙ onto_end p c.know_lawful.ensures.lawful c.args.start c.args.end c.requires.round in
    let w = pack_within p c.know_lawful.ensures.lawful c.args.start c.args.q k c.requires.processor (ap (λ (os : List (Option ℕ)). get_or os c.args.q None)
    (sym onto) ∙ sym c.pack_on.ensures ∙ at) in
    let long = b.long in
    let same = ap (λ (xs : List (Option Leaf)). length xs) c.deref.ensures.value in
    omega (arith, w, long, same)

pub returns : goal.returns
returns c = λ none.
    let p = c.args.plan.now in
    let r = c.args.self.now in
    let b = c.requires.belongs in
    shown_by p c.know_lawful.ensures.lawful c.args.start c.args.end r b c.requires.round c.args.q c.requires.processor none c.pack_on.result
    (sym c.pack_on.ensures) c.leaf_of.result
    c.leaf_of.ensures.none
    (λ k l at is. c.leaf_of.ensures.some k l at (ap (λ (xs : List (Option Leaf)). get_or xs k None) c.deref.ensures.value ∙ is))
