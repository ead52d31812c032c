use Rattle.std.proofs.Common.{◌∙◌, List, Option, None, ap, arith, get_or, length, sym}
use Rattle.sched_base.specs.declared.rows.Leaf.{Leaf}
use Rattle.sched_base.specs.Places.{Placing}
use Rattle.run_tree.specs.Boundaries.{set_boundary}
use Rattle.run_tree.proofs.ScheduleLemmas.{length-places}
use Rattle.part_rounds.proofs.PlacedLemmas.{pack_known, shown_by}
use Rattle.part_rounds.proofs.placed.Placed.leaf_on.Goals as goal

pub pack_on-requires : goal.pack_on-requires
pack_on-requires c =
    let p = c.args.plan.now in
    let onto = ap (λ (w : Placing). length w.onto) c.requires.belongs.places ∙ length-places (set_boundary p.set.tasks) p.tree c.args.end in
    let l = c.requires.processor in
    omega (arith, onto, l)

pub shown_in-requires : goal.shown_in-requires
shown_in-requires c = λ k at.
    let b = c.requires.belongs in
    let w = pack_known c.args.plan.now c.know_lawful.ensures.lawful c.args.start c.args.end c.args.self.now b c.requires.round c.args.q c.requires.processor
    k (sym c.pack_on.ensures ∙ at) in
    let long = b.long in
    let same = ap (λ (xs : List (Option Leaf)). length xs) c.deref.ensures.value in
    omega (arith, w, long, same)

pub returns : goal.returns
returns c =
    shown_by c.args.plan.now c.know_lawful.ensures.lawful c.args.start c.args.end c.args.self.now c.requires.belongs c.requires.round c.args.q
    c.requires.processor c.pack_on.result (sym c.pack_on.ensures) c.shown_in.result
    c.shown_in.ensures.none
    (λ k l at is. c.shown_in.ensures.some k l at (ap (λ (xs : List (Option Leaf)). get_or xs k None) c.deref.ensures.value ∙ is))
