use Rattle.std.proofs.Common.{◌≡◌, ◌∙◌, ℕ, Option, List, None, Some, ap, arith, get_or, length, refl, subst, sym}
use Rattle.sched_base.specs.declared.rows.Leaf.TheVariants.{Empty}
use Rattle.sched_base.specs.Places.{Placing, is_held}
use Rattle.event_core.proofs.OneRound.{length-last}
use Rattle.round_looks.specs.Looks.{IsNodeOn}
use Rattle.part_rounds.proofs.KeptParts.{node_shown, noted_here, rests_here}
use Rattle.part_rounds.proofs.kept.shown_of.Goals as goal

pub holds-requires : goal.holds-requires
holds-requires c =
    let long = ap (λ (w : Placing). length w.last) (c.places-places.ensures ∙ c.requires.belongs.at.placed) ∙ length-last c.args.part.now.plan
    c.args.core.now.tick in
    let l = c.requires.pack in
    omega (arith, l, long)

pub returns-then-not-holds : goal.returns-then-not-holds
returns-then-not-holds c =
    let onto = ap (λ (w : Placing). w.onto) (c.places-places.ensures ∙ c.requires.belongs.at.placed) in
    let off = ap (λ (os : List (Option ℕ)). is_held os c.args.k) (sym onto) ∙ sym c.holds.ensures ∙ c.if-not-holds.true in
    rests_here c.args.part.now c.know_lawful.ensures.lawful c.args.start c.args.core.now.tick c.args.k c.requires.round c.requires.pack off None refl

pub last_of-requires : goal.last_of-requires
last_of-requires c =
    let long = ap (λ (w : Placing). length w.last) (c.places-places.ensures ∙ c.requires.belongs.at.placed) ∙ length-last c.args.part.now.plan
    c.args.core.now.tick in
    let l = c.requires.pack in
    omega (arith, l, long)

pub node_on-requires-clause-processor : goal.node_on-requires-clause-processor
node_on-requires-clause-processor c =
    let onto = ap (λ (w : Placing). w.onto) (c.places-places.ensures ∙ c.requires.belongs.at.placed) in
    let (q, is, at, within) = noted_here c.args.part.now c.know_lawful.ensures.lawful c.args.start c.args.core.now.tick c.args.k c.requires.round
    c.requires.pack
    c.places-places.result.now.onto c.places-places.result.now.last onto c.know_noted.ensures (sym c.holds.ensures ∙ c.if-not-holds.false) c.last_of.result
    c.last_of.ensures in
    let same : Some q ≡ Some c.in-Some.q = sym is ∙ c.in-Some.is in
    let e : q ≡ c.in-Some.q = cc in
    omega (arith, within, e)

pub returns-in-None : goal.returns-in-None
returns-in-None c =
    let onto = ap (λ (w : Placing). w.onto) (c.places-places.ensures ∙ c.requires.belongs.at.placed) in
    let (q, is, at, within) = noted_here c.args.part.now c.know_lawful.ensures.lawful c.args.start c.args.core.now.tick c.args.k c.requires.round
    c.requires.pack
    c.places-places.result.now.onto c.places-places.result.now.last onto c.know_noted.ensures (sym c.holds.ensures ∙ c.if-not-holds.false) c.last_of.result
    c.last_of.ensures in
    absurd (let same : Some q ≡ None = sym is ∙ c.in-None.is in cc)

pub returns-in-Some : goal.returns-in-Some
returns-in-Some c =
    let part = c.args.part.now in
    let onto = ap (λ (w : Placing). w.onto) (c.places-places.ensures ∙ c.requires.belongs.at.placed) in
    let (q, is, at, within) = noted_here part c.know_lawful.ensures.lawful c.args.start c.args.core.now.tick c.args.k c.requires.round c.requires.pack
    c.places-places.result.now.onto c.places-places.result.now.last onto c.know_noted.ensures (sym c.holds.ensures ∙ c.if-not-holds.false) c.last_of.result
    c.last_of.ensures in
    let same : Some q ≡ Some c.in-Some.q = sym is ∙ c.in-Some.is in
    let e : q ≡ c.in-Some.q = cc in
    let on : IsNodeOn part.plan c.args.start c.args.core.now.tick c.in-Some.q c.node_on.result =
    record { none = c.node_on.ensures.none; some = c.node_on.ensures.some; within = c.node_on.ensures.within } in
    node_shown part c.know_lawful.ensures.lawful c.args.start c.args.core.now.tick c.args.k c.requires.round c.requires.pack q at within c.node_on.result
    c.leaf_for.result
    (subst (λ (n : ℕ). IsNodeOn part.plan c.args.start c.args.core.now.tick n c.node_on.result) (sym e) on)
    (λ n is'. c.leaf_for.ensures.some n is' ∙ ap (λ ls. Some (get_or ls n.0 Empty)) c.deref.ensures.value)
