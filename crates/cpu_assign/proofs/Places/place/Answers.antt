use Rattle.std.proofs.Common.{arith, length, ap, ap₂, subst, subst₂, sym, ◌∙◌}
use Rattle.sched_base.specs.Places.{Placing, place}
use Rattle.cpu_assign.specs.Noted.{IsNoted}
use Rattle.cpu_assign.proofs.StepLemmas.{placing, written}
use Rattle.cpu_assign.proofs.Places.place.Goals as goal

pub place_all-requires-clause-packs : goal.place_all-requires-clause-packs
place_all-requires-clause-packs c = ap length c.deref_mut-2.ensures.value ∙ ap (λ (p : Placing). length p.last) c.self.view_is ∙ sym c.requires.packs

pub place_all-requires-clause-processors : goal.place_all-requires-clause-processors
place_all-requires-clause-processors c = c.requires.processors ∙ sym (ap length c.deref_mut.ensures.value ∙ ap (λ (p : Placing). length p.onto) c.self.view_is)

pub place_all-requires-clause-noted : goal.place_all-requires-clause-noted
place_all-requires-clause-noted c =
    subst (λ (p : Placing). IsNoted p.onto p.last) (sym (ap₂ placing c.deref_mut.ensures.value c.deref_mut-2.ensures.value)) c.self.invariant.0

pub invariant_of-self : goal.invariant_of-self
invariant_of-self c =
    let onto = written c.self.inside.onto c.deref_mut.result.now c.place_all.new.onto c.deref_mut.ensures.value c.place_all.auto.onto in
    let last = written c.self.inside.last c.deref_mut-2.result.now c.place_all.new.last c.deref_mut-2.ensures.value c.place_all.auto.last in
    (subst₂ IsNoted (sym onto) (sym last) c.place_all.ensures.noted, λ p l none. absurd (omega (arith, l)), omega arith)

pub returns-clause-places : goal.returns-clause-places
returns-clause-places c =
    let was = ap₂ placing c.deref_mut.ensures.value c.deref_mut-2.ensures.value ∙ c.self.view_is in
    let onto = written c.self.inside.onto c.deref_mut.result.now c.place_all.new.onto c.deref_mut.ensures.value c.place_all.auto.onto in
    let last = written c.self.inside.last c.deref_mut-2.result.now c.place_all.new.last c.deref_mut-2.ensures.value c.place_all.auto.last in
    ap₂ placing (onto ∙ c.place_all.ensures.onto) (last ∙ c.place_all.ensures.last) ∙ ap (place c.args.runs.now) was

pub returns-clause-packs : goal.returns-clause-packs
returns-clause-packs c =
    let last = written c.self.inside.last c.deref_mut-2.result.now c.place_all.new.last c.deref_mut-2.ensures.value c.place_all.auto.last in
    ap length last ∙ c.place_all.auto.last ∙ ap length c.deref_mut-2.ensures.value ∙ ap (λ (p : Placing). length p.last) c.self.view_is

pub returns-clause-processors : goal.returns-clause-processors
returns-clause-processors c =
    let onto = written c.self.inside.onto c.deref_mut.result.now c.place_all.new.onto c.deref_mut.ensures.value c.place_all.auto.onto in
    ap length onto ∙ c.place_all.auto.onto ∙ ap length c.deref_mut.ensures.value ∙ ap (λ (p : Placing). length p.onto) c.self.view_is

pub returns-clause-told : goal.returns-clause-told
returns-clause-told c =
    let was = ap₂ placing c.deref_mut.ensures.value c.deref_mut-2.ensures.value ∙ c.self.view_is in
    c.place_all.ensures.told ∙ c.place_all.ensures.onto ∙ ap (λ (p : Placing). (place c.args.runs.now p).onto) was
