use Rattle.std.proofs.Common.{ℕ, List, Option, arith, length, ap, ap₂, subst, subst₂, sym, ◌∙◌}
use Rattle.sched_base.specs.Places.{Placing, place, waiting}
use Rattle.cpu_assign.specs.Noted.{AreHeld, IsNoted}
use Rattle.cpu_assign.specs.Changed.{stopping}
use Rattle.cpu_assign.proofs.StepLemmas.{placing, written}
use Rattle.cpu_assign.proofs.Places.place_again.Goals as goal

pub place_changed-free-requires-clause-noted : goal.place_changed-free-requires-clause-noted
place_changed-free-requires-clause-noted c =
    subst (λ (p : Placing). IsNoted p.onto p.last) (sym (ap₂ placing c.deref_mut.ensures.value c.deref_mut-2.ensures.value)) c.self.invariant.0

pub place_changed-free-requires-clause-changes : goal.place_changed-free-requires-clause-changes
place_changed-free-requires-clause-changes c =
    let was = ap₂ placing c.deref_mut.ensures.value c.deref_mut-2.ensures.value ∙ c.self.view_is in
    let (runs, long, changed) = c.requires.changes in (
      runs,
      ap (λ (p : Placing). length p.last) was ∙ long,
      c.stopped.ensures ∙ changed.stops ∙ ap (λ (p : Placing). stopping runs p.onto) (sym was),
      c.begun.ensures ∙ changed.begins ∙ ap (λ (p : Placing). waiting runs p.onto) (sym was),
    )

pub place_changed-free-requires-clause-held : goal.place_changed-free-requires-clause-held
place_changed-free-requires-clause-held c = subst (λ (os : List (Option ℕ)). AreHeld os c.self.inside.free) (sym c.deref_mut.ensures.value) c.self.invariant.1

pub place_changed-free-requires-clause-room : goal.place_changed-free-requires-clause-room
place_changed-free-requires-clause-room c =
    let room = c.self.invariant.2 in
    let long = ap (λ (os : List (Option ℕ)). length os) c.deref_mut.ensures.value in
    omega (arith, room, long)

pub invariant_of-self : goal.invariant_of-self
invariant_of-self c =
    let onto = written c.self.inside.onto c.deref_mut.result.now c.place_changed-free.new.onto c.deref_mut.ensures.value c.place_changed-free.auto.onto in
    let last = written c.self.inside.last c.deref_mut-2.result.now c.place_changed-free.new.last c.deref_mut-2.ensures.value c.place_changed-free.auto.last in
    let room = c.place_changed-free.ensures.room in
    let long = ap (λ (os : List (Option ℕ)). length os) onto in (
      subst₂ IsNoted (sym onto) (sym last) c.place_changed-free.ensures.noted,
      subst (λ (os : List (Option ℕ)). AreHeld os c.place_changed-free.result) (sym onto) c.place_changed-free.ensures.held,
      omega (arith, room, long),
    )

pub returns-clause-places : goal.returns-clause-places
returns-clause-places c = λ runs long changed.
    let was = ap₂ placing c.deref_mut.ensures.value c.deref_mut-2.ensures.value ∙ c.self.view_is in
    let packs = ap (λ (p : Placing). length p.last) was ∙ long in
    let stops = c.stopped.ensures ∙ changed.stops ∙ ap (λ (p : Placing). stopping runs p.onto) (sym was) in
    let begins = c.begun.ensures ∙ changed.begins ∙ ap (λ (p : Placing). waiting runs p.onto) (sym was) in
    let onto = written c.self.inside.onto c.deref_mut.result.now c.place_changed-free.new.onto c.deref_mut.ensures.value c.place_changed-free.auto.onto in
    let last = written c.self.inside.last c.deref_mut-2.result.now c.place_changed-free.new.last c.deref_mut-2.ensures.value c.place_changed-free.auto.last in
    ap₂ placing (onto ∙ c.place_changed-free.ensures.onto runs packs stops begins) (last ∙ c.place_changed-free.ensures.last runs packs stops begins)
    ∙ ap (place runs) was

pub returns-clause-packs : goal.returns-clause-packs
returns-clause-packs c =
    let last = written c.self.inside.last c.deref_mut-2.result.now c.place_changed-free.new.last c.deref_mut-2.ensures.value c.place_changed-free.auto.last in
    ap length last ∙ c.place_changed-free.auto.last ∙ ap length c.deref_mut-2.ensures.value ∙ ap (λ (p : Placing). length p.last) c.self.view_is

pub returns-clause-processors : goal.returns-clause-processors
returns-clause-processors c =
    let onto = written c.self.inside.onto c.deref_mut.result.now c.place_changed-free.new.onto c.deref_mut.ensures.value c.place_changed-free.auto.onto in
    ap length onto ∙ c.place_changed-free.auto.onto ∙ ap length c.deref_mut.ensures.value ∙ ap (λ (p : Placing). length p.onto) c.self.view_is
