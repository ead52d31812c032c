use Rattle.std.proofs.Common.{◌≡◌, ◌∙◌, None, Some, ap, refl, subst, sym, length-set, arith}
use Rattle.std.proofs.lemmas.Option.{get_or_from_slice_get, none-some, slice_get_within}
use Rattle.std.specs.Prelude.{IsSome}
use Rattle.unit_ledger.proofs.SeatLemmas.{at_home_with}
use Rattle.unit_ledger.proofs.seats.Seats.lift.Goals.{After-index_mut-place}
use Rattle.unit_ledger.proofs.seats.Seats.lift.Goals as goal

-- the seat that is in the place
there : (g : _) (c : After-index_mut-place g) → c.index_mut-place.result.now ≡ Some c.requires.0
there g c = c.index_mut-place.ensures.value ∙ get_or_from_slice_get c.self.inside.places.items c.args.p _ _ (rw (← c.self.view_is) at c.requires.1)

pub unwrap-requires : goal.unwrap-requires
unwrap-requires g c = subst (λ o. IsSome o) (sym (c.take.ensures.value ∙ there g (goal.at.unwrap-requires g c).After-index_mut-place)) refl

pub returns-clause-seat : goal.returns-clause-seat
returns-clause-seat g c =
    c.requires.1 ∙ ap Some (sym (c.take.ensures.value ∙ there g (goal.at.returns-clause-seat g c).After-index_mut-place) ∙ c.unwrap.ensures)

pub returns-clause-lane : goal.returns-clause-lane
returns-clause-lane g c =
    let is = sym (c.take.ensures.value ∙ there g (goal.at.returns-clause-lane g c).After-index_mut-place) ∙ c.unwrap.ensures in
    c.self.invariant.1 c.args.p c.unwrap.result (rw c.self.view_is (c.requires.1 ∙ ap Some is))

pub returns-clause-rest : goal.returns-clause-rest
returns-clause-rest g c = rw (c.take.ensures.after, c.self.view_is) refl

pub invariant_of-self : goal.invariant_of-self
invariant_of-self g c =
    rw c.take.ensures.after (
      rw length-set c.self.invariant.0,
      at_home_with c.self.inside.places.items c.args.p None
          (λ seat none. absurd (none-some _ none)) c.self.invariant.1,
    )

pub index_mut-place-requires : goal.index_mut-place-requires
index_mut-place-requires g c =
    let within = slice_get_within c.self.inside.places.items c.args.p _ (rw (← c.self.view_is) at c.requires.1) in
    omega (arith, within)
