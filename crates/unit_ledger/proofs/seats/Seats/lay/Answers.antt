use Rattle.std.proofs.Common.{◌≡◌, ◌∙◌, Some, ap, refl, sym, length-set, arith}
use Rattle.std.proofs.lemmas.Option.{same_Some, slice_get_within}
use Rattle.unit_ledger.specs.Seats.{Seat}
use Rattle.unit_ledger.proofs.SeatLemmas.{at_home_with}
use Rattle.unit_ledger.proofs.seats.Seats.lay.Goals as goal

pub returns : goal.returns
returns g c = rw (c.self.view_is, c.lane-p.ensures) refl

pub invariant_of-self : goal.invariant_of-self
invariant_of-self g c =
    let own = λ (seat : Seat) (is : Some c.args.seat ≡ Some seat). sym (ap (λ (s : Seat). s.lane) (same_Some c.args.seat seat is)) ∙ sym c.lane-p.ensures in
    (rw length-set c.self.invariant.0, at_home_with c.self.inside.places.items c.lane-p.result (Some c.args.seat) own c.self.invariant.1)

pub index_mut-requires : goal.index_mut-requires
index_mut-requires g c =
    let within = slice_get_within c.self.inside.places.items c.args.seat.lane _ (rw (← c.self.view_is) at c.requires) in
    omega (arith, within, c.lane-p.ensures)
