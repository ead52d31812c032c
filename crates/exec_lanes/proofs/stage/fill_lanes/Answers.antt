use Rattle.std.proofs.Common.{◌≡◌, Some, None, length, refl, ap, ◌∙◌, arith}
use Rattle.std.specs.Prelude.{slice_get}
use Rattle.std.proofs.lemmas.List.{length-set}
use Rattle.std.proofs.lemmas.Option.{slice_get_within}
use Rattle.exec_lanes.specs.Lanes.{no_lane}
use Rattle.exec_lanes.specs.Kits.{KitAt, lane_at_start}
use Rattle.exec_lanes.proofs.PlaceLemmas.{below_set, above_set, each_push_or}
use Rattle.exec_lanes.proofs.StageLemmas.{same_gate, same_seat}
use Rattle.exec_lanes.proofs.stage.fill_lanes.Goals as goal

pub take_gate-gate-requires-clause-inside : goal.take_gate-gate-requires-clause-inside
take_gate-gate-requires-clause-inside g c =
    let within = slice_get_within c.args.kits.now c.loop-p.p _ (c.requires.kits c.loop-p.p c.loop-p-test.true).1 in
    let same = c.loop-p.invariant.all_kits in
    omega (arith, within, same)

pub take_gate-gate-requires-clause-filled : goal.take_gate-gate-requires-clause-filled
take_gate-gate-requires-clause-filled g c =
    let kit = c.requires.kits c.loop-p.p c.loop-p-test.true in
    (kit.0, c.loop-p.invariant.other_kits c.loop-p.p (omega arith) ∙ kit.1)

pub lift-seat-requires : goal.lift-seat-requires
lift-seat-requires g c = (
  record { lane = c.loop-p.p; posted = 0 },
  c.loop-p.invariant.other_seats c.loop-p.p (omega arith) ∙ c.requires.seats c.loop-p.p
      c.loop-p-test.true,
)

pub loop-p-preserved : goal.loop-p-preserved
loop-p-preserved g c =
    let inv = c.loop-p.invariant in
    let p = c.loop-p.p in
    let kit_in = slice_get_within c.loop-p.kits p _ c.take_gate-gate.ensures.gate in
    let seat_in = slice_get_within c.loop-p.seats p _ c.lift-seat.ensures.seat in
    let start' : c.lift-seat.result ≡ record { lane = p; posted = 0 } = same_seat c.loop-p.seats p c.lift-seat.result _ c.lift-seat.ensures.seat
    (inv.other_seats p (omega arith) ∙ c.requires.seats p c.loop-p-test.true) in
    record {
      count = (let len = c.push_reserved.ensures.len in let count = inv.count in omega (arith, len, count));
      room = c.push_reserved.ensures.capacity ∙ inv.room;
      all_kits = ap length c.take_gate-gate.ensures.kits ∙ length-set c.loop-p.kits p (record { gate = None }) ∙ inv.all_kits;
      all_seats = ap length c.lift-seat.ensures.rest ∙ length-set c.loop-p.seats p None ∙ inv.all_seats;
      filled = λ q gate below at. rw c.push_reserved.ensures.items (each_push_or no_lane (λ n lane. (k : g.row.G.Denot) → KitAt c.args.kits.now n k →
          lane ≡ lane_at_start g.G.Gate.ran g.G.Gate.faults n k) c.loop-p.lanes.items p c.new.result (let count = inv.count in omega (arith, count))
          (λ k there.
          let same' = same_gate c.loop-p.kits p c.take_gate-gate.result k c.take_gate-gate.ensures.gate (inv.other_kits p (omega arith) ∙ there) in
          c.new.ensures ∙ (λ i. record { ran = g.G.Gate.ran (same' i); faults = g.G.Gate.faults (same' i); seat = start' i; cause = None }))
          (λ n below' k there. inv.filled n k below' there) q below gate at);
      out = rw c.take_gate-gate.ensures.kits (below_set (λ q place. place ≡ Some (record { gate = None })) c.loop-p.kits p (record { gate = None }) kit_in
          refl inv.out);
      other_kits = rw c.take_gate-gate.ensures.kits (above_set (λ q place. place ≡ slice_get c.args.kits.now q) c.loop-p.kits p (record { gate = None })
          inv.other_kits);
      lifted = rw c.lift-seat.ensures.rest (below_set (λ q place. place ≡ Some None) c.loop-p.seats p None seat_in refl inv.lifted);
      other_seats = rw c.lift-seat.ensures.rest (above_set (λ q place. place ≡ slice_get c.args.seats.now q) c.loop-p.seats p None inv.other_seats);
    }

pub returns-clause-count : goal.returns-clause-count
returns-clause-count g c = omega (arith, c.loop-p.invariant.count)

pub returns-clause-lanes : goal.returns-clause-lanes
returns-clause-lanes g c = λ p gate below at. c.loop-p.invariant.filled p gate (omega (arith, below)) at

pub returns-clause-kits : goal.returns-clause-kits
returns-clause-kits g c = λ p below. c.loop-p.invariant.out p (omega (arith, below))

pub returns-clause-other_kits : goal.returns-clause-other_kits
returns-clause-other_kits g c = λ p past. c.loop-p.invariant.other_kits p (omega (arith, past))

pub returns-clause-seats : goal.returns-clause-seats
returns-clause-seats g c = λ p below. c.loop-p.invariant.lifted p (omega (arith, below))

pub returns-clause-all_seats : goal.returns-clause-all_seats
returns-clause-all_seats g c = c.loop-p.invariant.all_seats

pub push_reserved-requires : goal.push_reserved-requires
push_reserved-requires g c =
    let count = c.loop-p.invariant.count in
    let same = c.loop-p.invariant.room in
    let room = c.requires.room in
    omega (arith, count, same, room, c.loop-p-test.true)
