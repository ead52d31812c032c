use Rattle.std.proofs.Common.{◌≡◌, ℕ, ◌+◌, ◌<◌, ◌∷◌, [], ◌++◌, Some, None, length, set, refl, sym, ap, ◌∙◌, subst, arith, append_assoc, length-append, rules}
use Rattle.std.specs.Prelude.{slice_get}
use Rattle.std.proofs.lemmas.List.{length-set, length_push}
use Rattle.std.proofs.lemmas.Option.{slice_get_within}
use Rattle.unit_ledger.specs.Seats.{Seat}
use Rattle.exec_lanes.specs.Lanes.{LaneContents, lane_in}
use Rattle.exec_lanes.specs.Kits.{KitAt, IsGateOf}
use Rattle.exec_lanes.proofs.PlaceLemmas.{below_set, above_set}
use Rattle.exec_lanes.proofs.StageLemmas.{next_lane}
use Rattle.exec_lanes.proofs.stage.empty_lanes.Goals as goal
use Rattle.exec_lanes.proofs.stage.empty_lanes.Goals.{After-lane, In-None}

module _ (g : _) (c : After-lane g) where
  next : (length c.loop-lane.yielded < length c.args.lanes.items) × (lane_in c.args.lanes.items (length c.loop-lane.yielded) ≡ c.in-Some.lane)
  next = next_lane c.args.lanes.items c.loop-lane.yielded c.next.new.self.rest.items c.in-Some.lane (c.loop-lane.invariant.whole
      ∙ ap (λ xs. c.loop-lane.yielded ++ xs) c.in-Some.ensures.steps.0)

  number : c.into_parts-gate.result.1.lane ≡ length c.loop-lane.yielded
  number = ap (λ (s : Seat). s.lane) c.into_parts-gate.ensures.seat ∙ ap (λ (l : LaneContents). l.seat.lane) (sym next.1) ∙ c.requires.own
      (length c.loop-lane.yielded) (let within = next.0 in omega (arith, within))

  kit_inside : length c.loop-lane.yielded < length c.loop-lane.kits
  kit_inside =
      let within = slice_get_within c.args.kits.now (length c.loop-lane.yielded) _ (c.requires.kits (length c.loop-lane.yielded) (let within = next.0 in
      omega (arith, within))) in
      let same = c.loop-lane.invariant.all_kits in
      omega (arith, within, same)

  empty_place : slice_get c.loop-lane.seats (length c.loop-lane.yielded) ≡ Some None
  empty_place = c.loop-lane.invariant.seats (length c.loop-lane.yielded) (omega arith) ∙ c.requires.seats (length c.loop-lane.yielded) (let within =
      next.0 in omega (arith, within))

pub put_gate-requires : goal.put_gate-requires
put_gate-requires g c = let after = (goal.at.put_gate-requires g c).After-lane in let inside = kit_inside g after in let own = number g after in
    omega (arith, inside, own, c.lane.ensures)

pub lay-requires : goal.lay-requires
lay-requires g c = let after = (goal.at.lay-requires g c).After-lane in subst (λ n. slice_get c.loop-lane.seats n ≡ Some None) (sym (number g after))
    (empty_place g after)

pub loop-lane-preserved : goal.loop-lane-preserved
loop-lane-preserved g c =
    let after = (goal.at.loop-lane-preserved g c).After-lane in
    let inv = c.loop-lane.invariant in
    let n = length c.loop-lane.yielded in
    let long = length_push c.loop-lane.yielded c.in-Some.lane in
    let is = next g after in
    let gate = c.into_parts-gate.result.0 in
    let seat = c.into_parts-gate.result.1 in
    let kits : c.put_gate.new.kits ≡ set c.loop-lane.kits n (record { gate = Some gate }) = c.put_gate.ensures
    ∙ ap (λ i. set c.loop-lane.kits i (record { gate = Some gate })) (c.lane.ensures ∙ number g after) in
    let seats : c.lay.new.self ≡ set c.loop-lane.seats n (Some seat) = c.lay.ensures ∙ ap (λ i. set c.loop-lane.seats i (Some seat)) (number g after) in
    let all_put : (p : ℕ) → p < n + 1 → (k : g.row.G.Denot) × KitAt c.put_gate.new.kits p k × IsGateOf g.G.Gate.ran g.G.Gate.faults
    (lane_in c.args.lanes.items p) k =
    rw kits (below_set (λ p place. (k : g.row.G.Denot) × (place ≡ Some (record { gate = Some k })) × IsGateOf g.G.Gate.ran g.G.Gate.faults
    (lane_in c.args.lanes.items p) k) c.loop-lane.kits n (record { gate = Some gate }) (kit_inside g after) (
      gate,
      refl,
      record {
        rows = c.into_parts-gate.ensures.ran ∙ ap (λ (l : LaneContents). l.ran) (sym is.1);
        count = c.into_parts-gate.ensures.faults
            ∙ ap (λ (l : LaneContents). l.faults) (sym is.1);
      },
    ) inv.put) in
    let all_laid : (p : ℕ) → p < n + 1 → slice_get c.lay.new.self p ≡ Some (Some (lane_in c.args.lanes.items p).seat) =
    rw seats (below_set (λ p place. place ≡ Some (Some (lane_in c.args.lanes.items p).seat)) c.loop-lane.seats n (Some seat)
    (slice_get_within c.loop-lane.seats n None (empty_place g after))
    (ap (λ (s : Seat). Some (Some s)) (c.into_parts-gate.ensures.seat ∙ ap (λ (l : LaneContents). l.seat) (sym is.1))) inv.laid) in
    record {
      whole = inv.whole ∙ ap (λ xs. c.loop-lane.yielded ++ xs) c.in-Some.ensures.steps.0 ∙ sym (append_assoc c.loop-lane.yielded (c.in-Some.lane ∷ [])
          c.next.new.self.rest.items);
      all_kits = ap length kits ∙ length-set c.loop-lane.kits n (record { gate = Some gate }) ∙ inv.all_kits;
      all_seats = ap length seats ∙ length-set c.loop-lane.seats n (Some seat) ∙ inv.all_seats;
      put = λ p below. all_put p (omega (arith, below, long));
      kits = λ p above. rw kits (above_set (λ q place. place ≡ slice_get c.args.kits.now q) c.loop-lane.kits n (record { gate = Some gate }) inv.kits p
          (omega (arith, above, long)));
      laid = λ p below. all_laid p (omega (arith, below, long));
      seats = λ p above. rw seats (above_set (λ q place. place ≡ slice_get c.args.seats.now q) c.loop-lane.seats n (Some seat) inv.seats p
          (omega (arith, above, long)));
    }

-- at the end all lanes were given
all_given : (g : _) (c : In-None g) → length c.loop-lane.yielded ≡ c.args.lanes.len
all_given g c =
    let none : length c.loop-lane.lane-iterator.rest.items ≡ 0 = search rules in
    let whole = ap length c.loop-lane.invariant.whole in
    let long : length c.args.lanes.items ≡ c.args.lanes.len = search rules in
    omega (arith, whole, none, long, length-append c.loop-lane.yielded c.loop-lane.lane-iterator.rest.items)

pub returns-clause-kits : goal.returns-clause-kits
returns-clause-kits g c p below =
    let end = all_given g (goal.at.returns-clause-kits g c).In-None in
    c.loop-lane.invariant.put p (omega (arith, below, end))

pub returns-clause-seats : goal.returns-clause-seats
returns-clause-seats g c p below =
    let end = all_given g (goal.at.returns-clause-seats g c).In-None in
    c.loop-lane.invariant.laid p (omega (arith, below, end))

pub loop-lane-init : goal.loop-lane-init
loop-lane-init g c = record {
  whole = sym c.into_iter-lane-iterator.ensures.into_iter_gives.0;
  all_kits = refl;
  all_seats = refl;
  put = λ p below. absurd (omega (arith, below));
  kits = λ p above. refl;
  laid = λ p below. absurd (omega (arith, below));
  seats = λ p above. refl;
}

pub returns-clause-other_kits : goal.returns-clause-other_kits
returns-clause-other_kits g c = λ p past.
    let end = all_given g (goal.at.returns-clause-other_kits g c).In-None in
    c.loop-lane.invariant.kits p (omega (arith, past, end))

pub returns-clause-all_seats : goal.returns-clause-all_seats
returns-clause-all_seats g c = c.loop-lane.invariant.all_seats
