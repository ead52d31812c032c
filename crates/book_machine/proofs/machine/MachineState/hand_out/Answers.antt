use Rattle.std.specs.Prelude.{slice_set}
use Rattle.std.proofs.Common.{◌≡◌, ◌<◌, ◌∙◌, true, arith, length, ap}
use Rattle.std.proofs.lemmas.List.{get_or_default}
use Rattle.book_machine.specs.declared.machine.LaneState.{LaneState}
use Rattle.book_machine.specs.Machine.{State, at_start, lane_at, posted_at}
use Rattle.book_machine.proofs.Lanes.{IsKept-same}
use Rattle.book_machine.proofs.machine.MachineState.hand_out.Goals.{After-index_mut-lane}
use Rattle.book_machine.proofs.machine.MachineState.hand_out.Goals as goal

module _ (c : After-index_mut-lane) where
  within : c.args.p < length c.self.inside.lanes.items
  within = rw (← c.self.view_is) at c.requires.lane

  here : c.index_mut-lane.result.now ≡ lane_at c.self.inside.lanes.items c.args.p
  here = c.index_mut-lane.ensures.value ∙ get_or_default c.self.inside.lanes.items c.args.p c.index_mut-lane.result.now at_start within

pub index_mut-lane-requires : goal.index_mut-lane-requires
index_mut-lane-requires c =
    let within : c.args.p < length c.self.inside.lanes.items = rw (← c.self.view_is) at c.requires.lane in
    let long = c.self.inside.lanes.ok.0 in
    omega (arith, within, long)

pub invariant_of-self : goal.invariant_of-self
invariant_of-self c =
    let r = (goal.at.invariant_of-self c).After-index_mut-lane in
    let items = c.self.inside.lanes.items in
    let posted : c.index_mut-lane.result.now.posted ≡ posted_at c.args.self.now c.args.p = ap (λ (l : LaneState). l.posted) (here r)
    ∙ ap (λ (s : State). posted_at s c.args.p) c.self.view_is in
    let counted = c.requires.counted in
    IsKept-same items c.args.p c.self.inside.least _ (within r) c.self.invariant (ap (λ (l : LaneState). l.posted) (here r)) (λ _. omega (
      arith,
      posted,
      counted,
    ))

pub returns : goal.returns
returns c =
    let r = (goal.at.returns c).After-index_mut-lane in
    rw (← c.self.view_is) (ap (λ (l : LaneState). record {
      lanes = slice_set c.self.inside.lanes.items c.args.p (record { posted = l.posted; out = true });
      halted = c.self.inside.halted;
    }) (here r))
