use Rattle.std.specs.Prelude.{slice_set}
use Rattle.std.proofs.Common.{◌≡◌, ◌∙◌, true, false, sym, subst, arith, ap}
use Rattle.std.proofs.lemmas.List.{get_or_default}
use Rattle.book_machine.specs.declared.machine.LaneState.{LaneState}
use Rattle.book_machine.specs.Machine.{State, IsOut, at_start, lane_at}
use Rattle.book_machine.proofs.Lanes.{IsKept-same, out_within}
use Rattle.book_machine.proofs.machine.MachineState.put_back.Goals as goal

pub invariant_of-self : goal.invariant_of-self
invariant_of-self c =
    let p = c.args.p in
    let items = c.self.inside.lanes.items in
    let out : (lane_at items p).out ≡ true = subst (λ (s : State). IsOut s p) (sym c.self.view_is) c.requires in
    let lane = c.index_mut-lane.result.now in
    let here : lane ≡ lane_at items p = c.index_mut-lane.ensures.value ∙ get_or_default items p lane at_start (out_within items p out) in
    IsKept-same items p c.self.inside.least _ (out_within items p out) c.self.invariant (ap (λ (l : LaneState). l.posted) here)
    (λ o. absurd (let e : false ≡ true = o in cc))

pub index_mut-lane-requires : goal.index_mut-lane-requires
index_mut-lane-requires c =
    let p = c.args.p in
    let items = c.self.inside.lanes.items in
    let within = out_within items p (subst (λ (s : State). IsOut s p) (sym c.self.view_is) c.requires) in
    let long = c.self.inside.lanes.ok.0 in
    omega (arith, within, long)

pub returns : goal.returns
returns c =
    let p = c.args.p in
    let items = c.self.inside.lanes.items in
    let within = out_within items p (subst (λ (s : State). IsOut s p) (sym c.self.view_is) c.requires) in
    let lane = c.index_mut-lane.result.now in
    let here : lane ≡ lane_at items p = c.index_mut-lane.ensures.value ∙ get_or_default items p lane at_start within in
    rw (← c.self.view_is) (ap (λ (l : LaneState). record { lanes = slice_set items p (record { posted = l.posted; out = false }); halted = true }) here)
