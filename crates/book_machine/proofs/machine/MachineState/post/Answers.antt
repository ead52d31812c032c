use Rattle.std.specs.Prelude.{slice_set}
use Rattle.std.proofs.Common.{◌≡◌, ◌+◌, ◌∙◌, true, false, sym, subst, arith, ap, rules}
use Rattle.std.proofs.lemmas.List.{get_or_default}
use Rattle.book_machine.specs.declared.machine.LaneState.{LaneState}
use Rattle.book_machine.specs.Machine.{State, IsOut, at_start, lane_at, least_of}
use Rattle.book_machine.proofs.Lanes.{IsKept-above, CanPost-set, out_within}
use Rattle.book_machine.proofs.machine.MachineState.post.Goals as goal

pub overflow_add-lane : goal.overflow_add-lane
overflow_add-lane c =
    let p = c.args.p in
    let items = c.self.inside.lanes.items in
    let out : (lane_at items p).out ≡ true = subst (λ (s : State). IsOut s p) (sym c.self.view_is) c.requires in
    let can = c.self.invariant.can_post p out in
    let lane = c.index_mut-lane.result.now in
    let here : lane ≡ lane_at items p = c.index_mut-lane.ensures.value ∙ get_or_default items p lane at_start (out_within items p out) in
    let posted = ap (λ (l : LaneState). l.posted) here in
    search (rules, can, posted)

pub invariant_of-self : goal.invariant_of-self
invariant_of-self c =
    let p = c.args.p in
    let items = c.self.inside.lanes.items in
    let out : (lane_at items p).out ≡ true = subst (λ (s : State). IsOut s p) (sym c.self.view_is) c.requires in
    record {
      can_post = CanPost-set items p _ (out_within items p out) c.self.invariant.can_post (λ o. absurd (let e : false ≡ true = o in cc));
      least_is = c.least_posted-self-inside.ensures ∙ ap least_of c.as_slice.ensures.value;
    }

pub invariant_of-self-else-is_least : goal.invariant_of-self-else-is_least
invariant_of-self-else-is_least c =
    let p = c.args.p in
    let items = c.self.inside.lanes.items in
    let out : (lane_at items p).out ≡ true = subst (λ (s : State). IsOut s p) (sym c.self.view_is) c.requires in
    let lane = c.index_mut-lane.result.now in
    let here : lane ≡ lane_at items p = c.index_mut-lane.ensures.value ∙ get_or_default items p lane at_start (out_within items p out) in
    let posted = ap (λ (l : LaneState). l.posted) here in
    IsKept-above items p c.self.inside.least _ (out_within items p out) c.self.invariant (λ same. c.if-is_least.false (posted ∙ same))
    (omega (arith, posted)) (λ o. absurd (let e : false ≡ true = o in cc))

pub index_mut-lane-requires : goal.index_mut-lane-requires
index_mut-lane-requires c =
    let p = c.args.p in
    let items = c.self.inside.lanes.items in
    let within = out_within items p (subst (λ (s : State). IsOut s p) (sym c.self.view_is) c.requires) in
    let long = c.self.inside.lanes.ok.0 in
    omega (arith, within, long)

pub returns-then-is_least : goal.returns-then-is_least
returns-then-is_least c =
    let p = c.args.p in
    let items = c.self.inside.lanes.items in
    let within = out_within items p (subst (λ (s : State). IsOut s p) (sym c.self.view_is) c.requires) in
    let lane = c.index_mut-lane.result.now in
    let here : lane ≡ lane_at items p = c.index_mut-lane.ensures.value ∙ get_or_default items p lane at_start within in
    rw (← c.self.view_is) (ap (λ (l : LaneState). record
    { lanes = slice_set items p (record { posted = l.posted + 1; out = false }); halted = c.self.inside.halted }) here)

pub returns-else-is_least : goal.returns-else-is_least
returns-else-is_least c =
    let p = c.args.p in
    let items = c.self.inside.lanes.items in
    let within = out_within items p (subst (λ (s : State). IsOut s p) (sym c.self.view_is) c.requires) in
    let lane = c.index_mut-lane.result.now in
    let here : lane ≡ lane_at items p = c.index_mut-lane.ensures.value ∙ get_or_default items p lane at_start within in
    rw (← c.self.view_is) (ap (λ (l : LaneState). record
    { lanes = slice_set items p (record { posted = l.posted + 1; out = false }); halted = c.self.inside.halted }) here)
