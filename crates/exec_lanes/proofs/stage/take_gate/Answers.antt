use Rattle.std.proofs.Common.{◌≡◌, Some, sym, ap, ◌∙◌, subst, refl}
use Rattle.std.specs.Prelude.{IsSome}
use Rattle.std.proofs.lemmas.Option.{get_or_from_slice_get}
use Rattle.exec_lanes.specs.declared.kits.Kit.{Kit}
use Rattle.exec_lanes.proofs.StageLemmas.{same_in_place}
use Rattle.exec_lanes.proofs.stage.take_gate.Goals as goal
use Rattle.exec_lanes.proofs.stage.take_gate.Goals.{After-take}

taken : (g : _) (c : After-take g) → c.take.result ≡ Some c.requires.filled.0
taken g c = c.take.ensures.value ∙ ap (λ (k : Kit g.row.G.Denot). k.gate) (get_or_from_slice_get c.args.kits.now c.args.p
    (record { gate = Some c.requires.filled.0 }) _ c.requires.filled.1)

pub unwrap-requires : goal.unwrap-requires
unwrap-requires g c = subst (λ o. IsSome o) (sym (taken g (goal.at.unwrap-requires g c).After-take)) refl

pub returns-clause-gate : goal.returns-clause-gate
returns-clause-gate g c =
    let gate = same_in_place c.take.result c.requires.filled.0 c.unwrap.result (taken g (goal.at.returns-clause-gate g c).After-take) c.unwrap.ensures in
    c.requires.filled.1 ∙ (λ i. Some (record { gate = Some (gate i) }))

pub returns-clause-kits : goal.returns-clause-kits
returns-clause-kits g c = rw c.take.ensures.after refl

pub bounds-kits-p : goal.bounds-kits-p
bounds-kits-p g c = c.requires.inside
