use Rattle.std.proofs.Common.{◌≡◌, ◌<◌, ◌∙◌, Some, ap, length, option_map, slice_get, subst, sym, take}
use Rattle.std.proofs.lemmas.Option.{slice_get-get_or}
use Rattle.mode_join.specs.declared.mode.Mode.{Mode}
use Rattle.mode_join.specs.Modes.{AreModes, ModesContents}
use Rattle.mode_join.proofs.ModeLemmas.{units_of}
use Rattle.mode_join.proofs.modes.Modes.start.Goals as goal

pub returns-clause-value : goal.returns-clause-value
returns-clause-value c =
    let modes = c.self.inside.modes.items in
    let mode = c.index.result.now in
    let within = subst (λ (m : ModesContents). c.args.j < length m.modes) (sym c.self.view_is) c.requires in
    let here : slice_get modes c.args.j ≡ Some mode = slice_get-get_or modes c.args.j mode within ∙ ap Some (sym c.index.ensures) in
    subst (λ (m : ModesContents). option_map (λ (x : Mode). x.start) (slice_get m.modes c.args.j) ≡ Some mode.start) c.self.view_is
    (ap (option_map (λ (x : Mode). x.start)) here)

pub returns-clause-lawful : goal.returns-clause-lawful
returns-clause-lawful c = subst AreModes c.self.view_is c.self.invariant.0

pub returns-clause-sum : goal.returns-clause-sum
returns-clause-sum c =
    let modes = c.self.inside.modes.items in
    let mode = c.index.result.now in
    let within = subst (λ (m : ModesContents). c.args.j < length m.modes) (sym c.self.view_is) c.requires in
    let here : slice_get modes c.args.j ≡ Some mode = slice_get-get_or modes c.args.j mode within ∙ ap Some (sym c.index.ensures) in
    subst (λ (m : ModesContents). mode.start ≡ units_of (take c.args.j m.modes)) c.self.view_is (c.self.invariant.0.starts c.args.j mode here)
