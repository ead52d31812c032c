use Rattle.std.proofs.Common.{ℕ, List, ◌≡◌, ◌-◌, length, ap, ap₂, arith, sym, ◌∙◌, subst}
use Rattle.std.proofs.lemmas.List.{length-map}
use Rattle.std.proofs.lemmas.Result.{IfOk-from_err}
use Rattle.run_tree.specs.Tree.{rate}
use Rattle.std.specs.Prelude.{OnOk}
use Rattle.sched_base.specs.FirstFit.{homes, packed}
use Rattle.server_pack.specs.Servers.{items_of}
use Rattle.run_tree.specs.Making.{lower_packs, lifted}
use Rattle.tree_laws.specs.Raised.{lower_duals}
use Rattle.run_compile.proofs.HomeLemmas.{homes_long}
use Rattle.run_compile.proofs.HigherLemmas.{lower_range, duals_range, duals_long, duals_are, duals_from}
use Rattle.run_compile.proofs.higher.raise.Goals as goal

pub duals-requires : goal.duals-requires
duals-requires c = lower_range c.args.maker.now c.args.scale c.args.lower.now c.requires.scale c.requires.lower c.requires.positive

pub first_fit-requires-clause-each : goal.first_fit-requires-clause-each
first_fit-requires-clause-each c =
    duals_range c.args.scale c.args.lower.now c.as_slice.result.now (c.as_slice.ensures ∙ c.in_ok-duals.ensures) (lower_range c.args.maker.now c.args.scale
    c.args.lower.now c.requires.scale c.requires.lower c.requires.positive)

pub lift-requires-clause-homes : goal.lift-requires-clause-homes
lift-requires-clause-homes c =
    let duals = duals_long c.args.maker.now c.args.scale c.args.lower.now c.in_ok-duals.duals c.requires.lower c.in_ok-duals.ensures in
    let long = homes_long c.in_ok-packing.packing.scale c.as_slice-2.result.now in
    let told = ap length (c.as_slice-3.ensures.value ∙ c.in_ok-homes.ensures) in
    let same = ap length c.as_slice-2.ensures in
    omega (arith, duals, long, told, same)

pub returns : goal.returns
returns c =
    let m = c.args.maker.now in
    let duals = c.as_slice-2.ensures ∙ c.in_ok-duals.ensures ∙ ap (duals_from c.args.scale) c.requires.lower ∙ duals_are m c.args.scale c.requires.scale in
    let told : c.as_slice-3.result.now ≡ homes c.args.scale (lower_duals m) =
    c.as_slice-3.ensures.value ∙ c.in_ok-homes.ensures ∙ ap₂ homes c.in_ok-packing.ensures.scale duals in
    let P : List ℕ → Type 0 = λ hs. OnOk c.lift.result (c.lift.new.self ≡ lifted (lower_packs m) hs m) in
    subst P told c.lift.ensures.ok

pub returns-in_err-duals : goal.returns-in_err-duals
returns-in_err-duals c = IfOk-from_err _ _ c.from_residual.ensures.0

pub returns-in_err-packing : goal.returns-in_err-packing
returns-in_err-packing c = IfOk-from_err _ _ c.from_residual-in_err-packing.ensures.0

pub returns-in_err-homes : goal.returns-in_err-homes
returns-in_err-homes c = IfOk-from_err _ _ c.from_residual-in_err-homes.ensures.0

pub first_fit-requires-clause-scale : goal.first_fit-requires-clause-scale
first_fit-requires-clause-scale c = c.requires.scale_fits

pub first_fit-requires-clause-few : goal.first_fit-requires-clause-few
first_fit-requires-clause-few c =
    let long = ap length (c.as_slice.ensures ∙ c.in_ok-duals.ensures) ∙ length-map c.args.lower.now (λ rate. c.args.scale - rate) in
    omega (arith, long, c.requires.few)

pub homes_of-requires-clause-rates : goal.homes_of-requires-clause-rates
homes_of-requires-clause-rates c = c.in_ok-packing.ensures.rates ∙ ap₂ packed (sym c.in_ok-packing.ensures.scale) (c.as_slice.ensures
    ∙ sym c.as_slice-2.ensures)

pub homes_of-requires-clause-members : goal.homes_of-requires-clause-members
homes_of-requires-clause-members c = λ b. c.in_ok-packing.ensures.members b ∙ ap₂ (λ l rs. items_of (homes l rs) b) (sym c.in_ok-packing.ensures.scale)
    (c.as_slice.ensures ∙ sym c.as_slice-2.ensures)

pub lift-requires-clause-few_levels : goal.lift-requires-clause-few_levels
lift-requires-clause-few_levels c = c.requires.few_levels

pub lift-requires-clause-some : goal.lift-requires-clause-some
lift-requires-clause-some c =
    let long = ap length c.requires.lower ∙ length-map (lower_packs c.args.maker.now) (rate c.args.maker.now.tree) in
    omega (arith, long, c.requires.some)
