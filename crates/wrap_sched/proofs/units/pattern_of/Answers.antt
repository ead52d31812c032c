use Rattle.std.proofs.Common.{ap, arith, length, ◌∙◌}
use Rattle.std.proofs.lemmas.List.{length-map}
use Rattle.std.proofs.lemmas.Result.{IfOk-from_err}
use Rattle.sched_base.specs.Scale.{rate_of}
use Rattle.wrap_sched.proofs.units.pattern_of.Goals as goal

pub rates_of-requires-clause-scale : goal.rates_of-requires-clause-scale
rates_of-requires-clause-scale c = c.requires.scale

pub rates_of-requires-clause-scale_fits : goal.rates_of-requires-clause-scale_fits
rates_of-requires-clause-scale_fits c = c.requires.scale_fits

pub returns-in_err-rates : goal.returns-in_err-rates
returns-in_err-rates c = IfOk-from_err _ _ c.from_residual.ensures.0

pub unit_rounds-requires-clause-few : goal.unit_rounds-requires-clause-few
unit_rounds-requires-clause-few c =
    let many = ap length (c.deref.ensures.value ∙ c.in_ok-rates.ensures.value) ∙ length-map c.args.set.now.tasks (rate_of c.args.scale) in
    let few = c.processors.ensures.lawful.few_tasks in
    omega (arith, many, few)

pub unit_rounds-requires-clause-within : goal.unit_rounds-requires-clause-within
unit_rounds-requires-clause-within c = rw c.deref.ensures.value c.in_ok-rates.ensures.within

pub unit_rounds-requires-clause-few_processors : goal.unit_rounds-requires-clause-few_processors
unit_rounds-requires-clause-few_processors c = rw c.processors.ensures.value c.processors.ensures.lawful.few_processors

pub unit_rounds-requires-clause-scale_fits : goal.unit_rounds-requires-clause-scale_fits
unit_rounds-requires-clause-scale_fits c = c.requires.scale_fits

pub unit_rounds-requires-clause-some_scale : goal.unit_rounds-requires-clause-some_scale
unit_rounds-requires-clause-some_scale c = c.requires.scale.positive

pub returns : goal.returns
returns c = rw (c.processors.ensures.value, c.deref.ensures.value, c.in_ok-rates.ensures.value) at c.unit_rounds.ensures
