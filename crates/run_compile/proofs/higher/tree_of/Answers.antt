use Rattle.std.proofs.Common.{sym, ◌≡◌, ◌<◌, length, refl, ap, arith, ◌∙◌}
use Rattle.run_tree.specs.Making.{Making}
use Rattle.std.proofs.lemmas.Bool.{eqb-false, eqb-true}
use Rattle.std.proofs.lemmas.Result.{IfOk-from_err}
use Rattle.tree_laws.proofs.CompiledTree.{level_0_kept}
use Rattle.run_compile.proofs.HigherLemmas as higher
use Rattle.run_compile.proofs.HigherLemmas.{climb_start, climb_asks, climb_next, climb_end}
use Rattle.run_compile.proofs.higher.tree_of.Goals as goal

pub lower_rates-requires : goal.lower_rates-requires
lower_rates-requires c = ap (λ (m : Making). m.tree.scale) c.in_ok-maker.ensures ∙ (level_0_kept c.args.rates.processors c.args.rates.scale
    c.args.rates.each.now c.requires.fit).0

pub raise-requires-clause-scale : goal.raise-requires-clause-scale
raise-requires-clause-scale c = (climb_asks c.args.rates.processors c.args.rates.scale c.args.rates.each.now c.requires.fit c.requires.few_processors
    c.requires.few_tasks c.loop-alloc.maker c.loop-alloc.lower.items c.loop-alloc.invariant).scale_is

pub raise-requires-clause-few : goal.raise-requires-clause-few
raise-requires-clause-few c =
    let few = (climb_asks c.args.rates.processors c.args.rates.scale c.args.rates.each.now c.requires.fit c.requires.few_processors c.requires.few_tasks
    c.loop-alloc.maker c.loop-alloc.lower.items c.loop-alloc.invariant).few_rates in
    let same = ap length c.as_slice.ensures.value in
    omega (arith, few, same)

pub raise-requires-clause-few_levels : goal.raise-requires-clause-few_levels
raise-requires-clause-few_levels c = (climb_asks c.args.rates.processors c.args.rates.scale c.args.rates.each.now c.requires.fit c.requires.few_processors
    c.requires.few_tasks c.loop-alloc.maker c.loop-alloc.lower.items c.loop-alloc.invariant).few_levels

pub raise-requires-clause-positive : goal.raise-requires-clause-positive
raise-requires-clause-positive c =
    rw c.as_slice.ensures.value ((climb_asks c.args.rates.processors c.args.rates.scale c.args.rates.each.now c.requires.fit c.requires.few_processors
    c.requires.few_tasks c.loop-alloc.maker c.loop-alloc.lower.items c.loop-alloc.invariant).positive)

pub lower_rates-requires-in-loop-alloc : goal.lower_rates-requires-in-loop-alloc
lower_rates-requires-in-loop-alloc c =
    let more = eqb-false _ 0 (sym c.is_empty.ensures ∙ c.loop-alloc-test.true) in
    let len = c.loop-alloc.lower.ok.0 in
    let some : 0 < length c.loop-alloc.lower.items = omega (arith, more, len) in
    let next = climb_next c.args.rates.processors c.args.rates.scale c.args.rates.each.now c.requires.fit c.requires.few_processors c.requires.few_tasks
    c.loop-alloc.maker c.raise.new.maker c.loop-alloc.lower.items (higher.lower_rates c.raise.new.maker) c.loop-alloc.invariant some
    c.in_ok-raise.ensures refl in
    (climb_asks c.args.rates.processors c.args.rates.scale c.args.rates.each.now c.requires.fit c.requires.few_processors c.requires.few_tasks
    c.raise.new.maker (higher.lower_rates c.raise.new.maker) next.0).scale_is

pub loop-alloc-smaller : goal.loop-alloc-smaller
loop-alloc-smaller c =
    let more = eqb-false _ 0 (sym c.is_empty.ensures ∙ c.loop-alloc-test.true) in
    let len = c.loop-alloc.lower.ok.0 in
    let some : 0 < length c.loop-alloc.lower.items = omega (arith, more, len) in
    (climb_next c.args.rates.processors c.args.rates.scale c.args.rates.each.now c.requires.fit c.requires.few_processors c.requires.few_tasks
    c.loop-alloc.maker c.raise.new.maker c.loop-alloc.lower.items c.in_ok-lower-2.lower.items c.loop-alloc.invariant some c.in_ok-raise.ensures
    c.in_ok-lower-2.ensures).1

pub loop-alloc-preserved : goal.loop-alloc-preserved
loop-alloc-preserved c =
    let more = eqb-false _ 0 (sym c.is_empty.ensures ∙ c.loop-alloc-test.true) in
    let len = c.loop-alloc.lower.ok.0 in
    let some : 0 < length c.loop-alloc.lower.items = omega (arith, more, len) in
    (climb_next c.args.rates.processors c.args.rates.scale c.args.rates.each.now c.requires.fit c.requires.few_processors c.requires.few_tasks
    c.loop-alloc.maker c.raise.new.maker c.loop-alloc.lower.items c.in_ok-lower-2.lower.items c.loop-alloc.invariant
    some c.in_ok-raise.ensures c.in_ok-lower-2.ensures).0

pub finish-requires : goal.finish-requires
finish-requires c =
    let empty = eqb-true _ 0 (sym c.is_empty.ensures ∙ c.loop-alloc-test.false) in
    let len = c.loop-alloc.lower.ok.0 in
    let none : length c.loop-alloc.lower.items ≡ 0 = omega (arith, empty, len) in
    (climb_end c.args.rates.processors c.args.rates.scale c.args.rates.each.now c.requires.fit c.requires.few_processors c.requires.few_tasks
    c.loop-alloc.maker c.loop-alloc.lower.items c.loop-alloc.invariant none).1

pub returns : goal.returns
returns c =
    let empty = eqb-true _ 0 (sym c.is_empty.ensures ∙ c.loop-alloc-test.false) in
    let len = c.loop-alloc.lower.ok.0 in
    let none : length c.loop-alloc.lower.items ≡ 0 = omega (arith, empty, len) in
    c.finish.ensures ∙ (climb_end c.args.rates.processors c.args.rates.scale c.args.rates.each.now c.requires.fit c.requires.few_processors
    c.requires.few_tasks c.loop-alloc.maker c.loop-alloc.lower.items c.loop-alloc.invariant none).0

pub returns-in_err-maker : goal.returns-in_err-maker
returns-in_err-maker c = IfOk-from_err _ _ c.from_residual.ensures.0

pub returns-in_err-lower : goal.returns-in_err-lower
returns-in_err-lower c = IfOk-from_err _ _ c.from_residual-in_err-lower.ensures.0

pub returns-in_err-raise : goal.returns-in_err-raise
returns-in_err-raise c = IfOk-from_err _ _ c.from_residual-in_err-raise.ensures.0

pub returns-in_err-lower-2 : goal.returns-in_err-lower-2
returns-in_err-lower-2 c = IfOk-from_err _ _ c.from_residual-in_err-lower-2.ensures.0

pub loop-alloc-init : goal.loop-alloc-init
loop-alloc-init c = climb_start c.args.rates.processors c.args.rates.scale c.args.rates.each.now c.requires.fit c.requires.few_processors
    c.requires.few_tasks c.in_ok-maker.maker c.in_ok-lower.lower.items c.in_ok-maker.ensures c.in_ok-lower.ensures

pub raise-requires-clause-scale_fits : goal.raise-requires-clause-scale_fits
raise-requires-clause-scale_fits c = c.requires.scale_fits

pub raise-requires-clause-some : goal.raise-requires-clause-some
raise-requires-clause-some c =
    let more = eqb-false _ 0 (sym c.is_empty.ensures ∙ c.loop-alloc-test.true) in
    let long = c.as_slice.ensures.len in
    omega (arith, more, long)

pub raise-requires-clause-lower : goal.raise-requires-clause-lower
raise-requires-clause-lower c = c.as_slice.ensures.value ∙ c.loop-alloc.invariant.rates

pub first_level-requires : goal.first_level-requires
first_level-requires c = c.requires
