use Rattle.std.proofs.Common.{length, ap, arith, ◌∙◌}
use Rattle.std.proofs.lemmas.List.{take_all}
use Rattle.std.proofs.lemmas.Result.{IfOk-from_err}
use Rattle.run_tree.specs.Making.{started}
use Rattle.run_tree.specs.Compiled.{pack_items, task_items}
use Rattle.run_compile.proofs.HomeLemmas.{homes_long}
use Rattle.run_compile.proofs.Level0Lemmas.{task_asks, task_count, task_put}
use Rattle.run_compile.proofs.level_0.pack_tasks.Goals as goal

pub bounds-told-j : goal.bounds-told-j
bounds-told-j c =
    let same = ap length c.requires.homes in
    let long = homes_long c.args.rates.scale c.args.rates.each.now in
    omega (arith, same, long)

pub leaf-requires-clause-first_level : goal.leaf-requires-clause-first_level
leaf-requires-clause-first_level c =
    (task_asks c.args.rates.processors c.args.rates.scale c.args.rates.each.now c.args.told.now c.requires.of_set.fit c.requires.homes c.loop-j.maker
    c.loop-j.j c.loop-j.invariant (omega arith)).first_level

pub leaf-requires-clause-few : goal.leaf-requires-clause-few
leaf-requires-clause-few c =
    let count = task_count c.args.rates.processors c.args.rates.scale c.args.rates.each.now c.args.told.now c.requires.of_set.fit c.requires.homes
    c.loop-j.maker c.loop-j.j c.loop-j.invariant (omega arith) in
    omega (arith, count)

pub leaf-requires-clause-pack : goal.leaf-requires-clause-pack
leaf-requires-clause-pack c =
    (task_asks c.args.rates.processors c.args.rates.scale c.args.rates.each.now c.args.told.now c.requires.of_set.fit c.requires.homes c.loop-j.maker
    c.loop-j.j c.loop-j.invariant (omega arith)).pack

pub leaf-requires-clause-rate_fits : goal.leaf-requires-clause-rate_fits
leaf-requires-clause-rate_fits c =
    (task_asks c.args.rates.processors c.args.rates.scale c.args.rates.each.now c.args.told.now c.requires.of_set.fit c.requires.homes c.loop-j.maker
    c.loop-j.j c.loop-j.invariant (omega arith)).rate_fits

pub leaf-requires-clause-within : goal.leaf-requires-clause-within
leaf-requires-clause-within c =
    (task_asks c.args.rates.processors c.args.rates.scale c.args.rates.each.now c.args.told.now c.requires.of_set.fit c.requires.homes c.loop-j.maker
    c.loop-j.j c.loop-j.invariant (omega arith)).within

pub loop-j-preserved : goal.loop-j-preserved
loop-j-preserved c =
    c.in_ok-leaf.ensures.ok ∙ task_put c.args.rates.processors c.args.rates.scale c.args.rates.each.now c.args.told.now c.requires.of_set.fit
    c.requires.homes c.loop-j.maker c.loop-j.j c.loop-j.invariant (omega arith)

pub start-maker-requires-clause-some_processors : goal.start-maker-requires-clause-some_processors
start-maker-requires-clause-some_processors c = c.requires.of_set.fit.some_processors

pub start-maker-requires-clause-few_processors : goal.start-maker-requires-clause-few_processors
start-maker-requires-clause-few_processors c = c.requires.of_set.few_processors

pub start-maker-requires-clause-some_scale : goal.start-maker-requires-clause-some_scale
start-maker-requires-clause-some_scale c = c.requires.of_set.fit.some_scale

pub start-maker-requires-clause-scale_fits : goal.start-maker-requires-clause-scale_fits
start-maker-requires-clause-scale_fits c = c.requires.of_set.scale_fits

pub loop-j-init : goal.loop-j-init
loop-j-init c = c.start-maker.ensures

pub returns-in_err-leaf : goal.returns-in_err-leaf
returns-in_err-leaf c = IfOk-from_err _ _ c.from_residual.ensures.0

pub leaf-requires-clause-some_rate : goal.leaf-requires-clause-some_rate
leaf-requires-clause-some_rate c =
    (task_asks c.args.rates.processors c.args.rates.scale c.args.rates.each.now c.args.told.now c.requires.of_set.fit c.requires.homes c.loop-j.maker
    c.loop-j.j c.loop-j.invariant (omega arith)).some_rate

pub returns : goal.returns
returns c =
    let off = c.loop-j-test.false in
    c.loop-j.invariant ∙ ap (λ rs. pack_items (task_items 0 rs) (started c.args.rates.processors c.args.rates.scale))
    (take_all c.loop-j.j c.args.rates.each.now (omega (arith, off)))
