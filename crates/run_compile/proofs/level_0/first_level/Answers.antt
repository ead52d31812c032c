use Rattle.std.proofs.Common.{ap, ℕ, ◌+◌, length, arith, ◌∙◌, sym, subst, subst₂, drop}
use Rattle.std.proofs.lemmas.Result.{IfOk-from_err}
use Rattle.sched_base.specs.FirstFit.{homes, packed}
use Rattle.server_pack.specs.Servers.{items_of}
use Rattle.run_tree.specs.Making.{Making}
use Rattle.run_tree.specs.Compiled.{first_level}
use Rattle.tree_laws.proofs.IdleSteps.{IsFilling, idle_start}
use Rattle.run_compile.proofs.Level0Lemmas.{asked_of, asked_limit, idles_asked, idle_told, idles_long, fill_skip, fill_asks, fill_put, fill_end}
use Rattle.run_compile.proofs.level_0.first_level.Goals as goal

pub loop-s-init : goal.loop-s-init
loop-s-init c =
    let P : Making → Type 0 = λ m. IsFilling (first_level c.args.rates.processors c.args.rates.scale c.args.rates.each.now) (length c.args.rates.each.now) 0
    0 (asked_of c.args.rates.processors c.args.rates.scale c.args.rates.each.now) m in
    subst P (sym c.in_ok-maker.ensures) (idle_start c.args.rates.processors c.args.rates.scale c.args.rates.each.now c.requires.fit)

pub packed_tasks-requires-clause-rates : goal.packed_tasks-requires-clause-rates
packed_tasks-requires-clause-rates c = c.in_ok-packing.ensures.rates ∙ ap (λ (l : ℕ). packed l c.args.rates.each.now) (sym c.in_ok-packing.ensures.scale)

pub packed_tasks-requires-clause-members : goal.packed_tasks-requires-clause-members
packed_tasks-requires-clause-members c = λ b. c.in_ok-packing.ensures.members b ∙ ap (λ (l : ℕ). items_of (homes l c.args.rates.each.now) b)
    (sym c.in_ok-packing.ensures.scale)

pub leaf-requires-clause-first_level : goal.leaf-requires-clause-first_level
leaf-requires-clause-first_level c =
    let told = idles_asked c.args.rates.processors c.args.rates.scale c.args.rates.each.now c.in_ok-packing.packing.servers c.fill.new.packing.servers
    c.in_ok-packing.ensures.rates c.in_ok-packing.ensures.sum c.in_ok-fill.ensures.filled in
    let asked = asked_of c.args.rates.processors c.args.rates.scale c.args.rates.each.now in
    let long = idles_long c.fill.new.packing.servers asked told in
    let is = c.idle-rate.ensures ∙ idle_told c.fill.new.packing.servers asked c.loop-s.s told (omega arith) in
    (fill_asks (first_level c.args.rates.processors c.args.rates.scale c.args.rates.each.now) c.loop-s.maker (length c.args.rates.each.now) c.loop-s.s
    c.loop-s.number c.idle-rate.result asked c.loop-s.invariant (omega (arith, long)) is (omega arith)).first_level

pub leaf-requires-clause-pack : goal.leaf-requires-clause-pack
leaf-requires-clause-pack c =
    let told = idles_asked c.args.rates.processors c.args.rates.scale c.args.rates.each.now c.in_ok-packing.packing.servers c.fill.new.packing.servers
    c.in_ok-packing.ensures.rates c.in_ok-packing.ensures.sum c.in_ok-fill.ensures.filled in
    let asked = asked_of c.args.rates.processors c.args.rates.scale c.args.rates.each.now in
    let long = idles_long c.fill.new.packing.servers asked told in
    let is = c.idle-rate.ensures ∙ idle_told c.fill.new.packing.servers asked c.loop-s.s told (omega arith) in
    (fill_asks (first_level c.args.rates.processors c.args.rates.scale c.args.rates.each.now) c.loop-s.maker (length c.args.rates.each.now) c.loop-s.s
    c.loop-s.number c.idle-rate.result asked c.loop-s.invariant (omega (arith, long)) is (omega arith)).pack

pub leaf-requires-clause-few : goal.leaf-requires-clause-few
leaf-requires-clause-few c =
    let counted = c.loop-s.invariant.counted in
    let few = c.loop-s.invariant.few in
    let told = idles_asked c.args.rates.processors c.args.rates.scale c.args.rates.each.now c.in_ok-packing.packing.servers c.fill.new.packing.servers
    c.in_ok-packing.ensures.rates c.in_ok-packing.ensures.sum c.in_ok-fill.ensures.filled in
    let long = idles_long c.fill.new.packing.servers (asked_of c.args.rates.processors c.args.rates.scale c.args.rates.each.now) told in
    let limit = asked_limit c.args.rates.processors c.args.rates.scale c.args.rates.each.now c.requires.fit c.requires.few_processors c.requires.few_tasks in
    omega (arith, counted, few, long, limit)

pub leaf-requires-clause-rate_fits : goal.leaf-requires-clause-rate_fits
leaf-requires-clause-rate_fits c =
    let told = idles_asked c.args.rates.processors c.args.rates.scale c.args.rates.each.now c.in_ok-packing.packing.servers c.fill.new.packing.servers
    c.in_ok-packing.ensures.rates c.in_ok-packing.ensures.sum c.in_ok-fill.ensures.filled in
    let asked = asked_of c.args.rates.processors c.args.rates.scale c.args.rates.each.now in
    let long = idles_long c.fill.new.packing.servers asked told in
    let is = c.idle-rate.ensures ∙ idle_told c.fill.new.packing.servers asked c.loop-s.s told (omega arith) in
    (fill_asks (first_level c.args.rates.processors c.args.rates.scale c.args.rates.each.now) c.loop-s.maker (length c.args.rates.each.now) c.loop-s.s
    c.loop-s.number c.idle-rate.result asked c.loop-s.invariant (omega (arith, long)) is (omega arith)).rate_fits

pub leaf-requires-clause-within : goal.leaf-requires-clause-within
leaf-requires-clause-within c =
    let told = idles_asked c.args.rates.processors c.args.rates.scale c.args.rates.each.now c.in_ok-packing.packing.servers c.fill.new.packing.servers
    c.in_ok-packing.ensures.rates c.in_ok-packing.ensures.sum c.in_ok-fill.ensures.filled in
    let asked = asked_of c.args.rates.processors c.args.rates.scale c.args.rates.each.now in
    let long = idles_long c.fill.new.packing.servers asked told in
    let is = c.idle-rate.ensures ∙ idle_told c.fill.new.packing.servers asked c.loop-s.s told (omega arith) in
    (fill_asks (first_level c.args.rates.processors c.args.rates.scale c.args.rates.each.now) c.loop-s.maker (length c.args.rates.each.now) c.loop-s.s
    c.loop-s.number c.idle-rate.result asked c.loop-s.invariant (omega (arith, long)) is (omega arith)).within

pub loop-s-preserved : goal.loop-s-preserved
loop-s-preserved c =
    let told = idles_asked c.args.rates.processors c.args.rates.scale c.args.rates.each.now c.in_ok-packing.packing.servers c.fill.new.packing.servers
    c.in_ok-packing.ensures.rates c.in_ok-packing.ensures.sum c.in_ok-fill.ensures.filled in
    let asked = asked_of c.args.rates.processors c.args.rates.scale c.args.rates.each.now in
    let long = idles_long c.fill.new.packing.servers asked told in
    let is = c.idle-rate.ensures ∙ idle_told c.fill.new.packing.servers asked c.loop-s.s told (omega arith) in
    let whole = first_level c.args.rates.processors c.args.rates.scale c.args.rates.each.now in
    let tasks = length c.args.rates.each.now in
    let P : Making → ℕ → Type 0 = λ m k. IsFilling whole tasks (c.loop-s.s + 1) k (drop (c.loop-s.s + 1) asked) m in
    elim c.if-rate-gt0.branch [
      | goal.then-rate-gt0+in_ok-leaf w ↦
          subst₂ P (sym (w.maker-is ∙ w.in_ok-leaf.ensures.ok)) (sym w.number-is) (fill_put whole c.loop-s.maker tasks c.loop-s.s c.loop-s.number
          c.idle-rate.result asked c.loop-s.invariant (omega (arith, long)) is (omega arith))
      | goal.else-rate-gt0 w ↦
          subst₂ P (sym w.maker-is) (sym w.number-is) (fill_skip whole c.loop-s.maker tasks c.loop-s.s c.loop-s.number c.idle-rate.result asked
          c.loop-s.invariant (omega (arith, long)) is (omega arith))
    ]

pub returns : goal.returns
returns c =
    let told = idles_asked c.args.rates.processors c.args.rates.scale c.args.rates.each.now c.in_ok-packing.packing.servers c.fill.new.packing.servers
    c.in_ok-packing.ensures.rates c.in_ok-packing.ensures.sum c.in_ok-fill.ensures.filled in
    let asked = asked_of c.args.rates.processors c.args.rates.scale c.args.rates.each.now in
    let long = idles_long c.fill.new.packing.servers asked told in
    fill_end (first_level c.args.rates.processors c.args.rates.scale c.args.rates.each.now) c.loop-s.maker (length c.args.rates.each.now) c.loop-s.s
    c.loop-s.number asked c.loop-s.invariant (omega (arith, long))

pub first_fit-requires-clause-scale : goal.first_fit-requires-clause-scale
first_fit-requires-clause-scale c = c.requires.scale_fits

pub first_fit-requires-clause-each : goal.first_fit-requires-clause-each
first_fit-requires-clause-each c = c.requires.fit.each

pub first_fit-requires-clause-few : goal.first_fit-requires-clause-few
first_fit-requires-clause-few c = omega (arith, c.requires.few_tasks)

pub returns-in_err-packing : goal.returns-in_err-packing
returns-in_err-packing c = IfOk-from_err _ _ c.from_residual.ensures.0

pub returns-in_err-maker : goal.returns-in_err-maker
returns-in_err-maker c = IfOk-from_err _ _ c.from_residual-in_err-maker.ensures.0

pub returns-in_err-fill : goal.returns-in_err-fill
returns-in_err-fill c = IfOk-from_err _ _ c.from_residual-in_err-fill.ensures.0

pub returns-in_err-leaf : goal.returns-in_err-leaf
returns-in_err-leaf c = IfOk-from_err _ _ c.from_residual-in_err-leaf.ensures.0

pub packed_tasks-requires-clause-scale : goal.packed_tasks-requires-clause-scale
packed_tasks-requires-clause-scale c = c.in_ok-packing.ensures.scale

pub fill-requires-clause-made : goal.fill-requires-clause-made
fill-requires-clause-made c = c.in_ok-packing.ensures.scale

pub fill-requires-clause-no_idle : goal.fill-requires-clause-no_idle
fill-requires-clause-no_idle c = c.in_ok-packing.ensures.no_idle

pub fill-requires-clause-few : goal.fill-requires-clause-few
fill-requires-clause-few c = c.requires.few_processors

pub fill-requires-clause-fits : goal.fill-requires-clause-fits
fill-requires-clause-fits c = let sum = c.in_ok-packing.ensures.sum in let fit = c.requires.fit.fit in omega (arith, sum, fit)

pub packed_tasks-requires-clause-of_set : goal.packed_tasks-requires-clause-of_set
packed_tasks-requires-clause-of_set c = c.requires
