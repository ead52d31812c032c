use Rattle.tests_schedules.proofs.LiftedLemmas.{second, third, higher}
use Rattle.tests_schedules.proofs.schedules.trees.lift_backwards.Goals as goal

pub leaf-requires-2-clause-first_level : goal.leaf-requires-2-clause-first_level
leaf-requires-2-clause-first_level g c = (second _ c.start-maker.ensures _ (rw c.expect.ensures at c.leaf.ensures.ok)).first_level

pub leaf-requires-2-clause-few : goal.leaf-requires-2-clause-few
leaf-requires-2-clause-few g c = (second _ c.start-maker.ensures _ (rw c.expect.ensures at c.leaf.ensures.ok)).few

pub leaf-requires-2-clause-pack : goal.leaf-requires-2-clause-pack
leaf-requires-2-clause-pack g c = (second _ c.start-maker.ensures _ (rw c.expect.ensures at c.leaf.ensures.ok)).pack

pub leaf-requires-2-clause-rate_fits : goal.leaf-requires-2-clause-rate_fits
leaf-requires-2-clause-rate_fits g c = (second _ c.start-maker.ensures _ (rw c.expect.ensures at c.leaf.ensures.ok)).rate_fits

pub leaf-requires-2-clause-within : goal.leaf-requires-2-clause-within
leaf-requires-2-clause-within g c = (second _ c.start-maker.ensures _ (rw c.expect.ensures at c.leaf.ensures.ok)).within

pub leaf-requires-3-clause-first_level : goal.leaf-requires-3-clause-first_level
leaf-requires-3-clause-first_level g c =
    let one = rw c.expect.ensures at c.leaf.ensures.ok in
    let two = rw c.expect-2.ensures at c.leaf-2.ensures.ok in
    (third _ c.start-maker.ensures _ one _ two).first_level

pub leaf-requires-3-clause-few : goal.leaf-requires-3-clause-few
leaf-requires-3-clause-few g c =
    let one = rw c.expect.ensures at c.leaf.ensures.ok in
    let two = rw c.expect-2.ensures at c.leaf-2.ensures.ok in
    (third _ c.start-maker.ensures _ one _ two).few

pub leaf-requires-3-clause-pack : goal.leaf-requires-3-clause-pack
leaf-requires-3-clause-pack g c =
    let one = rw c.expect.ensures at c.leaf.ensures.ok in
    let two = rw c.expect-2.ensures at c.leaf-2.ensures.ok in
    (third _ c.start-maker.ensures _ one _ two).pack

pub leaf-requires-3-clause-rate_fits : goal.leaf-requires-3-clause-rate_fits
leaf-requires-3-clause-rate_fits g c =
    let one = rw c.expect.ensures at c.leaf.ensures.ok in
    let two = rw c.expect-2.ensures at c.leaf-2.ensures.ok in
    (third _ c.start-maker.ensures _ one _ two).rate_fits

pub leaf-requires-3-clause-within : goal.leaf-requires-3-clause-within
leaf-requires-3-clause-within g c =
    let one = rw c.expect.ensures at c.leaf.ensures.ok in
    let two = rw c.expect-2.ensures at c.leaf-2.ensures.ok in
    (third _ c.start-maker.ensures _ one _ two).within

pub lift_order-requires-clause-few_levels : goal.lift_order-requires-clause-few_levels
lift_order-requires-clause-few_levels g c =
    let one = rw c.expect.ensures at c.leaf.ensures.ok in
    let two = rw c.expect-2.ensures at c.leaf-2.ensures.ok in
    let three = rw c.expect-3.ensures at c.leaf-3.ensures.ok in
    (higher _ c.start-maker.ensures _ one _ two _ three).few_levels

pub lift_order-requires-clause-some : goal.lift_order-requires-clause-some
lift_order-requires-clause-some g c =
    let one = rw c.expect.ensures at c.leaf.ensures.ok in
    let two = rw c.expect-2.ensures at c.leaf-2.ensures.ok in
    let three = rw c.expect-3.ensures at c.leaf-3.ensures.ok in
    (higher _ c.start-maker.ensures _ one _ two _ three).some

pub lift_order-requires-clause-order : goal.lift_order-requires-clause-order
lift_order-requires-clause-order g c =
    let one = rw c.expect.ensures at c.leaf.ensures.ok in
    let two = rw c.expect-2.ensures at c.leaf-2.ensures.ok in
    let three = rw c.expect-3.ensures at c.leaf-3.ensures.ok in
    (higher _ c.start-maker.ensures _ one _ two _ three).order
