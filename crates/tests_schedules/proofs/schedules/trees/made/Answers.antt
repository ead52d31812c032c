use Rattle.tests_schedules.proofs.MadeTreeLemmas.{second, third, higher, whole}
use Rattle.tests_schedules.proofs.schedules.trees.made.Goals as goal

pub leaf-requires-2-clause-first_level : goal.leaf-requires-2-clause-first_level
leaf-requires-2-clause-first_level g c = (second _ c.start-maker.ensures _ (rw c.expect.ensures at c.leaf.ensures.ok)).first_level

pub leaf-requires-2-clause-few : goal.leaf-requires-2-clause-few
leaf-requires-2-clause-few g c = (second _ c.start-maker.ensures _ (rw c.expect.ensures at c.leaf.ensures.ok)).few

pub leaf-requires-2-clause-pack : goal.leaf-requires-2-clause-pack
leaf-requires-2-clause-pack g c = (second _ c.start-maker.ensures _ (rw c.expect.ensures at c.leaf.ensures.ok)).pack

pub leaf-requires-2-clause-rate_fits : goal.leaf-requires-2-clause-rate_fits
leaf-requires-2-clause-rate_fits g c = (second _ c.start-maker.ensures _ (rw c.expect.ensures at c.leaf.ensures.ok)).rate_fits

pub leaf-requires-2-clause-within : goal.leaf-requires-2-clause-within
leaf-requires-2-clause-within g c = (second _ c.start-maker.ensures _ (rw c.expect.ensures at c.leaf.ensures.ok)).within

pub leaf-requires-3-clause-first_level : goal.leaf-requires-3-clause-first_level
leaf-requires-3-clause-first_level g c =
    let one = rw c.expect.ensures at c.leaf.ensures.ok in
    let two = rw c.expect-2.ensures at c.leaf-2.ensures.ok in
    (third _ c.start-maker.ensures _ one _ two).first_level

pub leaf-requires-3-clause-few : goal.leaf-requires-3-clause-few
leaf-requires-3-clause-few g c =
    let one = rw c.expect.ensures at c.leaf.ensures.ok in
    let two = rw c.expect-2.ensures at c.leaf-2.ensures.ok in
    (third _ c.start-maker.ensures _ one _ two).few

pub leaf-requires-3-clause-pack : goal.leaf-requires-3-clause-pack
leaf-requires-3-clause-pack g c =
    let one = rw c.expect.ensures at c.leaf.ensures.ok in
    let two = rw c.expect-2.ensures at c.leaf-2.ensures.ok in
    (third _ c.start-maker.ensures _ one _ two).pack

pub leaf-requires-3-clause-rate_fits : goal.leaf-requires-3-clause-rate_fits
leaf-requires-3-clause-rate_fits g c =
    let one = rw c.expect.ensures at c.leaf.ensures.ok in
    let two = rw c.expect-2.ensures at c.leaf-2.ensures.ok in
    (third _ c.start-maker.ensures _ one _ two).rate_fits

pub leaf-requires-3-clause-within : goal.leaf-requires-3-clause-within
leaf-requires-3-clause-within g c =
    let one = rw c.expect.ensures at c.leaf.ensures.ok in
    let two = rw c.expect-2.ensures at c.leaf-2.ensures.ok in
    (third _ c.start-maker.ensures _ one _ two).within

pub lift-requires-clause-few_levels : goal.lift-requires-clause-few_levels
lift-requires-clause-few_levels g c =
    let one = rw c.expect.ensures at c.leaf.ensures.ok in
    let two = rw c.expect-2.ensures at c.leaf-2.ensures.ok in
    let three = rw c.expect-3.ensures at c.leaf-3.ensures.ok in
    (higher _ c.start-maker.ensures _ one _ two _ three).few_levels

pub lift-requires-clause-some : goal.lift-requires-clause-some
lift-requires-clause-some g c =
    let one = rw c.expect.ensures at c.leaf.ensures.ok in
    let two = rw c.expect-2.ensures at c.leaf-2.ensures.ok in
    let three = rw c.expect-3.ensures at c.leaf-3.ensures.ok in
    (higher _ c.start-maker.ensures _ one _ two _ three).some

pub lift-requires-clause-homes : goal.lift-requires-clause-homes
lift-requires-clause-homes g c =
    let one = rw c.expect.ensures at c.leaf.ensures.ok in
    let two = rw c.expect-2.ensures at c.leaf-2.ensures.ok in
    let three = rw c.expect-3.ensures at c.leaf-3.ensures.ok in
    (higher _ c.start-maker.ensures _ one _ two _ three).homes

pub finish-requires : goal.finish-requires
finish-requires g c =
    let one = rw c.expect.ensures at c.leaf.ensures.ok in
    let two = rw c.expect-2.ensures at c.leaf-2.ensures.ok in
    let three = rw c.expect-3.ensures at c.leaf-3.ensures.ok in
    whole _ c.start-maker.ensures _ one _ two _ three _ (rw c.expect-4.ensures at c.lift.ensures.ok)
