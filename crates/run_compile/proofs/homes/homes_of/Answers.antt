use Rattle.std.proofs.Common.{◌≡◌, ◌<◌, length, take, drop, ◌++◌, arith, ap, ◌∙◌}
use Rattle.std.proofs.Math.Seq.{take-append_seam}
use Rattle.std.proofs.lemmas.List.Elements.{All-from_get_or}
use Rattle.sched_base.specs.FirstFit.{homes}
use Rattle.run_compile.proofs.HomeLemmas.{all_told, told_apart, told_inside, homes_below, homes_long}
use Rattle.run_compile.proofs.homes.homes_of.Goals as goal

pub write_homes-requires-clause-inside : goal.write_homes-requires-clause-inside
write_homes-requires-clause-inside c = λ s. (
    let told = homes c.args.packing.now.scale c.args.rates.now in
    let long = homes_long c.args.packing.now.scale c.args.rates.now in
    let len = c.in_ok-told.ensures.len in
    All-from_get_or (λ x. x < length c.deref_mut.result.now) _ 0 (λ i l. (let b = told_inside c.args.packing.now.servers told c.requires.members s i l in
    omega (arith, b, long, len))))

pub write_homes-requires-clause-apart : goal.write_homes-requires-clause-apart
write_homes-requires-clause-apart c = told_apart c.args.packing.now.servers (homes c.args.packing.now.scale c.args.rates.now) c.requires.members

pub returns : goal.returns
returns c =
    let told = homes c.args.packing.now.scale c.args.rates.now in
    let long = homes_long c.args.packing.now.scale c.args.rates.now in
    let len = c.in_ok-told.ensures.len in
    let same : length c.write_homes.new.homes ≡ length told = omega (arith, long, len) in
    let is = all_told c.args.packing.now.servers told c.write_homes.new.homes c.requires.members (homes_below c.args.packing.now.scale c.args.rates.now
    c.args.packing.now.servers c.requires.rates) same c.write_homes.ensures in
    let e : c.in_ok-told.told.len ≡ length c.write_homes.new.homes = omega (arith, len) in
    ap (λ n. take n (c.write_homes.new.homes ++ drop (length c.write_homes.new.homes) c.in_ok-told.told.items)) e ∙ take-append_seam c.write_homes.new.homes
    _ ∙ is
