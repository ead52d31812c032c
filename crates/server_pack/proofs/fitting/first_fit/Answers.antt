use Rattle.std.proofs.Common.{refl}
use Rattle.server_pack.proofs.PackLemmas.{Packs-next, Packs-rates, Packs-members, Packs-sum}
use Rattle.server_pack.proofs.fitting.first_fit.Goals as goal

pub loop-i-preserved : goal.loop-i-preserved
loop-i-preserved c =
    Packs-next c.args.scale c.loop-i.i c.args.rates.now _ c.loop-i.servers.items c.place.new.servers.items c.loop-i-test.true refl
    (c.requires.each c.loop-i.i 0 c.loop-i-test.true).1 c.loop-i.invariant c.in_ok-place.ensures

pub returns-clause-rates : goal.returns-clause-rates
returns-clause-rates c = Packs-rates c.args.scale c.loop-i.i c.args.rates.now c.loop-i.servers.items c.loop-i-test.false c.loop-i.invariant

pub returns-clause-members : goal.returns-clause-members
returns-clause-members c = Packs-members c.args.scale c.loop-i.i c.args.rates.now c.loop-i.servers.items c.loop-i-test.false c.loop-i.invariant

pub returns-clause-sum : goal.returns-clause-sum
returns-clause-sum c = Packs-sum c.args.scale c.loop-i.i c.args.rates.now c.loop-i.servers.items c.loop-i-test.false c.loop-i.invariant
