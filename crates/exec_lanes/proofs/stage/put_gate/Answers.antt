use Rattle.std.proofs.Common.{refl}
use Rattle.exec_lanes.proofs.stage.put_gate.Goals as goal

pub bounds-kits-p : goal.bounds-kits-p
bounds-kits-p g c = c.requires

pub bounds-kits-p-2 : goal.bounds-kits-p-2
bounds-kits-p-2 g c = c.requires

pub returns : goal.returns
returns g c = refl
