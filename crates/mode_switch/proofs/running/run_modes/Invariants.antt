use Rattle.std.proofs.Common.{◌≡◌, ◌≤◌, length, take}
use Rattle.std.specs.Vec.{vec_capacity}
use Rattle.mode_switch.specs.Runs.{RanModes, crew_held}
use Rattle.mode_switch.proofs.running.run_modes.Given as goal

abbrev pub invariant-loop-j : goal.invariant-loop-j
invariant-loop-j g l = record {
  count : length l.runs.items ≡ l.j;
  room : length l.modes.modes ≤ vec_capacity l.runs;
  ran : RanModes g.G.Gate
      (record {
        id = λ j. (g.dyn-1.0.entry j.vtable).1.id j.value;
        used = λ j. (g.dyn-1.0.entry j.vtable).1.used j.value;
        faults = λ j. (g.dyn-1.0.entry j.vtable).1.faults j.value;
        made = λ j. (g.dyn-1.0.entry j.vtable).1.made j.value;
      }) (take l.j l.modes.modes) l.window l.runs.items (crew_held l.fn.kits l.fn.jobs) (crew_held l.kits l.jobs);
}
