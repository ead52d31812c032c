use Rattle.std.proofs.Common.{◌≡◌, take}
use Rattle.run_tree.specs.Making.{started}
use Rattle.run_tree.specs.Compiled.{pack_items, task_items}
use Rattle.run_compile.proofs.level_0.pack_tasks.Given as goal

abbrev pub invariant-loop-j : goal.invariant-loop-j
invariant-loop-j l = l.maker ≡ pack_items (task_items 0 (take l.j l.rates.each.now)) (started l.rates.processors l.rates.scale)
