use Rattle.std.proofs.Common.{length, drop, sum, ◌-◌, ◌*◌}
use Rattle.sched_base.specs.FirstFit.{packed, idles}
use Rattle.run_tree.specs.Compiled.{first_level}
use Rattle.tree_laws.proofs.IdleSteps.{IsFilling}
use Rattle.run_compile.proofs.level_0.first_level.Given as goal

abbrev pub invariant-loop-s : goal.invariant-loop-s
invariant-loop-s l = IsFilling (first_level l.rates.processors l.rates.scale l.rates.each.now) (length l.rates.each.now) l.s l.number
    (drop l.s (idles l.rates.scale (l.rates.processors * l.rates.scale - sum l.rates.each.now) (packed l.rates.scale l.rates.each.now))) l.maker
