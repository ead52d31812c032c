-- Plans and traces that begin anew.
use Rattle.std.specs.Prelude.{ℕ, ◌*◌, ◌^◌, ◌≤◌}
use Rattle.sched_base.specs.Sets.{IsLawful}
use Rattle.run_tree.specs.Plans.{PlanContents}
use Rattle.run_tree.specs.TreeOfSet.{IsTreeOf}
use Rattle.trace_check.specs.Traces.{Trace}
use Rattle.repeat_laws.specs.Repeats.{repeated, up_to}

-- the trace n times: up to n times the horizon, with the rows n times one after the other
abbrev pub times : ℕ → Trace → Trace
times n t = record t {
  set = up_to (n * t.set.horizon) t.set;
  rows = repeated (t.set.horizon * t.scale) t.rows n;
}

-- a lawful set with a reduction tree of it, whose scale is within its limit
pub record HasTree (p : PlanContents) : Type 0 where
  pub lawful : IsLawful p.set
  pub tree : IsTreeOf p.set p.tree
  pub scale_fits : p.tree.scale ≤ 2 ^ 94
