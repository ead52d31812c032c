use Rattle.trace_check.proofs.traces.ReadTrace.new.Goals as goal

pub of-requires-clause-trace : goal.of-requires-clause-trace
of-requires-clause-trace c = c.requires

pub of-requires-clause-told : goal.of-requires-clause-told
of-requires-clause-told c = c.in_ok-judgment.ensures.found

pub of-requires-clause-all : goal.of-requires-clause-all
of-requires-clause-all c = c.in_ok-judgment.ensures.all

pub of-requires-clause-verdict : goal.of-requires-clause-verdict
of-requires-clause-verdict c = c.in_ok-judgment.ensures.verdict

pub invariant_of-result : goal.invariant_of-result
invariant_of-result c = rw c.of.ensures (
  c.in_ok-all.ensures,
  record { processors = c.in_ok-judgment.ensures.by_processor; tasks = c.in_ok-judgment.ensures.by_task },
)

pub judge-requires : goal.judge-requires
judge-requires c = record { trace = c.requires }
