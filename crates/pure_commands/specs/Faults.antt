-- Which refusal a fault of a call below is.
use Rattle.sched_edges.specs.declared.read.TakeFault.{TakeFault}
use Rattle.sched_edges.specs.declared.read.TakeFault.TheVariants as take_fault
use Rattle.task_reader.specs.declared.refusals.ReadSet.{ReadSet}
use Rattle.task_reader.specs.declared.refusals.ReadSet.TheVariants as set
use Rattle.trace_check.specs.declared.faults.TraceFault.{TraceFault}
use Rattle.trace_check.specs.declared.faults.TraceFault.TheVariants as trace
use Rattle.trace_check.specs.declared.faults.SourceFault.{SourceFault}
use Rattle.trace_check.specs.declared.faults.SourceFault.TheVariants as unread
use Rattle.tree_reader.specs.declared.faults.TreeFault.{TreeFault}
use Rattle.tree_reader.specs.declared.faults.TreeFault.TheVariants as tree
use Rattle.tree_check.specs.declared.faults.TreeRefused.{TreeRefused}
use Rattle.tree_check.specs.declared.faults.TreeRefused.TheVariants as refused
use Rattle.rate_scale.specs.declared.loads.LoadFault.{LoadFault}
use Rattle.rate_scale.specs.declared.loads.LoadFault.TheVariants as load
use Rattle.run_compile.specs.declared.faults.CompileFault.{CompileFault}
use Rattle.run_compile.specs.declared.faults.CompileFault.TheVariants as compile
use Rattle.event_core.specs.declared.counts.CountFault.{CountFault}
use Rattle.event_core.specs.declared.counts.CountFault.TheVariants as count
use Rattle.wrap_sched.specs.declared.counts.WrapFault.{WrapFault}
use Rattle.wrap_sched.specs.declared.counts.WrapFault.TheVariants as wrap
use Rattle.job_vm.specs.declared.faults.JobTextFault.{JobTextFault}
use Rattle.job_vm.specs.declared.faults.JobTextFault.TheVariants as job_text
use Rattle.mode_join.specs.declared.faults.ModeFault.{ModeFault}
use Rattle.mode_join.specs.declared.faults.ModeFault.TheVariants as join
use Rattle.pure_commands.specs.declared.mode_refusal.ModeRefusal.TheVariants as mode
use Rattle.pure_commands.specs.declared.refusal.Refusal.{Refusal}
use Rattle.pure_commands.specs.declared.refusal.Refusal.TheVariants as why

-- of reading the source to its end
abbrev pub of_take : TakeFault → Refusal
of_take take_fault.Read = why.ReadFault
of_take (take_fault.TooLong n) = why.InputTooLong n
of_take take_fault.NoMemory = why.NoMemory

-- of reading a set
abbrev pub of_read_set : ReadSet → Refusal
of_read_set set.NoMemory = why.NoMemory
of_read_set refusal = why.BadSet refusal

-- of reading a trace text
abbrev pub of_read_trace : TraceFault → Refusal
of_read_trace (trace.BadLine line) = why.BadLine line
of_read_trace trace.NoMemory = why.NoMemory

-- of reading the trace text of a source
abbrev pub of_read_source : SourceFault → Refusal
of_read_source (unread.Unread fault) = of_take fault
of_read_source (unread.BadLine line) = why.BadLine line

-- of reading a tree text
abbrev pub of_read_tree : TreeFault → Refusal
of_read_tree (tree.BadLine line) = why.BadLine line
of_read_tree tree.NoMemory = why.NoMemory

-- of judging a tree that was read
abbrev pub of_check_tree : TreeRefused → Refusal
of_check_tree (refused.Fault line kind) = why.BadTree line kind
of_check_tree refused.NoMemory = why.NoMemory

-- of reading a job text
abbrev pub of_read_jobs : JobTextFault → Refusal
of_read_jobs (job_text.BadProgram line) = why.BadProgram line
of_read_jobs job_text.NoMemory = why.NoMemory

-- of the load of a set
abbrev pub of_load : LoadFault → Refusal
of_load (load.ScaleTooLarge at) = why.ScaleTooLarge at
of_load (load.Overload total room) = why.Overload total room

-- of compiling a set
abbrev pub of_compile : CompileFault → Refusal
of_compile (compile.ScaleTooLarge at) = why.ScaleTooLarge at
of_compile (compile.Overload total room) = why.Overload total room
of_compile compile.NoMemory = why.NoMemory

-- of counting the rounds of a schedule
abbrev pub of_count : CountFault → Refusal
of_count (count.TooLong rows) = why.TooLong rows
of_count count.NoMemory = why.NoMemory

-- of joining sets as modes
abbrev pub of_join : ModeFault → Refusal
of_join (join.Refused j kind) = why.OfMode j (mode.NotJoined kind)
of_join join.NoMemory = why.NoMemory

-- of counting the rounds of a wrapped schedule
abbrev pub of_wrap : WrapFault → Refusal
of_wrap (wrap.TooLong rows) = why.TooLong rows
of_wrap wrap.NoMemory = why.NoMemory
