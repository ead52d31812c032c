-- How `batch` ends, part by part: reading the bytes, and writing the answers of their pieces.
use Rattle.std.proofs.Common.{◌≡◌, ℕ, ◌+◌, List, refl}
use Rattle.std.specs.Io.KnownBytes.{Appends, Keeps}
use Rattle.std.specs.List.{AllZip}
use Rattle.sched_edges.specs.Causes.{Rose}
use Rattle.sched_edges.specs.Streams.{GaveAll, GaveAtMost, GaveCount, TookPart}
use Rattle.sched_edges.specs.declared.read.TakeFault.{TakeFault}
use Rattle.sched_edges.specs.declared.read.TakeFault.TheVariants as take_fault
use Rattle.task_reader.specs.Pieces.{pieces_of}
use Rattle.batch_compile.specs.Answers.{IsAnswer}
use Rattle.batch_compile.specs.declared.answers.Answer.{Answer}
use Rattle.std.specs.Prelude.{codes}
use Rattle.pure_commands.specs.Batch.{answer_line}
use Rattle.pure_commands.specs.Numbered.{several}
use Rattle.pure_commands.specs.Commands.{of_batch, set_limit}
use Rattle.pure_commands.specs.Ends.{Streams, IsDone, Stops}
use Rattle.pure_commands.specs.Faults.{of_take}
use Rattle.pure_commands.specs.declared.refusal.Refusal.TheVariants as why
use Rattle.exit_status.specs.declared.Status.TheVariants.{Done}

-- the text of these answers
abbrev batch_text : List Answer → List ℕ
batch_text answers = several (codes "run-batch") (codes "sets") answer_line answers

module _ (old new : Streams) where
  -- the source wasn't read to its end
  pub untaken_batch : (e : TakeFault)
      → ((count : ℕ) → e ≡ take_fault.TooLong count → (count ≡ set_limit + 1) × GaveCount old.left new.left count)
      → (e ≡ take_fault.Read → Rose old.read_faults new.read_faults) → (e ≡ take_fault.Read → GaveAtMost old.left new.left set_limit)
      → Keeps old.out new.out → Stops of_batch old new (of_take e)
  untaken_batch take_fault.Read long read few keeps = (read refl, few refl, keeps)
  untaken_batch (take_fault.TooLong count) long read few keeps = let (is, gave) = long count refl in (is, gave, keeps)
  untaken_batch take_fault.NoMemory long read few keeps = keeps

  -- the answers were written
  pub batch_told : (bytes : List ℕ) (answers : List Answer) → GaveAll old.left new.left set_limit bytes → AllZip IsAnswer (pieces_of bytes) answers
      → Appends old.out new.out (batch_text answers) → IsDone of_batch Done old new
  batch_told bytes answers all are took = record { told = (bytes, batch_text answers, all, (refl, (answers, are, refl)), took) }

  -- `out` failed
  pub batch_unwritten : (bytes : List ℕ) (answers : List Answer) → GaveAll old.left new.left set_limit bytes
      → AllZip IsAnswer (pieces_of bytes) answers → TookPart old.out new.out (batch_text answers) → Rose old.out_faults new.out_faults
      → Stops of_batch old new why.WriteFault
  batch_unwritten bytes answers all are took rose = (bytes, batch_text answers, Done, all, (refl, (answers, are, refl)), took, rose)
