-- How reading a job text with its set ends.
use Rattle.std.proofs.Common.{◌≡◌, ◌≢◌, inl, inr, ℕ, ◌+◌, ◌-◌, List, Option, Some, None}
use Rattle.std.proofs.Common.{Result, Ok, Err, length, take, drop, length-drop, refl, sym, ◌∙◌, ap, arith}
use Rattle.std.proofs.lemmas.List.{take_all}
use Rattle.sched_base.specs.Sets.{SetContents}
use Rattle.sched_edges.specs.Causes.{Rose}
use Rattle.sched_edges.specs.Streams.{GaveAll, GaveAtMost, GaveCount}
use Rattle.sched_edges.specs.declared.read.TakeFault.{TakeFault}
use Rattle.sched_edges.specs.declared.read.TakeFault.TheVariants as take_fault
use Rattle.task_reader.specs.Reading.{set_read_from}
use Rattle.task_reader.specs.declared.refusals.ReadSet.{ReadSet}
use Rattle.task_reader.specs.declared.refusals.ReadSet.TheVariants as set
use Rattle.job_vm.specs.Faults.{NamesBadLine}
use Rattle.job_vm.specs.Programs.{JobTextHeld, reading}
use Rattle.job_vm.specs.Strays.{first_stray}
use Rattle.job_vm.specs.declared.faults.JobTextFault.{JobTextFault}
use Rattle.job_vm.specs.declared.faults.JobTextFault.TheVariants as job_text
use Rattle.pure_commands.specs.Faults.{of_take, of_read_set, of_read_jobs}
use Rattle.pure_commands.specs.declared.refusal.Refusal.{Refusal}
use Rattle.pure_commands.specs.declared.refusal.Refusal.TheVariants as why
use Rattle.run_tool.specs.JobPrograms.{ReadsJobs, set_bytes}
use Rattle.run_tool.specs.JobInput.{GaveJobs, GaveNoJobs, RefusesJobText}

-- ---- the source

module _ (left left' : Option (List ℕ)) (limit faults faults' : ℕ) where
  -- where the source wasn't read to its end, no job text was read
  pub untaken_jobs : (e : TakeFault)
      → ((count : ℕ) → e ≡ take_fault.TooLong count → (count ≡ limit + 1) × GaveCount left left' count)
      → (e ≡ take_fault.Read → Rose faults faults') → (e ≡ take_fault.Read → GaveAtMost left left' limit)
      → GaveNoJobs left left' faults faults' limit (of_take e)
  untaken_jobs take_fault.Read long read few = (read refl, few refl)
  untaken_jobs (take_fault.TooLong count) long read few = long count refl
  untaken_jobs take_fault.NoMemory long read few = tt

  -- its bytes are no job text with its set
  pub unread_jobs : (bytes : List ℕ) (r : Refusal) → GaveAll left left' limit bytes → RefusesJobText bytes r → GaveNoJobs left left' faults faults' limit r
  unread_jobs bytes (why.BadProgram line) all refused = (bytes, all, refused)
  unread_jobs bytes (why.BadSet q) all refused = (bytes, all, refused)
  unread_jobs bytes why.NoMemory all refused = tt
  unread_jobs bytes _ all refused = absurd refused

-- its bytes are one
pub jobs_read : (left left' : Option (List ℕ)) (limit : ℕ) (bytes : List ℕ) (text : JobTextHeld) (s : SetContents) → GaveAll left left' limit bytes
    → ReadsJobs bytes text s → GaveJobs left left' limit text s
jobs_read left left' limit bytes text s all reads = record { gave = (bytes, all, reads) }

-- ---- the bytes

-- what stands behind the programs
pub rest_is : (bytes : List ℕ) (text : JobTextHeld) (start : ℕ) → start ≡ text.set_start → take (length bytes - start) (drop start bytes) ≡ set_bytes text bytes
rest_is bytes text start same =
    take_all (length bytes - start) (drop start bytes) (omega (arith, length-drop start bytes)) ∙ ap (λ n. drop n bytes) same

-- what reading a set answers, want of memory aside
abbrev AnswersSet : List ℕ → Result SetContents ReadSet → Type 0
AnswersSet bytes answer = answer ≢ Err set.NoMemory → answer ≡ set_read_from bytes

-- a line of the programs is at fault
pub bad_line : (bytes : List ℕ) (e : JobTextFault) → NamesBadLine (reading bytes) e → RefusesJobText bytes (of_read_jobs e)
bad_line bytes (job_text.BadProgram line) names = inl names
bad_line bytes job_text.NoMemory names = tt

module _ (bytes rest : List ℕ) (text : JobTextHeld) (read : reading bytes ≡ Ok text) (is : rest ≡ set_bytes text bytes) where
  -- the rest is no set
  pub no_set : (q : ReadSet) → AnswersSet rest (Err q) → RefusesJobText bytes (of_read_set q)
  no_set set.NoMemory answers = tt
  no_set q answers = (
    text,
    read,
    sym (answers (λ e. let bad : ◌≡◌ {A = Result SetContents ReadSet} _ _ = e in cc) ∙ ap set_read_from is),
  )

  set_is : (s : SetContents) → AnswersSet rest (Ok s) → set_read_from (set_bytes text bytes) ≡ Ok s
  set_is s answers =
      sym (answers (λ e. let bad : ◌≡◌ {A = Result SetContents ReadSet} (Ok s) (Err set.NoMemory) = e in cc) ∙ ap set_read_from is)

  -- a program is of no task of the set
  pub stray_program : (s : SetContents) (line : ℕ) → AnswersSet rest (Ok s) → first_stray s.tasks text.programs ≡ Some line
      → RefusesJobText bytes (why.BadProgram line)
  stray_program s line answers stray = inr (text, s, read, set_is s answers, stray)

  -- each is of one
  pub set_read : (s : SetContents) → AnswersSet rest (Ok s) → first_stray s.tasks text.programs ≡ None → ReadsJobs bytes text s
  set_read s answers named = record { read = read; set = set_is s answers; named = named }
