-- Bytes of a job text are told of, or refused with one status.
use Rattle.std.proofs.Common.{false, ◌≡◌, ◌⊎◌, inl, inr, ℕ, List, Result, Ok, Err, refl, sym, ◌∙◌, ap, subst}
use Rattle.sched_base.specs.Sets.{SetContents}
use Rattle.task_reader.specs.Reading.{set_read_from}
use Rattle.task_reader.specs.declared.refusals.ReadSet.{ReadSet}
use Rattle.job_vm.specs.Programs.{JobTextHeld, reading as job_reading}
use Rattle.job_vm.specs.Strays.{first_stray}
use Rattle.sched_edges.proofs.Pieces.{ok_is_no_fault}
use Rattle.command_words.proofs.WordLemmas.{no_some}
use Rattle.pure_commands.specs.declared.refusal.Refusal.{Refusal}
use Rattle.pure_commands.specs.declared.refusal.Refusal.TheVariants as why
use Rattle.exit_status.specs.declared.Status.TheVariants.{Done}
use Rattle.pure_commands.specs.Refusals.{status_of, set_status}
use Rattle.pure_commands.specs.SetTexts.{schedule_rows, text_of, RefusesText}
use Rattle.pure_commands.proofs.AnswerLemmas.{set_writes_or_refuses, one_text_status}
use Rattle.run_tool.specs.JobPrograms.{ReadsJobs, IsJobsToRun, set_bytes, HasBadProgram, RefusesJobs}

same_value : {T E : Type 0} (a b : T) → ◌≡◌ {A = Result T E} (Ok a) (Ok b) → a ≡ b
same_value a b e = cc

same_fault : {T E : Type 0} (a b : E) → ◌≡◌ {A = Result T E} (Err a) (Err b) → a ≡ b
same_fault a b e = cc

same_text : (bytes : List ℕ) (t u : JobTextHeld) → job_reading bytes ≡ Ok t → job_reading bytes ≡ Ok u → t ≡ u
same_text bytes t u a b = same_value t u (sym a ∙ b)

-- a job text with a set behind it has no refusal of that set, and no other set
same_job_set : (bytes : List ℕ) (t u : JobTextHeld) (r : Result SetContents ReadSet) (s : SetContents) → ReadsJobs bytes t s → job_reading bytes ≡ Ok u
    → set_read_from (set_bytes u bytes) ≡ r → Ok s ≡ r
same_job_set bytes t u r s reads read set =
    sym reads.set ∙ (ap (λ (x : JobTextHeld). set_read_from (set_bytes x bytes)) (same_text bytes t u reads.read read) ∙ set)

-- a job text whose programs are all of tasks has none that is bad
no_bad_program : (bytes : List ℕ) (t : JobTextHeld) (s : SetContents) (line : ℕ) → ReadsJobs bytes t s → HasBadProgram bytes line → ⊥
no_bad_program bytes t s line reads (inl stops) =
    ok_is_no_fault (sym reads.read ∙ stops)
no_bad_program bytes t s line reads (inr stray) =
    let (u, v, read, set, strays) = stray in
    let text : t ≡ u = same_text bytes t u reads.read read in
    let same : s ≡ v = same_value s v (same_job_set bytes t u (Ok v) s reads read set) in
    no_some line (sym reads.named ∙ ((λ i. first_stray (same i).tasks (text i).programs) ∙ strays))

-- bytes are refused as a job text, for the set behind it, or for the schedule of that set
abbrev AsJobs : List ℕ → Refusal → Type 0
AsJobs bytes r =
    ((line : ℕ) × (why.BadProgram line ≡ r) × HasBadProgram bytes line)
    ⊎ (((q : ReadSet) × (why.BadSet q ≡ r) × ((t : JobTextHeld) × (job_reading bytes ≡ Ok t) × (set_read_from (set_bytes t bytes) ≡ Err q)))
    ⊎ ((t : JobTextHeld) × (s : SetContents) × ReadsJobs bytes t s × RefusesText (schedule_rows false) (set_bytes t bytes) r))

as_jobs : (bytes : List ℕ) (r : Refusal) → RefusesJobs bytes r → AsJobs bytes r
as_jobs bytes (why.BadProgram line) refuses = inl (line, refl, refuses)
as_jobs bytes (why.BadSet q) refuses = inr (inl (q, refl, refuses))
as_jobs bytes _ refuses = inr (inr refuses)

no_bad_set : (bytes : List ℕ) (t u : JobTextHeld) (s : SetContents) (q : ReadSet) → ReadsJobs bytes t s → job_reading bytes ≡ Ok u →
    set_read_from (set_bytes u bytes) ≡ Err q → ⊥
no_bad_set bytes t u s q reads read set = ok_is_no_fault (same_job_set bytes t u (Err q) s reads read set)

-- nothing is told of the jobs of bytes that are refused
pub jobs_or_refused : (bytes : List ℕ) (t : JobTextHeld) (s : SetContents) (scale : ℕ) (r : Refusal) → IsJobsToRun bytes t s scale → RefusesJobs bytes r → ⊥
jobs_or_refused bytes t s scale r run refuses =
    elim (as_jobs bytes r refuses) [
      | inl bad ↦ no_bad_program bytes t s bad.0 run.reads bad.2
      | inr (inl set) ↦ no_bad_set bytes t set.2.0 s set.0 run.reads set.2.1 set.2.2
      | inr (inr other) ↦
          let same : other.0 ≡ t = same_text bytes other.0 t other.2.read run.reads.read in
          set_writes_or_refuses (schedule_rows false) (set_bytes t bytes) (text_of (schedule_rows false) s scale) Done r
          (refl, (s, scale, run.scaled, run.fits, run.room, refl))
          (subst (λ (x : JobTextHeld). RefusesText (schedule_rows false) (set_bytes x bytes) r) same other.3)
    ]

-- a bad program isn't a bad set
no_both : (bytes : List ℕ) (u : JobTextHeld) (line : ℕ) (q : ReadSet) → HasBadProgram bytes line → job_reading bytes ≡ Ok u →
    set_read_from (set_bytes u bytes) ≡ Err q → ⊥
no_both bytes u line q (inl stops) read set = ok_is_no_fault (sym read ∙ stops)
no_both bytes u line q (inr stray) read set =
    let (t, s, there, ok, strays) = stray in
    let same : t ≡ u = same_text bytes t u there read in
    ok_is_no_fault (sym ok ∙ (ap (λ (x : JobTextHeld). set_read_from (set_bytes x bytes)) same ∙ set))

-- a bad set is so for one reason
one_bad_set : (bytes : List ℕ) (t u : JobTextHeld) (r q : ReadSet) → job_reading bytes ≡ Ok t → set_read_from (set_bytes t bytes) ≡ Err r
    → job_reading bytes ≡ Ok u → set_read_from (set_bytes u bytes) ≡ Err q → r ≡ q
one_bad_set bytes t u r q read set read' set' =
    same_fault r q (sym set ∙ (ap (λ (x : JobTextHeld). set_read_from (set_bytes x bytes)) (same_text bytes t u read read') ∙ set'))

-- bytes where a job text is wanted are refused with one status
pub one_jobs_status : (bytes : List ℕ) (r q : Refusal) → RefusesJobs bytes r → RefusesJobs bytes q → status_of r ≡ status_of q
one_jobs_status bytes r q a b =
    elim (as_jobs bytes r a) [
      | inl bad ↦ elim (as_jobs bytes q b) [
        | inl other ↦ sym (ap status_of bad.1) ∙ ap status_of other.1
        | inr (inl set) ↦ absurd (no_both bytes set.2.0 bad.0 set.0 bad.2 set.2.1 set.2.2)
        | inr (inr held) ↦ absurd (no_bad_program bytes held.0 held.1 bad.0 held.2 bad.2)
      ]
      | inr (inl set) ↦ elim (as_jobs bytes q b) [
        | inl bad ↦ absurd (no_both bytes set.2.0 bad.0 set.0 bad.2 set.2.1 set.2.2)
        | inr (inl other) ↦
            let one = one_bad_set bytes set.2.0 other.2.0 set.0 other.0 set.2.1 set.2.2 other.2.1 other.2.2 in
            sym (ap status_of set.1) ∙ (ap set_status one ∙ ap status_of other.1)
        | inr (inr held) ↦ absurd (no_bad_set bytes held.0 set.2.0 held.1 set.0 held.2 set.2.1 set.2.2)
      ]
      | inr (inr held) ↦ elim (as_jobs bytes q b) [
        | inl bad ↦ absurd (no_bad_program bytes held.0 held.1 bad.0 held.2 bad.2)
        | inr (inl set) ↦ absurd (no_bad_set bytes held.0 set.2.0 held.1 set.0 held.2 set.2.1 set.2.2)
        | inr (inr other) ↦
            let same : other.0 ≡ held.0 = same_text bytes other.0 held.0 other.2.read held.2.read in
            one_text_status (schedule_rows false) (set_bytes held.0 bytes) r q held.3
            (subst (λ (x : JobTextHeld). RefusesText (schedule_rows false) (set_bytes x bytes) q) same other.3)
      ]
    ]
