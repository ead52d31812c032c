-- The status at the end of a run, by how handing on went.
use Rattle.std.proofs.Common.{◌≡◌, ◌≢◌, ◌⊎◌, inl, inr, ◌∙◌, ℕ, Bool, true, false, Result, Ok, Err, OnOk, refl, ap, sym}
use Rattle.sched_edges.specs.Causes.{Rose, HasCause}
use Rattle.sched_edges.specs.declared.streams.Failed.{Failed}
use Rattle.pure_commands.specs.declared.refusal.Refusal.TheVariants as why
use Rattle.exit_status.specs.declared.Status.{Status}
use Rattle.exit_status.specs.declared.Status.TheVariants.{Done, Invalid, WriteFault}
use Rattle.pure_commands.specs.Refusals.{refusal_line}
use Rattle.pure_commands.specs.Ends.{ErrorStream, IsQuiet, Tells}
use Rattle.run_tool.specs.Closing.{closed, after_fault, TellsClosed}

module _ (before now : ℕ) (old new : ErrorStream) where
  pub closed_by_fault : (status result : Status) (flushed : Result (Unit {0}) Failed) → HasCause before now flushed → result ≡ closed status flushed
      → TellsClosed status flushed old new → result ≢ status → (result ≡ WriteFault) × Rose before now × Tells old new (refusal_line why.WriteFault)
  closed_by_fault status result (Ok _) cause is told other = absurd (other is)
  closed_by_fault Done result (Err f) cause is told other = (is, cause.failed, told)
  closed_by_fault Invalid result (Err f) cause is told other = (is, cause.failed, told)
  closed_by_fault _ result (Err f) cause is told other = absurd (other is)

  pub closed_quietly : (status result : Status) (flushed : Result (Unit {0}) Failed) → result ≡ closed status flushed
      → TellsClosed status flushed old new → result ≡ status → IsQuiet old new
  closed_quietly status result (Ok _) is told same = told
  closed_quietly Done result (Err f) is told same = absurd (let bad : Done ≡ WriteFault = sym same ∙ is in cc)
  closed_quietly Invalid result (Err f) is told same = absurd (let bad : Invalid ≡ WriteFault = sym same ∙ is in cc)
  closed_quietly _ result (Err f) is told same = told

-- the status is another one only where a whole text was told
pub closed_after_text : (status result : Status) (flushed : Result (Unit {0}) Failed) → result ≡ closed status flushed → result ≢ status
    → (status ≡ Done) ⊎ (status ≡ Invalid)
closed_after_text status result (Ok _) is other = absurd (other is)
closed_after_text Done result (Err f) is other = inl refl
closed_after_text Invalid result (Err f) is other = inr refl
closed_after_text _ result (Err f) is other = absurd (other is)

-- whether the status tells a whole text
abbrev is_whole : Status → Bool
is_whole Done = true
is_whole Invalid = true
is_whole _ = false

no_whole_fault : (status : Status) → is_whole (after_fault status) ≡ false
no_whole_fault Done = refl
no_whole_fault Invalid = refl
no_whole_fault _ = refl

-- where a whole text is told at the end, handing on went well
pub closed_whole : (P : Type 0) (status result end : Status) (flushed : Result (Unit {0}) Failed) → OnOk flushed P → result ≡ closed status flushed
    → result ≡ end → is_whole end ≡ true → P
closed_whole P status result end (Ok _) handed is ends whole = handed
closed_whole P status result end (Err f) handed is ends whole =
    absurd (let bad : true ≡ false = sym whole ∙ (ap is_whole (sym ends ∙ is) ∙ no_whole_fault status) in cc)
