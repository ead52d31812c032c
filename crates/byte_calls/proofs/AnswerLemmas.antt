-- What streams in memory took is what is answered.
use Rattle.std.proofs.Common.{◌≡◌, ◌≢◌, ◌⊎◌, inl, inr, ℕ, ◌+◌, ◌≤◌, ◌<◌, List, [], ◌++◌, length, Some, refl}
use Rattle.std.proofs.Common.{sym, ◌∙◌, ap, subst, arith, append-nil, length-append}
use Rattle.sched_edges.specs.Causes.{Rose}
use Rattle.sched_edges.specs.Streams.{GaveAll, GaveCount}
use Rattle.command_words.specs.declared.command.Reading.{Reading}
use Rattle.pure_commands.specs.declared.refusal.Refusal.{Refusal}
use Rattle.pure_commands.specs.declared.refusal.Refusal.TheVariants as why
use Rattle.exit_status.specs.declared.Status.{Status}
use Rattle.exit_status.specs.declared.Status.TheVariants as status
use Rattle.pure_commands.specs.Commands.{Output, output_of, limit_of, Writes, Refuses}
use Rattle.pure_commands.specs.Ends.{Streams, ErrorStream, Tells, StopsAs, Stops, IsAnswer, Answers, Ends}
use Rattle.pure_commands.proofs.StreamLemmas.{streams, error_stream}
use Rattle.pure_commands.specs.Refusals.{status_of, refusal_line}
use Rattle.byte_calls.specs.Answers.{IsWhyNot, IsAnswered}

-- ---- what was read and written

-- a source of these bytes gave just these
same_bytes : (bytes given left : List ℕ) (most : ℕ) → GaveAll (Some bytes) (Some left) most given → given ≡ bytes
same_bytes bytes given left most all = sym (all.gave ∙ ap (λ r. given ++ r) all.ended ∙ append-nil given)

-- no fault rises from none to none
no_fault : Rose 0 0 → ⊥
no_fault rose = omega (arith, rose)

-- more bytes than these were given
too_many : (bytes left : List ℕ) (most count : ℕ) → count ≡ most + 1 → GaveCount (Some bytes) (Some left) count → most < length bytes
too_many bytes left most count is gave =
    let (given, long, all) = gave.gave in
    let parts : length bytes ≡ length given + length left = ap length all ∙ length-append given left in
    omega (arith, is, long, parts)

-- the bytes are refused
refused_bytes : (Refuses : List ℕ → Type 0) (most : ℕ) (bytes left : List ℕ)
    → (given : List ℕ) → GaveAll (Some bytes) (Some left) most given → Refuses given → (length bytes ≤ most) × Refuses bytes
refused_bytes Refuses most bytes left given all refuses =
    let same : given ≡ bytes = same_bytes bytes given left most all in
    (subst (λ (xs : List ℕ). length xs ≤ most) same all.within, subst Refuses same refuses)

-- why there is no text, where the sink didn't fail and memory was there
why_not : (o : Output) (bytes left out : List ℕ) (refusal : Refusal)
    → StopsAs (limit_of o) (Writes o) (Refuses o) (streams (Some bytes) 0 (Some []) 0) (streams (Some left) 0 (Some out) 0) refusal
    → status_of refusal ≢ status.NoMemory → IsWhyNot o bytes refusal
why_not o bytes left out why.Usage stops memory = stops
why_not o bytes left out why.ReadFault stops memory = no_fault stops.0
why_not o bytes left out why.WriteFault stops memory = no_fault stops.6
why_not o bytes left out why.NoMemory stops memory = memory refl
why_not o bytes left out (why.InputTooLong count) stops memory =
    (stops.0, too_many bytes left (limit_of o) count stops.0 stops.1)
why_not o bytes left out (why.BadSet r) stops memory =
    refused_bytes (λ xs. Refuses o xs (why.BadSet r)) (limit_of o) bytes left stops.0 stops.1 stops.2
why_not o bytes left out (why.BadLine line) stops memory =
    refused_bytes (λ xs. Refuses o xs (why.BadLine line)) (limit_of o) bytes left stops.0 stops.1 stops.2
why_not o bytes left out (why.BadProgram line) stops memory =
    refused_bytes (λ xs. Refuses o xs (why.BadProgram line)) (limit_of o) bytes left stops.0 stops.1 stops.2
why_not o bytes left out (why.Overload total room) stops memory =
    refused_bytes (λ xs. Refuses o xs (why.Overload total room)) (limit_of o) bytes left stops.0 stops.1 stops.2
why_not o bytes left out (why.ScaleTooLarge task) stops memory =
    refused_bytes (λ xs. Refuses o xs (why.ScaleTooLarge task)) (limit_of o) bytes left stops.0 stops.1 stops.2
why_not o bytes left out (why.TooLong rows) stops memory =
    refused_bytes (λ xs. Refuses o xs (why.TooLong rows)) (limit_of o) bytes left stops.0 stops.1 stops.2
why_not o bytes left out (why.GateFault row name) stops memory =
    refused_bytes (λ xs. Refuses o xs (why.GateFault row name)) (limit_of o) bytes left stops.0 stops.1 stops.2
why_not o bytes left out (why.JobFault row name) stops memory =
    refused_bytes (λ xs. Refuses o xs (why.JobFault row name)) (limit_of o) bytes left stops.0 stops.1 stops.2
why_not o bytes left out (why.BadTree line kind) stops memory =
    refused_bytes (λ xs. Refuses o xs (why.BadTree line kind)) (limit_of o) bytes left stops.0 stops.1 stops.2
why_not o bytes left out (why.TooWide ticks) stops memory =
    refused_bytes (λ xs. Refuses o xs (why.TooWide ticks)) (limit_of o) bytes left stops.0 stops.1 stops.2
why_not o bytes left out (why.NoRepeat task) stops memory =
    refused_bytes (λ xs. Refuses o xs (why.NoRepeat task)) (limit_of o) bytes left stops.0 stops.1 stops.2
why_not o bytes left out (why.WideRepeat units) stops memory =
    refused_bytes (λ xs. Refuses o xs (why.WideRepeat units)) (limit_of o) bytes left stops.0 stops.1 stops.2
why_not o bytes left out (why.OfMode j refusal) stops memory =
    refused_bytes (λ xs. Refuses o xs (why.OfMode j refusal)) (limit_of o) bytes left stops.0 stops.1 stops.2

-- the whole line was told, since nothing failed
whole_line : (line told : List ℕ) → Tells (error_stream (Some []) 0) (error_stream (Some told) 0) line → told ≡ line
whole_line line told tells = elim tells.told [ inl whole ↦ whole | inr part ↦ absurd (no_fault part.1) ]

-- ---- how a reading over bytes ends

-- the source and `out` over bytes, before and after
abbrev pub before : List ℕ → Streams
before bytes = streams (Some bytes) 0 (Some []) 0

abbrev pub after : List ℕ → List ℕ → Streams
after left out = streams (Some left) 0 (Some out) 0

-- `err`, before and after
abbrev pub quiet : ErrorStream
quiet = error_stream (Some []) 0

abbrev pub took : List ℕ → ErrorStream
took line = error_stream (Some line) 0

-- a refusal of a reading
abbrev Stopped : Reading → List ℕ → List ℕ → List ℕ → List ℕ → Status → Type 0
Stopped r bytes left out line s =
    (refusal : Refusal) × (status_of refusal ≡ s) × Stops (output_of r) (before bytes) (after left out) refusal
    × Tells quiet (took line) (refusal_line refusal)

-- and how it is answered
abbrev Answered : Reading → List ℕ → List ℕ → Status → Type 0
Answered r bytes line s =
    (refusal : Refusal) × (status_of refusal ≡ s) × IsWhyNot (output_of r) bytes refusal × (line ≡ refusal_line refusal)

stopped_answered : (r : Reading) (bytes left out line : List ℕ) (s : Status) → s ≢ status.NoMemory → Stopped r bytes left out line s
    → Answered r bytes line s
stopped_answered r bytes left out line s memory stopped =
    let (refusal, is, stops, tells) = stopped in
    let reason : IsWhyNot (output_of r) bytes refusal =
    why_not (output_of r) bytes left out refusal stops (λ e. memory (sym is ∙ e)) in
    (refusal, is, reason, whole_line (refusal_line refusal) line tells)

-- a reading that is refused is answered with the line of the refusal
refused_answered : (r : Reading) (s : Status) (bytes left out line : List ℕ) → s ≢ status.Done → s ≢ status.Invalid → s ≢ status.NoMemory
    → Ends (output_of r) (before bytes) (after left out) quiet (took line) s → IsAnswered (output_of r) bytes s line
refused_answered r status.Done bytes left out line done invalid memory ends = absurd (done refl)
refused_answered r status.Invalid bytes left out line done invalid memory ends = absurd (invalid refl)
refused_answered r status.NoMemory bytes left out line done invalid memory ends = absurd (memory refl)
refused_answered r status.Usage bytes left out line done invalid memory ends = stopped_answered r bytes left out line status.Usage memory ends
refused_answered r status.ReadFault bytes left out line done invalid memory ends = stopped_answered r bytes left out line status.ReadFault memory ends
refused_answered r status.WriteFault bytes left out line done invalid memory ends = stopped_answered r bytes left out line status.WriteFault memory ends
refused_answered r status.BadInput bytes left out line done invalid memory ends = stopped_answered r bytes left out line status.BadInput memory ends
refused_answered r status.Overload bytes left out line done invalid memory ends = stopped_answered r bytes left out line status.Overload memory ends
refused_answered r status.ScaleTooLarge bytes left out line done invalid memory ends = stopped_answered r bytes left out line status.ScaleTooLarge memory ends
refused_answered r status.TooLong bytes left out line done invalid memory ends = stopped_answered r bytes left out line status.TooLong memory ends
refused_answered r status.GateFault bytes left out line done invalid memory ends = stopped_answered r bytes left out line status.GateFault memory ends
refused_answered r status.JobFault bytes left out line done invalid memory ends = stopped_answered r bytes left out line status.JobFault memory ends
refused_answered r status.InputTooLong bytes left out line done invalid memory ends = stopped_answered r bytes left out line status.InputTooLong memory ends
refused_answered r status.ModeFault bytes left out line done invalid memory ends = stopped_answered r bytes left out line status.ModeFault memory ends
refused_answered r status.BadTree bytes left out line done invalid memory ends = stopped_answered r bytes left out line status.BadTree memory ends
refused_answered r status.TooWide bytes left out line done invalid memory ends = stopped_answered r bytes left out line status.TooWide memory ends

-- where nothing failed, the answer for the bytes is given
bytes_answered : (r : Reading) (s : Status) (bytes left out : List ℕ) → Answers (output_of r) (Some bytes) (before bytes) (after left out) s
    → (answer : Status) → IsAnswer (output_of r) bytes answer → (s ≡ answer) ⊎ (s ≡ status.NoMemory)
bytes_answered r s bytes left out answers = answers no_fault no_fault

-- ---- the same of streams that are known to be so

module _ (r : Reading) (bytes left left' out out' line line' : List ℕ) (faults faults' quiets quiets' : ℕ) (is_left : left ≡ bytes)
    (is_out : out ≡ []) (is_faults : faults ≡ 0) (is_faults' : faults' ≡ 0) (is_line : line ≡ []) (is_quiets : quiets ≡ 0)
    (is_quiets' : quiets' ≡ 0) where
  is_before : streams (Some left) 0 (Some out) faults ≡ before bytes
  is_before = λ i. streams (Some (is_left i)) 0 (Some (is_out i)) (is_faults i)

  is_after : streams (Some left') 0 (Some out') faults' ≡ after left' out'
  is_after = λ i. streams (Some left') 0 (Some out') (is_faults' i)

  is_quiet : error_stream (Some line) quiets ≡ quiet
  is_quiet = λ i. error_stream (Some (is_line i)) (is_quiets i)

  is_took : error_stream (Some line') quiets' ≡ took line'
  is_took = λ i. error_stream (Some line') (is_quiets' i)

  pub refused_told : (s : Status) → s ≢ status.Done → s ≢ status.Invalid → s ≢ status.NoMemory
      → Ends (output_of r) (streams (Some left) 0 (Some out) faults) (streams (Some left') 0 (Some out') faults') (error_stream (Some line) quiets)
      (error_stream (Some line') quiets') s → IsAnswered (output_of r) bytes s line'
  refused_told s done invalid memory ends =
      refused_answered r s bytes left' out' line' done invalid memory
      (subst (λ (x : ErrorStream). Ends (output_of r) (before bytes) (after left' out') quiet x s) is_took
      (subst (λ (x : ErrorStream). Ends (output_of r) (before bytes) (after left' out') x (error_stream (Some line') quiets') s) is_quiet
      (subst (λ (x : Streams). Ends (output_of r) (before bytes) x (error_stream (Some line) quiets) (error_stream (Some line') quiets') s) is_after
      (subst (λ (x : Streams). Ends (output_of r) x (streams (Some left') 0 (Some out') faults') (error_stream (Some line) quiets)
      (error_stream (Some line') quiets') s) is_before ends))))

  pub answered_told : (s : Status)
      → Answers (output_of r) (Some left) (streams (Some left) 0 (Some out) faults) (streams (Some left') 0 (Some out') faults') s
      → (answer : Status) → IsAnswer (output_of r) bytes answer → (s ≡ answer) ⊎ (s ≡ status.NoMemory)
  answered_told s answers =
      bytes_answered r s bytes left' out' (subst (λ (x : List ℕ). Answers (output_of r) (Some x) (before bytes) (after left' out') s) is_left
      (subst (λ (x : Streams). Answers (output_of r) (Some left) (before bytes) x s) is_after
      (subst (λ (x : Streams). Answers (output_of r) (Some left) x (streams (Some left') 0 (Some out') faults') s) is_before answers)))
