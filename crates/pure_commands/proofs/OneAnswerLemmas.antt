-- Where nothing fails, the answer for the bytes is given, whatever is told of them, as long as bytes have one answer.
use Rattle.std.proofs.Common.{◌≡◌, ◌⊎◌, inl, inr, ℕ, ◌+◌, ◌≤◌, ◌<◌, List, ◌++◌, length, Option, Some, None, refl}
use Rattle.std.proofs.Common.{sym, ◌∙◌, ap, subst, arith, append-nil}
use Rattle.sched_edges.specs.Causes.{Rose}
use Rattle.sched_edges.specs.Streams.{GaveAll, GaveCount}
use Rattle.sched_edges.proofs.Pieces.{holds_more}
use Rattle.pure_commands.specs.declared.refusal.Refusal.{Refusal}
use Rattle.pure_commands.specs.declared.refusal.Refusal.TheVariants as why
use Rattle.exit_status.specs.declared.Status.{Status}
use Rattle.exit_status.specs.declared.Status.TheVariants.{Done, Invalid, Usage, ReadFault, WriteFault, NoMemory, BadInput, Overload}
use Rattle.exit_status.specs.declared.Status.TheVariants.{ScaleTooLarge, TooLong, GateFault, JobFault, InputTooLong, ModeFault, BadTree, TooWide}
use Rattle.pure_commands.specs.Refusals.{status_of}
use Rattle.pure_commands.specs.Ends.{Streams, ErrorStream, IsTold, StopsAs, IsAnswerAs, AnswersAs}
use Rattle.pure_commands.specs.Refuse.{IsRefused}

-- a source that tells its bytes gave just these
same_bytes : (bytes given : List ℕ) (left : Option (List ℕ)) (n : ℕ) → GaveAll (Some bytes) left n given → given ≡ bytes
same_bytes bytes given None n all = absurd all.gave
same_bytes bytes given (Some rest) n all = sym (all.gave ∙ ap (λ r. given ++ r) all.ended ∙ append-nil given)

-- bytes have one answer: nothing is told of bytes that are refused, bytes are told of with one status and refused with one, and they call
-- for the status with which their text is written
pub record HaveOneAnswer (Writes : List ℕ → Status → List ℕ → Type 0) (CallsFor : List ℕ → Status → Type 0) (Refuses : List ℕ → Refusal → Type 0) : Type 0 where
  pub told_or_refused : (bytes : List ℕ) (status : Status) (r : Refusal) → CallsFor bytes status → Refuses bytes r → ⊥
  pub one_telling : (bytes : List ℕ) (a b : Status) → CallsFor bytes a → CallsFor bytes b → a ≡ b
  pub one_status : (bytes : List ℕ) (r q : Refusal) → Refuses bytes r → Refuses bytes q → status_of r ≡ status_of q
  pub called_for : (bytes text : List ℕ) (status : Status) → Writes bytes status text → CallsFor bytes status

never_both : (n m : ℕ) → n ≤ m → m < n → ⊥
never_both n m within over = absurd (omega (arith, within, over))

module _ (limit : ℕ) (CallsFor : List ℕ → Status → Type 0) (Refuses : List ℕ → Refusal → Type 0) where
  -- a call that was refused memory answers
  pub wanting_asked : (left : Option (List ℕ)) (old new : Streams) (status : Status) → status ≡ NoMemory → AnswersAs limit CallsFor Refuses left old new status
  wanting_asked None old new status wanting = tt
  wanting_asked (Some bytes) old new status wanting = λ unread unwritten answer is. inr wanting

module _ (limit : ℕ) (Writes : List ℕ → Status → List ℕ → Type 0) (CallsFor : List ℕ → Status → Type 0) (Refuses : List ℕ → Refusal → Type 0)
    (one : HaveOneAnswer Writes CallsFor Refuses) where
  -- the answer, where the bytes call for a status
  answer_called_for : (bytes : List ℕ) (status answer : Status) → length bytes ≤ limit → CallsFor bytes status
      → IsAnswerAs limit CallsFor Refuses bytes answer → status ≡ answer
  answer_called_for bytes status Done within called is = one.one_telling bytes status Done called is.1
  answer_called_for bytes status Invalid within called is = one.one_telling bytes status Invalid called is.1
  answer_called_for bytes status InputTooLong within called is = absurd (never_both (length bytes) limit within is)
  answer_called_for bytes status BadInput within called is = absurd (one.told_or_refused bytes status is.1.0 called is.1.2)
  answer_called_for bytes status Overload within called is = absurd (one.told_or_refused bytes status is.1.0 called is.1.2)
  answer_called_for bytes status ScaleTooLarge within called is = absurd (one.told_or_refused bytes status is.1.0 called is.1.2)
  answer_called_for bytes status TooLong within called is = absurd (one.told_or_refused bytes status is.1.0 called is.1.2)
  answer_called_for bytes status BadTree within called is = absurd (one.told_or_refused bytes status is.1.0 called is.1.2)
  answer_called_for bytes status TooWide within called is = absurd (one.told_or_refused bytes status is.1.0 called is.1.2)
  answer_called_for bytes status ModeFault within called is = absurd (one.told_or_refused bytes status is.1.0 called is.1.2)
  answer_called_for bytes status Usage within called is = absurd is
  answer_called_for bytes status ReadFault within called is = absurd is
  answer_called_for bytes status WriteFault within called is = absurd is
  answer_called_for bytes status NoMemory within called is = absurd is
  answer_called_for bytes status GateFault within called is = absurd is
  answer_called_for bytes status JobFault within called is = absurd is

  -- the answer, where the command refuses the bytes
  answer_refuses : (bytes : List ℕ) (r : Refusal) (answer : Status) → length bytes ≤ limit → Refuses bytes r
      → IsAnswerAs limit CallsFor Refuses bytes answer → status_of r ≡ answer
  answer_refuses bytes r Done within refuses is = absurd (one.told_or_refused bytes Done r is.1 refuses)
  answer_refuses bytes r Invalid within refuses is = absurd (one.told_or_refused bytes Invalid r is.1 refuses)
  answer_refuses bytes r InputTooLong within refuses is = absurd (never_both (length bytes) limit within is)
  answer_refuses bytes r BadInput within refuses is = one.one_status bytes r is.1.0 refuses is.1.2 ∙ is.1.1
  answer_refuses bytes r Overload within refuses is = one.one_status bytes r is.1.0 refuses is.1.2 ∙ is.1.1
  answer_refuses bytes r ScaleTooLarge within refuses is = one.one_status bytes r is.1.0 refuses is.1.2 ∙ is.1.1
  answer_refuses bytes r TooLong within refuses is = one.one_status bytes r is.1.0 refuses is.1.2 ∙ is.1.1
  answer_refuses bytes r BadTree within refuses is = one.one_status bytes r is.1.0 refuses is.1.2 ∙ is.1.1
  answer_refuses bytes r TooWide within refuses is = one.one_status bytes r is.1.0 refuses is.1.2 ∙ is.1.1
  answer_refuses bytes r ModeFault within refuses is = one.one_status bytes r is.1.0 refuses is.1.2 ∙ is.1.1
  answer_refuses bytes r Usage within refuses is = absurd is
  answer_refuses bytes r ReadFault within refuses is = absurd is
  answer_refuses bytes r WriteFault within refuses is = absurd is
  answer_refuses bytes r NoMemory within refuses is = absurd is
  answer_refuses bytes r GateFault within refuses is = absurd is
  answer_refuses bytes r JobFault within refuses is = absurd is

  -- the answer, where there are more bytes than the command reads
  answer_too_long : (bytes : List ℕ) (answer : Status) → limit < length bytes → IsAnswerAs limit CallsFor Refuses bytes answer → InputTooLong ≡ answer
  answer_too_long bytes InputTooLong over is = refl
  answer_too_long bytes Done over is = absurd (never_both (length bytes) limit is.0 over)
  answer_too_long bytes Invalid over is = absurd (never_both (length bytes) limit is.0 over)
  answer_too_long bytes BadInput over is = absurd (never_both (length bytes) limit is.0 over)
  answer_too_long bytes Overload over is = absurd (never_both (length bytes) limit is.0 over)
  answer_too_long bytes ScaleTooLarge over is = absurd (never_both (length bytes) limit is.0 over)
  answer_too_long bytes TooLong over is = absurd (never_both (length bytes) limit is.0 over)
  answer_too_long bytes BadTree over is = absurd (never_both (length bytes) limit is.0 over)
  answer_too_long bytes TooWide over is = absurd (never_both (length bytes) limit is.0 over)
  answer_too_long bytes ModeFault over is = absurd (never_both (length bytes) limit is.0 over)
  answer_too_long bytes Usage over is = absurd is
  answer_too_long bytes ReadFault over is = absurd is
  answer_too_long bytes WriteFault over is = absurd is
  answer_too_long bytes NoMemory over is = absurd is
  answer_too_long bytes GateFault over is = absurd is
  answer_too_long bytes JobFault over is = absurd is

  -- what was done answers
  pub done_asked : (status : Status) (left : Option (List ℕ)) (old new : Streams) → old.left ≡ left
      → IsTold limit Writes status old new → AnswersAs limit CallsFor Refuses left old new status
  done_asked status None old new e h = tt
  done_asked status (Some bytes) old new e h = λ unread unwritten answer is.
      let (given, text, read, writes, took) = h.told in
      let all : GaveAll (Some bytes) new.left limit given = subst (λ (l : Option (List ℕ)). GaveAll l new.left limit given) e read in
      let same : given ≡ bytes = same_bytes bytes given new.left limit all in
      let within : length bytes ≤ limit = subst (λ (b : List ℕ). length b ≤ limit) same all.within in
      let called : CallsFor bytes status = subst (λ (b : List ℕ). CallsFor b status) same (one.called_for given text status writes) in
      inl (answer_called_for bytes status answer within called is)

  refused_by : (bytes given : List ℕ) (left : Option (List ℕ)) (r : Refusal) (answer : Status)
      → GaveAll (Some bytes) left limit given → Refuses given r
      → IsAnswerAs limit CallsFor Refuses bytes answer → status_of r ≡ answer
  refused_by bytes given left r answer all refuses is =
      let same : given ≡ bytes = same_bytes bytes given left limit all in
      let within : length bytes ≤ limit = subst (λ (b : List ℕ). length b ≤ limit) same all.within in
      answer_refuses bytes r answer within (subst (λ (b : List ℕ). Refuses b r) same refuses) is

  stop_answered : (bytes : List ℕ) (old new : Streams) (r : Refusal) (answer : Status) → old.left ≡ Some bytes
      → StopsAs limit Writes Refuses old new r
      → ¬ (Rose old.read_faults new.read_faults) → ¬ (Rose old.out_faults new.out_faults) → IsAnswerAs limit CallsFor Refuses bytes answer
      → (status_of r ≡ answer) ⊎ (status_of r ≡ NoMemory)
  stop_answered bytes old new why.Usage answer e stops unread unwritten is = absurd stops
  stop_answered bytes old new why.ReadFault answer e stops unread unwritten is = absurd (unread stops.0)
  stop_answered bytes old new why.NoMemory answer e stops unread unwritten is = inr refl
  stop_answered bytes old new why.WriteFault answer e stops unread unwritten is = absurd (unwritten stops.6)
  stop_answered bytes old new (why.InputTooLong count) answer e stops unread unwritten is =
      let gave : GaveCount (Some bytes) new.left (limit + 1) =
      subst (λ (n : ℕ). GaveCount (Some bytes) new.left n) stops.0 (subst (λ (l : Option (List ℕ)). GaveCount l new.left count) e stops.1) in
      inl (answer_too_long bytes answer (holds_more (Some bytes) new.left limit gave) is)
  stop_answered bytes old new (why.BadSet r) answer e stops unread unwritten is =
      inl (refused_by bytes stops.0 new.left (why.BadSet r) answer
      (subst (λ (l : Option (List ℕ)). GaveAll l new.left limit stops.0) e stops.1) stops.2 is)
  stop_answered bytes old new (why.BadLine line) answer e stops unread unwritten is =
      inl (refused_by bytes stops.0 new.left (why.BadLine line) answer
      (subst (λ (l : Option (List ℕ)). GaveAll l new.left limit stops.0) e stops.1) stops.2 is)
  stop_answered bytes old new (why.BadProgram line) answer e stops unread unwritten is =
      inl (refused_by bytes stops.0 new.left (why.BadProgram line) answer
      (subst (λ (l : Option (List ℕ)). GaveAll l new.left limit stops.0) e stops.1) stops.2 is)
  stop_answered bytes old new (why.BadTree line kind) answer e stops unread unwritten is =
      inl (refused_by bytes stops.0 new.left (why.BadTree line kind) answer
      (subst (λ (l : Option (List ℕ)). GaveAll l new.left limit stops.0) e stops.1) stops.2 is)
  stop_answered bytes old new (why.OfMode j q) answer e stops unread unwritten is =
      inl (refused_by bytes stops.0 new.left (why.OfMode j q) answer
      (subst (λ (l : Option (List ℕ)). GaveAll l new.left limit stops.0) e stops.1) stops.2 is)
  stop_answered bytes old new (why.GateFault row name) answer e stops unread unwritten is =
      inl (refused_by bytes stops.0 new.left (why.GateFault row name) answer
      (subst (λ (l : Option (List ℕ)). GaveAll l new.left limit stops.0) e stops.1) stops.2 is)
  stop_answered bytes old new (why.JobFault row name) answer e stops unread unwritten is =
      inl (refused_by bytes stops.0 new.left (why.JobFault row name) answer
      (subst (λ (l : Option (List ℕ)). GaveAll l new.left limit stops.0) e stops.1) stops.2 is)
  stop_answered bytes old new (why.Overload total room) answer e stops unread unwritten is =
      inl (refused_by bytes stops.0 new.left (why.Overload total room) answer
      (subst (λ (l : Option (List ℕ)). GaveAll l new.left limit stops.0) e stops.1) stops.2 is)
  stop_answered bytes old new (why.TooLong rows) answer e stops unread unwritten is =
      inl (refused_by bytes stops.0 new.left (why.TooLong rows) answer
      (subst (λ (l : Option (List ℕ)). GaveAll l new.left limit stops.0) e stops.1) stops.2 is)
  stop_answered bytes old new (why.ScaleTooLarge task) answer e stops unread unwritten is =
      inl (refused_by bytes stops.0 new.left (why.ScaleTooLarge task) answer
      (subst (λ (l : Option (List ℕ)). GaveAll l new.left limit stops.0) e stops.1) stops.2 is)
  stop_answered bytes old new (why.TooWide ticks) answer e stops unread unwritten is =
      inl (refused_by bytes stops.0 new.left (why.TooWide ticks) answer
      (subst (λ (l : Option (List ℕ)). GaveAll l new.left limit stops.0) e stops.1) stops.2 is)
  stop_answered bytes old new (why.NoRepeat task) answer e stops unread unwritten is =
      inl (refused_by bytes stops.0 new.left (why.NoRepeat task) answer
      (subst (λ (l : Option (List ℕ)). GaveAll l new.left limit stops.0) e stops.1) stops.2 is)
  stop_answered bytes old new (why.WideRepeat units) answer e stops unread unwritten is =
      inl (refused_by bytes stops.0 new.left (why.WideRepeat units) answer
      (subst (λ (l : Option (List ℕ)). GaveAll l new.left limit stops.0) e stops.1) stops.2 is)

  -- what stopped answers
  pub stops_asked : (left : Option (List ℕ)) (old new : Streams) (err err' : ErrorStream) (r : Refusal) (status : Status) → old.left ≡ left
      → StopsAs limit Writes Refuses old new r → IsRefused r err err' status → AnswersAs limit CallsFor Refuses left old new status
  stops_asked None old new err err' r status e stops told = tt
  stops_asked (Some bytes) old new err err' r status e stops told = λ unread unwritten answer is.
      elim (stop_answered bytes old new r answer e stops unread unwritten is) [
        | inl given ↦ inl (told.status_is ∙ given)
        | inr wanting ↦ inr (told.status_is ∙ wanting)
      ]
