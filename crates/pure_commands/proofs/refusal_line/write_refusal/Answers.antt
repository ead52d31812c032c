use Rattle.std.proofs.Common.{◌≡◌, ◌∙◌, arith, refl}
use Rattle.pure_commands.specs.Refusals.{refusal_line}
use Rattle.pure_commands.proofs.LineLemmas.{wrote_as}
use Rattle.pure_commands.proofs.refusal_line.write_refusal.Goals as goal
use Rattle.pure_commands.proofs.refusal_line.write_refusal.Goals.{in-Usage, in-ReadFault, in-WriteFault, in-NoMemory, in-BadLine, in-BadProgram}
use Rattle.pure_commands.proofs.refusal_line.write_refusal.Goals.{in-Overload, in-ScaleTooLarge, in-TooLong, in-GateFault, in-JobFault}
use Rattle.pure_commands.proofs.refusal_line.write_refusal.Goals.{in-InputTooLong, in-BadTree, in-TooWide, in-NoRepeat, in-WideRepeat}

pub returns-in-BadSet-clause-wrote : goal.returns-in-BadSet-clause-wrote
returns-in-BadSet-clause-wrote g c = rw c.in-BadSet.is c.write_set_refusal.ensures.wrote

pub returns-in-BadSet-clause-cause : goal.returns-in-BadSet-clause-cause
returns-in-BadSet-clause-cause g c = c.write_set_refusal.ensures.cause

pub returns-in-OfMode-clause-wrote : goal.returns-in-OfMode-clause-wrote
returns-in-OfMode-clause-wrote g c = rw c.in-OfMode.is c.write_mode_refusal.ensures.wrote

pub returns-in-OfMode-clause-cause : goal.returns-in-OfMode-clause-cause
returns-in-OfMode-clause-cause g c = c.write_mode_refusal.ensures.cause

pub plain_line-line-requires : goal.plain_line-line-requires
plain_line-line-requires g c = omega arith

pub plain_line-line-requires-in-ReadFault : goal.plain_line-line-requires-in-ReadFault
plain_line-line-requires-in-ReadFault g c = omega arith

pub plain_line-line-requires-in-WriteFault : goal.plain_line-line-requires-in-WriteFault
plain_line-line-requires-in-WriteFault g c = omega arith

pub plain_line-line-requires-in-NoMemory : goal.plain_line-line-requires-in-NoMemory
plain_line-line-requires-in-NoMemory g c = omega arith

pub number_line-line-requires : goal.number_line-line-requires
number_line-line-requires g c = omega arith

pub number_line-line-requires-in-BadProgram : goal.number_line-line-requires-in-BadProgram
number_line-line-requires-in-BadProgram g c = omega arith

pub number_line-line-requires-in-InputTooLong : goal.number_line-line-requires-in-InputTooLong
number_line-line-requires-in-InputTooLong g c = omega arith

pub counted_line-line-requires-clause-why : goal.counted_line-line-requires-clause-why
counted_line-line-requires-clause-why g c = omega arith

pub counted_line-line-requires-clause-word : goal.counted_line-line-requires-clause-word
counted_line-line-requires-clause-word g c = omega arith

pub counted_line-line-requires-in-NoRepeat-clause-why : goal.counted_line-line-requires-in-NoRepeat-clause-why
counted_line-line-requires-in-NoRepeat-clause-why g c = omega arith

pub counted_line-line-requires-in-NoRepeat-clause-word : goal.counted_line-line-requires-in-NoRepeat-clause-word
counted_line-line-requires-in-NoRepeat-clause-word g c = omega arith

pub counted_line-line-requires-in-WideRepeat-clause-why : goal.counted_line-line-requires-in-WideRepeat-clause-why
counted_line-line-requires-in-WideRepeat-clause-why g c = omega arith

pub counted_line-line-requires-in-WideRepeat-clause-word : goal.counted_line-line-requires-in-WideRepeat-clause-word
counted_line-line-requires-in-WideRepeat-clause-word g c = omega arith

pub returns-clause-wrote : goal.returns-clause-wrote
unfolding refusal_line
returns-clause-wrote g c =
    let line : c.match-refusal.line ≡ refusal_line c.args.refusal.now = elim c.match-refusal.branch [
      | in-Usage w ↦ w.line-is ∙ rw (w.in-Usage.is, w.plain_line-line.ensures) refl
      | in-ReadFault w ↦ w.line-is ∙ rw (w.in-ReadFault.is, w.plain_line-line-in-ReadFault.ensures) refl
      | in-WriteFault w ↦ w.line-is ∙ rw (w.in-WriteFault.is, w.plain_line-line-in-WriteFault.ensures) refl
      | in-NoMemory w ↦ w.line-is ∙ rw (w.in-NoMemory.is, w.plain_line-line-in-NoMemory.ensures) refl
      | in-BadLine w ↦ w.line-is ∙ rw (w.in-BadLine.is, w.number_line-line.ensures, w.from.ensures) refl
      | in-BadProgram w ↦ w.line-is ∙ rw (w.in-BadProgram.is, w.number_line-line-in-BadProgram.ensures, w.from-in-BadProgram.ensures) refl
      | in-Overload w ↦ w.line-is ∙ rw (w.in-Overload.is, w.overload_line-line.ensures) refl
      | in-ScaleTooLarge w ↦ w.line-is ∙ rw (w.in-ScaleTooLarge.is, w.scale_line-line.ensures) refl
      | in-TooLong w ↦ w.line-is ∙ rw (w.in-TooLong.is, w.rows_line-line.ensures) refl
      | in-GateFault w ↦ w.line-is ∙ rw (w.in-GateFault.is, w.gate_line-line.ensures) refl
      | in-JobFault w ↦ w.line-is ∙ rw (w.in-JobFault.is, w.job_line-line.ensures) refl
      | in-InputTooLong w ↦ w.line-is ∙ rw (w.in-InputTooLong.is, w.number_line-line-in-InputTooLong.ensures, w.from-in-InputTooLong.ensures) refl
      | in-BadTree w ↦ w.line-is ∙ rw (w.in-BadTree.is, w.tree_line-line.ensures) refl
      | in-TooWide w ↦ w.line-is ∙ rw (w.in-TooWide.is, w.counted_line-line.ensures) refl
      | in-NoRepeat w ↦ w.line-is ∙ rw (w.in-NoRepeat.is, w.counted_line-line-in-NoRepeat.ensures, w.from-in-NoRepeat.ensures) refl
      | in-WideRepeat w ↦ w.line-is ∙ rw (w.in-WideRepeat.is, w.counted_line-line-in-WideRepeat.ensures) refl
    ] in
    wrote_as _ _ _ _ _ line c.write_line.ensures.wrote

pub returns-clause-cause : goal.returns-clause-cause
returns-clause-cause g c = c.write_line.ensures.cause
