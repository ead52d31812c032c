use Rattle.std.proofs.Common.{◌≡◌, ◌∙◌, arith, refl, rules}
use Rattle.pure_commands.specs.Refusals.{refusal_line}
use Rattle.pure_commands.specs.declared.refusal.Refusal.TheVariants.{BadSet}
use Rattle.pure_commands.proofs.LineLemmas.{wrote_as}
use Rattle.pure_commands.proofs.refusal_line.write_set_refusal.Goals as goal
use Rattle.pure_commands.proofs.refusal_line.write_set_refusal.Goals.{in-NotToml, in-Missing, in-WrongKind, in-BadProcessors, in-BadHorizon}
use Rattle.pure_commands.proofs.refusal_line.write_set_refusal.Goals.{in-TooManyTasks, in-BadName, in-SameName, in-BadPeriod, in-BadWork}
use Rattle.pure_commands.proofs.refusal_line.write_set_refusal.Goals.{in-BadOffset, in-NoMemory}

pub returns-in-UnknownKey-clause-wrote : goal.returns-in-UnknownKey-clause-wrote
returns-in-UnknownKey-clause-wrote g c = rw (c.in-UnknownKey.is, ← c.as_slice.ensures) c.write_key_line.ensures.wrote

pub returns-in-UnknownKey-clause-cause : goal.returns-in-UnknownKey-clause-cause
returns-in-UnknownKey-clause-cause g c = c.write_key_line.ensures.cause

pub plain_line-line-requires : goal.plain_line-line-requires
plain_line-line-requires g c = omega arith

pub place_line-line-requires-clause-why : goal.place_line-line-requires-clause-why
place_line-line-requires-clause-why g c = omega arith

pub place_line-line-requires-in-WrongKind-clause-why : goal.place_line-line-requires-in-WrongKind-clause-why
place_line-line-requires-in-WrongKind-clause-why g c = omega arith

pub value_line-line-requires : goal.value_line-line-requires
value_line-line-requires g c = omega arith

pub value_line-line-requires-in-BadHorizon : goal.value_line-line-requires-in-BadHorizon
value_line-line-requires-in-BadHorizon g c = omega arith

pub number_line-line-requires : goal.number_line-line-requires
number_line-line-requires g c = omega arith

pub index_line-line-requires : goal.index_line-line-requires
index_line-line-requires g c = omega arith

pub index_line-line-requires-in-SameName : goal.index_line-line-requires-in-SameName
index_line-line-requires-in-SameName g c = omega arith

pub index_line-line-requires-in-BadPeriod : goal.index_line-line-requires-in-BadPeriod
index_line-line-requires-in-BadPeriod g c = omega arith

pub index_line-line-requires-in-BadWork : goal.index_line-line-requires-in-BadWork
index_line-line-requires-in-BadWork g c = omega arith

pub index_line-line-requires-in-BadOffset : goal.index_line-line-requires-in-BadOffset
index_line-line-requires-in-BadOffset g c = omega arith

pub plain_line-line-requires-in-NoMemory : goal.plain_line-line-requires-in-NoMemory
plain_line-line-requires-in-NoMemory g c = omega arith

pub place_line-line-requires-clause-word : goal.place_line-line-requires-clause-word
place_line-line-requires-clause-word g c = c.key_text.ensures.short

pub place_line-line-requires-in-WrongKind-clause-word : goal.place_line-line-requires-in-WrongKind-clause-word
place_line-line-requires-in-WrongKind-clause-word g c = c.key_text-in-WrongKind.ensures.short

pub returns-clause-wrote : goal.returns-clause-wrote
unfolding refusal_line
returns-clause-wrote g c =
    let line : c.match-refusal.line ≡ refusal_line (BadSet c.args.refusal.now) = elim c.match-refusal.branch [
      | in-NotToml w ↦ w.line-is ∙ rw (w.in-NotToml.is, w.plain_line-line.ensures) refl
      | in-Missing w ↦ w.line-is ∙ rw (w.in-Missing.is, w.place_line-line.ensures, w.key_text.ensures.text) refl
      | in-WrongKind w ↦ w.line-is ∙ rw (w.in-WrongKind.is, w.place_line-line-in-WrongKind.ensures, w.key_text-in-WrongKind.ensures.text) refl
      | in-BadProcessors w ↦ w.line-is ∙ rw (w.in-BadProcessors.is, w.value_line-line.ensures) (search rules)
      | in-BadHorizon w ↦ w.line-is ∙ rw (w.in-BadHorizon.is, w.value_line-line-in-BadHorizon.ensures) (search rules)
      | in-TooManyTasks w ↦ w.line-is ∙ rw (w.in-TooManyTasks.is, w.number_line-line.ensures, w.from.ensures) refl
      | in-BadName w ↦ w.line-is ∙ rw (w.in-BadName.is, w.index_line-line.ensures) refl
      | in-SameName w ↦ w.line-is ∙ rw (w.in-SameName.is, w.index_line-line-in-SameName.ensures) refl
      | in-BadPeriod w ↦ w.line-is ∙ rw (w.in-BadPeriod.is, w.index_line-line-in-BadPeriod.ensures) refl
      | in-BadWork w ↦ w.line-is ∙ rw (w.in-BadWork.is, w.index_line-line-in-BadWork.ensures) refl
      | in-BadOffset w ↦ w.line-is ∙ rw (w.in-BadOffset.is, w.index_line-line-in-BadOffset.ensures) refl
      | in-NoMemory w ↦ w.line-is ∙ rw (w.in-NoMemory.is, w.plain_line-line-in-NoMemory.ensures) refl
    ] in
    wrote_as _ _ _ _ _ line c.write_line.ensures.wrote

pub returns-clause-cause : goal.returns-clause-cause
returns-clause-cause g c = c.write_line.ensures.cause
