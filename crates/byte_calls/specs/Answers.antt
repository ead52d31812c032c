-- What is answered to bytes: the command's text, or the line of a refusal.
use Rattle.std.specs.Prelude.{◌≡◌, ℕ, ◌+◌, ◌≤◌, ◌<◌, List, [], length}
use Rattle.pure_commands.specs.declared.refusal.Refusal.{Refusal}
use Rattle.pure_commands.specs.declared.refusal.Refusal.TheVariants.{Usage, ReadFault, WriteFault, NoMemory, InputTooLong}
use Rattle.exit_status.specs.declared.Status.{Status}
use Rattle.exit_status.specs.declared.Status.TheVariants as status
use Rattle.pure_commands.specs.Commands.{Output, of_set, of_tree, limit_of, Writes, Refuses}
use Rattle.pure_commands.specs.SetTexts.{WritesSoundly}
use Rattle.pure_commands.specs.Follow.{WritesFollowed}
use Rattle.pure_commands.specs.Refusals.{status_of, refusal_line}

-- this text is written for these bytes, and what it tells of a set or of a tree is sound
abbrev pub TellsSoundly : Output → List ℕ → Status → List ℕ → Type 0
TellsSoundly (of_set what) bytes status text = WritesSoundly what bytes status text
TellsSoundly of_tree bytes status text = WritesFollowed bytes status text
TellsSoundly output bytes status text = Writes output bytes status text

-- these bytes aren't answered with the command's text for this reason
abbrev pub IsWhyNot : Output → List ℕ → Refusal → Type 0
IsWhyNot output bytes Usage = ⊥
IsWhyNot output bytes ReadFault = ⊥
IsWhyNot output bytes WriteFault = ⊥
IsWhyNot output bytes NoMemory = ⊥
IsWhyNot output bytes (InputTooLong count) = (count ≡ limit_of output + 1) × (limit_of output < length bytes)
IsWhyNot output bytes refusal = (length bytes ≤ limit_of output) × Refuses output bytes refusal

-- these bytes are answered with this status and this text: that of the command, or the line of a refusal for its reason; where memory was
-- refused, nothing
abbrev pub IsAnswered : Output → List ℕ → Status → List ℕ → Type 0
IsAnswered output bytes status.Done text = (length bytes ≤ limit_of output) × TellsSoundly output bytes status.Done text
IsAnswered output bytes status.Invalid text = (length bytes ≤ limit_of output) × Writes output bytes status.Invalid text
IsAnswered output bytes status.NoMemory text = text ≡ []
IsAnswered output bytes s text = (refusal : Refusal) × (status_of refusal ≡ s) × IsWhyNot output bytes refusal × (text ≡ refusal_line refusal)
