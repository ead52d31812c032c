-- What a call over bytes gets.
use Rattle.std.specs.Prelude.{◌≡◌, ◌⊎◌, ℕ, ◌<◌, ◌==◌, if◌then◌else◌, List, ◌++◌, length, drop, Some, None}
use Rattle.std.specs.declared.option.Option.{Option}
use Rattle.command_words.specs.declared.asking.Asked.{Asked}
use Rattle.command_words.specs.declared.command.Reading.{Reading}
use Rattle.command_words.specs.declared.command.Reading.TheVariants.{Rate, Tree, Trace, TraceMet, TraceWrap, Table, Check, Follow, Draw}
use Rattle.exit_status.specs.declared.Status.{Status}
use Rattle.exit_status.specs.declared.Status.TheVariants.{NoMemory}
use Rattle.pure_commands.specs.Commands.{output_of}
use Rattle.pure_commands.specs.Ends.{IsAnswer}
use Rattle.exit_status.specs.Status.{code_of}
use Rattle.byte_calls.specs.Held.{AnswerHeld}
use Rattle.byte_calls.specs.Answers.{IsAnswered}
use Rattle.furnacelime_c.specs.Numbers.{wrong_call}
use Rattle.furnacelime_c.specs.declared.answers.Question.{Question}

-- the units that are asked for; a number of 0 is as many as are easily looked at
abbrev pub asked_by : Question → Asked
asked_by q = record { from = q.from; units = if q.units == 0 then None else Some q.units }

-- the command of a question, if one has its number
abbrev pub reading_of : Question → Option Reading
reading_of q =
    if q.command == 1 then Some Rate
    else if q.command == 2 then Some Tree
    else if q.command == 3 then Some Trace
    else if q.command == 4 then Some TraceMet
    else if q.command == 5 then Some TraceWrap
    else if q.command == 6 then Some Table
    else if q.command == 7 then Some Check
    else if q.command == 8 then Some Follow
    else if q.command == 9 then Some (Draw (asked_by q))
    else None

-- the answer of a command to these bytes: its text and its status are as the program's, or memory was refused
pub record IsAnswerOf (reading : Reading) (bytes : List ℕ) (answer : AnswerHeld) : Type 0 where
  pub told : IsAnswered (output_of reading) bytes answer.status answer.text
  pub answered : (status : Status) → IsAnswer (output_of reading) bytes status → (answer.status ≡ status) ⊎ (answer.status ≡ NoMemory)

-- a handle has the answer of the command that was asked for, and its status and the length of its text are told
abbrev pub AnswerGives : Question → List ℕ → Option AnswerHeld → ℕ → ℕ → Type 0
AnswerGives q bytes kept text_length code =
    (reading : Reading) × (answer : AnswerHeld) × (reading_of q ≡ Some reading) × (kept ≡ Some answer) × IsAnswerOf reading bytes answer
    × (text_length ≡ length answer.text) × (code ≡ code_of answer.status)

-- no command has the number, or memory was refused
abbrev pub IsNotCalled : Question → ℕ → ℕ → Type 0
IsNotCalled q text_length code = (text_length ≡ 0) × (((code ≡ wrong_call) × (reading_of q ≡ None)) ⊎ (code ≡ code_of NoMemory))

-- the text of the answer stands at the front, and the rest is as it was
abbrev pub IsCopied : Option AnswerHeld → List ℕ → List ℕ → Type 0
IsCopied kept old new = (answer : AnswerHeld) × (kept ≡ Some answer) × (new ≡ answer.text ++ drop (length answer.text) old)

-- there was too little room, and nothing was copied
abbrev pub IsShort : Option AnswerHeld → List ℕ → List ℕ → ℕ → Type 0
IsShort kept old new code =
    (answer : AnswerHeld) × (kept ≡ Some answer) × (length old < length answer.text) × (new ≡ old) × (code ≡ wrong_call)
