-- What a handle owns.
use Rattle.std.specs.Prelude.{Some, None}
use Rattle.std.specs.declared.option.Option.{Option}
use Rattle.std_alloc.specs.Box.Ownership.{box_owns}
use Rattle.std_heap.specs.declared.Global.{Global}
use Rattle.std_heap.specs.contracts.GlobalAllocator.TheImpl.{ghosts}
use base.Fml.{Fml, ftrue}
use denote.RawPtr.{Ptr}
use Rattle.round_steps.specs.Steps.{StepsHeld}
use Rattle.round_steps.specs.contracts.steps.Steps.{the_row as steps_row}
use Rattle.byte_calls.specs.Held.{AnswerHeld}
use Rattle.byte_calls.specs.contracts.answers.Answer.{the_row as answer_row}
use Rattle.book_steps.specs.Books.{BookHeld}
use Rattle.book_steps.specs.contracts.book.StepBook.{the_row as book_row}

-- the program's heap; it has no parts
abbrev pub heap : Global
heap = record { memory = record { seal = tt } }

-- the block at the pointer has these steps and may be freed; a handle without steps owns nothing
abbrev pub owned_steps : Ptr → Option StepsHeld → Fml
owned_steps p None = ftrue
owned_steps p (Some s) = box_owns (ghosts.dealloc_token heap) steps_row p s

-- an answer, as the steps
abbrev pub owned_answer : Ptr → Option AnswerHeld → Fml
owned_answer p None = ftrue
owned_answer p (Some s) = box_owns (ghosts.dealloc_token heap) answer_row p s

-- a book, as the steps
abbrev pub owned_book : Ptr → Option BookHeld → Fml
owned_book p None = ftrue
owned_book p (Some s) = box_owns (ghosts.dealloc_token heap) book_row p s
