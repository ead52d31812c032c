-- Failures say nothing of answers.
use Rattle.std.proofs.Common.{Result, Ok, Err}
use Rattle.std.specs.Prelude.{IsErr, IfOk}

-- a failure says nothing of what is answered where all went well
pub no_answer : {T E : Type 0} (r : Result T E) (P : T → Type 0) → IsErr r → IfOk r P
no_answer (Ok v) P failed = absurd (let e = failed in cc)
no_answer (Err e) P failed = tt
