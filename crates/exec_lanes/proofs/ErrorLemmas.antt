-- What an error says, and what a false test shows.
use Rattle.std.proofs.Common.{◌≡◌, Result, Ok, Err, true, false}
use Rattle.std.specs.Prelude.{IfOk, IfErr}
use Rattle.std.specs.Result.{IsErr}

-- an error says nothing of a value
pub no_answer : {T E : Type 0} (r : Result T E) (P : T → Type 0) → IsErr r → IfOk r P
no_answer (Ok v) P failed = absurd (let e = failed in cc)
no_answer (Err e) P failed = tt

-- what holds of each error holds of the one that there is
pub each_error : {T E : Type 0} (r : Result T E) (P : E → Type 0) → ((e : E) → P e) → IfErr r P
each_error (Ok v) P h = tt
each_error (Err e) P h = h e

-- a test that is false shows anything
pub untrue : {P : Type 0} → false ≡ true → P
untrue e = absurd (let is : false ≡ true = e in cc)
