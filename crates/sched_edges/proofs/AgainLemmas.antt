-- A call that is made again where it was interrupted: what it does behind one that changed nothing.
use Rattle.std.proofs.Common.{◌∙◌, ℕ, List, ◌++◌, Option, Some, None, Result, Ok, Err, refl, sym, ap}
use Rattle.std.specs.Io.KnownBytes.{Keeps, Consumes, Appends, ReadConsumes, WriteAppends}

pub keeps_self : (a : Option (List ℕ)) → Keeps a a
keeps_self None = tt
keeps_self (Some xs) = refl

pub keeps_on : (a b c : Option (List ℕ)) → Keeps a b → Keeps b c → Keeps a c
keeps_on None b c first second = tt
keeps_on (Some xs) None c first second = absurd first
keeps_on (Some xs) (Some ys) None first second = absurd second
keeps_on (Some xs) (Some ys) (Some zs) first second = second ∙ first

consumes_on : (a b c : Option (List ℕ)) (bytes : List ℕ) → Keeps a b → Consumes b c bytes → Consumes a c bytes
consumes_on None b c bytes first second = tt
consumes_on (Some xs) None c bytes first second = absurd first
consumes_on (Some xs) (Some ys) None bytes first second = absurd second
consumes_on (Some xs) (Some ys) (Some zs) bytes first second = sym first ∙ second

appends_on : (a b c : Option (List ℕ)) (bytes : List ℕ) → Keeps a b → Appends b c bytes → Appends a c bytes
appends_on None b c bytes first second = tt
appends_on (Some xs) None c bytes first second = absurd first
appends_on (Some xs) (Some ys) None bytes first second = absurd second
appends_on (Some xs) (Some ys) (Some zs) bytes first second = second ∙ ap (λ v. v ++ bytes) first

pub reads_on : {E : Type 0} (a b c : Option (List ℕ)) (result : Result ℕ E) (buffer : List ℕ) → Keeps a b → ReadConsumes b c result buffer
    → ReadConsumes a c result buffer
reads_on a b c (Ok n) buffer first second = (consumes_on a b c _ first second.0, second.1)
reads_on a b c (Err e) buffer first second = keeps_on a b c first second

pub writes_on : {E : Type 0} (a b c : Option (List ℕ)) (result : Result ℕ E) (piece : List ℕ) → Keeps a b → WriteAppends b c result piece
    → WriteAppends a c result piece
writes_on a b c (Ok n) piece first second = appends_on a b c _ first second
writes_on a b c (Err e) piece first second = keeps_on a b c first second
