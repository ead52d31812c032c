-- Several writes: what was taken so far, and causes of failures.
use Rattle.std.proofs.Common.{ℕ, ◌≤◌, List, [], Option, Some, None, Result, Ok, Err, sym, arith, append-nil}
use Rattle.std.specs.Io.KnownBytes.{Appends}
use Rattle.sched_edges.specs.Causes.{HasCause}

-- writes that were done, and then one that failed: any failure may be answered
pub cause_cut : {T U E F : Type 0} (a b c : ℕ) (e : F) (r : Result T E) → a ≤ b → HasCause {T = U} b c (Err e) → HasCause a c r
cause_cut a b c e (Ok v) before cause = (let later = cause.later in record { later = omega (arith, before, later); failed = tt })
cause_cut a b c e (Err f) before cause =
    let later = cause.later in
    let failed = cause.failed in
    record { later = omega (arith, before, later); failed = omega (arith, before, failed) }

-- writes that were done, and then another one
pub cause_then : {T E : Type 0} (a b c : ℕ) (r : Result T E) → a ≤ b → HasCause b c r → HasCause a c r
cause_then a b c (Ok v) before cause = (let later = cause.later in record { later = omega (arith, before, later); failed = tt })
cause_then a b c (Err e) before cause = cause_cut a b c e (Err e) before cause

-- no bytes more
pub took_none : (a : Option (List ℕ)) → Appends a a []
took_none None = tt
took_none (Some xs) = sym (append-nil xs)
