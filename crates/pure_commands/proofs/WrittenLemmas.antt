-- What is so of a text that was to be written, whichever refusal tells that it wasn't.
use Rattle.std.proofs.Common.{◌≡◌, Result, Ok, Err, sym, subst}
use Rattle.std.specs.Prelude.{MatchResult, OnOk, OnErr, IfErr}
use Rattle.pure_commands.specs.declared.refusal.Refusal.{Refusal}
use Rattle.pure_commands.specs.declared.refusal.Refusal.TheVariants as why

module _ {T E : Type 0} (wrote : Result T E) (result : Result T Refusal)
    (is : MatchResult wrote (λ v. result ≡ Ok v) (λ _. result ≡ Err why.WriteFault)) where
  -- where it was
  pub on_written : (A B : Type 0) → OnOk wrote A → (A → B) → OnOk result B
  on_written A B took made = on_as wrote is took
    where
      on_as : (r : Result T E) → MatchResult r (λ v. result ≡ Ok v) (λ _. result ≡ Err why.WriteFault) → OnOk r A → OnOk result B
      on_as (Ok v) same a = subst (λ (q : Result T Refusal). OnOk q B) (sym same) (made a)
      on_as (Err e) same a = subst (λ (q : Result T Refusal). OnOk q B) (sym same) tt

  -- where it wasn't, or not all of it
  pub if_unwritten : (A B : Type 0) (P : Refusal → Type 0) → OnErr wrote A → OnErr wrote B → (A → B → P why.WriteFault) → IfErr result P
  if_unwritten A B P took rose made = if_as wrote is took rose
    where
      if_as : (r : Result T E) → MatchResult r (λ v. result ≡ Ok v) (λ _. result ≡ Err why.WriteFault) → OnErr r A → OnErr r B → IfErr result P
      if_as (Ok v) same a b = subst (λ (q : Result T Refusal). IfErr q P) (sym same) tt
      if_as (Err e) same a b = subst (λ (q : Result T Refusal). IfErr q P) (sym same) (made a b)
