-- The first of two numbers decides whether the second is taken. The code's number is capped.
use Rattle.std.proofs.Common.{ℕ, ◌-◌, ◌^◌, ◌<◌, ◌≡◌, ◌≢◌, cond, eqb, Option, Some, None, option_map, option_and_then, refl, sym, arith}
use Rattle.std.proofs.lemmas.Bool.{cond-true, cond-false, eq-eqb, ne_eqb}
use Rattle.trace_check.proofs.TaskLemmas.{cap}

-- the second number, where the first is k
abbrev taken : ℕ → Option ℕ → Option ℕ → Option ℕ
taken k second first = option_and_then (λ i. cond (eqb i k) second None) first

pub no_first : (k : ℕ) (second first : Option ℕ) → None ≡ option_map cap first → None ≡ taken k second first
no_first k second None e = refl
no_first k second (Some n) e = (let f : ◌≡◌ {A = Option ℕ} None (Some (cap n)) = e in cc)

pub other_first : (k v : ℕ) (second first : Option ℕ) → k < 2 ^ 128 - 1 → Some v ≡ option_map cap first → v ≢ k → None ≡ taken k second first
other_first k v second None small e ne = refl
other_first k v second (Some n) small e ne =
    let is : v ≡ cap n = cc in
    sym (cond-false (eqb n k) second None (ne_eqb n k (λ same. ne (omega (arith, is, same, small)))))

pub this_first : (k v : ℕ) (second first : Option ℕ) → k < 2 ^ 128 - 1 → Some v ≡ option_map cap first → v ≡ k → second ≡ taken k second first
this_first k v second None small e same = (let f : ◌≡◌ {A = Option ℕ} (Some v) None = e in cc)
this_first k v second (Some n) small e same =
    let is : v ≡ cap n = cc in
    sym (cond-true (eqb n k) second None (eq-eqb n k (omega (arith, is, same, small))))
