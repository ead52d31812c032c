-- Kits and jobs that are made one after the other.
use Rattle.std.proofs.Common.{◌≡◌, ℕ, ◌+◌, List, [], ◌∷◌, ◌++◌, Option, Some, length, refl, sym, ap, ◌∙◌, subst, arith, length-append}
use Rattle.exec_lanes.specs.declared.kits.Kit.{Kit}
use Rattle.exec_lanes.specs.Kits.{AreFilled}
use Rattle.exec_workers.specs.Runs.{AreFresh}
use Rattle.exec_lanes.proofs.PlaceLemmas.{each_push}

-- one place more
pub length_more : {X : Type 0} (n : ℕ) (xs ys : List X) (x : X) → length xs ≡ n → ys ≡ xs ++ x ∷ [] → length ys ≡ n + 1
length_more n xs ys x long is = ap length is ∙ (let l = length-append xs (x ∷ []) in omega (arith, l, long))

-- one gate more
pub filled_more : {G : Type 0} (n : ℕ) (kits kits' : List (Kit G)) (gate : G) → length kits ≡ n → AreFilled n kits →
    kits' ≡ kits ++ record { gate = Some gate } ∷ [] → AreFilled (n + 1) kits'
filled_more {G} n kits kits' gate long filled is =
    subst (λ ks. AreFilled (n + 1) ks) (sym is)
    (each_push (λ q o. (g : G) × (o ≡ Some (record { gate = Some g }))) kits n (record { gate = Some gate }) long (gate, refl) filled)

-- one job more, which has the next number and has worked no tick
pub fresh_more : {J : Type 0} (id used : J → ℕ) (n : ℕ) (places places' : List (Option J)) (job : J) → length places ≡ n → AreFresh id used n places →
    places' ≡ places ++ Some job ∷ [] → id job ≡ n → used job ≡ 0 → AreFresh id used (n + 1) places'
fresh_more {J} id used n places places' job long fresh is own unused =
    subst (λ xs. AreFresh id used (n + 1) xs) (sym is)
    (each_push (λ q o. (j : J) × (o ≡ Some (Some j)) × (id j ≡ q) × (used j ≡ 0)) places n (Some job) long (job, refl, own, unused) fresh)
