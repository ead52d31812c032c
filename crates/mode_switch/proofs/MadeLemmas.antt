-- Gates and jobs that are made one after the other.
use Rattle.std.proofs.Common.{◌≡◌, ℕ, ◌+◌, List, [], ◌∷◌, ◌++◌, Option, Some, length, refl, sym, ap, ◌∙◌, subst, arith, length-append}
use Rattle.sched_edges.specs.Gates.{GateHeld}
use Rattle.exec_lanes.specs.declared.kits.Kit.{Kit}
use Rattle.exec_lanes.specs.Kits.{AreFilled}
use Rattle.exec_lanes.proofs.PlaceLemmas.{each_push}
use Rattle.mode_switch.specs.Runs.{HaveOwnJobs}

-- one place more
pub length_more : {X : Type 0} (n : ℕ) (xs ys : List X) (x : X) → length xs ≡ n → ys ≡ xs ++ x ∷ [] → length ys ≡ n + 1
length_more n xs ys x long is = ap length is ∙ (let l = length-append xs (x ∷ []) in omega (arith, l, long))

-- one gate more
pub filled_more : (kits kits' : List (Kit GateHeld)) (gate : GateHeld) → AreFilled (length kits) kits → kits' ≡ kits ++ record { gate = Some gate } ∷ [] →
    AreFilled (length kits') kits'
filled_more kits kits' gate filled is =
    let grown = each_push (λ q o. (g : GateHeld) × (o ≡ Some (record { gate = Some g }))) kits (length kits) (record { gate = Some gate }) refl (gate, refl)
    filled in
    subst (λ n. AreFilled n kits') (sym (length_more (length kits) kits kits' (record { gate = Some gate }) refl is))
    (subst (λ xs. AreFilled (length kits + 1) xs) (sym is) grown)

-- one job more, which has the next number
pub own_more : {J : Type 0} (id : J → ℕ) (n : ℕ) (places places' : List (Option J)) (job : J) → length places ≡ n → HaveOwnJobs id n places →
    places' ≡ places ++ Some job ∷ [] → id job ≡ n
    → HaveOwnJobs id (n + 1) places'
own_more {J} id n places places' job long before is own =
    subst (λ xs. HaveOwnJobs id (n + 1) xs) (sym is)
    (each_push (λ q o. (j : J) × (o ≡ Some (Some j)) × (id j ≡ q)) places n (Some job) long (job, refl, own) before)
