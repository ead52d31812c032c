-- The answers for the pieces, from what `collect` gives.
use Rattle.std.proofs.Common.{◌≡◌, List, [], ◌∷◌, length, map, Ok, IfOk, refl, arith}
use Rattle.std.specs.List.{AllZip}
use Rattle.std.specs.declared.result.Result.{Result}

-- where no call refused, what each item shows has its answer
pub all_answered : {Z X A : Type 0} (E : Type 0) (show : Z → X) (P : X → A → Type 0) (zs : List Z) (answers : List A)
    → AllZip {B = Result A E} (λ z r. IfOk r (P (show z))) zs (map Ok answers) → AllZip P (map show zs) answers
all_answered E show P [] [] h = tt
all_answered E show P [] (a ∷ answers) h = absurd h
all_answered E show P (z ∷ zs) [] h = absurd h
all_answered E show P (z ∷ zs) (a ∷ answers) h = (h.0, all_answered E show P zs answers h.1)

-- each item has one answer
pub shown_length : {Z X A : Type 0} (show : Z → X) (P : X → A → Type 0) (zs : List Z) (answers : List A) → AllZip P (map show zs) answers
    → length answers ≡ length zs
shown_length show P [] [] h = refl
shown_length show P [] (a ∷ answers) h = absurd h
shown_length show P (z ∷ zs) [] h = absurd h
shown_length show P (z ∷ zs) (a ∷ answers) h = let rest = shown_length show P zs answers h.1 in omega (arith, rest)
