use Rattle.std.proofs.Common.{◌≡◌, ◌<◌, ℕ, suc, List, [], ◌∷◌, length, get_or, Option, None, ap₂, arith, refl}
use Rattle.cpu_assign.proofs.steps.are_same.Goals as goal

-- lists of one length that agree at each place are the same
same_options : (xs ys : List (Option ℕ)) → length xs ≡ length ys → ((k : ℕ) → k < length xs → get_or xs k None ≡ get_or ys k None) → xs ≡ ys
same_options [] [] long each = refl
same_options [] (y ∷ ys) long each = absurd (omega (arith, long))
same_options (x ∷ xs) [] long each = absurd (omega (arith, long))
same_options (x ∷ xs) (y ∷ ys) long each = ap₂ (λ (z : Option ℕ) (zs : List (Option ℕ)). z ∷ zs) (each 0 (omega arith))
    (same_options xs ys (omega (arith, long)) (λ k l. each (suc k) (omega (arith, l))))

pub returns : goal.returns
returns c = λ _. same_options c.args.one.now c.args.other.now (omega arith) (λ k l. c.loop-i.invariant k (omega arith))
