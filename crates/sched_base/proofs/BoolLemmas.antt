-- Tests.
use Rattle.std.proofs.Common.{Bool, false, refl, sym, true, ◌≡◌}

pub same_Bool : (a b : Bool) → (a ≡ true → b ≡ true) → (b ≡ true → a ≡ true) → a ≡ b
same_Bool true b f g = sym (f refl)
same_Bool false true f g = g refl
same_Bool false false f g = refl
