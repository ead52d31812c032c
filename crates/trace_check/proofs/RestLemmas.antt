-- What is left of a text, and of a window.
use Rattle.std.proofs.Common.{ℕ, ◌+◌, ◌-◌, ◌*◌, ◌≡◌, ◌≤◌, ◌<◌, true, false, Bool, not, cond, List, ◌++◌, length, length-append, refl, sym, ap, ◌∙◌}
use Rattle.std.proofs.Common.{subst, arith, Fits, w64}
use Rattle.text_window.specs.Windows.{WindowHeld}

-- so many are no more than they are
pub no_more : (n : ℕ) → n ≤ n
no_more n = omega arith

-- no difference is greater than what it is taken from
pub difference_within : (a b : ℕ) → a - b ≤ a
difference_within a b = omega arith

-- what is no more than less is less
pub less_still : (behind later rest : ℕ) → behind ≤ later → later < rest → behind < rest
less_still behind later rest some next = omega arith

-- faults only rise
pub later_on : (a b c : ℕ) → a ≤ b → b ≤ c → a ≤ c
later_on a b c first then = omega arith

-- what follows bytes of the text is no longer than it
pub rest_within : (text gone rest : List ℕ) → text ≡ gone ++ rest → length rest ≤ length text
rest_within text gone rest split = (let long : length text ≡ length (gone ++ rest) = ap length split in omega (arith, long, length-append gone rest))

-- twice the bytes of a slice, and one more, are a number of 64 bits
pub twice_fits : (n : ℕ) → n * 1 < 9223372036854775808 → Fits w64 (2 * n)
twice_fits n few = omega arith

pub twice_more_fits : (n : ℕ) → n * 1 < 9223372036854775808 → Fits w64 (2 * n + 1)
twice_more_fits n few = omega arith

-- a window that was gone past some of stands within its limit
pub passed_within : (u v : WindowHeld) → u.count ≤ u.limit → v.count ≡ u.count → v.limit ≡ u.limit → v.count ≤ v.limit
passed_within u v within count limit = omega arith

-- and its limit is as it was
pub passed_small : (w u v : WindowHeld) (most : ℕ) → u.limit ≡ w.limit → v.limit ≡ u.limit → w.limit < most → v.limit < most
passed_small w u v most before limit small = subst (λ n. n < most) (sym (limit ∙ before)) small

-- a window that was filled has no more left
pub left_no_more : (u v w : WindowHeld) (more : List ℕ) → v.count ≡ u.count → v.limit ≡ u.limit → w.count ≡ v.count + length more → w.limit ≡ v.limit →
    w.limit + 1 - w.count ≤ u.limit + 1 - u.count
left_no_more u v w more count limit filled same = omega arith

-- and with one byte and more there is less left
pub left_less : (u v w : WindowHeld) (seen more : List ℕ) → v.count ≡ u.count → v.limit ≡ u.limit → seen ≡ v.ahead → w.ahead ≡ v.ahead ++ more →
    w.count ≡ v.count + length more → w.limit ≡ v.limit
    → w.count ≤ w.limit → 2 * length seen + 1 ≤ length w.ahead → w.limit + 1 - w.count < u.limit + 1 - u.count
left_less u v w seen more count limit is ahead filled same within enough =
    let long : length w.ahead ≡ length (v.ahead ++ more) = ap length ahead in
    let saw : length seen ≡ length v.ahead = ap length is in
    omega (arith, long, saw, length-append v.ahead more)

-- either there is less left, or now the source is known to be at its end
pub ends_or_less : (x y : ℕ) (now on : Bool) → now ≡ false → y ≤ x → (on ≡ true → y < x) → 2 * y + cond (not on) 0 1 < 2 * x + cond now 0 1
ends_or_less x y true on f le less = (let e : true ≡ false = f in cc)
ends_or_less x y false true f le less = (let l = less refl in omega (arith, l))
ends_or_less x y false false f le less = omega (arith, le)
