-- The items of a server: those that have it as their home, and no others.
use Rattle.std.proofs.Common.{◌≡◌, ℕ, zero, suc, ◌+◌, ◌<◌, ◌==◌, List, [], ◌∷◌, length, get_or, filter, Contains, Bool, true, refl, ap, sym, arith, ◌∙◌}
use Rattle.std.specs.List.{range_with_len}
use Rattle.std.specs.List.Sorted.{IsStrictlyIncreasing}
use Rattle.std.proofs.lemmas.Bool.{cond_both, eq-eqb, eqb-true, both_ways}
use Rattle.std.proofs.lemmas.List.FromFn.{get_or-range_with_len, length-range_with_len}
use Rattle.std.proofs.lemmas.List.Kept.{IsStrictlyIncreasing-filter}
use Rattle.server_pack.specs.Servers.{items_of}

Contains-cons : (y x : ℕ) (xs : List ℕ) → Contains xs x → Contains (y ∷ xs) x
Contains-cons y x xs h = (suc h.0, omega (arith, h.1), h.2)

-- a filter keeps what passes
Contains-filter : (p : ℕ → Bool) (xs : List ℕ) (x : ℕ) → p x ≡ true → Contains xs x → Contains (filter p xs) x
Contains-filter p [] x passes h = absurd (let l = h.1 in omega (arith, l))
Contains-filter p (y ∷ xs) x passes (zero, l, e) =
    cond_both (p y) (y ∷ filter p xs) (filter p xs) (λ ys. Contains ys x) (λ kept. (0, omega arith, e))
    (λ fails. absurd (both_ways (p y) fails (ap p e ∙ passes)))
Contains-filter p (y ∷ xs) x passes (suc k, l, e) =
    let rest = Contains-filter p xs x passes (k, omega arith, e) in
    cond_both (p y) (y ∷ filter p xs) (filter p xs) (λ ys. Contains ys x) (λ kept. Contains-cons y x (filter p xs) rest) (λ fails. rest)

-- and nothing else
passes_from_filter : (p : ℕ → Bool) (xs : List ℕ) (x : ℕ) → Contains (filter p xs) x → Contains xs x × (p x ≡ true)
passes_from_filter p [] x = λ h. absurd (let l = h.1 in omega (arith, l))
passes_from_filter p (y ∷ xs) x =
    let later : Contains (filter p xs) x → Contains (y ∷ xs) x × (p x ≡ true) = λ h. let rest = passes_from_filter p xs x h in (
      Contains-cons y x xs rest.0,
      rest.1,
    ) in
    cond_both (p y) (y ∷ filter p xs) (filter p xs) (λ ys. Contains ys x → Contains (y ∷ xs) x × (p x ≡ true)) (λ passes h. first h.0 h.1 h.2 passes later)
    (λ fails. later)
  where
    first : (k : ℕ) → k < length (y ∷ filter p xs) → get_or (y ∷ filter p xs) k x ≡ x → p y ≡ true → (Contains (filter p xs) x → Contains (y ∷ xs) x
        × (p x ≡ true)) → Contains (y ∷ xs) x × (p x ≡ true)
    first zero l e passes later = ((0, omega arith, e), ap p (sym e) ∙ passes)
    first (suc k) l e passes later = later (k, omega arith, e)

pub items_held : (homes : List ℕ) (k : ℕ) → k < length homes → Contains (items_of homes (get_or homes k 0)) k
items_held homes k l =
    let home = get_or homes k 0 in
    let long = length-range_with_len 0 (length homes) in
    Contains-filter (λ j. get_or homes j 0 == home) (range_with_len 0 (length homes)) k (eq-eqb home home refl)
    (k, omega (arith, long, l), get_or-range_with_len 0 (length homes) k k l ∙ omega arith)

pub items_only : (homes : List ℕ) (b k : ℕ) → Contains (items_of homes b) k → (k < length homes) × (get_or homes k 0 ≡ b)
items_only homes b k h =
    let kept = passes_from_filter (λ j. get_or homes j 0 == b) (range_with_len 0 (length homes)) k h in
    let (i, l, e) = kept.0 in
    let long = length-range_with_len 0 (length homes) in
    let within : i < length homes = omega (arith, long, l) in
    let at = get_or-range_with_len 0 (length homes) i k within in
    (omega (arith, within, at, e), eqb-true (get_or homes k 0) b kept.1)

range_rises : (n : ℕ) → IsStrictlyIncreasing (range_with_len 0 n)
range_rises n k l =
    let long = length-range_with_len 0 n in
    let here = get_or-range_with_len 0 n k 0 (omega (arith, long, l)) in
    let next = get_or-range_with_len 0 n (k + 1) 0 (omega (arith, long, l)) in
    omega (arith, here, next)

pub items_rise : (homes : List ℕ) (b : ℕ) → IsStrictlyIncreasing (items_of homes b)
items_rise homes b = IsStrictlyIncreasing-filter (λ j. get_or homes j 0 == b) (range_with_len 0 (length homes)) (range_rises (length homes))
