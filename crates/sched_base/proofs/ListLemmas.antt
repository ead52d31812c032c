-- Lists of numbers that pass a test.
use Rattle.std.proofs.Common.{Bool, List, None, Some, [], add-zero, ap, ap₂, arith, eq-eqb, eqb, false, filter, find, get_or, inl, inr, le_refl}
use Rattle.std.proofs.Common.{length, map, refl, subst, suc, sym, true, zero, ℕ, ◌*◌, ◌+◌, ◌<◌, ◌∙◌, ◌∷◌, ◌≡◌, ◌≤◌}
use Rattle.std.proofs.lemmas.Bool.{cases_Bool, cases_eq, cond-false, cond-true, ne_eqb}
use Rattle.std.specs.List.{range_with_len}
use Rattle.sched_base.specs.Counting.{bit, sum_to}
use Rattle.sched_base.proofs.CountingLemmas.{bit_at, bit_le, bit_off}
use Rattle.sched_base.proofs.SumLemmas.{sum_to-same, sum_to_front}

-- what `find` finds passes
pub find_passes : (p : ℕ → Bool) (xs : List ℕ) (x : ℕ) → find p xs ≡ Some x → p x ≡ true
find_passes p [] x e = cc
find_passes p (y ∷ ys) x e = elim (cases_Bool (p y)) [
  | inl f ↦ (let s : Some y ≡ Some x = sym (cond-true (p y) (Some y) (find p ys) f) ∙ e in let same : y ≡ x = cc in let P : ℕ → Type 0 = λ z. p z ≡ true in
      subst P same f)
  | inr f ↦ find_passes p ys x (sym (cond-false (p y) (Some y) (find p ys) f) ∙ e)
]

-- where none passes, none is found
pub find_none : (p : ℕ → Bool) (xs : List ℕ) → ((x : ℕ) → p x ≡ false) → find p xs ≡ None
find_none p [] h = refl
find_none p (x ∷ xs) h = cond-false (p x) (Some x) (find p xs) (h x) ∙ find_none p xs h

-- where none passes, none is left
pub filter_none : (p : ℕ → Bool) (xs : List ℕ) → ((x : ℕ) → p x ≡ false) → filter p xs ≡ []
filter_none p [] h = refl
filter_none p (x ∷ xs) h = cond-false (p x) (x ∷ filter p xs) (filter p xs) (h x) ∙ filter_none p xs h

-- the numbers from a on that pass begin with a, where it does
pub passing_on : (p : ℕ → Bool) (a n : ℕ) → p a ≡ true → filter p (range_with_len a (suc n)) ≡ a ∷ filter p (range_with_len (a + 1) n)
passing_on p a n on = cond-true (p a) (a ∷ filter p (range_with_len (a + 1) n)) (filter p (range_with_len (a + 1) n)) on

-- without a, where it does not
pub passing_off : (p : ℕ → Bool) (a n : ℕ) → p a ≡ false → filter p (range_with_len a (suc n)) ≡ filter p (range_with_len (a + 1) n)
passing_off p a n off = cond-false (p a) (a ∷ filter p (range_with_len (a + 1) n)) (filter p (range_with_len (a + 1) n)) off

-- what agrees on a list maps it alike
pub same_map : (f g : ℕ → Bool) (xs : List ℕ) → ((k : ℕ) → k < length xs → f (get_or xs k 0) ≡ g (get_or xs k 0)) → map f xs ≡ map g xs
same_map f g [] h = refl
same_map f g (x ∷ xs) h = ap₂ (λ (y : Bool) (ys : List Bool). y ∷ ys) (h 0 (omega arith)) (same_map f g xs (λ k l. h (suc k) (omega arith)))

-- how often i stands in the list
abbrev pub times : List ℕ → ℕ → ℕ
times [] i = 0
times (w ∷ ws) i = bit (eqb w i) + times ws i

-- how often i stands among the numbers from a on that pass
pub times_below : (p : ℕ → Bool) (n a i : ℕ) → i < a → times (filter p (range_with_len a n)) i ≡ 0
times_below p zero a i l = refl
times_below p (suc n) a i l =
    let ih = times_below p n (a + 1) i (omega arith) in
    elim (cases_Bool (p a)) [
      | inl on ↦ (let e = ap (λ ws. times ws i) (passing_on p a n on) in
          omega (arith, e, ih, bit_off (eqb a i) (ne_eqb a i (λ same. omega arith))))
      | inr off ↦ ap (λ ws. times ws i) (passing_off p a n off) ∙ ih
    ]

-- a number of the range stands there once where it passes
pub times_from : (p : ℕ → Bool) (n a i : ℕ) → a ≤ i → i < a + n → times (filter p (range_with_len a n)) i ≡ bit (p i)
times_from p zero a i l m = absurd (omega arith)
times_from p (suc n) a i l m =
    elim (cases_eq a i) [
      | inl same ↦
          (let rest = times_below p n (a + 1) i (omega arith) in
          let q : p a ≡ p i = ap p same in
          elim (cases_Bool (p a)) [
            | inl on ↦ (let e = ap (λ ws. times ws i) (passing_on p a n on) in
                omega (arith, e, rest, bit_at (eqb a i) (eq-eqb a i same), bit_at (p i) (sym q ∙ on)))
            | inr off ↦ (let e = ap (λ ws. times ws i) (passing_off p a n off) in
                omega (arith, e, rest, bit_off (p i) (sym q ∙ off)))
          ])
      | inr ne ↦
          (let ih = times_from p n (a + 1) i (omega arith) (omega arith) in
          elim (cases_Bool (p a)) [
            | inl on ↦ (let e = ap (λ ws. times ws i) (passing_on p a n on) in
                omega (arith, e, ih, bit_off (eqb a i) (ne_eqb a i ne)))
            | inr off ↦ ap (λ ws. times ws i) (passing_off p a n off) ∙ ih
          ])
    ]

-- and never more often
pub times_at_most : (p : ℕ → Bool) (n a i : ℕ) → times (filter p (range_with_len a n)) i ≤ bit (p i)
times_at_most p zero a i = omega arith
times_at_most p (suc n) a i =
    let ih = times_at_most p n (a + 1) i in
    elim (cases_Bool (p a)) [
      | inl on ↦ (let e = ap (λ ws. times ws i) (passing_on p a n on) in
          elim (cases_eq a i) [
            | inl same ↦ (let rest = times_below p n (a + 1) i (omega arith) in let q : p a ≡ p i = ap p same in
                omega (arith, e, rest, bit_le (eqb a i), bit_at (p i) (sym q ∙ on)))
            | inr ne ↦ omega (arith, e, ih, bit_off (eqb a i) (ne_eqb a i ne))
          ])
      | inr off ↦ (let e = ap (λ ws. times ws i) (passing_off p a n off) in omega (arith, e, ih))
    ]

-- how many pass
pub length-passing : (p : ℕ → Bool) (n a : ℕ) → length (filter p (range_with_len a n)) ≡ sum_to n (λ k. bit (p (a + k)))
length-passing p zero a = refl
length-passing p (suc n) a =
    let ih = length-passing p n (a + 1) in
    let front = sum_to_front n (λ k. bit (p (a + k))) in
    let shift = sum_to-same n (λ k. bit (p (a + 1 + k))) (λ k. bit (p (a + suc k))) (λ k l. ap (λ x. bit (p x)) (omega arith)) in
    let zero_at = ap (λ x. bit (p x)) (add-zero a) in
    elim (cases_Bool (p a)) [
      | inl on ↦ (let e = ap length (passing_on p a n on) in
          omega (arith, e, ih, front, shift, zero_at, bit_at (p a) on))
      | inr off ↦ (let e = ap length (passing_off p a n off) in
          omega (arith, e, ih, front, shift, zero_at, bit_off (p a) off))
    ]

-- what holds of the first item and of each item of the rest holds of each
pub at_front : (Q : ℕ → Type 0) (x : ℕ) (xs : List ℕ) → Q x → ((i : ℕ) → i < length xs → Q (get_or xs i 0)) → (i : ℕ) → i < length (x ∷ xs) →
    Q (get_or (x ∷ xs) i 0)
at_front Q x xs q f zero l = q
at_front Q x xs q f (suc i) l = f i (omega arith)

-- the packs of level 0 are packs
pub first_from : (p : ℕ → Bool) (n a i : ℕ) → i < length (filter p (range_with_len a n)) → (get_or (filter p (range_with_len a n)) i 0 < a + n)
    × (p (get_or (filter p (range_with_len a n)) i 0) ≡ true)
first_from p zero a i l = absurd (omega arith)
first_from p (suc n) a i l =
    elim (cases_Bool (p a)) [
      | inl on ↦
          (let e = passing_on p a n on in
          let P : List ℕ → Type 0 = λ xs. i < length xs → (get_or xs i 0 < a + suc n) × (p (get_or xs i 0) ≡ true) in
          subst P (sym e) (at_front (λ z. (z < a + suc n) × (p z ≡ true)) a (filter p (range_with_len (a + 1) n)) (omega arith, on)
          (λ k m. let r = first_from p n (a + 1) k m in (let b = r.0 in omega (arith, b), r.1)) i) l)
      | inr off ↦
          (let e = passing_off p a n off in
          let P : List ℕ → Type 0 = λ xs. i < length xs → (get_or xs i 0 < a + suc n) × (p (get_or xs i 0) ≡ true) in
          subst P (sym e) (λ m. let r = first_from p n (a + 1) i m in (let b = r.0 in omega (arith, b), r.1)) l)
    ]

-- what passes is of the range
pub passing_from : (p : ℕ → Bool) (n a i : ℕ) → i < length (filter p (range_with_len a n)) → a ≤ get_or (filter p (range_with_len a n)) i 0
passing_from p zero a i l = absurd (omega arith)
passing_from p (suc n) a i l =
    let P : List ℕ → Type 0 = λ xs. i < length xs → a ≤ get_or xs i 0 in
    let rest : (k : ℕ) → k < length (filter p (range_with_len (a + 1) n)) → a ≤ get_or (filter p (range_with_len (a + 1) n)) k 0 =
    (λ k m. let ih = passing_from p n (a + 1) k m in omega (arith, ih)) in
    elim (cases_Bool (p a)) [
      | inl on ↦ subst P (sym (passing_on p a n on)) (at_front (λ x. a ≤ x) a (filter p (range_with_len (a + 1) n)) (le_refl a) rest i) l
      | inr off ↦ subst P (sym (passing_off p a n off)) (rest i) l
    ]

-- and in order
pub passing_increases : (p : ℕ → Bool) (n a k : ℕ) → suc k < length (filter p (range_with_len a n)) → get_or (filter p (range_with_len a n)) k 0 < get_or
    (filter p (range_with_len a n)) (suc k) 0
passing_increases p zero a k l = absurd (omega arith)
passing_increases p (suc n) a k l =
    let P : List ℕ → Type 0 = λ xs. suc k < length xs → get_or xs k 0 < get_or xs (suc k) 0 in
    elim (cases_Bool (p a)) [
      | inl on ↦ subst P (sym (passing_on p a n on)) (after_first (filter p (range_with_len (a + 1) n)) k
          (λ m. (let low = passing_from p n (a + 1) 0 m in omega (arith, low))) (passing_increases p n (a + 1))) l
      | inr off ↦ subst P (sym (passing_off p a n off)) (passing_increases p n (a + 1) k) l
    ]
  where
    after_first : (xs : List ℕ) (k : ℕ) → (0 < length xs → a < get_or xs 0 0) → ((j : ℕ) → suc j < length xs → get_or xs j 0 < get_or xs (suc j) 0) →
        suc k < length (a ∷ xs) → get_or (a ∷ xs) k 0 < get_or (a ∷ xs) (suc k) 0
    after_first xs zero first later m = first (omega arith)
    after_first xs (suc j) first later m = later j (omega arith)

-- the sum over a list
abbrev pub sum_list : (ℕ → ℕ) → List ℕ → ℕ
sum_list g [] = 0
sum_list g (x ∷ xs) = g x + sum_list g xs

-- item by item
pub sum_list_places : (g : ℕ → ℕ) (xs : List ℕ) → sum_to (length xs) (λ i. g (get_or xs i 0)) ≡ sum_list g xs
sum_list_places g [] = refl
sum_list_places g (x ∷ xs) = sum_to_front (length xs) (λ i. g (get_or (x ∷ xs) i 0)) ∙ ap (λ s. g x + s) (sum_list_places g xs)

-- over the numbers from a on that pass
pub sum_list_passing : (g : ℕ → ℕ) (p : ℕ → Bool) (n a : ℕ) → sum_list g (filter p (range_with_len a n)) ≡ sum_to n (λ k. bit (p (a + k)) * g (a + k))
sum_list_passing g p zero a = refl
sum_list_passing g p (suc n) a =
    let ih = sum_list_passing g p n (a + 1) in
    let front = sum_to_front n (λ k. bit (p (a + k)) * g (a + k)) in
    let shift = sum_to-same n (λ k. bit (p (a + 1 + k)) * g (a + 1 + k)) (λ k. bit (p (a + suc k)) * g (a + suc k)) (λ k l. ap (λ x. bit (p x) * g x)
    (omega arith)) in
    let zero_at = ap (λ x. bit (p x) * g x) (add-zero a) in
    elim (cases_Bool (p a)) [
      | inl on ↦ (let e = ap (sum_list g) (passing_on p a n on) in
          let one = ap (λ b. b * g a) (bit_at (p a) on) in
          omega (arith, e, ih, front, shift, zero_at, one))
      | inr off ↦ (let e = ap (sum_list g) (passing_off p a n off) in
          let none = ap (λ b. b * g a) (bit_off (p a) off) in
          omega (arith, e, ih, front, shift, zero_at, none))
    ]
