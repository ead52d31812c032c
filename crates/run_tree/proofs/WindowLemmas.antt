-- The windows between boundaries tile the units.
use Rattle.std.proofs.Common.{Bool, ap, arith, false, inl, inr, le_refl, subst, suc, sym, true, zero, ℕ, ◌+◌, ◌<◌, ◌^◌, ◌≡◌, ◌≤◌}
use Rattle.std.proofs.lemmas.Bool.{both_ways, cases_Bool, cases_eq, cases_lt}
use Rattle.run_tree.specs.Windows.{HasBoundaries, IsWindows, boundary_within, window_begin, window_end}

pub begin_at : (b : ℕ → Bool) (u : ℕ) → b (suc u) ≡ true → window_begin b (suc u) ≡ suc u
begin_at b u e = ap (λ (x : Bool). elim x as (λ y. ℕ) [ true ↦ suc u | false ↦ window_begin b u ]) e

pub begin_off : (b : ℕ → Bool) (u : ℕ) → b (suc u) ≡ false → window_begin b (suc u) ≡ window_begin b u
begin_off b u e = ap (λ (x : Bool). elim x as (λ y. ℕ) [ true ↦ suc u | false ↦ window_begin b u ]) e

pub within_at : (n : ℕ) (b : ℕ → Bool) (u : ℕ) → b (suc u) ≡ true → boundary_within (suc n) b u ≡ suc u
within_at n b u e = ap (λ (x : Bool). elim x as (λ y. ℕ) [ true ↦ suc u | false ↦ boundary_within n b (suc u) ]) e

pub within_off : (n : ℕ) (b : ℕ → Bool) (u : ℕ) → b (suc u) ≡ false → boundary_within (suc n) b u ≡ boundary_within n b (suc u)
within_off n b u e = ap (λ (x : Bool). elim x as (λ y. ℕ) [ true ↦ suc u | false ↦ boundary_within n b (suc u) ]) e

-- what a window's begin is
pub record IsBegin (b : ℕ → Bool) (u s : ℕ) : Type 0 where
  pub below : s ≤ u
  pub here : b s ≡ true
  pub last : (v : ℕ) → s < v → v ≤ u → b v ≡ false

-- what a window's end is
pub record IsEnd (b : ℕ → Bool) (u e : ℕ) : Type 0 where
  pub above : u < e
  pub here : b e ≡ true
  pub first : (v : ℕ) → u < v → v < e → b v ≡ false

-- the begin of a window is one
pub begin_is : (b : ℕ → Bool) → b 0 ≡ true → (u : ℕ) → IsBegin b u (window_begin b u)
begin_is b z zero = record { below = omega arith; here = z; last = λ v p q. absurd (omega arith) }
begin_is b z (suc u) =
    elim (cases_Bool (b (suc u))) [
      | inl e ↦ (let P : ℕ → Type 0 = λ s. IsBegin b (suc u) s in
          subst P (sym (begin_at b u e)) (record { below = le_refl (suc u); here = e; last = λ v p q. absurd (omega arith) }))
      | inr e ↦ (let P : ℕ → Type 0 = λ s. IsBegin b (suc u) s in
          let ih = begin_is b z u in
          subst P (sym (begin_off b u e)) (record {
            below = (let x = ih.below in omega (arith, x));
            here = ih.here;
            last = λ v p q. elim (cases_eq v (suc u)) [
              | inl same ↦ (let Q : ℕ → Type 0 = λ x. b x ≡ false in subst Q (sym same) e)
              | inr ne ↦ ih.last v p (omega arith)
            ];
          }))
    ]

-- where there is a boundary within n units
pub within_is : (n : ℕ) (b : ℕ → Bool) (u d : ℕ) → u < d → d ≤ u + n → b d ≡ true → IsEnd b u (boundary_within n b u)
within_is zero b u d p q e = absurd (omega arith)
within_is (suc n) b u d p q e =
    let P : ℕ → Type 0 = λ s. IsEnd b u s in
    elim (cases_Bool (b (suc u))) [
      | inl at ↦ subst P (sym (within_at n b u at)) (record { above = le_refl (suc u); here = at; first = λ v p' q'. absurd (omega arith) })
      | inr off ↦
          (let ne : suc u < d = elim (cases_eq d (suc u)) [
            | inl same ↦ (let Q : ℕ → Type 0 = λ x. b x ≡ true in absurd (both_ways (b (suc u)) off (subst Q same e)))
            | inr other ↦ omega arith
          ] in
          let ih = within_is n b (suc u) d ne (omega arith) e in
          subst P (sym (within_off n b u off)) (record {
            above = (let x = ih.above in omega (arith, x));
            here = ih.here;
            first = λ v p' q'. elim (cases_eq v (suc u)) [
              | inl same ↦ (let Q : ℕ → Type 0 = λ x. b x ≡ false in subst Q (sym same) off)
              | inr other ↦ ih.first v (omega arith) q'
            ];
          }))
    ]

-- the end of a window is one
pub end_is : (b : ℕ → Bool) → HasBoundaries b → (u : ℕ) → IsEnd b u (window_end b u)
unfolding window_end
end_is b h u = let (d, p, q, e) = h.later u in within_is (2 ^ 33) b u d p q e

-- there is one begin and one end
pub same_IsBegin : (b : ℕ → Bool) (u s s' : ℕ) → IsBegin b u s → IsBegin b u s' → s ≡ s'
same_IsBegin b u s s' x y =
    elim (cases_lt s s') [
      | inl l ↦ absurd (both_ways (b s') (x.last s' l y.below) y.here)
      | inr l ↦ elim (cases_lt s' s) [
        | inl m ↦ absurd (both_ways (b s) (y.last s m x.below) x.here)
        | inr m ↦ omega arith
      ]
    ]

-- nor two ends
pub same_IsEnd : (b : ℕ → Bool) (u e e' : ℕ) → IsEnd b u e → IsEnd b u e' → e ≡ e'
same_IsEnd b u e e' x y =
    elim (cases_lt e e') [
      | inl l ↦ absurd (both_ways (b e) (y.first e x.above l) x.here)
      | inr l ↦ elim (cases_lt e' e) [
        | inl m ↦ absurd (both_ways (b e') (x.first e' y.above m) y.here)
        | inr m ↦ omega arith
      ]
    ]

-- no boundary lies inside a window
pub inside : (b : ℕ → Bool) → HasBoundaries b → (u v : ℕ) → window_begin b u < v → v < window_end b u → b v ≡ false
inside b h u v p q =
    let x = begin_is b h.first u in
    let y = end_is b h u in
    elim (cases_lt u v) [ inl l ↦ y.first v l q | inr l ↦ x.last v p l ]

-- windows tile the units
pub windows_of : (b : ℕ → Bool) → HasBoundaries b → IsWindows (window_begin b) (window_end b)
windows_of b h = record {
  begun = λ u. (begin_is b h.first u).below;
  open_still = λ u. (end_is b h u).above;
  same_begin = λ u v p q. same_IsBegin b v (window_begin b v) (window_begin b u) (begin_is b h.first v)
      (record { below = p; here = (begin_is b h.first u).here; last = λ w m n. inside b h u w m (omega arith) });
  same_end = λ u v p q. same_IsEnd b v (window_end b v) (window_end b u) (end_is b h v)
      (record { above = q; here = (end_is b h u).here; first = λ w m n. inside b h u w (omega arith) n });
  next_begins = λ u v p. elim (cases_lt (window_begin b v) (window_end b u)) [
    | inl l ↦ absurd (both_ways (b (window_end b u)) ((begin_is b h.first v).last (window_end b u) l p) (end_is b h u).here)
    | inr l ↦ l
  ];
}

-- where one has all boundaries of the other, its window is the narrower
pub end_first : (b c : ℕ → Bool) → HasBoundaries b → HasBoundaries c → ((v : ℕ) → b v ≡ true → c v ≡ true) → (u : ℕ) → window_end c u ≤ window_end b u
end_first b c h k sub u =
    elim (cases_lt (window_end b u) (window_end c u)) [
      | inl l ↦ (let x = end_is b h u in absurd (both_ways (c (window_end b u)) ((end_is c k u).first (window_end b u) x.above l)
          (sub (window_end b u) x.here)))
      | inr l ↦ l
    ]

-- and begins no sooner
pub begin_last : (b c : ℕ → Bool) → HasBoundaries b → HasBoundaries c → ((v : ℕ) → b v ≡ true → c v ≡ true) → (u : ℕ) → window_begin b u ≤ window_begin c u
begin_last b c h k sub u =
    elim (cases_lt (window_begin c u) (window_begin b u)) [
      | inl l ↦ (let x = begin_is b h.first u in absurd (both_ways (c (window_begin b u)) ((begin_is c k.first u).last (window_begin b u) l x.below)
          (sub (window_begin b u) x.here)))
      | inr l ↦ l
    ]

-- the same window one unit on
pub same_window_end : (b : ℕ → Bool) → HasBoundaries b → (u : ℕ) → b (suc u) ≡ false → window_end b (suc u) ≡ window_end b u
same_window_end b h u off =
    let x = end_is b h u in
    let above : suc u < window_end b u = elim (cases_eq (window_end b u) (suc u)) [
      | inl e ↦ (let P : ℕ → Type 0 = λ w. b w ≡ true in absurd (both_ways (b (suc u)) off (subst P e x.here)))
      | inr ne ↦ (let a = x.above in omega (arith, a))
    ] in
    same_IsEnd b (suc u) (window_end b (suc u)) (window_end b u) (end_is b h (suc u))
    (record { above = above; here = x.here; first = λ v p q. x.first v (omega arith) q })

-- a pack's next boundary is no later than another one above
pub next-le : (b e : ℕ → ℕ) (w : IsWindows b e) (u d : ℕ) → b d ≡ d → u < d → e u ≤ d
next-le b e w u d at above =
    elim (cases_lt d (e u)) [
      | inl l ↦ (let s = w.same_begin u d (let x = w.begun u in omega (arith, x)) l in
          let x = w.begun u in
          omega (arith, s, x, at))
      | inr l ↦ l
    ]

-- a window's end is a boundary
pub next_at : (b e : ℕ → ℕ) (w : IsWindows b e) (u : ℕ) → b (e u) ≡ e u
next_at b e w u = let x = w.next_begins u (e u) (le_refl (e u)) in let y = w.begun (e u) in omega (arith, x, y)

-- and so is its begin
pub begins_again : (b e : ℕ → ℕ) (w : IsWindows b e) (u : ℕ) → b (b u) ≡ b u
begins_again b e w u =
    let x = w.begun u in
    let y = w.open_still u in
    w.same_begin u (b u) (le_refl (b u)) (omega (arith, x, y))

-- more boundaries are boundaries too
pub has_more : (b c : ℕ → Bool) → HasBoundaries b → ((v : ℕ) → b v ≡ true → c v ≡ true) → HasBoundaries c
has_more b c h sub = record {
  first = sub 0 h.first;
  later = λ u. (let (d, p, q, e) = h.later u in (d, p, q, sub d e));
}
