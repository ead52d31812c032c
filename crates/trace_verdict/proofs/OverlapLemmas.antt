-- A walk through rows in the order of key and start tells whether two of one key overlap.
use Rattle.std.proofs.Common.{suc, add-one, ℕ, ◌+◌, ◌<◌, ◌≤◌, ◌≡◌, ◌⊎◌, inl, inr, true, false, List, [], ◌∷◌, get_or, Some, None, ◌&&◌, not, eqb, ltb}
use Rattle.std.proofs.Common.{leb, sym, refl, ◌∙◌, subst, arith}
use Rattle.std.specs.List.{AllByRecursion, IsDistinct}
use Rattle.std.specs.List.Sorted.{IsSorted}
use Rattle.std.specs.declared.cmp.Ordering.{Ordering}
use Rattle.std.specs.declared.cmp.Ordering.TheVariants.{Less, Equal}
use Rattle.std.specs.Ordering.{nat_cmp, ordering_then, is_lt}
use Rattle.std.proofs.lemmas.Bool.{cases_lt, cases_eq, both_ways, and_parts, and_from, or_cases, or_left, or_right, eqb-true, eq-eqb, eqb-false}
use Rattle.std.proofs.lemmas.Bool.{ne_eqb, leb-true, le-leb, ltb-true, lt-ltb, le-ltb, not-true, not_from_false, false_from_ne_true, cond-true}
use Rattle.std.proofs.lemmas.Bool.{cond-false}
use Rattle.trace_verdict.specs.declared.entries.Entry.{Entry}
use Rattle.trace_verdict.specs.Orders.{entry_cmp}
use Rattle.trace_verdict.specs.Overlaps.{IsLong, clash, is_apart_from, walk}

-- e stands before f in the order of key and start
abbrev pub Before : Entry → Entry → Type 0
Before e f = (e.key < f.key) ⊎ ((e.key ≡ f.key) × (e.start ≤ f.start))

abbrev pub Rising : List Entry → Type 0
Rising [] = Unit {0}
Rising (e ∷ es) = AllByRecursion (Before e) es × Rising es

pub clash_from : (limit : ℕ) (e f : Entry) → e.place < limit → f.place < limit → e.key ≡ f.key → e.start < f.end → f.start < e.end → clash limit e f ≡ true
clash_from limit e f a b c d g = and_from _ _ (and_from _ _ (lt-ltb _ _ a) (lt-ltb _ _ b)) (and_from _ _ (eq-eqb _ _ c) (and_from _ _ (lt-ltb _ _ d)
    (lt-ltb _ _ g)))

pub record Clashing (limit : ℕ) (e f : Entry) : Type 0 where
  pub first : e.place < limit
  pub second : f.place < limit
  pub key : e.key ≡ f.key
  pub begins : e.start < f.end
  pub ends : f.start < e.end

pub clash_parts : (limit : ℕ) (e f : Entry) → clash limit e f ≡ true → Clashing limit e f
clash_parts limit e f h =
    let p = and_parts (ltb e.place limit && ltb f.place limit) (eqb e.key f.key && (ltb e.start f.end && ltb f.start e.end)) h in
    let q = and_parts (ltb e.place limit) (ltb f.place limit) p.0 in
    let r = and_parts (eqb e.key f.key) (ltb e.start f.end && ltb f.start e.end) p.1 in
    let s = and_parts (ltb e.start f.end) (ltb f.start e.end) r.1 in
    record { first = ltb-true _ _ q.0; second = ltb-true _ _ q.1; key = eqb-true _ _ r.0; begins = ltb-true _ _ s.0; ends = ltb-true _ _ s.1 }

-- an entry past the limit clashes with none
pub no_clash_past : (limit : ℕ) (e : Entry) (es : List Entry) → limit ≤ e.place → AllByRecursion (λ f. clash limit e f ≡ false) es
no_clash_past limit e [] h = tt
no_clash_past limit e (f ∷ es) h =
    (false_from_ne_true _ (λ c. (let p = clash_parts limit e f c in absurd (omega (arith, p.first, h)))), no_clash_past limit e es h)

-- the last entry ends before each later one of its key begins
pub clear_of_all : (limit : ℕ) (l e : Entry) (es : List Entry) → l.place < limit → e.place < limit → Before l e → is_apart_from (Some l) e ≡ true →
    AllByRecursion (Before e) es → AllByRecursion (λ f. clash limit l f ≡ false) es
clear_of_all limit l e [] a b c h up = tt
clear_of_all limit l e (f ∷ es) a b c h up = (
  false_from_ne_true _ (λ d. (
      let p = clash_parts limit l f d in
      elim (or_cases (not (eqb l.key e.key)) (leb l.end e.start) h) [
        | inl other ↦ (
            let ne = eqb-false _ _ (not-true _ other) in
            elim c [
              | inr same ↦ ne same.0
              | inl less ↦ (elim up.0 [ inl more ↦ absurd (omega (arith, p.key, less, more)) | inr level ↦ absurd (omega (arith, p.key, less, level.0)) ])
            ])
        | inr clear ↦ (
            let k = leb-true _ _ clear in
            elim up.0 [
              | inr level ↦ absurd (omega (arith, p.ends, k, level.1))
              | inl more ↦ (elim c [ inl less ↦ absurd (omega (arith, p.key, less, more)) | inr same ↦ absurd (omega (arith, p.key, same.0, more)) ])
            ])
      ])),
  clear_of_all limit l e es a b c h up.1,
)

pub clear_of_one : (limit : ℕ) (l e : Entry) → is_apart_from (Some l) e ≡ true → clash limit l e ≡ false
clear_of_one limit l e h =
    false_from_ne_true _ (λ d. (
    let p = clash_parts limit l e d in
    elim (or_cases (not (eqb l.key e.key)) (leb l.end e.start) h) [
      | inl other ↦ eqb-false _ _ (not-true _ other) p.key
      | inr clear ↦ (let k = leb-true _ _ clear in absurd (omega (arith, p.ends, k)))
    ]))

pub walk_after : (limit : ℕ) (l : Entry) (es : List Entry) → l.place < limit → AllByRecursion (Before l) es → Rising es → walk limit (Some l) es ≡ true
    → AllByRecursion (λ f. clash limit l f ≡ false) es × IsDistinct (clash limit) es
unfolding IsDistinct
walk_after limit l [] a up rise h = (tt, tt)
walk_after limit l (e ∷ es) a up rise h =
    elim (cases_lt e.place limit) [
      | inl below ↦ (
          let w : (is_apart_from (Some l) e && walk limit (Some e) es) ≡ true = sym (cond-true _ _ _ (lt-ltb _ _ below)) ∙ h in
          let p = and_parts (is_apart_from (Some l) e) (walk limit (Some e) es) w in
          let rest = walk_after limit e es below rise.0 rise.1 p.1 in
          ((clear_of_one limit l e p.0, clear_of_all limit l e es a below up.0 p.0 rise.0), rest))
      | inr past ↦ (
          let w : walk limit (Some l) es ≡ true = sym (cond-false _ _ _ (le-ltb _ _ past)) ∙ h in
          let rest = walk_after limit l es a up.1 rise.1 w in (
            (false_from_ne_true _ (λ c. (let p = clash_parts limit l e c in absurd (omega (arith, p.second, past)))), rest.0),
            (no_clash_past limit e es past, rest.1),
          ))
    ]

pub walk_to : (limit : ℕ) (es : List Entry) → Rising es → walk limit None es ≡ true → IsDistinct (clash limit) es
unfolding IsDistinct
walk_to limit [] rise h = tt
walk_to limit (e ∷ es) rise h =
    elim (cases_lt e.place limit) [
      | inl below ↦ (
          let w : walk limit (Some e) es ≡ true = sym (cond-true _ _ _ (lt-ltb _ _ below)) ∙ h in
          let rest = walk_after limit e es below rise.0 rise.1 w in
          (rest.0, rest.1))
      | inr past ↦ (
          let w : walk limit None es ≡ true = sym (cond-false _ _ _ (le-ltb _ _ past)) ∙ h in
          (no_clash_past limit e es past, walk_to limit es rise.1 w))
    ]

pub apart_if_clear : (limit : ℕ) (l e : Entry) → l.place < limit → e.place < limit → IsLong e → Before l e → clash limit l e ≡ false →
    is_apart_from (Some l) e ≡ true
apart_if_clear limit l e a b long up c =
    elim (cases_eq l.key e.key) [
      | inr ne ↦ or_left _ _ (not_from_false _ (ne_eqb _ _ ne))
      | inl same ↦ (elim (cases_lt e.start l.end) [
        | inr clear ↦ or_right _ _ (le-leb _ _ clear)
        | inl over ↦ (elim up [
          | inl less ↦ absurd (omega (arith, same, less))
          | inr level ↦ (let t = clash_from limit l e a b same (omega (arith, level.1, long)) over in absurd (both_ways _ c t))
        ])
      ])
    ]

pub walk_back_after : (limit : ℕ) (l : Entry) (es : List Entry) → l.place < limit → AllByRecursion (Before l) es → Rising es → AllByRecursion IsLong es
    → AllByRecursion (λ f. clash limit l f ≡ false) es → IsDistinct (clash limit) es → walk limit (Some l) es ≡ true
unfolding IsDistinct
walk_back_after limit l [] a up rise long c d = refl
walk_back_after limit l (e ∷ es) a up rise long c d =
    elim (cases_lt e.place limit) [
      | inl below ↦ (
          let one = apart_if_clear limit l e a below long.0 up.0 c.0 in
          let rest = walk_back_after limit e es below rise.0 rise.1 long.1 d.0 d.1 in
          cond-true _ _ _ (lt-ltb _ _ below) ∙ and_from _ _ one rest)
      | inr past ↦ cond-false _ _ _ (le-ltb _ _ past) ∙ walk_back_after limit l es a up.1 rise.1 long.1 c.1 d.1
    ]

pub walk_back : (limit : ℕ) (es : List Entry) → Rising es → AllByRecursion IsLong es → IsDistinct (clash limit) es → walk limit None es ≡ true
unfolding IsDistinct
walk_back limit [] rise long d = refl
walk_back limit (e ∷ es) rise long d =
    elim (cases_lt e.place limit) [
      | inl below ↦ cond-true _ _ _ (lt-ltb _ _ below) ∙ walk_back_after limit e es below rise.0 rise.1 long.1 d.0 d.1
      | inr past ↦ cond-false _ _ _ (le-ltb _ _ past) ∙ walk_back limit es rise.1 long.1 d.1
    ]

-- ---- from the sort's order

pub key_cases : (a b : ℕ) (rest : Ordering) → is_lt (ordering_then (nat_cmp b a) rest) ≡ false → (a < b) ⊎ ((a ≡ b) × (is_lt rest ≡ false))
key_cases a b rest h =
    elim (cases_lt a b) [
      | inl less ↦ inl less
      | inr le ↦ (elim (cases_lt b a) [
        | inl more ↦ (
            let e : nat_cmp b a ≡ Less = cond-true _ _ _ (lt-ltb _ _ more) in
            let f = subst (λ o. is_lt (ordering_then o rest) ≡ false) e h in
            absurd (both_ways _ f refl))
        | inr ge ↦ (
            let same : a ≡ b = omega (arith, le, ge) in
            let e : nat_cmp b a ≡ Equal = cond-false _ _ _ (le-ltb _ _ ge) ∙ cond-true _ _ _ (eq-eqb _ _ (sym same)) in
            inr (same, subst (λ o. is_lt (ordering_then o rest) ≡ false) e h))
      ])
    ]

pub Before-from_cmp : (e f : Entry) → is_lt (entry_cmp f e) ≡ false → Before e f
Before-from_cmp e f h =
    elim (key_cases e.key f.key _ h) [
      | inl less ↦ inl less
      | inr same ↦ (elim (key_cases e.start f.start _ same.1) [
        | inl less ↦ inr (same.0, omega (arith, less))
        | inr level ↦ inr (same.0, omega (arith, level.0))
      ])
    ]

pub Before-trans : (e f g : Entry) → Before e f → Before f g → Before e g
Before-trans e f g a b =
    elim a [
      | inl x ↦ (elim b [ inl y ↦ inl (omega (arith, x, y)) | inr y ↦ inl (omega (arith, x, y.0)) ])
      | inr x ↦ (elim b [ inl y ↦ inl (omega (arith, x.0, y)) | inr y ↦ inr (x.0 ∙ y.0, omega (arith, x.1, y.1)) ])
    ]

abbrev pub Neighbours : List Entry → Type 0
Neighbours [] = Unit {0}
Neighbours (e ∷ []) = Unit {0}
Neighbours (e ∷ (f ∷ es)) = Before e f × Neighbours (f ∷ es)

pub neighbours_from_sorted : (es : List Entry) → IsSorted entry_cmp es → Neighbours es
neighbours_from_sorted [] s = tt
neighbours_from_sorted (e ∷ []) s = tt
neighbours_from_sorted (e ∷ (f ∷ es)) s = (
  Before-from_cmp e f (s 0 e (omega arith) (omega arith)),
  neighbours_from_sorted (f ∷ es) (λ k d low high.
      let one : k + 1 ≡ suc k = add-one k in
      let h = s (k + 1) d (omega arith) (omega (arith, high)) in
      let move : is_lt (entry_cmp (get_or (e ∷ (f ∷ es)) (suc (k + 1)) d) (get_or (e ∷ (f ∷ es)) (suc k) d)) ≡ false
      = subst (λ w. is_lt (entry_cmp (get_or (e ∷ (f ∷ es)) (suc (k + 1)) d) (get_or (e ∷ (f ∷ es)) w d)) ≡ false) one
      (subst (λ w. is_lt (entry_cmp (get_or (e ∷ (f ∷ es)) w d) (get_or (e ∷ (f ∷ es)) (k + 1) d)) ≡ false) (add-one (k + 1)) h) in
      move),
)

pub before_weaker : (e f : Entry) (es : List Entry) → Before e f → AllByRecursion (Before f) es → AllByRecursion (Before e) es
before_weaker e f [] b all = tt
before_weaker e f (g ∷ es) b all = (Before-trans e f g b all.0, before_weaker e f es b all.1)

pub Rising-from_neighbours : (es : List Entry) → Neighbours es → Rising es
Rising-from_neighbours [] n = tt
Rising-from_neighbours (e ∷ []) n = (tt, tt)
Rising-from_neighbours (e ∷ (f ∷ es)) n =
    let rest = Rising-from_neighbours (f ∷ es) n.1 in
    ((n.0, before_weaker e f es n.0 rest.0), rest)

pub Rising-from_sorted : (es : List Entry) → IsSorted entry_cmp es → Rising es
Rising-from_sorted es s = Rising-from_neighbours es (neighbours_from_sorted es s)

pub walk_none : (es : List Entry) → walk 0 None es ≡ true
walk_none [] = refl
walk_none (e ∷ es) = cond-false _ _ _ (le-ltb e.place 0 (omega arith)) ∙ walk_none es

pub first_found : (es : List Entry) (low high : ℕ) → IsSorted entry_cmp es → AllByRecursion IsLong es → low + 1 ≡ high → walk high None es ≡ false →
    IsDistinct (clash (low + 1)) es → ⊥
first_found es low high s long e f d =
    let t = walk_back (low + 1) es (Rising-from_sorted es s) long d in
    both_ways _ f (subst (λ w. walk w None es ≡ true) e t)
