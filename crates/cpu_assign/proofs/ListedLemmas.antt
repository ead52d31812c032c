-- What is listed, and what lists of changes say.
use Rattle.std.proofs.Common.{◌≡◌, ℕ, zero, suc, ◌+◌, ◌<◌, ◌≤◌, ◌&&◌, ◌||◌, ◌++◌, not, Bool, true, false, cond, List, [], ◌∷◌, map, filter, take}
use Rattle.std.proofs.Common.{length, get_or, Option, Some, None, refl, ap, ap₂, arith, inl, inr, sym, subst, ◌∙◌}
use Rattle.std.specs.List.{range_with_len}
use Rattle.std.proofs.lemmas.Bool.{cases_Bool, cases_eq, both_ways, and_parts, and_from, and_left, not-true, ne_eqb}
use Rattle.std.proofs.lemmas.List.{take_more_set}
use Rattle.std.proofs.lemmas.List.Folds.{list_any_at}
use Rattle.std.proofs.Math.ListN.{set}
use Rattle.sched_base.specs.Candidates.{is_at}
use Rattle.sched_base.specs.Places.{is_running, is_held, kept, waiting}
use Rattle.sched_base.proofs.ListLemmas.{first_from, passing_on, passing_off}
use Rattle.cpu_assign.specs.Noted.{IsNoted}
use Rattle.cpu_assign.specs.Changed.{AreStopped, stopping}
use Rattle.cpu_assign.proofs.HolderLemmas.{some_is_at, holds_within}

-- one more is put behind the first ones
pub one_more : (packs : List ℕ) (count i : ℕ) → count < length packs → take (count + 1) (set packs count i) ≡ take count packs ++ i ∷ []
one_more packs count i l = take_more_set packs count i l

-- ---- the packs that stop

-- what passes stands among those that pass
pub passing_index : (p : ℕ → Bool) (n a i : ℕ) → a ≤ i → i < a + n → p i ≡ true → (k : ℕ) × (k < length (filter p (range_with_len a n)))
    × (get_or (filter p (range_with_len a n)) k 0 ≡ i)
passing_index p zero a i low high on = absurd (omega (arith, low, high))
passing_index p (suc n) a i low high on = elim (cases_eq a i) [
  | inl same ↦ (let P : List ℕ → Type 0 = λ xs. (k : ℕ) × (k < length xs) × (get_or xs k 0 ≡ i) in subst P (sym (passing_on p a n (ap p same ∙ on))) (
    0,
    omega arith,
    same,
  ))
  | inr ne ↦
      (let ih = passing_index p n (a + 1) i (omega (arith, low, ne)) (omega (arith, high)) on in
      let P : List ℕ → Type 0 = λ xs. (k : ℕ) × (k < length xs) × (get_or xs k 0 ≡ i) in
      elim (cases_Bool (p a)) [
        | inl here ↦ subst P (sym (passing_on p a n here)) (suc ih.0, (let l = ih.1 in omega (arith, l)), ih.2)
        | inr off ↦ subst P (sym (passing_off p a n off)) ih
      ])
]

-- each of those that stop is a pack, and runs no more
pub stops_each : (runs : List Bool) (onto : List (Option ℕ)) (stopped : List ℕ) (k : ℕ) → stopped ≡ stopping runs onto → k < length stopped →
    (get_or stopped k 0 < length runs) × (is_running runs (get_or stopped k 0) ≡ false)
stops_each runs onto stopped k e l =
    let P : List ℕ → Type 0 = λ xs. k < length xs → (get_or xs k 0 < length runs) × (is_running runs (get_or xs k 0) ≡ false) in
    subst P (sym e) (λ b.
    let f = first_from (λ i. not (is_running runs i) && is_held onto i) (length runs) 0 k b in
    let both = and_parts (not (is_running runs (get_or (stopping runs onto) k 0))) (is_held onto (get_or (stopping runs onto) k 0)) f.1 in
    ((let low = f.0 in omega (arith, low)), not-true (is_running runs (get_or (stopping runs onto) k 0)) both.0)) l

pub stopped_are : (runs : List Bool) (onto last : List (Option ℕ)) (stopped : List ℕ) → IsNoted onto last → length last ≡ length runs →
    stopped ≡ stopping runs onto → AreStopped runs onto stopped
stopped_are runs onto last stopped noted long e = record {
  rest = λ k l. (stops_each runs onto stopped k e l).1;
  all = λ p i at off.
      (let b = (noted.noted p i at).0 in
      let there = list_any_at (λ o. is_at o i) onto p None (holds_within onto p i at) (some_is_at (get_or onto p None) i at) in
      let P : List ℕ → Type 0 = λ xs. (k : ℕ) × (k < length xs) × (get_or xs k 0 ≡ i) in
      subst P (sym e) (passing_index (λ j. not (is_running runs j) && is_held onto j) (length runs) 0 i (omega arith) (omega (arith, b, long))
      (and_from (not (is_running runs i)) (is_held onto i) (ap not off) there)));
}

-- ---- the packs that begin

-- each of those that begin is a pack
pub begins_each : (runs : List Bool) (onto : List (Option ℕ)) (begun : List ℕ) (k : ℕ) → begun ≡ waiting runs onto → k < length begun →
    get_or begun k 0 < length runs
begins_each runs onto begun k e l =
    let P : List ℕ → Type 0 = λ xs. k < length xs → get_or xs k 0 < length runs in
    subst P (sym e) (λ b. let f = (first_from (λ i. is_running runs i && not (is_held onto i)) (length runs) 0 k b).0 in omega (arith, f)) l

-- a pack that runs is on the same processors once the others have left
held_kept_on : (runs : List Bool) (i : ℕ) → is_running runs i ≡ true → (onto : List (Option ℕ)) → is_held (map (kept runs) onto) i ≡ is_held onto i
held_kept_on runs i on [] = refl
held_kept_on runs i on (o ∷ onto) = ap₂ (λ (x y : Bool). x || y) (one o) (held_kept_on runs i on onto)
  where
    one : (o : Option ℕ) → is_at (kept runs o) i ≡ is_at o i
    one None = refl
    one (Some j) = elim (cases_Bool (is_running runs j)) [
      | inl go ↦ ap (λ (b : Bool). is_at (elim b as (λ y. Option ℕ) [ true ↦ Some j | false ↦ None ]) i) go
      | inr off ↦ ap (λ (b : Bool). is_at (elim b as (λ y. Option ℕ) [ true ↦ Some j | false ↦ None ]) i) off
          ∙ sym (ne_eqb j i (λ same. both_ways (is_running runs j) off (ap (is_running runs) same ∙ on)))
    ]

filter_same : (f g : ℕ → Bool) → ((x : ℕ) → f x ≡ g x) → (xs : List ℕ) → filter f xs ≡ filter g xs
filter_same f g h [] = refl
filter_same f g h (x ∷ xs) = ap₂ (λ (b : Bool) (ys : List ℕ). cond b (x ∷ ys) ys) (h x) (filter_same f g h xs)

-- so those that begin wait once the others have left
pub waiting_kept : (runs : List Bool) (onto : List (Option ℕ)) → waiting runs (map (kept runs) onto) ≡ waiting runs onto
waiting_kept runs onto = filter_same (λ i. is_running runs i && not (is_held (map (kept runs) onto) i)) (λ i. is_running runs i && not (is_held onto i))
    (λ i. elim (cases_Bool (is_running runs i)) [
      | inl on ↦ ap (λ (b : Bool). is_running runs i && not b) (held_kept_on runs i on onto)
      | inr off ↦ and_left (is_running runs i) (not (is_held (map (kept runs) onto) i)) off ∙ sym (and_left (is_running runs i) (not (is_held onto i)) off)
    ]) (range_with_len 0 (length runs))
