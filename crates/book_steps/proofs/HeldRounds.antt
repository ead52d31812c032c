-- Rounds that are held one behind the other, each with a row for each of m processors.
use Rattle.std.proofs.Common.{◌≡◌, inl, inr, ℕ, zero, suc, ◌+◌, ◌-◌, ◌*◌, ◌<◌, ◌≤◌, List, [], ◌∷◌, ◌++◌, None, Some, drop, length, map, take, refl}
use Rattle.std.proofs.Common.{sym, ap, ◌∙◌, subst, arith}
use Rattle.std.specs.Prelude.{option_map, slice_get}
use Rattle.std.proofs.lemmas.Bool.{cases_order}
use Rattle.std.proofs.lemmas.List.{length-append, length-drop, length-map}
use Rattle.std.proofs.lemmas.Nat.{mul-add-lt}
use Rattle.std.proofs.Math.Nat.{mul-le-mul_right}
use Rattle.std.proofs.lemmas.Option.{slice_get-map, slice_get_within}
use Rattle.circular_buffer.proofs.Places.{slice_get-append_left, slice_get-append_right, slice_get-drop, slice_get-some}
use Rattle.sched_base.specs.declared.rows.Row.{Row}
use Rattle.book_steps.specs.declared.ring.PendingRow.{PendingRow}
use Rattle.book_steps.specs.Pending.{ArePending, IsPending, pending}

-- ---- places

-- the place of processor q in one of the first d rounds
pub place_within : (i d m q : ℕ) → i < d → q < m → i * m + q < d * m
place_within i d m q low inside = let fits = mul-add-lt i m q d low inside in omega (arith, fits)

more_rounds : (d m : ℕ) → (d + 1) * m ≡ d * m + m
more_rounds d m = omega arith

-- no two rounds and processors have one place
same_place : (i d m q j : ℕ) → q < m → j < m → i * m + q ≡ d * m + j → (i ≡ d) × (q ≡ j)
same_place i d m q j inside within same = elim (cases_order i d) [
  | inl equal ↦ (equal, let rows = ap (λ n. n * m) equal in omega (arith, rows, same))
  | inr rest ↦ elim rest [
    | inl less ↦ absurd (let before = place_within i d m q less inside in omega (arith, before, same))
    | inr more ↦ absurd (let before = place_within d i m j more within in omega (arith, before, same))
  ]
]

-- a round more has room below the window
pub room_left : (d window m : ℕ) → d < window → d * m + m ≤ window * m
room_left d window m low = let most = mul-le-mul_right m (let up : d + 1 ≤ window = omega (arith, low) in up) in omega (arith, most)

-- ---- one row more, and one less

pub drop_more : {X : Type 0} (n : ℕ) (xs : List X) → drop 1 (drop n xs) ≡ drop (suc n) xs
drop_more zero [] = refl
drop_more zero (x ∷ xs) = refl
drop_more (suc n) [] = refl
drop_more (suc n) (x ∷ xs) = drop_more n xs

pub map-take_more : {X Y : Type 0} (f : X → Y) (xs : List X) (k : ℕ) (x : X) → slice_get xs k ≡ Some x → map f (take k xs) ++ f x ∷ [] ≡ map f (take (suc k) xs)
map-take_more f [] k x at = absurd (let e : None ≡ Some x = at in cc)
map-take_more f (y ∷ xs) zero x at = let e : Some y ≡ Some x = at in let same : x ≡ y = cc in ap (λ z. f z ∷ []) same
map-take_more f (y ∷ xs) (suc k) x at = ap (λ zs. f y ∷ zs) (map-take_more f xs k x at)

take_all : {X : Type 0} (xs : List X) → take (length xs) xs ≡ xs
take_all [] = refl
take_all (x ∷ xs) = ap (λ ys. x ∷ ys) (take_all xs)

pub map-take_all : {X Y : Type 0} (f : X → Y) (xs : List X) (k : ℕ) → k ≡ length xs → map f (take k xs) ≡ map f xs
map-take_all f xs k all = ap (λ n. map f (take n xs)) all ∙ ap (map f) (take_all xs)

-- ---- a round more, and one less

module _ (all : List (List Row)) (m k n : ℕ) (items : List PendingRow) (are : ArePending all m k n items) where
  -- processor q has a row in each round that is held
  pub is_held : (i q : ℕ) → k + i < n → q < m → i * m + q < length items
  is_held i q low inside = let many = are.many in let there = place_within i (n - k) m q (omega (arith, low)) inside in omega (arith, many, there)

  pub ArePending-more : (given : List ℕ) (rows : List Row) → length rows ≡ m → k ≤ n → ((q : ℕ) (row : Row) → slice_get rows q ≡ Some row →
      IsPending all q n (pending given row)) → (more : ℕ) → more ≡ n + 1
      → ArePending all m k more (items ++ map (pending given) rows)
  ArePending-more given rows wide up new more one = record {
    many =
        let long = length-append items (map (pending given) rows) in
        let round = length-map rows (pending given) in
        let many = are.many in
        let rounds : (more - k) * m ≡ (n - k) * m + m = ap (λ d. d * m) (omega (arith, one, up)) ∙ more_rounds (n - k) m in
        omega (arith, long, round, many, rounds, wide);
    each = λ i q next inside at. elim (cases_order (i * m + q) (length items)) [
      | inl first ↦ in_round i q next inside 0 (omega (arith, first)) at
      | inr rest ↦ elim rest [
        | inl old ↦ are.each i q next inside (sym (slice_get-append_left items (map (pending given) rows) (i * m + q) old) ∙ at)
        | inr later ↦ in_round i q next inside (i * m + q - length items) (omega (arith, later)) at
      ]
    ];
  }
    where
      in_round : (i q : ℕ) (next : PendingRow) → q < m → (j : ℕ) → i * m + q ≡ length items + j → slice_get (items ++ map (pending given) rows)
          (i * m + q) ≡ Some next → IsPending all q (k + i) next
      in_round i q next inside j place at =
          let there : slice_get (map (pending given) rows) j ≡ Some next = sym (slice_get-append_right items (map (pending given) rows) (i * m + q) j place)
          ∙ at in
          let low : j < length rows = let within = slice_get_within (map (pending given) rows) j next there in let round = length-map rows (pending given)
          in omega (arith, within, round) in
          let many = are.many in
          let same = same_place i (n - k) m q j inside (omega (arith, low, wide)) (omega (arith, place, many)) in
          let (row, got) = slice_get-some rows j low in
          let e : Some (pending given row) ≡ Some next = sym (slice_get-map (pending given) rows j ∙ ap (option_map (pending given)) got) ∙ there in
          let is : pending given row ≡ next = cc in
          let round : k + i ≡ n = let d = same.0 in omega (arith, d, up) in
          subst (λ x. IsPending all q (k + i) x) is (subst (λ r. IsPending all q r (pending given row)) (sym round)
          (new q row (subst (λ u. slice_get rows u ≡ Some row) (sym same.1) got)))

  pub ArePending-less : k < n → (next : ℕ) → next ≡ k + 1 → ArePending all m next n (drop m items)
  ArePending-less some next one = record {
    many =
        let left = length-drop m items in
        let many = are.many in
        let rounds : (n - k) * m ≡ (n - next) * m + m = ap (λ d. d * m) (omega (arith, one, some)) ∙ more_rounds (n - next) m in
        omega (arith, left, many, rounds);
    each = λ i q row inside at.
        let place : (i + 1) * m + q ≡ m + (i * m + q) = omega arith in
        subst (λ r. IsPending all q r row) (omega (arith, one)) (are.each (i + 1) q row inside (sym (slice_get-drop m items (i * m + q) ((i + 1) * m + q)
        place) ∙ at));
  }
