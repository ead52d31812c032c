-- Sums, one for each task, to which the ticks of rows are added.
use Rattle.std.proofs.Common.{ℕ, zero, suc, ◌+◌, ◌<◌, ◌≤◌, ◌≡◌, List, [], ◌∷◌, ◌++◌, Some, None, length, take, drop, get_or, replicate, ap, ◌∙◌, arith}
use Rattle.std.specs.Prelude.{slice_get}
use Rattle.std.specs.List.{AllByRecursion}
use Rattle.sched_base.specs.declared.rows.Leaf.TheVariants.{Task}
use Rattle.sched_base.specs.declared.rows.Row.{Row}
use Rattle.sched_base.specs.Tables.{lane_of, all_rows, ticks_in}
use Rattle.std.proofs.lemmas.List.{get_or-replicate, length-replicate, take_all, drop_all, append-nil}
use Rattle.std.proofs.lemmas.List.FromFn.{fill_by_all}
use Rattle.row_totals.specs.Sums.{Adds, HaveRoomFor, totals_of}

-- what a read past the end of rows would give. No proof reads there
abbrev pub no_row : Row
no_row = record { processor = 0; start = 0; end = 0; leaf = Task (record { 0 = 0 }) }

-- one row more
pub ticks_in-take-more : (j : ℕ) (rows : List Row) (i : ℕ) → i < length rows → ticks_in j (take (suc i) rows) ≡ ticks_in j (take i rows) + ticks_in j
    (get_or rows i no_row ∷ [])
ticks_in-take-more j [] i within = absurd (omega arith)
ticks_in-take-more j (r ∷ rows) zero within = omega arith
ticks_in-take-more j (r ∷ rows) (suc i) within = let e = ticks_in-take-more j rows i (omega arith) in omega (arith, e)

-- the first rows give no more than all
pub ticks_in-take-le : (j : ℕ) (rows : List Row) (i : ℕ) → ticks_in j (take i rows) ≤ ticks_in j rows
ticks_in-take-le j [] zero = omega arith
ticks_in-take-le j [] (suc i) = omega arith
ticks_in-take-le j (r ∷ rows) zero = omega arith
ticks_in-take-le j (r ∷ rows) (suc i) = let e = ticks_in-take-le j rows i in omega (arith, e)

pub ticks_in-append : (j : ℕ) (xs ys : List Row) → ticks_in j (xs ++ ys) ≡ ticks_in j xs + ticks_in j ys
ticks_in-append j [] ys = omega arith
ticks_in-append j (x ∷ xs) ys = let rest = ticks_in-append j xs ys in omega (arith, rest)

-- one lane more
pub ticks_in-lanes-more : (j : ℕ) (lanes : List (List Row)) (p : ℕ) → p < length lanes → ticks_in j (all_rows (take (suc p) lanes)) ≡ ticks_in j
    (all_rows (take p lanes)) + ticks_in j (lane_of lanes p)
ticks_in-lanes-more j [] p within = absurd (omega arith)
ticks_in-lanes-more j (lane ∷ lanes) zero within = let e = ticks_in-append j lane [] in omega (arith, e)
ticks_in-lanes-more j (lane ∷ lanes) (suc p) within =
    let more = ticks_in-append j lane (all_rows (take (suc p) lanes)) in
    let less = ticks_in-append j lane (all_rows (take p lanes)) in
    let rest = ticks_in-lanes-more j lanes p (omega arith) in
    omega (arith, more, less, rest)

-- the first lanes give no more than all
pub ticks_in-lanes-le : (j : ℕ) (lanes : List (List Row)) (p : ℕ) → ticks_in j (all_rows (take p lanes)) ≤ ticks_in j (all_rows lanes)
ticks_in-lanes-le j [] zero = omega arith
ticks_in-lanes-le j [] (suc p) = omega arith
ticks_in-lanes-le j (lane ∷ lanes) zero = omega arith
ticks_in-lanes-le j (lane ∷ lanes) (suc p) =
    let more = ticks_in-append j lane (all_rows (take p lanes)) in
    let all = ticks_in-append j lane (all_rows lanes) in
    let rest = ticks_in-lanes-le j lanes p in
    omega (arith, more, all, rest)

-- no row adds nothing
pub Adds-none : (sums : List ℕ) → Adds [] sums sums
Adds-none sums j within = omega arith

-- rows that are added after others
pub Adds-then : (first then both : List Row) (a b c : List ℕ) → length b ≡ length a → ((j : ℕ) → ticks_in j both ≡ ticks_in j first + ticks_in j then) →
    Adds first a b → Adds then b c → Adds both a c
Adds-then first then both a b c same ticks one two j within =
    let e = one j within in
    let f = two j (omega (arith, same, within)) in
    omega (arith, e, f, ticks j)

-- there is room for the next rows, where there was for them and those before
pub room_after : (first then all : List Row) (a b : List ℕ) → length b ≡ length a → ((j : ℕ) → ticks_in j first + ticks_in j then ≤ ticks_in j all) →
    HaveRoomFor all a → Adds first a b → HaveRoomFor then b
room_after first then all a b same ticks room one j within =
    let inside : j < length a = omega (arith, same, within) in
    let e = one j inside in
    let r = room j inside in
    omega (arith, e, r, ticks j)

-- rows that are added to zeros
pub sums_are : (n : ℕ) (lanes : List (List Row)) (sums : List ℕ) → length sums ≡ n → Adds (all_rows lanes) (replicate n 0) sums → sums ≡ totals_of n lanes
sums_are n lanes sums long adds = fill_by_all (λ j. ticks_in j (all_rows lanes)) sums n 0 long (λ j within.
    let e = adds j (let l : length {A = ℕ} (replicate n 0) ≡ n = length-replicate n 0 in omega (arith, l, within)) in
    let z : get_or {A = ℕ} (replicate n 0) j 0 ≡ 0 = get_or-replicate n j 0 0 within in
    omega (arith, e, z))

-- a list that was written back over one of the same length
pub written_back : (new old : List ℕ) (n : ℕ) → length new ≡ n → length old ≡ n → take n (new ++ drop (length new) old) ≡ new
written_back new old n long was =
    let rest : drop (length new) old ≡ [] = drop_all (length new) old (omega (arith, long, was)) in
    let whole : new ++ drop (length new) old ≡ new = ap (λ xs. new ++ xs) rest ∙ append-nil new in
    ap (take n) whole ∙ take_all n new (omega (arith, long))

-- the rows of one lane
pub lane_names : (P : List Row → Type 0) (lanes : List (List Row)) (p : ℕ) → p < length lanes → AllByRecursion P lanes → P (lane_of lanes p)
lane_names P [] p within all = absurd (omega (arith, within))
lane_names P (lane ∷ lanes) zero within all = all.0
lane_names P (lane ∷ lanes) (suc p) within all = lane_names P lanes p (omega (arith, within)) all.1

-- one row of them
pub row_has : (P : Row → Type 0) (rows : List Row) (i : ℕ) → i < length rows → AllByRecursion P rows → P (get_or rows i no_row)
row_has P [] i within all = absurd (omega (arith, within))
row_has P (r ∷ rows) zero within all = all.0
row_has P (r ∷ rows) (suc i) within all = row_has P rows i (omega (arith, within)) all.1

-- a row at its place
pub row_there : (rows : List Row) (i : ℕ) (r : Row) → slice_get rows i ≡ Some r → r ≡ get_or rows i no_row
row_there [] i r at = absurd (let e : None ≡ Some r = at in cc)
row_there (q ∷ rows) zero r at = let e : Some q ≡ Some r = at in cc
row_there (q ∷ rows) (suc i) r at = row_there rows i r at
