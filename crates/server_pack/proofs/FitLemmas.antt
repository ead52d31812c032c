-- The first server with room, and the servers' rates once an item is in it.
use Rattle.std.proofs.Common.{◌≡◌, ℕ, zero, suc, ◌+◌, ◌*◌, ◌<◌, ◌≤◌, ◌==◌, List, [], ◌∷◌, length, get_or, sum, nat_le, Bool, true, false, refl, ap}
use Rattle.std.proofs.Common.{sym, subst, arith, inl, inr, ◌∙◌}
use Rattle.std.proofs.lemmas.Bool.{cases_Bool, leb-true, leb-false, le-leb, lt-leb, ne_eqb}
use Rattle.std.proofs.lemmas.List.Sums.{sum_by-cons}
use Rattle.std.proofs.Math.Dec.{eqb-suc-suc}
use Rattle.sched_base.specs.Counting.{bit}
use Rattle.sched_base.specs.FirstFit.{first_with_room, with_item, packed_from, homes_from}

-- ---- the first server with room

abbrev pub room_case : ℕ → ℕ → List ℕ → Bool → ℕ
room_case scale rate servers room = elim room [ true ↦ 0 | false ↦ suc (first_with_room scale rate servers) ]

pub first_with_room-here : (scale rate s : ℕ) (servers : List ℕ) → s + rate ≤ scale → first_with_room scale rate (s ∷ servers) ≡ 0
first_with_room-here scale rate s servers h = ap (room_case scale rate servers) (le-leb (s + rate) scale h)

pub first_with_room-later : (scale rate s : ℕ) (servers : List ℕ) → scale < s + rate → first_with_room scale rate (s ∷ servers) ≡ suc (first_with_room scale
    rate servers)
first_with_room-later scale rate s servers h = ap (room_case scale rate servers) (lt-leb (s + rate) scale h)

-- what holds in both cases
first_with_room-cases : (P : ℕ → Type 0) (scale rate s : ℕ) (servers : List ℕ) → (s + rate ≤ scale → P 0) →
    (scale < s + rate → P (suc (first_with_room scale rate servers))) →
    P (first_with_room scale rate (s ∷ servers))
first_with_room-cases P scale rate s servers here later =
    elim (cases_Bool (nat_le (s + rate) scale)) [
      | inl e ↦ (let l = leb-true (s + rate) scale e in subst P (sym (first_with_room-here scale rate s servers l)) (here l))
      | inr e ↦ (let l = leb-false (s + rate) scale e in subst P (sym (first_with_room-later scale rate s servers l)) (later l))
    ]

pub first_with_room-le : (scale rate : ℕ) (servers : List ℕ) → first_with_room scale rate servers ≤ length servers
first_with_room-le scale rate [] = omega arith
first_with_room-le scale rate (s ∷ servers) =
    let more = first_with_room-le scale rate servers in
    first_with_room-cases (λ n. n ≤ length (s ∷ servers)) scale rate s servers (λ room. omega arith) (λ full. omega (arith, more))

-- it has room
pub first_with_room-fits : (scale rate : ℕ) (servers : List ℕ) → rate ≤ scale → get_or servers (first_with_room scale rate servers) 0 + rate ≤ scale
first_with_room-fits scale rate [] small = omega arith
first_with_room-fits scale rate (s ∷ servers) small =
    first_with_room-cases (λ n. get_or (s ∷ servers) n 0 + rate ≤ scale) scale rate s servers (λ room. room) (λ full. first_with_room-fits scale rate
    servers small)

-- none before it has
pub first_with_room-first : (scale rate : ℕ) (servers : List ℕ) (b : ℕ) → b < first_with_room scale rate servers → scale < get_or servers b 0 + rate
first_with_room-first scale rate [] b = λ l. absurd (omega arith)
first_with_room-first scale rate (s ∷ servers) zero =
    first_with_room-cases (λ n. zero < n → scale < s + rate) scale rate s servers (λ room l. absurd (omega arith)) (λ full l. full)
first_with_room-first scale rate (s ∷ servers) (suc b) =
    first_with_room-cases (λ n. suc b < n → scale < get_or servers b 0 + rate) scale rate s servers
    (λ room l. absurd (omega arith))
    (λ full l. first_with_room-first scale rate servers b (omega arith))

-- ---- one item more

-- a server that an item isn't in has nothing of it
none_of_other : (a b rate : ℕ) → (a ≡ b → ⊥) → bit (a == b) * rate ≡ 0
none_of_other a b rate differs = let none = ap (λ v. bit v * rate) (ne_eqb a b differs) in omega (arith, none)

pub rate-with_item : (rate b : ℕ) (servers : List ℕ) (c : ℕ) → b ≤ length servers → get_or (with_item rate b servers) c 0 ≡ get_or servers c 0 + bit
    (b == c) * rate
rate-with_item rate zero [] zero l = omega arith
rate-with_item rate zero [] (suc c) l = let none = none_of_other 0 (suc c) rate (λ e. omega arith) in omega (arith, none)
rate-with_item rate (suc b) [] c l = absurd (omega arith)
rate-with_item rate zero (s ∷ servers) zero l = omega arith
rate-with_item rate zero (s ∷ servers) (suc c) l = let none = none_of_other 0 (suc c) rate (λ e. omega arith) in omega (arith, none)
rate-with_item rate (suc b) (s ∷ servers) zero l = let none = none_of_other (suc b) 0 rate (λ e. omega arith) in omega (arith, none)
rate-with_item rate (suc b) (s ∷ servers) (suc c) l = rate-with_item rate b servers c (omega arith) ∙ ap (λ same. get_or servers c 0 + bit same * rate)
    (sym (eqb-suc-suc b c))

pub length-with_item-le : (rate b : ℕ) (servers : List ℕ) → length (with_item rate b servers) ≤ length servers + 1
length-with_item-le rate b [] = omega arith
length-with_item-le rate zero (s ∷ servers) = omega arith
length-with_item-le rate (suc b) (s ∷ servers) = let more = length-with_item-le rate b servers in omega (arith, more)

pub length-with_item-ge : (rate b : ℕ) (servers : List ℕ) → length servers ≤ length (with_item rate b servers)
length-with_item-ge rate b [] = omega arith
length-with_item-ge rate zero (s ∷ servers) = omega arith
length-with_item-ge rate (suc b) (s ∷ servers) = let more = length-with_item-ge rate b servers in omega (arith, more)

-- the item's server is there
pub home-with_item : (rate b : ℕ) (servers : List ℕ) → b ≤ length servers → b < length (with_item rate b servers)
home-with_item rate b [] l = omega arith
home-with_item rate zero (s ∷ servers) l = omega arith
home-with_item rate (suc b) (s ∷ servers) l = let more = home-with_item rate b servers (omega arith) in omega (arith, more)

pub sum-with_item : (rate b : ℕ) (servers : List ℕ) → sum (with_item rate b servers) ≡ sum servers + rate
sum-with_item rate b [] = omega arith
sum-with_item rate zero (s ∷ servers) = let a = sum_by-cons (λ n. n) (s + rate) servers in let b = sum_by-cons (λ n. n) s servers in omega (arith, a, b)
sum-with_item rate (suc b) (s ∷ servers) =
    let more = sum-with_item rate b servers in
    let new = sum_by-cons (λ n. n) s (with_item rate b servers) in
    let old = sum_by-cons (λ n. n) s servers in
    omega (arith, more, new, old)

-- ---- all items

pub length-packed_from-ge : (scale : ℕ) (rates servers : List ℕ) → length servers ≤ length (packed_from scale rates servers)
length-packed_from-ge scale [] servers = omega arith
length-packed_from-ge scale (rate ∷ rates) servers =
    let home = first_with_room scale rate servers in
    let one = length-with_item-ge rate home servers in
    let more = length-packed_from-ge scale rates (with_item rate home servers) in
    omega (arith, one, more)

pub sum-packed_from : (scale : ℕ) (rates servers : List ℕ) → sum (packed_from scale rates servers) ≡ sum servers + sum rates
sum-packed_from scale [] servers = omega arith
sum-packed_from scale (rate ∷ rates) servers =
    let home = first_with_room scale rate servers in
    let one = sum-with_item rate home servers in
    let more = sum-packed_from scale rates (with_item rate home servers) in
    let all = sum_by-cons (λ n. n) rate rates in
    omega (arith, one, more, all)

pub length-homes_from : (scale : ℕ) (rates servers : List ℕ) → length (homes_from scale rates servers) ≡ length rates
length-homes_from scale [] servers = refl
length-homes_from scale (rate ∷ rates) servers =
    let more = length-homes_from scale rates (with_item rate (first_with_room scale rate servers) servers) in
    omega (arith, more)
