-- What first fit is: each item's server is the first that has room beside the items before it.
use Rattle.std.proofs.Common.{◌≡◌, ℕ, zero, suc, ◌+◌, ◌*◌, ◌<◌, ◌≤◌, ◌==◌, List, [], ◌∷◌, length, get_or, sum, All, ap, sym, subst, arith, inl, inr, ◌∙◌}
use Rattle.std.proofs.lemmas.Bool.{cases_lt, cases_order}
use Rattle.std.proofs.lemmas.Grind.{same_number_lists}
use Rattle.std.proofs.Math.ListN.{get_or-eq_default}
use Rattle.sched_base.specs.Counting.{bit}
use Rattle.sched_base.specs.FirstFit.{first_with_room, with_item, packed_from, packed, homes_from, homes, load, IsFirstFit}
use Rattle.sched_base.proofs.SumLemmas.{sum_to-same, sum_to_front}
use Rattle.server_pack.proofs.FitLemmas.{first_with_room-le, first_with_room-fits, first_with_room-first, rate-with_item, home-with_item}
use Rattle.server_pack.proofs.FitLemmas.{length-packed_from-ge, sum-packed_from, length-homes_from}

-- the first item's rate apart
load-front : (rate : ℕ) (rates : List ℕ) (home : ℕ) (servers : List ℕ) (k b : ℕ) → load (rate ∷ rates) (home ∷ servers) (suc k) b ≡ bit (home == b) * rate
    + load rates servers k b
load-front rate rates home servers k b = sum_to_front k (λ j. bit (get_or (home ∷ servers) j 0 == b) * get_or (rate ∷ rates) j 0)

-- what a server has at the start, and its items
loads_from : (scale : ℕ) (rates servers : List ℕ) (b : ℕ) → get_or (packed_from scale rates servers) b 0 ≡ get_or servers b 0 + load rates
    (homes_from scale rates servers) (length rates) b
loads_from scale [] servers b = omega arith
loads_from scale (rate ∷ rates) servers b =
    let home = first_with_room scale rate servers in
    let grown = with_item rate home servers in
    let one = rate-with_item rate home servers b (first_with_room-le scale rate servers) in
    let more = loads_from scale rates grown b in
    let front = load-front rate rates home (homes_from scale rates grown) (length rates) b in
    omega (arith, one, more, front)

pub loads : (scale : ℕ) (rates : List ℕ) (b : ℕ) → get_or (packed scale rates) b 0 ≡ load rates (homes scale rates) (length rates) b
unfolding packed homes
loads scale rates b = let all = loads_from scale rates [] b in omega (arith, all)

has_room_from : (scale : ℕ) (rates servers : List ℕ) (k : ℕ) → ((j : ℕ) → get_or rates j 0 ≤ scale) → k < length rates →
    let home = get_or (homes_from scale rates servers) k 0 in get_or servers home 0 + load rates (homes_from scale rates servers) k home + get_or rates k
    0 ≤ scale
has_room_from scale [] servers k small l = absurd (omega arith)
has_room_from scale (rate ∷ rates) servers zero small l = let fits = first_with_room-fits scale rate servers (small 0) in omega (arith, fits)
has_room_from scale (rate ∷ rates) servers (suc k) small l =
    let home = first_with_room scale rate servers in
    let grown = with_item rate home servers in
    let b = get_or (homes_from scale rates grown) k 0 in
    let one = rate-with_item rate home servers b (first_with_room-le scale rate servers) in
    let more = has_room_from scale rates grown k (λ j. small (suc j)) (omega arith) in
    let front = load-front rate rates home (homes_from scale rates grown) k b in
    omega (arith, one, more, front)

is_least_from : (scale : ℕ) (rates servers : List ℕ) (k b : ℕ) → k < length rates → b < get_or (homes_from scale rates servers) k 0 →
    scale < get_or servers b 0 + load rates (homes_from scale rates servers) k b + get_or rates k 0
is_least_from scale [] servers k b l before = absurd (omega arith)
is_least_from scale (rate ∷ rates) servers zero b l before = let full = first_with_room-first scale rate servers b before in omega (arith, full)
is_least_from scale (rate ∷ rates) servers (suc k) b l before =
    let home = first_with_room scale rate servers in
    let grown = with_item rate home servers in
    let one = rate-with_item rate home servers b (first_with_room-le scale rate servers) in
    let more = is_least_from scale rates grown k b (omega arith) before in
    let front = load-front rate rates home (homes_from scale rates grown) k b in
    omega (arith, one, more, front)

-- none past the list either
each_small : (scale : ℕ) (rates : List ℕ) → All (λ (rate : ℕ). rate ≤ scale) rates → (j : ℕ) → get_or rates j 0 ≤ scale
each_small scale rates all j = elim (cases_lt j (length rates)) [ inl l ↦ all j 0 l | inr l ↦ (let none = get_or-eq_default rates 0 l in omega (arith, none)) ]

pub homes_are_first_fit : (scale : ℕ) (rates : List ℕ) → All (λ (rate : ℕ). rate ≤ scale) rates → IsFirstFit scale rates (homes scale rates)
unfolding homes
homes_are_first_fit scale rates all = record {
  each = length-homes_from scale rates [];
  has_room = λ k l. (let room = has_room_from scale rates [] k (each_small scale rates all) l in omega (arith, room));
  is_least = λ k b l before. (let full = is_least_from scale rates [] k b l before in omega (arith, full));
}

-- the loads of two choices of servers that agree so far
load-same : (rates a b : List ℕ) (k c : ℕ) → ((j : ℕ) → j < k → get_or a j 0 ≡ get_or b j 0) → load rates a k c ≡ load rates b k c
load-same rates a b k c same =
    sum_to-same k (λ j. bit (get_or a j 0 == c) * get_or rates j 0) (λ j. bit (get_or b j 0 == c) * get_or rates j 0)
    (λ j l. ap (λ n. bit (n == c) * get_or rates j 0) (same j l))

same_home : (scale : ℕ) (rates a b : List ℕ) (k : ℕ) → IsFirstFit scale rates a → IsFirstFit scale rates b → k < length rates →
    ((j : ℕ) → j < k → get_or a j 0 ≡ get_or b j 0) →
    get_or a k 0 ≡ get_or b k 0
same_home scale rates a b k left right l so_far =
    elim (cases_order (get_or a k 0) (get_or b k 0)) [
      | inl same ↦ same
      | inr (inl less) ↦ absurd (
          let full = right.is_least k (get_or a k 0) l less in
          let room = left.has_room k l in
          let loads = load-same rates a b k (get_or a k 0) so_far in
          omega (arith, full, room, loads))
      | inr (inr more) ↦ absurd (
          let full = left.is_least k (get_or b k 0) l more in
          let room = right.has_room k l in
          let loads = load-same rates a b k (get_or b k 0) so_far in
          omega (arith, full, room, loads))
    ]

same_homes_below : (scale : ℕ) (rates a b : List ℕ) → IsFirstFit scale rates a → IsFirstFit scale rates b → (n : ℕ) → n ≤ length rates → (j : ℕ) → j < n →
    get_or a j 0 ≡ get_or b j 0
same_homes_below scale rates a b left right zero l j below = absurd (omega arith)
same_homes_below scale rates a b left right (suc n) l j below =
    let so_far = same_homes_below scale rates a b left right n (omega arith) in
    elim (cases_lt j n) [
      | inl before ↦ so_far j before
      | inr here ↦ (let e : n ≡ j = omega arith in subst (λ i. get_or a i 0 ≡ get_or b i 0) e (same_home scale rates a b n left right (omega arith) so_far))
    ]

pub same_first_fit : (scale : ℕ) (rates a b : List ℕ) → IsFirstFit scale rates a → IsFirstFit scale rates b → a ≡ b
same_first_fit scale rates a b left right =
    same_number_lists a b (left.each ∙ sym right.each)
    (λ k l. let each = left.each in same_homes_below scale rates a b left right (length rates) (omega arith) k (omega (arith, each, l)))

opened_from : (scale : ℕ) (rates servers : List ℕ) (k : ℕ) → k < length rates → get_or (homes_from scale rates servers) k 0 < length
    (packed_from scale rates servers)
opened_from scale [] servers k l = absurd (omega arith)
opened_from scale (rate ∷ rates) servers zero l =
    let home = first_with_room scale rate servers in
    let one = home-with_item rate home servers (first_with_room-le scale rate servers) in
    let more = length-packed_from-ge scale rates (with_item rate home servers) in
    omega (arith, one, more)
opened_from scale (rate ∷ rates) servers (suc k) l = opened_from scale rates (with_item rate (first_with_room scale rate servers) servers) k (omega arith)

pub opened : (scale : ℕ) (rates : List ℕ) (k : ℕ) → k < length rates → get_or (homes scale rates) k 0 < length (packed scale rates)
unfolding packed homes
opened scale rates k l = opened_from scale rates [] k l

pub sum-packed : (scale : ℕ) (rates : List ℕ) → sum (packed scale rates) ≡ sum rates
unfolding packed
sum-packed scale rates = let all = sum-packed_from scale rates [] in omega (arith, all)
