-- First fit and idle fill, over lists of rates.
use Rattle.std.specs.Prelude.{ℕ, zero, suc, ◌+◌, ◌-◌, ◌*◌, ◌/◌, ◌≡◌, ◌<◌, ◌≤◌, ◌==◌, nat_le, min, true, false}
use Rattle.std.specs.Prelude.{List, [], ◌∷◌, length, replicate, slice_index}
use Rattle.sched_base.specs.Counting.{bit, sum_to}

-- the first server, by its rate, that has room for the item's; their number where none has
abbrev pub first_with_room : ℕ → ℕ → List ℕ → ℕ
first_with_room scale rate [] = 0
first_with_room scale rate (s ∷ servers) = elim (nat_le (s + rate) scale) [ true ↦ 0 | false ↦ suc (first_with_room scale rate servers) ]

-- the servers' rates once server b has an item more; it is new where b is their number
abbrev pub with_item : ℕ → ℕ → List ℕ → List ℕ
with_item rate b [] = rate ∷ []
with_item rate zero (s ∷ servers) = (s + rate) ∷ servers
with_item rate (suc b) (s ∷ servers) = s ∷ with_item rate b servers

-- the servers' rates once each item in order has gone into the first server with room
abbrev pub packed_from : ℕ → List ℕ → List ℕ → List ℕ
packed_from scale [] servers = servers
packed_from scale (rate ∷ rates) servers = packed_from scale rates (with_item rate (first_with_room scale rate servers) servers)

-- the rates of the servers that first fit makes of items of these rates
unfoldable pub packed : ℕ → List ℕ → List ℕ
packed scale rates = packed_from scale rates []

-- the server of each item
abbrev pub homes_from : ℕ → List ℕ → List ℕ → List ℕ
homes_from scale [] servers = []
homes_from scale (rate ∷ rates) servers = first_with_room scale rate servers ∷ homes_from scale rates
    (with_item rate (first_with_room scale rate servers) servers)

-- the server of each item, by first fit
unfoldable pub homes : ℕ → List ℕ → List ℕ
homes scale rates = homes_from scale rates []

-- the rates of those of the first k items whose server is b
abbrev pub load : List ℕ → List ℕ → ℕ → ℕ → ℕ
load rates servers k b = sum_to k (λ j. bit (slice_index servers j == b) * slice_index rates j)

-- the server of each item is the least that has room for it beside the items before
pub record IsFirstFit (scale : ℕ) (rates servers : List ℕ) : Type 0 where
  pub each : length servers ≡ length rates
  pub has_room : (k : ℕ) → k < length rates → load rates servers k (slice_index servers k) + slice_index rates k ≤ scale
  pub is_least : (k b : ℕ) → k < length rates → b < slice_index servers k → scale < load rates servers k b + slice_index rates k

-- what each server gets of the slack, in order, 0 where it gets none; what then remains makes servers of their own
abbrev pub idles : ℕ → ℕ → List ℕ → List ℕ
idles scale slack [] = replicate (slack / scale) scale
idles scale slack (s ∷ servers) = min (scale - s) slack ∷ idles scale (slack - min (scale - s) slack) servers
