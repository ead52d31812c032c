-- What contracts see of a packing.
use Rattle.std.specs.Prelude.{ℕ, zero, suc, ◌+◌, ◌≡◌, ◌≤◌, ◌^◌, ◌==◌, List, [], ◌∷◌, ◌++◌, length, map, filter}
use Rattle.std.specs.Prelude.{sum_by, slice_index, slice_index_or}
use Rattle.std.specs.List.{range_with_len}
use Rattle.server_pack.specs.declared.packing.Server.{Server}

-- a packing, with the number of further servers for which there is room
pub record Packed : Type 0 where
  pub scale : ℕ
  pub servers : List Server
  pub room : ℕ

-- stands where a list has no such server
abbrev pub no_server : Server
no_server = record { rate = 0; members = []; idle = 0 }

-- server b
abbrev pub server_at : List Server → ℕ → Server
server_at servers b = slice_index_or servers b no_server

-- the rate of each server
abbrev pub rates_of : List Server → List ℕ
rates_of servers = map (λ s. s.rate) servers

-- the rates of all servers together
abbrev pub rate_sum : List Server → ℕ
rate_sum servers = sum_by (λ s. s.rate) servers

-- no server has an idle client
abbrev pub HasNoIdle : List Server → Type 0
HasNoIdle servers = (b : ℕ) → (server_at servers b).idle ≡ 0

-- no server has a rate past the scale
abbrev pub IsWithin : ℕ → List Server → Type 0
IsWithin scale servers = (b : ℕ) → (server_at servers b).rate ≤ scale

-- what each packing keeps
pub record IsPacked (p : Packed) : Type 0 where
  pub scale_fits : p.scale ≤ 2 ^ 94
  pub few : length p.servers ≤ 4096
  pub within : IsWithin p.scale p.servers

-- the items whose server is b, in rising order
abbrev pub items_of : List ℕ → ℕ → List ℕ
items_of homes b = filter (λ k. slice_index homes k == b) (range_with_len 0 (length homes))

-- a server that has one item
abbrev pub alone : ℕ → ℕ → Server
alone rate item = record { rate = rate; members = item ∷ []; idle = 0 }

-- a server with one item more
abbrev pub with_member : Server → ℕ → ℕ → Server
with_member s rate item = record { rate = s.rate + rate; members = s.members ++ item ∷ []; idle = s.idle }

-- the servers once an item has gone into server b; it is new where b is their number
abbrev pub put_in : ℕ → ℕ → ℕ → List Server → List Server
put_in rate item b [] = alone rate item ∷ []
put_in rate item zero (s ∷ servers) = with_member s rate item ∷ servers
put_in rate item (suc b) (s ∷ servers) = s ∷ put_in rate item b servers

-- a server that has an idle client alone
abbrev pub idle_alone : ℕ → Server
idle_alone rate = record { rate = rate; members = []; idle = rate }

-- a server once it is given an idle client; it stays as it is where the rate is 0 and it has none
abbrev pub with_idle : Server → ℕ → Server
with_idle s rate = record { rate = s.rate + rate; members = s.members; idle = rate }

-- the servers once each in order is given an idle client of the next rate; what goes past them makes servers of their own
abbrev pub with_idles : List ℕ → List Server → List Server
with_idles rates [] = map idle_alone rates
with_idles [] (s ∷ servers) = s ∷ servers
with_idles (rate ∷ rates) (s ∷ servers) = with_idle s rate ∷ with_idles rates servers
