-- The steps of the idle fill.
use Rattle.std.proofs.Common.{◌≡◌, ℕ, zero, suc, ◌+◌, ◌-◌, ◌*◌, ◌/◌, ◌<◌, ◌≤◌, List, [], ◌∷◌, ◌++◌, length, map, set, take, drop, min, replicate}
use Rattle.std.proofs.Common.{refl, ap, sym, ap₂, ◌∙◌, arith, ◌⊎◌, inl, inr, add-mul, sub-add_cancel, le_of_lt, mul-le-mul_right}
use Rattle.std.proofs.lemmas.List.{drop_all, take_all, set-get_or}
use Rattle.std.proofs.lemmas.List.Sums.{sum_by-cons, sum_by-append}
use Rattle.std.proofs.lemmas.List.Folds.{sum_by-replicate}
use Rattle.std.proofs.lemmas.Bool.{cases_lt, cases_eq}
use Rattle.std.proofs.Math.Nat.{mul-div_cancel}
use Rattle.sched_base.specs.FirstFit.{idles}
use Rattle.server_pack.specs.declared.packing.Server.{Server}
use Rattle.server_pack.specs.Servers.{Packed, server_at, rates_of, rate_sum, IsWithin, idle_alone, with_idle, with_idles}

-- ---- sums of rates

abbrev pub rate_of : Server → ℕ
rate_of s = s.rate

pub rate_sum-all : (servers : List Server) (i : ℕ) → length servers ≤ i → rate_sum (take i servers) ≡ rate_sum servers
rate_sum-all servers i l = ap rate_sum (take_all i servers l)

pub rate_sum-le : (scale : ℕ) (servers : List Server) → IsWithin scale servers → rate_sum servers ≤ length servers * scale
rate_sum-le scale [] within = omega arith
rate_sum-le scale (s ∷ servers) within =
    let more = rate_sum-le scale servers (λ b. within (suc b)) in
    let here = within 0 in
    let parts = sum_by-cons rate_of s servers in
    omega (arith, more, here, parts)

map-replicate : (n scale : ℕ) → map idle_alone (replicate n scale) ≡ replicate n (idle_alone scale)
map-replicate zero scale = refl
map-replicate (suc n) scale = ap (λ xs. idle_alone scale ∷ xs) (map-replicate n scale)

-- ---- servers filled one after another

-- the servers filled with this slack
abbrev pub filled : ℕ → ℕ → List Server → List Server
filled scale slack [] = map idle_alone (replicate (slack / scale) scale)
filled scale slack (s ∷ servers) = with_idle s (min (scale - s.rate) slack) ∷ filled scale (slack - min (scale - s.rate) slack) servers

filled-is : (scale slack : ℕ) (servers : List Server) → filled scale slack servers ≡ with_idles (idles scale slack (rates_of servers)) servers
filled-is scale slack [] = refl
filled-is scale slack (s ∷ servers) = ap (λ xs. with_idle s (min (scale - s.rate) slack) ∷ xs) (filled-is scale (slack - min (scale - s.rate) slack) servers)

-- the first i servers are filled, and so much slack is left
pub record Filling (scale slack : ℕ) (old new : List Server) (left i : ℕ) : Type 0 where
  pub long : length new ≡ length old
  pub rest : take i new ++ filled scale left (drop i new) ≡ filled scale slack old
  pub sum : rate_sum new + left ≡ rate_sum old + slack
  pub no_idle : (b : ℕ) → i ≤ b → (server_at new b).idle ≡ 0
  pub full : (left ≡ 0) ⊎ (rate_sum (take i new) ≡ i * scale)

-- where nothing is given, the server stays as it is
pub given_none : (p : Packed) (i rate : ℕ) → (server_at p.servers i).idle ≡ 0 → rate ≡ 0 →
    p ≡ record p { servers = set p.servers i (with_idle (server_at p.servers i) rate) }
given_none p i rate plain none =
    let same : with_idle (server_at p.servers i) rate ≡ server_at p.servers i =
    (ap₂ (λ a b. let s : Server = record { rate = a; members = (server_at p.servers i).members; idle = b } in s) (omega (arith, none)) (none ∙ sym plain)) in
    let back : set p.servers i (with_idle (server_at p.servers i) rate) ≡ p.servers = ap (λ s. set p.servers i s) same ∙ set-get_or p.servers i _ in
    sym (ap (λ xs. let q : Packed = record p { servers = xs } in q) back)

-- ---- what the loop keeps of a packing

pub record Fills (scale slack : ℕ) (old new : Packed) (left i : ℕ) : Type 0 where
  pub filling : Filling scale slack old.servers new.servers left i
  pub scale_same : new.scale ≡ old.scale
  pub room_same : new.room ≡ old.room

-- what is left when all servers are done
pub Fills-filled : (scale slack : ℕ) (old new : Packed) (left i : ℕ) → Fills scale slack old new left i → length new.servers ≤ i →
    new.servers ++ map idle_alone (replicate (left / scale) scale) ≡ with_idles (idles scale slack (rates_of old.servers)) old.servers
Fills-filled scale slack old new left i h l =
    sym (ap₂ (λ xs ys. xs ++ filled scale left ys) (take_all i new.servers l) (drop_all i new.servers l)) ∙ h.filling.rest ∙ filled-is scale slack old.servers

pub Fills-full : (scale slack : ℕ) (old new : Packed) (left i : ℕ) → Fills scale slack old new left i → i ≡ length new.servers → (left ≡ 0)
    ⊎ (rate_sum new.servers ≡ length new.servers * scale)
Fills-full scale slack old new left i h e = go h.filling.full
  where
    go : (left ≡ 0) ⊎ (rate_sum (take i new.servers) ≡ i * scale) → (left ≡ 0) ⊎ (rate_sum new.servers ≡ length new.servers * scale)
    go (inl none) = inl none
    go (inr full) = inr (sym (rate_sum-all new.servers i (omega arith)) ∙ full ∙ ap (λ n. n * scale) e)

-- ---- the slack that is left makes whole servers

pub left_is_whole : (scale processors count left : ℕ) (new final : List Server) → rate_sum new ≡ count * scale → 0 < left →
    rate_sum new + left ≡ processors * scale →
    final ≡ new ++ replicate (processors - count) (idle_alone scale) → (final ≡ new ++ map idle_alone (replicate (left / scale) scale))
    × (rate_sum final ≡ processors * scale)
left_is_whole scale processors count left new final full some sum made =
    elim (cases_lt count processors) [
      | inr l ↦ absurd (let over = mul-le-mul_right scale l in omega (arith, over, full, sum, some))
      | inl l ↦
          (let more = processors - count in
          let whole : left ≡ more * scale =
          (let parts = add-mul more count scale in let all = ap (λ n. n * scale) (sub-add_cancel (le_of_lt l)) in omega (arith, full, sum, parts, all)) in
          let positive : 0 < scale = elim (cases_eq scale 0)
          [ inl zero_scale ↦ absurd (let e = ap (λ n. more * n) zero_scale in omega (arith, whole, e, some)) | inr differs ↦ omega arith ] in
          let quotient : left / scale ≡ more = ap (λ n. n / scale) whole ∙ mul-div_cancel more positive in
          let as_map : replicate more (idle_alone scale) ≡ map idle_alone (replicate (left / scale) scale) = sym (map-replicate more scale)
          ∙ ap (λ n. map idle_alone (replicate n scale)) (sym quotient) in
          let total = ap rate_sum made ∙ sum_by-append rate_of new (replicate more (idle_alone scale)) in
          let added = sum_by-replicate rate_of more (idle_alone scale) in
          (made ∙ ap (λ xs. new ++ xs) as_map, omega (arith, total, added, whole, sum)))
    ]
