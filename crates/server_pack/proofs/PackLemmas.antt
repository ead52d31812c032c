-- What the loop of first fit keeps.
use Rattle.std.proofs.Common.{◌≡◌, ℕ, ◌+◌, ◌<◌, ◌≤◌, ◌==◌, List, [], ◌∷◌, ◌++◌, length, set, drop, get_or, sum, refl, ap, sym, subst, arith, ◌∙◌}
use Rattle.std.proofs.lemmas.List.{drop_more, drop_all, append_assoc, append-nil, length-map}
use Rattle.std.proofs.lemmas.List.Sums.{sum-map}
use Rattle.sched_base.specs.FirstFit.{first_with_room, with_item, packed_from, packed, homes_from, homes}
use Rattle.server_pack.specs.declared.packing.Server.{Server}
use Rattle.server_pack.specs.Servers.{server_at, rates_of, rate_sum, items_of, put_in, alone, with_member, HasNoIdle, IsWithin}
use Rattle.server_pack.proofs.FitLemmas.{first_with_room-le}
use Rattle.server_pack.proofs.FirstFitLaw.{sum-packed}
use Rattle.server_pack.proofs.ServerLemmas.{put_in-joins, put_in-opens, rates-put_in, length-put_in, idle-put_in, members-put_in, within-put_in}
use Rattle.server_pack.proofs.ServerLemmas.{if_here, items_from, items_from-all}

-- the first server with room is one of the servers, or their number
pub home-le : (scale rate : ℕ) (servers : List Server) → first_with_room scale rate (rates_of servers) ≤ length servers
home-le scale rate servers =
    let le = first_with_room-le scale rate (rates_of servers) in
    let long = length-map servers (λ (s : Server). s.rate) in
    omega (arith, le, long)

-- these servers have the first i items, and the rest will go where first fit puts them
pub record Packs (scale i : ℕ) (rates : List ℕ) (servers : List Server) : Type 0 where
  pub few : length servers ≤ i
  pub within : IsWithin scale servers
  pub rest : packed_from scale (drop i rates) (rates_of servers) ≡ packed_from scale rates []
  pub members : (b : ℕ) → (server_at servers b).members ++ items_from i (homes_from scale (drop i rates) (rates_of servers)) b ≡ items_from 0
      (homes_from scale rates []) b
  pub no_idle : HasNoIdle servers

pub Packs-start : (scale : ℕ) (rates : List ℕ) → Packs scale 0 rates []
Packs-start scale rates = record { few = omega arith; within = λ b. omega arith; rest = refl; members = λ b. refl; no_idle = λ b. refl }

pub Packs-next : (scale i : ℕ) (rates : List ℕ) (rate : ℕ) (servers after : List Server) → i < length rates → rate ≡ get_or rates i 0 → rate ≤ scale →
    Packs scale i rates servers →
    after ≡ put_in rate i (first_with_room scale rate (rates_of servers)) servers → Packs scale (i + 1) rates after
Packs-next scale i rates rate servers after l at small h made =
    let home = first_with_room scale rate (rates_of servers) in
    let new = put_in rate i home servers in
    let left : drop i rates ≡ rate ∷ drop (i + 1) rates = drop_more rates i 0 l ∙ ap (λ r. r ∷ drop (i + 1) rates) (sym at) in
    let rates_now = rates-put_in rate i home servers in
    let le : home ≤ length servers = home-le scale rate servers in
    subst (λ xs. Packs scale (i + 1) rates xs) (sym made) (record {
      few = (let one = length-put_in rate i home servers in let few = h.few in omega (arith, one, few));
      within = within-put_in scale rate i servers small h.within;
      rest = ap (λ rs. packed_from scale (drop (i + 1) rates) rs) rates_now ∙ sym (ap (λ xs. packed_from scale xs (rates_of servers)) left) ∙ h.rest;
      members = λ b.
          let later = homes_from scale (drop (i + 1) rates) (with_item rate home (rates_of servers)) in
          ap (λ xs. xs ++ items_from (i + 1) (homes_from scale (drop (i + 1) rates) (rates_of new)) b) (members-put_in rate i home servers b le)
          ∙ ap (λ rs. ((server_at servers b).members ++ if_here (home == b) i) ++ items_from (i + 1) (homes_from scale (drop (i + 1) rates) rs) b) rates_now
          ∙ append_assoc (server_at servers b).members (if_here (home == b) i) (items_from (i + 1) later b)
          ∙ sym (ap (λ xs. (server_at servers b).members ++ items_from i (homes_from scale xs (rates_of servers)) b) left)
          ∙ h.members b;
      no_idle = idle-put_in rate i home servers h.no_idle;
    })

pub Packs-rates : (scale i : ℕ) (rates : List ℕ) (servers : List Server) → length rates ≤ i → Packs scale i rates servers → rates_of servers ≡ packed scale
    rates
unfolding packed
Packs-rates scale i rates servers l h = sym (ap (λ xs. packed_from scale xs (rates_of servers)) (drop_all i rates l)) ∙ h.rest

pub Packs-members : (scale i : ℕ) (rates : List ℕ) (servers : List Server) → length rates ≤ i → Packs scale i rates servers → (b : ℕ) →
    (server_at servers b).members ≡ items_of (homes scale rates) b
unfolding homes
Packs-members scale i rates servers l h b =
    sym (append-nil (server_at servers b).members)
    ∙ sym (ap (λ xs. (server_at servers b).members ++ items_from i (homes_from scale xs (rates_of servers)) b) (drop_all i rates l))
    ∙ h.members b
    ∙ items_from-all (homes_from scale rates []) b

pub Packs-sum : (scale i : ℕ) (rates : List ℕ) (servers : List Server) → length rates ≤ i → Packs scale i rates servers → rate_sum servers ≡ sum rates
Packs-sum scale i rates servers l h = sym (sum-map (λ (s : Server). s.rate) servers) ∙ ap sum (Packs-rates scale i rates servers l h) ∙ sum-packed scale rates

-- ---- one step of the code

-- the first server with room takes the item
pub put_in-joined : (rate item b : ℕ) (servers : List Server) (old new : Server) → b < length servers → old ≡ get_or servers b old →
    new ≡ with_member old rate item →
    set servers b new ≡ put_in rate item b servers
put_in-joined rate item b servers old new l is made =
    ap (λ s. set servers b s) (made ∙ ap (λ s. with_member s rate item) is) ∙ sym (put_in-joins rate item b servers old l)

-- no server has room, and a new one takes it
pub put_in-opened : (scale rate item : ℕ) (servers : List Server) → length servers ≤ first_with_room scale rate (rates_of servers) →
    servers ++ alone rate item ∷ [] ≡ put_in rate item (first_with_room scale rate (rates_of servers)) servers
put_in-opened scale rate item servers l =
    let le = home-le scale rate servers in
    sym (put_in-opens rate item (first_with_room scale rate (rates_of servers)) servers (omega arith))
