-- Homes that are written server by server.
use Rattle.std.proofs.Common.{◌≡◌, ℕ, ◌+◌, ◌<◌, ◌≢◌, List, [], length, get_or, refl, ap, arith, inl, inr, sym, subst, ◌∙◌, eqb, eq-eqb}
use Rattle.std.proofs.lemmas.Bool.{cases_eq, eqb-true}
use Rattle.std.proofs.lemmas.List.{ext_get_or, length-map}
use Rattle.std.proofs.lemmas.List.FromFn.{get_or-range_with_len, length-range_with_len}
use Rattle.std.specs.List.{range_with_len}
use Rattle.server_pack.specs.declared.packing.Server.{Server}
use Rattle.sched_base.specs.FirstFit.{packed, homes}
use Rattle.server_pack.specs.Servers.{server_at, rates_of, items_of}
use Rattle.server_pack.proofs.FitLemmas.{length-homes_from}
use Rattle.server_pack.proofs.FirstFitLaw.{opened}
use Rattle.tree_laws.proofs.MakingSteps.{Among}
use Rattle.tree_laws.proofs.LastLevel.{kept_in, kept_from}

-- the first n items have home s, and the rest is as it was
pub record AreHome (old new items : List ℕ) (s n : ℕ) : Type 0 where
  pub long : length new ≡ length old
  pub here : (i : ℕ) → i < n → get_or new (get_or items i 0) 0 ≡ s
  pub others : (j : ℕ) → ((i : ℕ) → i < n → get_or items i 0 ≢ j) → get_or new j 0 ≡ get_or old j 0

-- no item is in two servers
abbrev pub AreApart : List Server → Type 0
AreApart servers = (s t i j : ℕ) → i < length (server_at servers s).members → j < length (server_at servers t).members →
    get_or (server_at servers s).members i 0 ≡ get_or (server_at servers t).members j 0 → s ≡ t

-- the items of the first n servers have their homes
abbrev pub AreTold : List Server → List ℕ → ℕ → Type 0
AreTold servers homes n = (s i : ℕ) → s < n → i < length (server_at servers s).members → get_or homes (get_or (server_at servers s).members i 0) 0 ≡ s

-- one server more
pub AreTold-next : (servers : List Server) (old new items : List ℕ) (n : ℕ) → items ≡ (server_at servers n).members → AreApart servers → AreTold servers old n →
    ((i : ℕ) → i < length items → get_or new (get_or items i 0) 0 ≡ n) → ((j : ℕ) → ((i : ℕ) → i < length items → get_or items i 0 ≢ j) →
    get_or new j 0 ≡ get_or old j 0) → AreTold servers new (n + 1)
AreTold-next servers old new items n are apart was here others s i l li =
    let same = ap length are in
    elim (cases_eq s n) [
      | inl e ↦
          (let is : (server_at servers s).members ≡ items = ap (λ x. (server_at servers x).members) e ∙ sym are in
          let b = ap length is in
          ap (λ xs. get_or new (get_or xs i 0) 0) is ∙ here i (omega (arith, b, li)) ∙ sym e)
      | inr ne ↦ others (get_or (server_at servers s).members i 0) (λ k lk e. ne (apart s n i k li (omega (arith, lk, same)) (sym e
          ∙ ap (λ xs. get_or xs k 0) are))) ∙ was s i (omega (arith, l, ne)) li
    ]

-- an item of a server has it as its home
pub item_home : (told : List ℕ) (s i : ℕ) → i < length (items_of told s) → (get_or (items_of told s) i 0 < length told)
    × (get_or told (get_or (items_of told s) i 0) 0 ≡ s)
item_home told s i l =
    let (j, lj, at, on) = kept_in (λ k. eqb (get_or told k 0) s) (range_with_len 0 (length told)) i l in
    let long = length-range_with_len 0 (length told) in
    let is = get_or-range_with_len 0 (length told) j 0 (omega (arith, lj, long)) in
    (omega (arith, at, is, lj, long), eqb-true (get_or told (get_or (items_of told s) i 0) 0) s on)

-- an item is among those of its home
pub home_item : (told : List ℕ) (s j : ℕ) → j < length told → get_or told j 0 ≡ s → Among j (items_of told s)
home_item told s j l e =
    let long = length-range_with_len 0 (length told) in
    let is : get_or (range_with_len 0 (length told)) j 0 ≡ j = get_or-range_with_len 0 (length told) j 0 l ∙ omega arith in
    let P : ℕ → Type 0 = λ x. Among x (items_of told s) in
    subst P is (kept_from (λ k. eqb (get_or told k 0) s) (range_with_len 0 (length told)) j (omega (arith, l, long)) (ap (λ x. eqb (get_or told x 0) s) is
    ∙ eq-eqb (get_or told j 0) s e))

-- so all homes are told, where the servers hold the items that homes say
pub all_told : (servers : List Server) (told now : List ℕ) → ((b : ℕ) → (server_at servers b).members ≡ items_of told b) → ((j : ℕ) → j < length told →
    get_or told j 0 < length servers) → length now ≡ length told → AreTold servers now (length servers) → now ≡ told
all_told servers told now are below long written =
    ext_get_or 0 now told long (λ j l. (
    let lj : j < length told = omega (arith, l, long) in
    let s = get_or told j 0 in
    let (i, li, at) = home_item told s j lj refl in
    let same = ap length (are s) in
    ap (λ x. get_or now x 0) (sym at ∙ ap (λ xs. get_or xs i 0) (sym (are s))) ∙ written s i (below j lj) (omega (arith, li, same))))

-- such servers have no item twice, and items below their number alone
pub told_apart : (servers : List Server) (told : List ℕ) → ((b : ℕ) → (server_at servers b).members ≡ items_of told b) → AreApart servers
told_apart servers told are s t i j li lj e =
    let ls = ap length (are s) in
    let lt = ap length (are t) in
    let x = (item_home told s i (omega (arith, ls, li))).1 in
    let y = (item_home told t j (omega (arith, lt, lj))).1 in
    sym x ∙ ap (λ k. get_or told k 0) (ap (λ xs. get_or xs i 0) (sym (are s)) ∙ e ∙ ap (λ xs. get_or xs j 0) (are t)) ∙ y

pub told_inside : (servers : List Server) (told : List ℕ) → ((b : ℕ) → (server_at servers b).members ≡ items_of told b) → (s i : ℕ) →
    i < length (server_at servers s).members → get_or (server_at servers s).members i 0 < length told
told_inside servers told are s i l =
    let same = ap length (are s) in
    let b = (item_home told s i (omega (arith, same, l))).0 in
    let e = ap (λ xs. get_or xs i 0) (are s) in
    omega (arith, b, e)

-- ---- the homes of first fit

pub homes_long : (scale : ℕ) (rates : List ℕ) → length (homes scale rates) ≡ length rates
unfolding homes
homes_long scale rates = length-homes_from scale rates []

pub homes_below : (scale : ℕ) (rates : List ℕ) (servers : List Server) → rates_of servers ≡ packed scale rates → (j : ℕ) → j < length (homes scale rates) →
    get_or (homes scale rates) j 0 < length servers
homes_below scale rates servers are j l =
    let long = homes_long scale rates in
    let b = opened scale rates j (omega (arith, l, long)) in
    let count = length-map servers (λ (s : Server). s.rate) in
    let same = ap length are in
    omega (arith, b, count, same)
