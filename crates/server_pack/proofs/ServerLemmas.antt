-- What an item more changes of a list of servers.
use Rattle.std.proofs.Common.{◌≡◌, ℕ, zero, suc, ◌+◌, ◌*◌, ◌<◌, ◌≤◌, ◌==◌, List, [], ◌∷◌, ◌++◌, length, set, get_or, filter, cond, Bool, true, false}
use Rattle.std.proofs.Common.{refl, ap, sym, arith, inl, inr, ◌∙◌}
use Rattle.std.specs.List.{range_with_len}
use Rattle.std.proofs.lemmas.Bool.{cases_eq, eq-eqb, ne_eqb}
use Rattle.std.proofs.lemmas.List.{append-nil}
use Rattle.std.proofs.Math.Dec.{eqb-suc-suc}
use Rattle.std.proofs.Math.ListN.{get_or-map}
use Rattle.sched_base.specs.Counting.{bit}
use Rattle.sched_base.specs.FirstFit.{first_with_room, with_item}
use Rattle.server_pack.specs.declared.packing.Server.{Server}
use Rattle.server_pack.specs.Servers.{no_server, server_at, rates_of, items_of, put_in, alone, with_member, HasNoIdle, IsWithin}
use Rattle.server_pack.proofs.FitLemmas.{first_with_room-le, first_with_room-fits, rate-with_item}

pub rate-at : (servers : List Server) (b : ℕ) → get_or (rates_of servers) b 0 ≡ (server_at servers b).rate
rate-at servers b = get_or-map (λ (s : Server). s.rate) servers b no_server

-- ---- the servers as the code makes them

pub put_in-joins : (rate item b : ℕ) (servers : List Server) (d : Server) → b < length servers → put_in rate item b servers ≡ set servers b
    (with_member (get_or servers b d) rate item)
put_in-joins rate item b [] d l = absurd (omega arith)
put_in-joins rate item zero (s ∷ servers) d l = refl
put_in-joins rate item (suc b) (s ∷ servers) d l = ap (λ xs. s ∷ xs) (put_in-joins rate item b servers d (omega arith))

pub put_in-opens : (rate item b : ℕ) (servers : List Server) → b ≡ length servers → put_in rate item b servers ≡ servers ++ alone rate item ∷ []
put_in-opens rate item b [] e = refl
put_in-opens rate item zero (s ∷ servers) e = absurd (omega arith)
put_in-opens rate item (suc b) (s ∷ servers) e = ap (λ xs. s ∷ xs) (put_in-opens rate item b servers (omega arith))

-- ---- what each server has

pub rates-put_in : (rate item b : ℕ) (servers : List Server) → rates_of (put_in rate item b servers) ≡ with_item rate b (rates_of servers)
rates-put_in rate item b [] = refl
rates-put_in rate item zero (s ∷ servers) = refl
rates-put_in rate item (suc b) (s ∷ servers) = ap (λ xs. s.rate ∷ xs) (rates-put_in rate item b servers)

pub length-put_in : (rate item b : ℕ) (servers : List Server) → length (put_in rate item b servers) ≤ length servers + 1
length-put_in rate item b [] = omega arith
length-put_in rate item zero (s ∷ servers) = omega arith
length-put_in rate item (suc b) (s ∷ servers) = let more = length-put_in rate item b servers in omega (arith, more)

pub idle-put_in : (rate item b : ℕ) (servers : List Server) → HasNoIdle servers → HasNoIdle (put_in rate item b servers)
idle-put_in rate item b [] none zero = refl
idle-put_in rate item b [] none (suc c) = refl
idle-put_in rate item zero (s ∷ servers) none zero = none 0
idle-put_in rate item zero (s ∷ servers) none (suc c) = none (suc c)
idle-put_in rate item (suc b) (s ∷ servers) none zero = none 0
idle-put_in rate item (suc b) (s ∷ servers) none (suc c) = idle-put_in rate item b servers (λ k. none (suc k)) c

-- the item alone, or none
abbrev pub if_here : Bool → ℕ → List ℕ
if_here true item = item ∷ []
if_here false item = []

if_here-same : (a b item : ℕ) → a ≡ b → if_here (a == b) item ≡ item ∷ []
if_here-same a b item e = ap (λ here. if_here here item) (eq-eqb a b e)

if_here-other : (a b item : ℕ) (xs : List ℕ) → (a ≡ b → ⊥) → xs ≡ xs ++ if_here (a == b) item
if_here-other a b item xs differs = sym (ap (λ here. xs ++ if_here here item) (ne_eqb a b differs) ∙ append-nil xs)

pub members-put_in : (rate item b : ℕ) (servers : List Server) (c : ℕ) → b ≤ length servers → (server_at (put_in rate item b servers) c).members
    ≡ (server_at servers c).members ++ if_here (b == c) item
members-put_in rate item zero [] zero l = sym (if_here-same 0 0 item refl)
members-put_in rate item zero [] (suc c) l = if_here-other 0 (suc c) item [] (λ e. omega arith)
members-put_in rate item (suc b) [] c l = absurd (omega arith)
members-put_in rate item zero (s ∷ servers) zero l = ap (λ xs. s.members ++ xs) (sym (if_here-same 0 0 item refl))
members-put_in rate item zero (s ∷ servers) (suc c) l = if_here-other 0 (suc c) item (server_at servers c).members (λ e. omega arith)
members-put_in rate item (suc b) (s ∷ servers) zero l = if_here-other (suc b) 0 item s.members (λ e. omega arith)
members-put_in rate item (suc b) (s ∷ servers) (suc c) l =
    members-put_in rate item b servers c (omega arith) ∙ ap (λ here. (server_at servers c).members ++ if_here here item) (sym (eqb-suc-suc b c))

-- the rate stays within the scale
pub within-put_in : (scale rate item : ℕ) (servers : List Server) → rate ≤ scale → IsWithin scale servers →
    IsWithin scale (put_in rate item (first_with_room scale rate (rates_of servers)) servers)
within-put_in scale rate item servers small within c =
    let home = first_with_room scale rate (rates_of servers) in
    let new = sym (rate-at (put_in rate item home servers) c) ∙ ap (λ xs. get_or xs c 0) (rates-put_in rate item home servers) ∙ rate-with_item rate home
    (rates_of servers) c (first_with_room-le scale rate (rates_of servers)) in
    let old = rate-at servers c in
    let before = within c in
    elim (cases_eq home c) [
      | inl e ↦
          (let fits = first_with_room-fits scale rate (rates_of servers) small in
          let here = ap (λ n. get_or (rates_of servers) n 0) e in
          let one = ap (λ here. bit here * rate) (eq-eqb home c e) in
          omega (arith, new, fits, here, one))
      | inr differs ↦ (let none = ap (λ here. bit here * rate) (ne_eqb home c differs) in omega (arith, new, old, before, none))
    ]

-- ---- the items of a server

-- the items from this number on whose server is b
abbrev pub items_from : ℕ → List ℕ → ℕ → List ℕ
items_from item [] b = []
items_from item (home ∷ homes) b = if_here (home == b) item ++ items_from (item + 1) homes b

if_here-cond : (here : Bool) (item : ℕ) (xs : List ℕ) → if_here here item ++ xs ≡ cond here (item ∷ xs) xs
if_here-cond true item xs = refl
if_here-cond false item xs = refl

items_from-filter : (homes all : List ℕ) (item b : ℕ) → ((j : ℕ) → get_or homes j 0 ≡ get_or all (item + j) 0) → items_from item homes b ≡ filter
    (λ k. get_or all k 0 == b) (range_with_len item (length homes))
items_from-filter [] all item b same = refl
items_from-filter (home ∷ homes) all item b same =
    let here : home ≡ get_or all item 0 = same 0 ∙ ap (λ n. get_or all n 0) (omega arith) in
    let more = items_from-filter homes all (item + 1) b (λ j. same (suc j) ∙ ap (λ n. get_or all n 0) (omega arith)) in
    let rest = filter (λ k. get_or all k 0 == b) (range_with_len (item + 1) (length homes)) in
    ap (λ xs. if_here (home == b) item ++ xs) more ∙ if_here-cond (home == b) item rest ∙ ap (λ n. cond (n == b) (item ∷ rest) rest) here

pub items_from-all : (homes : List ℕ) (b : ℕ) → items_from 0 homes b ≡ items_of homes b
items_from-all homes b = items_from-filter homes homes 0 b (λ j. ap (λ n. get_or homes n 0) (omega arith))
