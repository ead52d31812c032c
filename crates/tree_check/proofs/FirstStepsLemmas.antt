-- Level 0 of a text's tree, member by member: what each leaf may ask.
use Rattle.std.proofs.Common.{◌≡◌, ℕ, zero, suc, ◌+◌, ◌-◌, ◌<◌, ◌≤◌, List, [], ◌∷◌, ◌++◌, map, max, length, get_or, take, drop, replicate, refl, ap}
use Rattle.std.proofs.Common.{ap₂, arith, sym, subst, ◌∙◌}
use Rattle.std.proofs.lemmas.List.{length-map, length-take-le, length-replicate, length-append, get_or-map, get_or-replicate, get_or_append_left}
use Rattle.std.proofs.lemmas.List.{get_or-append_right}
use Rattle.std.specs.List.{AllByRecursion}
use Rattle.sched_base.specs.FirstFit.{with_item}
use Rattle.run_tree.specs.declared.kinds.Kind.TheVariants as kind
use Rattle.run_tree.specs.Tree.{rate}
use Rattle.run_tree.specs.Making.{Making, Item, started, put, put_items, last_rates}
use Rattle.run_tree.proofs.PackLists.{length_apart}
use Rattle.tree_laws.proofs.PackItems.{IsLeafItem, item_entries}
use Rattle.tree_laws.proofs.FirstLevel.{empty_making}
use Rattle.tree_laws.proofs.Sizes.{leaves_counted}
use Rattle.tree_check.specs.declared.written.Member.{Member}
use Rattle.tree_check.specs.Written.{Pack, Written, IsWritten, level_at, no_pack}
use Rattle.tree_check.specs.Faults.{before, members_of, member_rate, to_place, HasNoFault}
use Rattle.tree_check.specs.TextTree.{leaf_item, homes_from}
use Rattle.tree_check.specs.FirstSteps.{first_making, MayCome}
use Rattle.tree_check.proofs.Told.{told_rates, told_grow, told_room, told_leaves, item_rates, Within, IsTold}
use Rattle.tree_check.proofs.LevelLists.{all_at, length-homes, AllHave}
use Rattle.tree_check.proofs.Faultless.{have, numbers, numbers_long, numbers_apart, numbers_low, printed_are, printed_within}
use Rattle.tree_check.proofs.TextLevels.{first_items, rates_of_items, low_0}
use Rattle.tree_check.proofs.TextLeaves.{place_long}

-- the first k items, and then the rest
pub told_split : (k : ℕ) (rs hs ss : List ℕ) → length hs ≡ length rs → told_rates rs hs ss ≡ told_rates (drop k rs) (drop k hs) (told_rates (take k rs)
    (take k hs) ss)
told_split zero rs hs ss e = refl
told_split (suc k) [] hs ss e = refl
told_split (suc k) (r ∷ rs) [] ss e = absurd (omega (arith, e))
told_split (suc k) (r ∷ rs) (b ∷ hs) ss e = told_split k rs hs (with_item r b ss) (omega (arith, e))

pub drop_at : {A : Type 0} (k : ℕ) (xs : List A) (d : A) → k < length xs → drop k xs ≡ get_or xs k d ∷ drop (suc k) xs
drop_at k [] d l = absurd (omega (arith, l))
drop_at zero (x ∷ xs) d l = refl
drop_at (suc k) (x ∷ xs) d l = drop_at k xs d (omega (arith, l))

-- homes that open packs without gaps, where n packs are open
abbrev pub Gapless : ℕ → List ℕ → Type 0
Gapless n [] = Unit {0}
Gapless n (b ∷ hs) = (b ≤ n) × Gapless (max n (suc b)) hs

pub with_item_length : (r b : ℕ) (ss : List ℕ) → b ≤ length ss → length (with_item r b ss) ≡ max (length ss) (suc b)
with_item_length r zero [] l = refl
with_item_length r (suc b) [] l = absurd (omega (arith, l))
with_item_length r zero (s ∷ ss) l = omega arith
with_item_length r (suc b) (s ∷ ss) l = let ih = with_item_length r b ss (omega (arith, l)) in omega (arith, ih)

-- so each home is a pack that is open, or the next one
pub home_open : (k : ℕ) (rs hs ss : List ℕ) → length hs ≡ length rs → k < length rs → Gapless (length ss) hs → get_or hs k 0 ≤ length
    (told_rates (take k rs) (take k hs) ss)
home_open k [] hs ss e l g = absurd (omega (arith, l))
home_open k (r ∷ rs) [] ss e l g = absurd (omega (arith, e))
home_open zero (r ∷ rs) (b ∷ hs) ss e l g = g.0
home_open (suc k) (r ∷ rs) (b ∷ hs) ss e l g =
    home_open k rs hs (with_item r b ss) (omega (arith, e)) (omega (arith, l)) (let P : ℕ → Type 0 = λ n. Gapless n hs in
    subst P (sym (with_item_length r b ss g.0)) g.1)

pub gapless_rest : (c b : ℕ) (hs : List ℕ) → Gapless (suc b) hs → Gapless (suc b) (replicate c b ++ hs)
gapless_rest zero b hs g = g
gapless_rest (suc c) b hs g = (
  omega arith,
  (let P : ℕ → Type 0 = λ n. Gapless n (replicate c b ++ hs) in let e : suc b ≡ max (suc b) (suc b) =
      omega arith in subst P e (gapless_rest c b hs g)),
)

pub gapless_homes : (b : ℕ) (packs : List Pack) → AllHave packs → Gapless b (homes_from b packs)
gapless_homes b [] each = tt
gapless_homes b (p ∷ packs) each = first (length p.members) each.0 (gapless_homes (suc b) packs each.1)
  where
    first : (n : ℕ) → 0 < n → Gapless (suc b) (homes_from (suc b) packs) → Gapless b (replicate n b ++ homes_from (suc b) packs)
    first zero some rest = absurd (omega (arith, some))
    first (suc n) some rest = (
      omega arith,
      (let P : ℕ → Type 0 = λ m. Gapless m (replicate n b ++ homes_from (suc b) packs) in let e : suc b ≡ max b (suc b) = omega arith in
          subst P e (gapless_rest n b (homes_from (suc b) packs) rest)),
    )

pub all_take : {A : Type 0} (P : A → Type 0) (k : ℕ) (xs : List A) → AllByRecursion P xs → AllByRecursion P (take k xs)
all_take P zero xs a = tt
all_take P (suc k) [] a = tt
all_take P (suc k) (x ∷ xs) a = (a.0, all_take P k xs a.1)

pub rates_take : (k : ℕ) (items : List Item) → item_rates (take k items) ≡ take k (item_rates items)
rates_take zero items = refl
rates_take (suc k) [] = refl
rates_take (suc k) (x ∷ items) = ap (λ rs. x.rate ∷ rs) (rates_take k items)

pub entries_taken : (w : Written) (k : ℕ) (xs : List Member) → k ≤ length xs → length (item_entries (take k (map (leaf_item w) xs))) ≡ k
entries_taken w zero xs l = refl
entries_taken w (suc k) [] l = absurd (omega (arith, l))
entries_taken w (suc k) (x ∷ xs) l = ap suc (entries_taken w k xs (omega (arith, l)))

module _ (w : Written) (iw : IsWritten w) (nf : HasNoFault w) where
  abbrev pub firsts : List Member
  firsts = members_of (level_at w 0)

  abbrev pub items : List Item
  items = map (leaf_item w) firsts

  abbrev pub homes : List ℕ
  homes = homes_from 0 (level_at w 0)

  abbrev pub start : Making
  start = started w.set.processors w.scale

  pub items_long : length items ≡ length firsts
  items_long = length-map firsts (leaf_item w)

  pub rates_long : length (item_rates items) ≡ length firsts
  rates_long = let a = items_long in let b = length-map items (λ (x : Item). x.rate) in omega (arith, a, b)

  pub homes_long : length homes ≡ length (item_rates items)
  homes_long = let a = length-homes 0 (level_at w 0) in let b = rates_long in omega (arith, a, b)

  pub all_within : Within w.scale (told_rates (item_rates items) homes [])
  all_within = subst (Within w.scale) (sym (ap (λ xs. told_rates xs homes []) (rates_of_items (leaf_item w) (member_rate w 0) firsts (λ x. refl))
      ∙ printed_are w iw nf 0 (low_0 w iw nf))) (printed_within w iw nf 0 (low_0 w iw nf))

  -- the rates with the first k members
  abbrev pub rates_at : ℕ → List ℕ
  rates_at k = told_rates (take k (item_rates items)) (take k homes) []

  pub within_at : (k : ℕ) → Within w.scale (rates_at k)
  within_at k i l =
      let g = told_grow (drop k (item_rates items)) (drop k homes) (rates_at k) i l in
      let e = told_split k (item_rates items) homes [] homes_long in
      let a = all_within i (let z = ap length e in let b = g.0 in omega (arith, z, b)) in
      let at = ap (λ ss. get_or ss i 0) e in
      let le = g.1 in
      omega (arith, a, at, le)

  pub told_at : (k : ℕ) → k ≤ length firsts → IsTold start (first_making w k) (take k items) (take k homes)
  unfolding first_making
  told_at k l =
      let n = items_long in let m = homes_long in let r = rates_long in
      told_leaves (take k items) (take k homes) start (empty_making w.set.processors w.scale [] iw.lawful.some_processors iw.is_scale.positive tt
      (omega arith)) (λ x i. absurd (let a = i.0 in omega (arith, a))) refl
      (let a = length-take-le k items (omega (arith, l, n)) in let b = length-take-le k homes (omega (arith, l, m, r)) in omega (arith, a, b))
      (all_take (IsLeafItem w.scale) k items (first_items w iw nf))
      (subst (Within w.scale) (sym (ap (λ rs. told_rates rs (take k homes) []) (rates_take k items))) (within_at k))

  pub last_at_k : (k : ℕ) → k ≤ length firsts → last_rates (first_making w k) ≡ rates_at k
  last_at_k k l = (told_at k l).rates ∙ ap (λ rs. told_rates rs (take k homes) []) (rates_take k items)

  pub few_firsts : length firsts ≤ 1280
  few_firsts =
      let low = low_0 w iw nf in
      let ns = numbers w iw nf 0 low in
      let a = length_apart ns (length (to_place w 0)) (numbers_low w iw nf 0 low) (λ j k lj lk e. numbers_apart w iw nf 0 low j k lj lk e) in
      let n = numbers_long w iw nf 0 low in
      let p = place_long w iw nf in
      let t = iw.lawful.few_tasks in
      let i = iw.few_idles in
      omega (arith, a, n, p, t, i)

  pub may_come : (k : ℕ) → k < length firsts → MayCome (first_making w k) (get_or (item_rates items) k 0) (get_or homes k 0)
  may_come k l =
      let le : k ≤ length firsts = omega (arith, l) in
      let t = told_at k le in
      let n = rates_long in
      let m = homes_long in
      let rates = last_at_k k le in
      let long = length-map (first_making w k).last (rate (first_making w k).tree) in
      let e = told_split k (item_rates items) homes [] homes_long ∙ ap₂ (λ rs hs. told_rates rs hs (rates_at k)) (drop_at k (item_rates items) 0
      (omega (arith, l, n))) (drop_at k homes 0 (omega (arith, l, m, n))) in
      let room = told_room w.scale (get_or (item_rates items) k 0) (get_or homes k 0) (drop (suc k) (item_rates items)) (drop (suc k) homes) (rates_at k)
      (subst (Within w.scale) e all_within) in
      let s = t.scale_same in
      record {
        first_level = t.levels_same;
        few = (let a = leaves_counted (first_making w k).tree.nodes in let b = ap length t.leaves in let c = entries_taken w k firsts le in
            let f = few_firsts in omega (arith, a, b, c, f, l));
        pack = (let a = home_open k (item_rates items) homes [] homes_long (omega (arith, l, n)) (gapless_homes 0 (level_at w 0)
            (have w iw nf 0 (low_0 w iw nf))) in let b = ap length rates in omega (arith, a, b, long));
        some_rate = (let a = all_at (IsLeafItem w.scale) (record { kind = kind.Pack 0; rate = 0 }) items k (first_items w iw nf) (let z = items_long in
            omega (arith, l, z)) in let b = get_or-map (λ (x : Item). x.rate) items k (record { kind = kind.Pack 0; rate = 0 }) 0 (let z = items_long in
            omega (arith, l, z)) in let c = a.1 in omega (arith, b, c));
        rate_fits = (let a = room.0 in omega (arith, a, s));
        within = λ lb. (
            let a = room.1 (let b = ap length rates in omega (arith, lb, long, b)) in
            let b = get_or-map (rate (first_making w k).tree) (first_making w k).last (get_or homes k 0) 0 0 lb in
            let c = ap (λ ss. get_or ss (get_or homes k 0) 0) rates in
            omega (arith, a, b, c, s));
      }

-- ---- one member more

pub put_items_more : (k : ℕ) (xs : List Item) (hs : List ℕ) (m : Making) (d : Item) → k < length xs → length hs ≡ length xs →
    put_items (take (suc k) xs) (take (suc k) hs) m ≡ put (get_or xs k d).kind (get_or xs k d).rate (get_or hs k 0) (put_items (take k xs) (take k hs) m)
put_items_more k [] hs m d l e = absurd (omega (arith, l))
put_items_more k (x ∷ xs) [] m d l e = absurd (omega (arith, e))
put_items_more zero (x ∷ xs) (b ∷ hs) m d l e = refl
put_items_more (suc k) (x ∷ xs) (b ∷ hs) m d l e = put_items_more k xs hs (put x.kind x.rate b m) d (omega (arith, l)) (omega (arith, e))

pub home_at : (b : ℕ) (packs : List Pack) (i j : ℕ) → i < length packs → j < length (get_or packs i no_pack).members → get_or (homes_from b packs)
    (before packs i + j) 0 ≡ b + i
home_at b [] i j l k = absurd (omega (arith, l))
home_at b (p ∷ packs) zero j l k =
    let n = length-replicate (length p.members) b in
    let e : 0 + j ≡ j = omega arith in
    let f : b ≡ b + 0 = omega arith in
    ap (λ x. get_or (homes_from b (p ∷ packs)) x 0) e ∙ get_or_append_left (replicate (length p.members) b) (homes_from (suc b) packs) 0 j
    (omega (arith, k, n)) ∙ get_or-replicate (length p.members) j b 0 k ∙ f
home_at b (p ∷ packs) (suc i) j l k =
    let n = length-replicate (length p.members) b in
    let a = length-append p.members (members_of (take i packs)) in
    let place = before (p ∷ packs) (suc i) + j in
    let e : place - length p.members ≡ before packs i + j = omega (arith, a) in
    let f : suc b + i ≡ b + suc i = omega arith in
    get_or-append_right (replicate (length p.members) b) (homes_from (suc b) packs) (length p.members) place 0 n (omega (arith, a))
    ∙ ap (λ x. get_or (homes_from (suc b) packs) x 0) e ∙ home_at (suc b) packs i j (omega (arith, l)) k ∙ f
