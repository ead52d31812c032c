-- A level of duals, as it is made apart from the nodes below.
use Rattle.std.proofs.Common.{◌≡◌, ◌≢◌, ℕ, zero, suc, ◌+◌, ◌-◌, ◌*◌, ◌<◌, ◌≤◌, List, [], ◌∷◌, length, take, get_or, ap, ap₂, subst, sym, ◌∙◌, refl}
use Rattle.std.proofs.Common.{arith, inl, inr, le_refl, add-one}
use Rattle.std.proofs.lemmas.Bool.{cases_Bool}
use Rattle.std.proofs.lemmas.List.{append-nil, length-map}
use Rattle.sched_base.proofs.ListLemmas.{at_front}
use Rattle.run_tree.specs.declared.kinds.Kind.{Kind}
use Rattle.run_tree.specs.declared.kinds.Kind.TheVariants as kind
use Rattle.run_tree.specs.Tree.{Tree, Node, rate}
use Rattle.run_tree.specs.Making.{Making, dual_items, put_items, lifted}
use Rattle.run_tree.specs.Growth.{Growth, node_in, grown, with_duals_of, no_growth}
use Rattle.run_tree.proofs.NodeKinds.{kinds, packs_from, packs_from_at, packs_from_off, is_of_level}
use Rattle.run_tree.proofs.Growing.{step_is, AllNodes, FewMembers, LowRate, PrimalBelow}
use Rattle.run_tree.proofs.Lifted.{level_on, AreAmong, put_on}

abbrev pub dual_of : ℕ → Kind
dual_of p = kind.Dual (record { 0 = p })

-- a level of n duals above `base` nodes
pub record IsLevelOf (base level scale n : ℕ) (g : Growth) : Type 0 where
  pub enough : n ≤ length g.nodes
  pub long : length g.nodes ≤ 2 * n
  pub few : length g.packs ≤ n
  pub packs : g.packs ≡ packs_from level base (kinds g.nodes)
  pub others : (l : ℕ) → l ≢ level → packs_from l base (kinds g.nodes) ≡ []
  pub members : AllNodes (FewMembers n) g.nodes
  pub rates : AllNodes (LowRate (n * scale)) g.nodes
  pub primals : AllNodes (PrimalBelow base) g.nodes

pub level_none : (base level scale : ℕ) → IsLevelOf base level scale 0 no_growth
level_none base level scale = record {
  enough = omega arith;
  long = omega arith;
  few = omega arith;
  packs = refl;
  others = λ l ne. refl;
  members = λ p. omega arith;
  rates = λ p. omega arith;
  primals = λ p. tt;
}

pub level_step : (base level scale n b p rate : ℕ) (g : Growth) → IsLevelOf base level scale n g → p < base → rate ≤ scale → IsLevelOf base level scale
    (suc n) (grown base level (dual_of p) rate b g)
level_step base level scale n b p rate g was old low =
    let s = step_is base level (dual_of p) rate b g refl in
    let long = s.long in
    let more = s.more in
    let one = s.one in
    let enough_was = was.enough in
    let long_was = was.long in
    let few_was = was.few in
    record {
      enough = omega (arith, long, more, enough_was);
      long = omega (arith, long, one, long_was);
      few = omega (arith, one, few_was);
      packs = s.packs was.packs;
      others = λ l ne. s.others l ne ∙ was.others l ne;
      members = s.members n was.members;
      rates = λ q. let r = s.rates (n * scale) was.rates q in omega (arith, r, low);
      primals = s.primals base old was.primals;
    }

pub level_made : (below : List Node) (scale level n : ℕ) (packs homes : List ℕ) (g : Growth) → length homes ≡ length packs → ((i : ℕ) → i < length packs →
    get_or packs i 0 < length below) →
    IsLevelOf (length below) level scale n g → IsLevelOf (length below) level scale (n + length packs) (with_duals_of below scale level packs homes g)
level_made below scale level n [] homes g e old was = let f : n ≡ n + 0 = omega arith in subst (λ m. IsLevelOf (length below) level scale m g) f was
level_made below scale level n (p ∷ packs) [] g e old was = absurd (omega (arith, e))
level_made below scale level n (p ∷ packs) (b ∷ homes) g e old was =
    let f : suc n + length packs ≡ n + suc (length packs) = omega arith in
    let h : Growth = grown (length below) level (dual_of p) (scale - (node_in below p).rate) b g in
    let made : Growth = with_duals_of below scale level packs homes h in
    subst (λ m. IsLevelOf (length below) level scale m made) f
    (level_made below scale level (suc n) packs homes h (omega (arith, e)) (λ i l. old (suc i) (omega (arith, l)))
    (level_step (length below) level scale n b p (scale - (node_in below p).rate) g was (old 0 (omega arith)) (omega arith)))

next_dual : (below : List Node) (scale level i : ℕ) (packs homes : List ℕ) (g : Growth) → i < length packs → i < length homes →
    with_duals_of below scale level (take (suc i) packs) (take (suc i) homes) g
    ≡ grown (length below) level (dual_of (get_or packs i 0)) (scale - (node_in below (get_or packs i 0)).rate) (get_or homes i 0)
    (with_duals_of below scale level (take i packs) (take i homes) g)
next_dual below scale level i [] homes g l k = absurd (omega (arith, l))
next_dual below scale level i (p ∷ packs) [] g l k = absurd (omega (arith, k))
next_dual below scale level zero (p ∷ packs) (b ∷ homes) g l k = refl
next_dual below scale level (suc i) (p ∷ packs) (b ∷ homes) g l k =
    next_dual below scale level i packs homes (grown (length below) level (dual_of p) (scale - (node_in below p).rate) b g) (omega (arith, l))
    (omega (arith, k))

-- one more dual
pub with_duals_of_more : (below : List Node) (scale level i : ℕ) (packs homes : List ℕ) (g : Growth) → i < length packs → i < length homes →
    with_duals_of below scale level (take (i + 1) packs) (take (i + 1) homes) g
    ≡ grown (length below) level (dual_of (get_or packs i 0)) (scale - (node_in below (get_or packs i 0)).rate) (get_or homes i 0)
    (with_duals_of below scale level (take i packs) (take i homes) g)
with_duals_of_more below scale level i packs homes g l k = ap (λ n. with_duals_of below scale level (take n packs) (take n homes) g) (add-one i)
    ∙ next_dual below scale level i packs homes g l k

-- packs are among the nodes that are numbered
abbrev pub IsBetween : ℕ → ℕ → ℕ → Type 0
IsBetween low high p = (low ≤ p) × (p < high)

pub packs_from_among : (l n : ℕ) (ks : List Kind) (i : ℕ) → i < length (packs_from l n ks) → IsBetween n (n + length ks) (get_or (packs_from l n ks) i 0)
packs_from_among l n [] i b = absurd (omega (arith, b))
packs_from_among l n (k ∷ ks) i b =
    let rest : (j : ℕ) → j < length (packs_from l (suc n) ks) → IsBetween n (n + suc (length ks)) (get_or (packs_from l (suc n) ks) j 0) = λ j h. let r =
    packs_from_among l (suc n) ks j h in (omega (arith, r.0), omega (arith, r.1)) in
    elim (cases_Bool (is_of_level l k)) [
      | inl on ↦
          (let e = packs_from_at l n k ks on in
          subst (λ xs. IsBetween n (n + suc (length ks)) (get_or xs i 0)) (sym e) (at_front (IsBetween n (n + suc (length ks))) n (packs_from l (suc n) ks)
          (le_refl n, omega arith) rest i (subst (λ xs. i < length xs) e b)))
      | inr off ↦
          (let e = packs_from_off l n k ks off in
          subst (λ xs. IsBetween n (n + suc (length ks)) (get_or xs i 0)) (sym e) (rest i (subst (λ xs. i < length xs) e b)))
    ]

pub among_is : (base level scale n : ℕ) (g : Growth) → IsLevelOf base level scale n g → AreAmong base g
among_is base level scale n g h b l =
    let e = h.packs in
    let r = packs_from_among level base (kinds g.nodes) b (subst (λ xs. b < length xs) e l) in
    let k : length (kinds g.nodes) ≡ length g.nodes = length-map g.nodes (λ (n : Node). n.kind) in
    let at = ap (λ xs. get_or xs b 0) e in
    (omega (arith, r.0, at), omega (arith, r.1, at, k))

-- the duals put one by one are the level made apart
pub duals_on : (t : Tree) (n : ℕ) (packs homes : List ℕ) (g : Growth) → ((i : ℕ) → i < length packs → get_or packs i 0 < length t.nodes) →
    IsLevelOf (length t.nodes) t.levels t.scale n g →
    put_items (dual_items t packs) homes (level_on t g) ≡ level_on t (with_duals_of t.nodes t.scale t.levels packs homes g)
duals_on t n [] homes g old was = refl
duals_on t n (p ∷ packs) [] g old was = refl
duals_on t n (p ∷ packs) (b ∷ homes) g old was =
    ap (put_items (dual_items t packs) homes) (put_on t g (record { 0 = p }) (t.scale - rate t p) b (old 0 (omega arith)) (among_is (length t.nodes)
    t.levels t.scale n g was))
    ∙ duals_on t (suc n) packs homes (grown (length t.nodes) t.levels (dual_of p) (t.scale - rate t p) b g) (λ i l. old (suc i) (omega (arith, l)))
    (level_step (length t.nodes) t.levels t.scale n b p (t.scale - rate t p) g was (old 0 (omega arith)) (omega arith))

pub lifted_is : (packs homes : List ℕ) (m : Making) → ((i : ℕ) → i < length packs → get_or packs i 0 < length m.tree.nodes) →
    lifted packs homes m ≡ level_on m.tree (with_duals_of m.tree.nodes m.tree.scale m.tree.levels packs homes no_growth)
unfolding lifted
lifted_is packs homes m old =
    let t : Tree = m.tree in
    let M : List Node → Making = λ (xs : List Node). record { tree = record t { levels = suc t.levels; nodes = xs }; last = [] } in
    ap (λ xs. put_items (dual_items t packs) homes (M xs)) (sym (append-nil t.nodes)) ∙ duals_on t 0 packs homes no_growth old (level_none (length t.nodes)
    t.levels t.scale)

-- a step of the loop over the packs
pub duals_step : (below : List Node) (scale level i low : ℕ) (packs homes : List ℕ) (g new : Growth) → i < length packs → length homes ≡ length packs →
    low ≡ (node_in below (get_or packs i 0)).rate →
    g ≡ with_duals_of below scale level (take i packs) (take i homes) no_growth → new ≡ grown (length below) level (dual_of (get_or packs i 0))
    (scale - low) (get_or homes i 0) g →
    new ≡ with_duals_of below scale level (take (i + 1) packs) (take (i + 1) homes) no_growth
duals_step below scale level i low packs homes g new l each low_is before made =
    made
    ∙ ap₂ (λ r (h : Growth). grown (length below) level (dual_of (get_or packs i 0)) (scale - r) (get_or homes i 0) h) low_is before
    ∙ sym (with_duals_of_more below scale level i packs homes no_growth l (omega (arith, each, l)))

pub level_step_is : (base level scale n b p low : ℕ) (g new : Growth) → IsLevelOf base level scale n g → p < base → new ≡ grown base level (dual_of p)
    (scale - low) b g → IsLevelOf base level scale (n + 1) new
level_step_is base level scale n b p low g new was old made =
    subst (λ m. IsLevelOf base level scale m new) (sym (add-one n)) (subst (IsLevelOf base level scale (suc n)) (sym made) (level_step base level scale n b
    p (scale - low) g was old (omega arith)))
