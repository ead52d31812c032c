-- One more member of a growth.
use Rattle.std.proofs.Common.{◌≡◌, ℕ, ◌+◌, ◌-◌, ◌^◌, ◌<◌, ◌≤◌, ◌++◌, ◌∷◌, [], List, length, set, get_or, ap, ap₂, subst, sym, ◌∙◌, refl, arith}
use Rattle.std.proofs.lemmas.Bool.{lt-ltb, le-ltb}
use Rattle.std.proofs.lemmas.List.{get_or_push, get_or_read, length_push, set_at}
use Rattle.run_tree.specs.declared.kinds.Kind.{Kind}
use Rattle.run_tree.specs.Tree.{Node, no_node}
use Rattle.run_tree.specs.Making.{member_node, pack_node, joined}
use Rattle.run_tree.specs.Growth.{Growth, node_in, with_member, with_pack, grown_at, grown_in, grown}

pub grown_old : (base level : ℕ) (k : Kind) (rate b : ℕ) (g : Growth) → b < length g.packs → grown base level k rate b g ≡ grown_at base k rate b g
unfolding grown
grown_old base level k rate b g l = ap (grown_in base level k rate b g) (lt-ltb b (length g.packs) l)

pub grown_new : (base level : ℕ) (k : Kind) (rate b : ℕ) (g : Growth) → length g.packs ≤ b → grown base level k rate b g ≡ grown_at base k rate
    (length g.packs) (with_pack base level g)
unfolding grown
grown_new base level k rate b g l = ap (grown_in base level k rate b g) (le-ltb b (length g.packs) l)

-- a new pack and its first member
pub with_first_member : (base level : ℕ) (k : Kind) (rate : ℕ) (g : Growth) →
    grown_at base k rate (length g.packs) (with_pack base level g) ≡ record {
      nodes = (g.nodes ++ joined (pack_node level) (base + length g.nodes + 1) rate ∷ []) ++ member_node k rate (base + length g.nodes) 0 ∷ [];
      packs = g.packs ++ (base + length g.nodes) ∷ [];
    }
with_first_member base level k rate g =
    let nodes : List Node = g.nodes ++ pack_node level ∷ [] in
    let packs : List ℕ = g.packs ++ (base + length g.nodes) ∷ [] in
    let G : List Node → Growth = λ (xs : List Node). record { nodes = xs; packs = packs } in
    let at : get_or packs (length g.packs) 0 ≡ base + length g.nodes = get_or_push g.packs (base + length g.nodes) 0 (length g.packs) refl in
    let place : get_or packs (length g.packs) 0 - base ≡ length g.nodes = omega (arith, at) in
    let node_is : node_in nodes (length g.nodes) ≡ pack_node level = get_or_push g.nodes (pack_node level) no_node (length g.nodes) refl in
    let long : base + length nodes ≡ base + length g.nodes + 1 = omega (arith, length_push g.nodes (pack_node level)) in
    let F : ℕ → Node → List Node = λ (n : ℕ) (x : Node). set nodes (length g.nodes) (joined x n rate) ++ member_node k rate (base + length g.nodes)
    (length x.members) ∷ [] in
    ap (λ i. G (with_member base k rate i nodes)) place
    ∙ ap (λ x. G (F (base + length nodes) x)) node_is
    ∙ ap (λ n. G (F n (pack_node level))) long
    ∙ ap (λ xs. G (xs ++ member_node k rate (base + length g.nodes) 0 ∷ [])) (set_at g.nodes (pack_node level) [] (joined (pack_node level)
    (base + length g.nodes + 1) rate) (length g.nodes) refl)

-- what a member at the end of an old pack gives
pub put_old_is : (base level : ℕ) (k : Kind) (rate b q : ℕ) (g : Growth) (nodes : List Node) → b < length g.packs → q ≡ get_or g.packs b q →
    nodes ≡ with_member base k rate (q - base) g.nodes →
    record { nodes = nodes; packs = g.packs } ≡ grown base level k rate b g
put_old_is base level k rate b q g nodes l read made =
    let G : List Node → Growth = λ (xs : List Node). record { nodes = xs; packs = g.packs } in
    ap G (made ∙ ap (λ p. with_member base k rate (p - base) g.nodes) (get_or_read g.packs b q l read 0)) ∙ sym (grown_old base level k rate b g l)

-- what a new pack with one member gives
pub put_new_is : (base level : ℕ) (k : Kind) (rate b : ℕ) (g : Growth) (nodes : List Node) (packs : List ℕ) → length g.packs ≤ b →
    nodes ≡ (g.nodes ++ joined (pack_node level) (base + length g.nodes + 1) rate ∷ []) ++ member_node k rate (base + length g.nodes) 0 ∷ [] →
    packs ≡ g.packs ++ (base + length g.nodes) ∷ [] →
    record { nodes = nodes; packs = packs } ≡ grown base level k rate b g
put_new_is base level k rate b g nodes packs l made named =
    let G : List Node → List ℕ → Growth = λ (xs : List Node) (ys : List ℕ). record { nodes = xs; packs = ys } in
    ap₂ G made named ∙ sym (with_first_member base level k rate g) ∙ sym (grown_new base level k rate b g l)

-- what a pack gives that gets a member, and the member at the end
pub member_joined : (base place rate number members : ℕ) (k : Kind) (old kept new : List Node) (pack after member : Node) → kept ≡ old →
    pack ≡ node_in old place → number ≡ base + length old → members ≡ length pack.members →
    after ≡ joined pack number rate → member ≡ member_node k rate (base + place) members → new ≡ set kept place after ++ member ∷ [] →
    new ≡ with_member base k rate place old
member_joined base place rate number members k old kept new pack after member same pack_is number_is members_are joins makes push =
    push
    ∙ ap (λ (xs : List Node). set xs place after ++ member ∷ []) same
    ∙ ap (λ (x : Node). set old place x ++ member ∷ []) joins
    ∙ ap (λ (x : Node). set old place (joined pack number rate) ++ x ∷ []) makes
    ∙ ap (λ (n : ℕ). set old place (joined pack n rate) ++ member_node k rate (base + place) members ∷ []) number_is
    ∙ ap (λ (n : ℕ). set old place (joined pack (base + length old) rate) ++ member_node k rate (base + place) n ∷ []) members_are
    ∙ ap (λ (x : Node). set old place (joined x (base + length old) rate) ++ member_node k rate (base + place) (length x.members) ∷ []) pack_is

-- what a new pack and its first member give
pub pack_opened : (base level rate number : ℕ) (k : Kind) (old kept more new : List Node) (pack member : Node) → kept ≡ old → number ≡ base + length old →
    pack ≡ joined (pack_node level) (number + 1) rate → member ≡ member_node k rate number 0 → more ≡ kept ++ pack ∷ [] → new ≡ more ++ member ∷ [] →
    new ≡ (old ++ joined (pack_node level) (base + length old + 1) rate ∷ []) ++ member_node k rate (base + length old) 0 ∷ []
pack_opened base level rate number k old kept more new pack member same number_is opens makes first second =
    second
    ∙ ap (λ (xs : List Node). xs ++ member ∷ []) (first ∙ ap (λ (xs : List Node). xs ++ pack ∷ []) same ∙ ap (λ (x : Node). old ++ x ∷ []) opens)
    ∙ ap (λ (x : Node). (old ++ joined (pack_node level) (number + 1) rate ∷ []) ++ x ∷ []) makes
    ∙ ap (λ (n : ℕ). (old ++ joined (pack_node level) (n + 1) rate ∷ []) ++ member_node k rate n 0 ∷ []) number_is

-- what is known of an old pack, of number q, to which a member of this rate comes
pub record IsOld (base rate q : ℕ) (g : Growth) : Type 0 where
  pub from : base ≤ q
  pub within : q - base < length g.nodes
  pub rate_fits : (node_in g.nodes (q - base)).rate + rate < 2 ^ 128
  pub members_fit : length (node_in g.nodes (q - base)).members < 2 ^ 32

pub old_pack : (base rate b q : ℕ) (g seen : Growth) → g ≡ seen → b < length g.packs → q ≡ get_or g.packs b q →
    ((i : ℕ) → i < length seen.packs → (base ≤ get_or seen.packs i 0) × (get_or seen.packs i 0 < base + length seen.nodes)) →
    (b < length seen.packs → (node_in seen.nodes (get_or seen.packs b 0 - base)).rate + rate < 2 ^ 128) →
    (b < length seen.packs → length (node_in seen.nodes (get_or seen.packs b 0 - base)).members < 2 ^ 32) → IsOld base rate q g
old_pack base rate b q g seen same l read among fits few =
    let l' : b < length seen.packs = subst (λ (h : Growth). b < length h.packs) same l in
    let is : q ≡ get_or seen.packs b 0 = get_or_read g.packs b q l read 0 ∙ ap (λ (h : Growth). get_or h.packs b 0) same in
    let low = (among b l').0 in
    let high = (among b l').1 in
    subst (IsOld base rate q) (sym same) (subst (λ n. IsOld base rate n seen) (sym is)
    (record { from = low; within = omega (arith, low, high); rate_fits = fits l'; members_fit = few l' }))
