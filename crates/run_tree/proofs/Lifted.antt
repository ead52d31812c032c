-- A level that is made apart, and then put above the nodes so far, is the level that `lifted` gives.
use Rattle.std.proofs.Common.{◌≡◌, ℕ, suc, ◌+◌, ◌-◌, ◌<◌, ◌≤◌, ◌++◌, ◌∷◌, [], List, length, set, get_or, ap, ap₂, sym, ◌∙◌, refl, arith, append_assoc, inl, inr}
use Rattle.std.proofs.lemmas.Bool.{cases_lt}
use Rattle.std.proofs.lemmas.List.{get_or_push, get_or_append_left, get_or-append_right, set-append_left, set-append_right, length-append}
use Rattle.sched_base.specs.declared.rows.NodeId.{NodeId}
use Rattle.run_tree.specs.declared.kinds.Kind.{Kind}
use Rattle.run_tree.specs.declared.kinds.Kind.TheVariants as kind
use Rattle.run_tree.specs.Tree.{Tree, Node, no_node}
use Rattle.run_tree.specs.Making.{Making, member_node, pack_node, joined, with_dual, put, joined_at, opened}
use Rattle.run_tree.specs.Growth.{Growth, node_in, with_member, with_pack, grown_at, grown, mark_primal, with_duals}
use Rattle.run_tree.proofs.Puts.{put_old, put_new}
use Rattle.run_tree.proofs.Grown.{grown_old, grown_new}
use Rattle.run_tree.proofs.Duals.{length-with_duals, with_duals-push, with_duals-member}

-- the nodes so far, and above them those of a level
abbrev pub level_on : Tree → Growth → Making
level_on t g = record { tree = record t { levels = suc t.levels; nodes = with_duals (length t.nodes) g.nodes t.nodes ++ g.nodes }; last = g.packs }

-- the packs are among these nodes
abbrev pub AreAmong : ℕ → Growth → Type 0
AreAmong base g = (b : ℕ) → b < length g.packs → (base ≤ get_or g.packs b 0) × (get_or g.packs b 0 < base + length g.nodes)

-- two lists with a member more in the second
member_on : (ms fs : List Node) (base q i : ℕ) (k : Kind) (rate : ℕ) → length ms ≡ base → q ≡ base + i →
    set (ms ++ fs) q (joined (get_or (ms ++ fs) q no_node) (length (ms ++ fs)) rate) ++ member_node k rate q (length (get_or (ms ++ fs) q no_node).members) ∷ []
    ≡ ms ++ with_member base k rate i fs
member_on ms fs base q i k rate long at =
    let e : q - base ≡ i = omega arith in
    let read : get_or (ms ++ fs) q no_node ≡ node_in fs i = get_or-append_right ms fs base q no_node long (omega arith) ∙ ap (λ j. get_or fs j no_node) e in
    let all : length (ms ++ fs) ≡ base + length fs = omega (arith, length-append ms fs) in
    let F : Node → ℕ → List Node = λ (x : Node) (n : ℕ). set (ms ++ fs) q (joined x n rate) ++ member_node k rate q (length x.members) ∷ [] in
    ap₂ F read all
    ∙ ap (λ xs. xs ++ member_node k rate q (length (node_in fs i).members) ∷ []) (set-append_right ms fs base q (joined (node_in fs i) (base + length fs)
    rate) long (omega arith))
    ∙ ap₂ (λ j h. (ms ++ set fs j (joined (node_in fs i) (base + length fs) rate)) ++ member_node k rate h (length (node_in fs i).members) ∷ []) e at
    ∙ append_assoc ms (set fs i (joined (node_in fs i) (base + length fs) rate)) (member_node k rate (base + i) (length (node_in fs i).members) ∷ [])

mark_on : (ms fs : List Node) (p : NodeId) (number : ℕ) → p.0 < length ms →
    set (ms ++ fs) p.0 (with_dual (get_or (ms ++ fs) p.0 no_node) number) ≡ mark_primal (kind.Dual p) number ms ++ fs
mark_on ms fs p number l =
    ap (λ x. set (ms ++ fs) p.0 (with_dual x number)) (get_or_append_left ms fs no_node p.0 l)
    ∙ set-append_left ms fs p.0 (with_dual (get_or ms p.0 no_node) number) l

joined_on : (t : Tree) (g : Growth) (p : NodeId) (rate b : ℕ) → p.0 < length t.nodes → length t.nodes ≤ get_or g.packs b 0 →
    joined_at (kind.Dual p) rate b (level_on t g) ≡ level_on t (grown_at (length t.nodes) (kind.Dual p) rate b g)
joined_on t g p rate b old above =
    let base : ℕ = length t.nodes in
    let q : ℕ = get_or g.packs b 0 in
    let i : ℕ = q - base in
    let ms : List Node = with_duals base g.nodes t.nodes in
    let long : length ms ≡ base = length-with_duals base g.nodes t.nodes in
    let all : length (ms ++ g.nodes) ≡ base + length g.nodes = omega (arith, length-append ms g.nodes, long) in
    let fs : List Node = with_member base (kind.Dual p) rate i g.nodes in
    let M : List Node → Making = λ (xs : List Node). record { tree = record t { levels = suc t.levels; nodes = xs }; last = g.packs } in
    let made = member_on ms g.nodes base q i (kind.Dual p) rate long (omega arith) in
    ap (λ xs. M (set xs p.0 (with_dual (get_or xs p.0 no_node) (length (ms ++ g.nodes))))) made
    ∙ ap (λ n. M (set (ms ++ fs) p.0 (with_dual (get_or (ms ++ fs) p.0 no_node) n))) all
    ∙ ap M (mark_on ms fs p (base + length g.nodes) (omega arith))
    ∙ ap (λ xs. M (xs ++ fs)) (sym (with_duals-member base (kind.Dual p) rate i g.nodes t.nodes))

opened_on : (t : Tree) (g : Growth) → opened (level_on t g) ≡ level_on t (with_pack (length t.nodes) t.levels g)
opened_on t g =
    let base : ℕ = length t.nodes in
    let ms : List Node = with_duals base g.nodes t.nodes in
    let all : length (ms ++ g.nodes) ≡ base + length g.nodes = omega (arith, length-append ms g.nodes, length-with_duals base g.nodes t.nodes) in
    let e : suc t.levels - 1 ≡ t.levels = omega arith in
    let M : List Node → ℕ → Making = λ (xs : List Node) (n : ℕ). record { tree = record t { levels = suc t.levels; nodes = xs }; last = g.packs ++ n ∷ [] } in
    ap₂ (λ l n. M ((ms ++ g.nodes) ++ pack_node l ∷ []) n) e all
    ∙ ap (λ xs. M xs (base + length g.nodes)) (append_assoc ms g.nodes (pack_node t.levels ∷ []))
    ∙ ap (λ xs. M (xs ++ (g.nodes ++ pack_node t.levels ∷ [])) (base + length g.nodes)) (sym (with_duals-push base g.nodes t.nodes (pack_node t.levels)))

pub put_on : (t : Tree) (g : Growth) (p : NodeId) (rate b : ℕ) → p.0 < length t.nodes → AreAmong (length t.nodes) g →
    put (kind.Dual p) rate b (level_on t g) ≡ level_on t (grown (length t.nodes) t.levels (kind.Dual p) rate b g)
put_on t g p rate b old among = elim (cases_lt b (length g.packs)) [
  | inl l ↦ put_old (kind.Dual p) rate b (level_on t g) l ∙ joined_on t g p rate b old (among b l).0 ∙ ap (level_on t)
      (sym (grown_old (length t.nodes) t.levels (kind.Dual p) rate b g l))
  | inr l ↦
      (let g1 : Growth = with_pack (length t.nodes) t.levels g in
      let at : get_or g1.packs (length g.packs) 0 ≡ length t.nodes + length g.nodes = get_or_push g.packs (length t.nodes + length g.nodes) 0
      (length g.packs) refl in
      put_new (kind.Dual p) rate b (level_on t g) l
      ∙ ap (joined_at (kind.Dual p) rate (length g.packs)) (opened_on t g)
      ∙ joined_on t g1 p rate (length g.packs) old (omega (arith, at))
      ∙ ap (level_on t) (sym (grown_new (length t.nodes) t.levels (kind.Dual p) rate b g l)))
]
