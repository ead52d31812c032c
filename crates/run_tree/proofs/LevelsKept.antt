-- What the maker of trees keeps with a level more.
use Rattle.std.proofs.Common.{◌≡◌, ◌≢◌, ℕ, suc, ◌+◌, ◌<◌, ◌≤◌, List, [], ◌∷◌, ◌++◌, length, get_or, ap, ap₂, subst, sym, ◌∙◌, arith, inl, inr, le_refl, add-one}
use Rattle.std.proofs.lemmas.Bool.{cases_lt}
use Rattle.std.proofs.lemmas.List.{append-nil, get_or_append_left, get_or_push, length-append, length_push, length-map, map-append}
use Rattle.run_tree.specs.declared.kinds.Kind.{Kind}
use Rattle.run_tree.specs.declared.kinds.Kind.TheVariants as kind
use Rattle.run_tree.specs.Tree.{Tree, Node}
use Rattle.run_tree.specs.Schedule.{packs_at}
use Rattle.run_tree.specs.Making.{Making, with_dual}
use Rattle.run_tree.specs.Growth.{Growth, node_in, mark_primal, with_duals, with_duals_of, no_growth}
use Rattle.run_tree.specs.Maker.{IsMaking, HasLevels, IsMaker}
use Rattle.run_tree.proofs.NodeKinds.{kinds, packs_from, packs_from-append, packs_at_is, kinds-with_duals}
use Rattle.run_tree.proofs.Growing.{AllNodes, all_set, all_append, FewMembers}
use Rattle.run_tree.proofs.Duals.{length-with_duals}
use Rattle.run_tree.proofs.Lifted.{level_on}
use Rattle.run_tree.proofs.LevelsMade.{IsLevelOf, level_made, level_none}

few_marked : (n : ℕ) (k : Kind) (number : ℕ) (nodes : List Node) → AllNodes (FewMembers n) nodes → AllNodes (FewMembers n) (mark_primal k number nodes)
few_marked n (kind.Leaf leaf) number nodes all = all
few_marked n (kind.Pack level) number nodes all = all
few_marked n (kind.Dual primal) number nodes all = all_set (FewMembers n) nodes primal.0 (with_dual (node_in nodes primal.0) number) (all primal.0) all

few_with_duals : (n number : ℕ) (xs nodes : List Node) → AllNodes (FewMembers n) nodes → AllNodes (FewMembers n) (with_duals number xs nodes)
few_with_duals n number [] nodes all = all
few_with_duals n number (x ∷ xs) nodes all = few_with_duals n (suc number) xs (mark_primal x.kind number nodes) (few_marked n x.kind number nodes all)

-- the packs of a level, below and in the new one
packs_on : (t : Tree) (g : Growth) (l : ℕ) → packs_at (level_on t g).tree l ≡ packs_at t l ++ packs_from l (length t.nodes) (kinds g.nodes)
packs_on t g l =
    let long : 0 + length (kinds t.nodes) ≡ length t.nodes = (let e = length-map t.nodes (λ (n : Node). n.kind) in omega (arith, e)) in
    packs_at_is (level_on t g).tree l
    ∙ ap (packs_from l 0) (map-append (λ (n : Node). n.kind) (with_duals (length t.nodes) g.nodes t.nodes) g.nodes ∙ ap (λ ks. ks ++ kinds g.nodes)
    (kinds-with_duals (length t.nodes) g.nodes t.nodes))
    ∙ packs_from-append l 0 (kinds t.nodes) (kinds g.nodes)
    ∙ ap₂ (λ xs n. xs ++ packs_from l n (kinds g.nodes)) (sym (packs_at_is t l)) long

module _ (lower : List (List ℕ)) (m : Making) (n : ℕ) (g : Growth) (was : IsMaker lower m) (fresh : IsLevelOf (length m.tree.nodes) m.tree.levels
    m.tree.scale n g) where
  private_nodes : length (level_on m.tree g).tree.nodes ≡ length m.tree.nodes + length g.nodes
  private_nodes = length-append (with_duals (length m.tree.nodes) g.nodes m.tree.nodes) g.nodes ∙ ap (λ k. k + length g.nodes)
      (length-with_duals (length m.tree.nodes) g.nodes m.tree.nodes)

  pub level_making : n ≤ 1280 → m.tree.levels < 4096 → IsMaking (level_on m.tree g)
  level_making few levels =
      let k = was.making in
      let long = fresh.long in
      let enough = fresh.enough in
      let packs = fresh.few in
      let nodes = private_nodes in
      let some_level = k.some_level in
      let few_nodes = k.few_nodes in
      record {
        some_scale = k.some_scale;
        scale_fits = k.scale_fits;
        some_processors = k.some_processors;
        few_processors = k.few_processors;
        some_level = omega arith;
        few_levels = omega (arith, levels);
        few_packs = omega (arith, packs, few);
        few_nodes = omega (arith, nodes, long, few, few_nodes);
        few_members = λ p.
            let all : AllNodes (FewMembers (length m.tree.nodes + length g.nodes)) (level_on m.tree g).tree.nodes =
            all_append (FewMembers (length m.tree.nodes + length g.nodes)) (with_duals (length m.tree.nodes) g.nodes m.tree.nodes) g.nodes
            (few_with_duals (length m.tree.nodes + length g.nodes) (length m.tree.nodes) g.nodes m.tree.nodes (λ q. let h = k.few_members q in
            omega (arith, h)))
            (λ q. let h = fresh.members q in omega (arith, h, enough)) in
            let h = all p in
            omega (arith, h, nodes);
        first_packs = λ e. absurd (omega (arith, e, some_level));
        first_nodes = λ e. absurd (omega (arith, e, some_level));
      }

  same_below : (l : ℕ) → l ≢ m.tree.levels → packs_at (level_on m.tree g).tree l ≡ packs_at m.tree l
  same_below l ne = packs_on m.tree g l ∙ ap (λ xs. packs_at m.tree l ++ xs) (fresh.others l ne) ∙ append-nil (packs_at m.tree l)

  pub level_levels : HasLevels (lower ++ m.last ∷ []) (level_on m.tree g)
  level_levels =
      let h = was.levels in
      let count = h.count in
      let long = length_push lower m.last in
      record {
        count = omega (arith, count, long);
        below = λ l b. elim (cases_lt l (length lower)) [
          | inl in_lower ↦ get_or_append_left lower (m.last ∷ []) [] l in_lower ∙ h.below l in_lower
              ∙ sym (same_below l (λ e. omega (arith, e, in_lower, count)))
          | inr at ↦
              (let e : l ≡ length lower = omega (arith, at, b, long) in
              get_or_push lower m.last [] l (sym e) ∙ h.last ∙ ap (packs_at m.tree) (sym e) ∙ sym (same_below l (λ f. omega (arith, e, f, count))))
        ];
        last =
            let e : m.tree.levels ≡ length (lower ++ m.last ∷ []) = omega (arith, count, long) in
            fresh.packs ∙ sym (packs_on m.tree g m.tree.levels ∙ ap (λ xs. xs ++ packs_from m.tree.levels (length m.tree.nodes) (kinds g.nodes))
            (h.above m.tree.levels (le_refl m.tree.levels))) ∙ ap (packs_at (level_on m.tree g).tree) e;
        above = λ l b. same_below l (λ e. omega (arith, e, b)) ∙ h.above l (omega (arith, b));
      }

-- a level more keeps all
pub level_kept : (lower : List (List ℕ)) (m : Making) (packs homes : List ℕ) → IsMaker lower m → m.tree.levels < 4096 → length packs ≤ 1280 →
    length homes ≡ length packs → ((i : ℕ) → i < length packs → get_or packs i 0 < length m.tree.nodes) →
    IsMaker (lower ++ m.last ∷ []) (level_on m.tree (with_duals_of m.tree.nodes m.tree.scale m.tree.levels packs homes no_growth))
level_kept lower m packs homes was levels few each old =
    let g : Growth = with_duals_of m.tree.nodes m.tree.scale m.tree.levels packs homes no_growth in
    let fresh = level_made m.tree.nodes m.tree.scale m.tree.levels 0 packs homes no_growth each old (level_none (length m.tree.nodes) m.tree.levels
    m.tree.scale) in
    record {
      making = level_making lower m (0 + length packs) g was fresh (omega (arith, few)) levels;
      levels = level_levels lower m (0 + length packs) g
          was fresh;
    }

-- the level that these packs and homes tell
abbrev pub level_told : Making → List ℕ → List ℕ → Growth
level_told m packs homes = with_duals_of m.tree.nodes m.tree.scale m.tree.levels packs homes no_growth

-- what is stored is that level above the nodes so far
pub stored_level : (m : Making) (packs homes : List ℕ) (level new : Growth) → level ≡ level_told m packs homes → new.nodes ≡ with_duals
    (length m.tree.nodes) level.nodes m.tree.nodes ++ level.nodes → new.packs ≡ level.packs →
    record { tree = record m.tree { levels = m.tree.levels + 1; nodes = new.nodes }; last = new.packs } ≡ level_on m.tree (level_told m packs homes)
stored_level m packs homes level new told nodes numbers =
    let M : ℕ → List Node → List ℕ → Making = λ (l : ℕ) (xs : List Node) (ys : List ℕ). record { tree = record m.tree { levels = l; nodes = xs }; last = ys } in
    ap (λ l. M l new.nodes new.packs) (add-one m.tree.levels)
    ∙ ap₂ (M (suc m.tree.levels)) nodes numbers
    ∙ ap (level_on m.tree) told

pub primals_told : (m : Making) (packs homes : List ℕ) (level : Growth) → level ≡ level_told m packs homes → length homes ≡ length packs →
    ((i : ℕ) → i < length packs → get_or packs i 0 < length m.tree.nodes) →
    IsLevelOf (length m.tree.nodes) m.tree.levels m.tree.scale (0 + length packs) level
primals_told m packs homes level told each old =
    subst (IsLevelOf (length m.tree.nodes) m.tree.levels m.tree.scale (0 + length packs)) (sym told)
    (level_made m.tree.nodes m.tree.scale m.tree.levels 0 packs homes no_growth each old (level_none (length m.tree.nodes) m.tree.levels m.tree.scale))

pub raised_kept : (lower now : List (List ℕ)) (m : Making) (packs homes : List ℕ) (level new : Growth) → now ≡ lower ++ m.last ∷ [] →
    level ≡ level_told m packs homes →
    new.nodes ≡ with_duals (length m.tree.nodes) level.nodes m.tree.nodes ++ level.nodes → new.packs ≡ level.packs → IsMaker (lower ++ m.last ∷ [])
    (level_on m.tree (level_told m packs homes)) →
    IsMaker now (record { tree = record m.tree { levels = m.tree.levels + 1; nodes = new.nodes }; last = new.packs })
raised_kept lower now m packs homes level new more told nodes numbers kept =
    let made : Making = record { tree = record m.tree { levels = m.tree.levels + 1; nodes = new.nodes }; last = new.packs } in
    subst (λ (ls : List (List ℕ)). IsMaker ls made) (sym more) (subst (IsMaker (lower ++ m.last ∷ [])) (sym (stored_level m packs homes level new told nodes
    numbers)) kept)
