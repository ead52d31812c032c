use Rattle.std.proofs.Common.{◌≡◌, ◌∙◌, ◌<◌, ◌++◌, ◌∷◌, [], ℕ, List, length, get_or, ap, sym, arith, subst}
use Rattle.run_tree.specs.Making.{Making, lifted}
use Rattle.run_tree.proofs.LevelsMade.{lifted_is}
use Rattle.run_tree.proofs.LevelsKept.{level_told, level_kept, stored_level, primals_told, raised_kept}
use Rattle.std.proofs.lemmas.Result.{IfOk-from_err, MatchResult-from_err}
use Rattle.run_tree.specs.Growth.{Growth}
use Rattle.run_tree.specs.Maker.{IsMaker}
use Rattle.run_tree.proofs.MakerLemmas.{making_with}
use Rattle.run_tree.proofs.maker.TreeMaker.raise.Goals as goal

pub append-requires-clause-primals : goal.append-requires-clause-primals
append-requires-clause-primals c =
    let m : Making = record {
      tree = record {
        processors = c.self.inside.processors;
        scale = c.self.inside.scale;
        levels = c.self.inside.levels;
        nodes = c.self.inside.growth.nodes;
      };
      last = c.self.inside.growth.packs;
    } in
    let told : c.in_ok-level.level ≡ level_told m c.args.packs.now c.args.homes.now = rw c.nodes.ensures at c.in_ok-level.ensures in
    let old : (i : ℕ) → i < length c.args.packs.now → get_or c.args.packs.now i 0 < length m.tree.nodes = λ i l. omega (
      arith,
      c.requires.packs i l,
      ap (λ (x : Making). length x.tree.nodes) c.self.view_is,
    ) in
    let fresh = primals_told m c.args.packs.now c.args.homes.now c.in_ok-level.level told c.requires.homes old in
    λ i l. fresh.primals i

pub append-requires-clause-numbers_fit : goal.append-requires-clause-numbers_fit
append-requires-clause-numbers_fit c =
    let m : Making = record {
      tree = record {
        processors = c.self.inside.processors;
        scale = c.self.inside.scale;
        levels = c.self.inside.levels;
        nodes = c.self.inside.growth.nodes;
      };
      last = c.self.inside.growth.packs;
    } in
    let told : c.in_ok-level.level ≡ level_told m c.args.packs.now c.args.homes.now = rw c.nodes.ensures at c.in_ok-level.ensures in
    let old : (i : ℕ) → i < length c.args.packs.now → get_or c.args.packs.now i 0 < length m.tree.nodes = λ i l. omega (
      arith,
      c.requires.packs i l,
      ap (λ (x : Making). length x.tree.nodes) c.self.view_is,
    ) in
    let fresh = primals_told m c.args.packs.now c.args.homes.now c.in_ok-level.level told c.requires.homes old in
    omega (arith, fresh.long, c.self.invariant.making.few_nodes, c.self.invariant.making.few_levels, c.requires.few)

pub invariant_of-self-2 : goal.invariant_of-self-2
invariant_of-self-2 c =
    let m : Making = record {
      tree = record {
        processors = c.self.inside.processors;
        scale = c.self.inside.scale;
        levels = c.self.inside.levels;
        nodes = c.self.inside.growth.nodes;
      };
      last = c.self.inside.growth.packs;
    } in
    let told : c.in_ok-level.level ≡ level_told m c.args.packs.now c.args.homes.now = rw c.nodes.ensures at c.in_ok-level.ensures in
    let old : (i : ℕ) → i < length c.args.packs.now → get_or c.args.packs.now i 0 < length m.tree.nodes = λ i l. omega (
      arith,
      c.requires.packs i l,
      ap (λ (x : Making). length x.tree.nodes) c.self.view_is,
    ) in
    let levels : m.tree.levels < 4096 = omega (arith, c.requires.few_levels, ap (λ (x : Making). x.tree.levels) c.self.view_is) in
    let kept = level_kept c.self.inside.lower.items m c.args.packs.now c.args.homes.now c.self.invariant levels c.requires.few c.requires.homes old in
    let lower : c.push_reserved.new.self.items ≡ c.self.inside.lower.items ++ m.last ∷ [] = c.push_reserved.ensures.items
    ∙ ap (λ xs. xs ++ c.in_ok-numbers.numbers.items ∷ []) c.in_ok-reserve.ensures.items ∙ ap (λ (ys : List ℕ). c.self.inside.lower.items ++ ys ∷ [])
    c.in_ok-numbers.ensures.earlier in
    raised_kept c.self.inside.lower.items c.push_reserved.new.self.items m c.args.packs.now c.args.homes.now c.in_ok-level.level c.append.new.self lower
    told c.in_ok-numbers.ensures.nodes c.in_ok-numbers.ensures.packs kept

pub returns-clause-ok : goal.returns-clause-ok
returns-clause-ok c =
    let m : Making = record {
      tree = record {
        processors = c.self.inside.processors;
        scale = c.self.inside.scale;
        levels = c.self.inside.levels;
        nodes = c.self.inside.growth.nodes;
      };
      last = c.self.inside.growth.packs;
    } in
    let told : c.in_ok-level.level ≡ level_told m c.args.packs.now c.args.homes.now = rw c.nodes.ensures at c.in_ok-level.ensures in
    let old : (i : ℕ) → i < length c.args.packs.now → get_or c.args.packs.now i 0 < length m.tree.nodes = λ i l. omega (
      arith,
      c.requires.packs i l,
      ap (λ (x : Making). length x.tree.nodes) c.self.view_is,
    ) in
    stored_level m c.args.packs.now c.args.homes.now c.in_ok-level.level c.append.new.self told c.in_ok-numbers.ensures.nodes c.in_ok-numbers.ensures.packs
    ∙ sym (lifted_is c.args.packs.now c.args.homes.now m old)
    ∙ ap (lifted c.args.packs.now c.args.homes.now) c.self.view_is

pub returns-in_err-reserve-clause-ok : goal.returns-in_err-reserve-clause-ok
returns-in_err-reserve-clause-ok c = IfOk-from_err _ _ c.from_residual.ensures.0

pub returns-in_err-level-clause-ok : goal.returns-in_err-level-clause-ok
returns-in_err-level-clause-ok c = IfOk-from_err _ _ c.from_residual-in_err-level.ensures.0

pub returns-in_err-numbers-clause-ok : goal.returns-in_err-numbers-clause-ok
returns-in_err-numbers-clause-ok c = IfOk-from_err _ _ c.from_residual-in_err-numbers.ensures.0

pub returns-in_err-reserve-clause-err : goal.returns-in_err-reserve-clause-err
returns-in_err-reserve-clause-err c = MatchResult-from_err _ _ _ c.from_residual.ensures.0 (λ _. c.self.view_is)

pub returns-in_err-level-clause-err : goal.returns-in_err-level-clause-err
returns-in_err-level-clause-err c = MatchResult-from_err _ _ _ c.from_residual-in_err-level.ensures.0 (λ _. c.self.view_is)

pub returns-in_err-numbers-clause-err : goal.returns-in_err-numbers-clause-err
returns-in_err-numbers-clause-err c =
    let m : Making = record {
      tree = record {
        processors = c.self.inside.processors;
        scale = c.self.inside.scale;
        levels = c.self.inside.levels;
        nodes = c.self.inside.growth.nodes;
      };
      last = c.self.inside.growth.packs;
    } in
    MatchResult-from_err _ _ _ c.from_residual-in_err-numbers.ensures.0 (λ _. ap (making_with m) c.in_err-numbers.ensures.err ∙ c.self.view_is)

pub invariant_of-self : goal.invariant_of-self
invariant_of-self c =
    let m : Making = record {
      tree = record {
        processors = c.self.inside.processors;
        scale = c.self.inside.scale;
        levels = c.self.inside.levels;
        nodes = c.self.inside.growth.nodes;
      };
      last = c.self.inside.growth.packs;
    } in
    subst (λ (lower : List (List ℕ)). IsMaker lower m) (sym c.in_err-reserve.ensures.items) c.self.invariant

pub invariant_of-self-in_err-level : goal.invariant_of-self-in_err-level
invariant_of-self-in_err-level c =
    let m : Making = record {
      tree = record {
        processors = c.self.inside.processors;
        scale = c.self.inside.scale;
        levels = c.self.inside.levels;
        nodes = c.self.inside.growth.nodes;
      };
      last = c.self.inside.growth.packs;
    } in
    subst (λ (lower : List (List ℕ)). IsMaker lower m) (sym c.in_ok-reserve.ensures.items) c.self.invariant

pub invariant_of-self-in_err-numbers : goal.invariant_of-self-in_err-numbers
invariant_of-self-in_err-numbers c =
    let m : Making = record {
      tree = record {
        processors = c.self.inside.processors;
        scale = c.self.inside.scale;
        levels = c.self.inside.levels;
        nodes = c.self.inside.growth.nodes;
      };
      last = c.self.inside.growth.packs;
    } in
    subst (λ (lower : List (List ℕ)). IsMaker lower (making_with m c.append.new.self)) (sym c.in_ok-reserve.ensures.items)
    (subst (λ (g : Growth). IsMaker c.self.inside.lower.items (making_with m g)) (sym c.in_err-numbers.ensures.err) c.self.invariant)

pub of_duals-requires-clause-few : goal.of_duals-requires-clause-few
of_duals-requires-clause-few c = c.requires.few

pub of_duals-requires-clause-homes : goal.of_duals-requires-clause-homes
of_duals-requires-clause-homes c = c.requires.homes

pub of_duals-requires-clause-scale_fits : goal.of_duals-requires-clause-scale_fits
of_duals-requires-clause-scale_fits c = c.self.invariant.making.scale_fits

pub of_duals-requires-clause-numbers_fit : goal.of_duals-requires-clause-numbers_fit
of_duals-requires-clause-numbers_fit c = let long = ap length c.nodes.ensures in let few = c.self.invariant.making.few_nodes in let most =
    c.self.invariant.making.few_levels in omega (arith, long, few, most)

pub of_duals-requires-clause-packs : goal.of_duals-requires-clause-packs
of_duals-requires-clause-packs c = λ i l. (let b = c.requires.packs i l in let long = ap length c.nodes.ensures in let seen =
    ap (λ (x : Making). length x.tree.nodes) c.self.view_is in omega (arith, b, long, seen))

pub push_reserved-requires : goal.push_reserved-requires
push_reserved-requires c = let room = c.in_ok-reserve.ensures.ok in omega (arith, room)
