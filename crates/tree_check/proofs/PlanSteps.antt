-- One level more of a text's tree, and the whole of it, as the maker has them in hand.
use Rattle.std.proofs.Common.{◌≡◌, ℕ, zero, suc, ◌-◌, ◌<◌, ◌≤◌, List, map, length, ap, arith, sym, subst, ◌∙◌}
use Rattle.run_tree.specs.Making.{Making, lower_packs, lifted}
use Rattle.run_tree.specs.Maker.{NamesLower, packs_named}
use Rattle.tree_check.specs.Written.{Pack, Written, IsWritten, level_at}
use Rattle.tree_check.specs.Faults.{members_of, HasNoFault}
use Rattle.tree_check.specs.TextTree.{number_of, homes_from, text_making}
use Rattle.tree_check.proofs.LevelAsks.{few_below, some_lower, names_lower}
use Rattle.tree_check.proofs.LeafSteps.{text_more}

-- what the maker asks for before level l, and what it has after it
pub record IsLevelStep (w : Written) (l : ℕ) (maker : Making) (packs : List Pack) : Type 0 where
  pub few : length packs ≤ 1280
  pub few_levels : maker.tree.levels < 4096
  pub some : 0 < length (lower_packs maker)
  pub order : NamesLower maker (map number_of (members_of packs))
  pub next : lifted (packs_named maker (map number_of (members_of packs))) (homes_from 0 packs) maker ≡ text_making w l

pub level_step : (w : Written) → IsWritten w → HasNoFault w → (l : ℕ) → 1 ≤ l → l < length w.levels → (maker : Making) (packs : List Pack) →
    maker ≡ text_making w (l - 1) → packs ≡ level_at w l → IsLevelStep w l maker packs
level_step w iw nf zero some low maker packs e f = absurd (omega (arith, some))
level_step w iw nf (suc k) some low maker packs e f =
    let z : suc k - 1 ≡ k = omega arith in
    let m = e ∙ ap (text_making w) z in
    let there : IsLevelStep w (suc k) (text_making w k) (level_at w (suc k)) = record {
      few = (iw.levels (suc k) low).few;
      few_levels = few_below w iw nf k low;
      some = some_lower w iw nf k low;
      order = names_lower w iw nf k low;
      next = sym (text_more w k);
    } in
    subst (λ (n : Making). IsLevelStep w (suc k) n packs) (sym m) (subst (λ (ps : List Pack). IsLevelStep w (suc k) (text_making w k) ps) (sym f) there)
