-- The compiler's levels, one by one.
use Rattle.std.specs.Prelude.{ℕ, zero, suc, ◌-◌, ◌*◌, ◌<◌, ◌≤◌, List, length, map, sum}
use Rattle.std.specs.List.{All}
use Rattle.run_tree.specs.Tree.{rate}
use Rattle.run_tree.specs.Making.{Making, lower_packs}
use Rattle.run_tree.specs.Compiled.{level_above}

-- rates of tasks that fit on the processors
pub record RatesFit (processors scale : ℕ) (rates : List ℕ) : Type 0 where
  pub some_processors : 1 ≤ processors
  pub some_scale : 1 ≤ scale
  pub each : All (λ rate. (1 ≤ rate) × (rate ≤ scale)) rates
  pub fit : sum rates ≤ processors * scale

-- a tree in the making with so many levels more
abbrev pub raised : ℕ → Making → Making
raised zero m = m
raised (suc n) m = level_above (raised n m) (lower_packs (raised n m))

-- each of the last n levels was made since the one below has packs that aren't roots
abbrev pub IsRaised : ℕ → Making → Type 0
IsRaised n m = (k : ℕ) → k < n → 0 < length (lower_packs (raised k m))

-- the rates of the duals of the last level's packs that aren't roots
abbrev pub lower_duals : Making → List ℕ
lower_duals m = map (λ p. m.tree.scale - rate m.tree p) (lower_packs m)
