-- Trees that differ in the numbers of their nodes alone.
use Rattle.std.specs.Prelude.{◌≡◌, ℕ, ◌<◌, length, map, option_map}
use Rattle.run_tree.specs.declared.kinds.Kind.{Kind}
use Rattle.run_tree.specs.declared.kinds.Kind.TheVariants as kind
use Rattle.run_tree.specs.Tree.{Tree, IsPack, IsMember, kind_at, rate, home, place, members, dual}
use Rattle.run_tree.specs.Schedule.{packs_at}

-- what a kind becomes where nodes get these numbers
abbrev pub renumbered : (ℕ → ℕ) → Kind → Kind
renumbered f (kind.Leaf leaf) = kind.Leaf leaf
renumbered f (kind.Pack level) = kind.Pack level
renumbered f (kind.Dual primal) = kind.Dual (record { 0 = f primal.0 })

-- tree u is tree t where node x has the number f x
pub record IsRenumbered (f : ℕ → ℕ) (t u : Tree) : Type 0 where
  pub processors_same : u.processors ≡ t.processors
  pub scale_same : u.scale ≡ t.scale
  pub levels_same : u.levels ≡ t.levels
  pub low : (x : ℕ) → x < length t.nodes → f x < length u.nodes
  pub all : (y : ℕ) → y < length u.nodes → (x : ℕ) × (x < length t.nodes) × (f x ≡ y)
  pub kinds : (x : ℕ) → x < length t.nodes → kind_at u (f x) ≡ renumbered f (kind_at t x)
  pub rates : (x : ℕ) → x < length t.nodes → rate u (f x) ≡ rate t x
  pub homes : (x : ℕ) → IsMember t x → home u (f x) ≡ f (home t x)
  pub places : (x : ℕ) → IsMember t x → place u (f x) ≡ place t x
  pub packed : (p : ℕ) → IsPack t p → members u (f p) ≡ map f (members t p)
  pub duals : (p : ℕ) → IsPack t p → dual u (f p) ≡ option_map f (dual t p)
  pub first_packs : packs_at u 0 ≡ map f (packs_at t 0)
