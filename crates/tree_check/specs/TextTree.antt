-- The tree of a text: each member, in the order of the lines, goes to the end of its pack.
use Rattle.std.specs.Prelude.{ℕ, zero, suc, ◌-◌, ◌≡◌, List, [], ◌∷◌, ◌++◌, Option, Some, None, length, map, replicate}
use Rattle.sched_base.specs.declared.rows.Leaf.{Leaf}
use Rattle.sched_base.specs.declared.rows.Leaf.TheVariants.{Task, Idle, Empty}
use Rattle.run_tree.specs.declared.kinds.Kind.TheVariants as kind
use Rattle.run_tree.specs.Tree.{Tree}
use Rattle.run_tree.specs.TreeOfSet.{IsTreeOf}
use Rattle.run_tree.specs.Making.{Making, Item, started, put_items, lifted}
use Rattle.run_tree.specs.Maker.{packs_named}
use Rattle.tree_check.specs.declared.written.Member.{Member}
use Rattle.tree_check.specs.declared.written.Member.TheVariants.{Name, Number}
use Rattle.tree_check.specs.Written.{Pack, Written, level_at, written_of}
use Rattle.tree_check.specs.Faults.{named, member_rate, members_of}

-- the leaf that a member of level 0 names
abbrev pub leaf_named : Option ℕ → Member → Leaf
leaf_named i (Number k) = Idle k
leaf_named None (Name name) = Empty
leaf_named (Some j) (Name name) = Task (record { 0 = j })

-- what goes into the packs of level 0
abbrev pub leaf_item : Written → Member → Item
leaf_item w x = record { kind = kind.Leaf (leaf_named (named w 0 x) x); rate = member_rate w 0 x }

-- the number by which a member of a higher level names its pack
abbrev pub number_of : Member → ℕ
number_of (Name name) = 0
number_of (Number j) = j

-- the pack of each member, where the packs are numbered from b on
abbrev pub homes_from : ℕ → List Pack → List ℕ
homes_from b [] = []
homes_from b (p ∷ packs) = replicate (length p.members) b ++ homes_from (suc b) packs

-- the tree in the making, up to level l
unfoldable pub text_making : Written → ℕ → Making
text_making w zero = put_items (map (leaf_item w) (members_of (level_at w 0))) (homes_from 0 (level_at w 0)) (started w.set.processors w.scale)
text_making w (suc l) =
    lifted (packs_named (text_making w l) (map number_of (members_of (level_at w (suc l))))) (homes_from 0 (level_at w (suc l))) (text_making w l)

-- the tree of a text
abbrev pub text_tree : Written → Tree
text_tree w = (text_making w (length w.levels - 1)).tree

-- the text is that of a reduction tree of its set: its tree is one, and is written again as the text
pub record IsTextOfTree (w : Written) : Type 0 where
  pub tree : IsTreeOf w.set (text_tree w)
  pub again : written_of (record { set = w.set; tree = text_tree w }) ≡ w
