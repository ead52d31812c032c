-- Two reduction trees of a set that are written alike differ in the numbers of their nodes alone.
use Rattle.std.proofs.Common.{◌≡◌, ℕ, suc, ◌+◌, ◌-◌, ◌<◌, true, false, map, length, get_or, Option, Some, None, option_map, refl, ap, ap₂, arith, inl}
use Rattle.std.proofs.Common.{inr, sym, subst, ◌∙◌}
use Rattle.std.specs.List.{position_from}
use Rattle.std.specs.Str.{bytes_eq}
use Rattle.std.proofs.lemmas.Bool.{both_ways}
use Rattle.std.proofs.lemmas.List.{length-map, get_or-map, ext_get_or}
use Rattle.sched_base.specs.declared.rows.Leaf.{Leaf}
use Rattle.sched_base.specs.declared.rows.Leaf.TheVariants.{Task, Wait, Idle, Empty}
use Rattle.sched_base.specs.declared.sets.Task as declared
use Rattle.sched_base.specs.Sets.{SetContents, IsLawful, task_at}
use Rattle.run_tree.specs.declared.kinds.Kind.{Kind}
use Rattle.run_tree.specs.declared.kinds.Kind.TheVariants as kind
use Rattle.run_tree.specs.Tree.{Tree, IsPack, IsMember, IsLeaf, IsDual, kind_at, is_leaf, is_pack, is_dual, leaf, leaf_of, level, level_of, primal}
use Rattle.run_tree.specs.Tree.{primal_of, rate, home, place, member, members, dual}
use Rattle.run_tree.specs.TreeOfSet.{IsTreeOf, task_id, is_real}
use Rattle.run_tree.specs.Schedule.{packs_at}
use Rattle.run_tree.specs.Plans.{PlanContents}
use Rattle.run_tree.proofs.KindLemmas.{KindOf, kind_of, not_pack, not_pack_leaf}
use Rattle.run_tree.proofs.TreeLemmas.{leaf_at_level}
use Rattle.tree_text_laws.specs.Renumbered.{renumbered, IsRenumbered}
use Rattle.tree_text.specs.Text.{place_in_level}
use Rattle.tree_check.specs.declared.written.Member.TheVariants.{Number}
use Rattle.tree_check.specs.Written.{Pack, Written, level_at, kind_written, leaf_written, pack_written, written_of, no_pack}
use Rattle.tree_check.specs.Faults.{rate_at, named}
use Rattle.tree_check.proofs.LevelNodes.{pack_of, pack_in, place_is, placed}
use Rattle.tree_check.proofs.WrittenTree.{name_found, levels_long, level_long, pack_is, names}
use Rattle.tree_text_laws.proofs.LimitLemmas.{some_level}

-- ---- names

-- tasks of one name are one task
same_task : (s : SetContents) → IsLawful s → (i j : ℕ) → i < length s.tasks → j < length s.tasks → (task_at s.tasks i).name ≡ (task_at s.tasks j).name → i ≡ j
same_task s ls i j li lj e =
    let a = name_found s.tasks 0 i ls.names_differ li in
    let b = name_found s.tasks 0 j ls.names_differ lj in
    let f : Some (0 + i) ≡ Some (0 + j) = sym a ∙ ap (λ name. position_from (λ (u : declared.Task). bytes_eq u.name name) 0 s.tasks) e ∙ b in
    let g : 0 + i ≡ 0 + j = cc in
    omega (arith, g)

module _ (s : SetContents) (t u : Tree) (ls : IsLawful s) (ht : IsTreeOf s t) (hu : IsTreeOf s u)
    (same : written_of (record { set = s; tree = t }) ≡ written_of (record { set = s; tree = u })) where
  abbrev p : PlanContents
  p = record { set = s; tree = t }

  abbrev q : PlanContents
  q = record { set = s; tree = u }

  scale_same : t.scale ≡ u.scale
  scale_same = ap (λ (w : Written). w.scale) same

  levels_same : t.levels ≡ u.levels
  levels_same = sym (levels_long s t ls ht) ∙ ap (λ (w : Written). length w.levels) same ∙ levels_long s u ls hu

  packs_long : (l : ℕ) → l < t.levels → length (packs_at t l) ≡ length (packs_at u l)
  packs_long l b =
      sym (level_long s t ls ht l b) ∙ ap (λ w. length (level_at w l)) same ∙ level_long s u ls hu l (let e = levels_same in omega (arith, b, e))

  -- packs by their places are written alike
  packs_same : (l i : ℕ) → l < t.levels → i < length (packs_at t l) → pack_written p (pack_of t l i) ≡ pack_written q (pack_of u l i)
  packs_same l i b li =
      sym (pack_is s t ls ht l i b li) ∙ ap (λ w. get_or (level_at w l) i no_pack) same
      ∙ pack_is s u ls hu l i (let e = levels_same in omega (arith, b, e)) (let n = packs_long l b in omega (arith, li, n))

  -- ---- the other number of a pack

  abbrev pack_to : ℕ → ℕ
  pack_to x = pack_of u (level t x) (place_in_level t x)

  -- the pack of the other tree at the place of this one
  record IsOther (x : ℕ) : Type 0 where
    is_pack_of : IsPack u (pack_to x)
    level_of_it : level u (pack_to x) ≡ level t x
    place_of_it : place_in_level u (pack_to x) ≡ place_in_level t x
    written : pack_written p x ≡ pack_written q (pack_to x)

  other : (x : ℕ) → IsPack t x → IsOther x
  other x i =
      let at = placed t x i in
      let low = ht.tree.leveled x i in
      let n = packs_long (level t x) low in
      let li : place_in_level t x < length (packs_at u (level t x)) = (let a = at.0 in omega (arith, a, n)) in
      let is = pack_in u (level t x) (place_in_level t x) li in
      record {
        is_pack_of = is.0;
        level_of_it = is.1;
        place_of_it = place_is u (level t x) (place_in_level t x) li;
        written = ap (pack_written p) (sym at.1) ∙ packs_same (level t x) (place_in_level t x) low at.0;
      }

  rate_of_pack : (x : ℕ) → IsPack t x → rate u (pack_to x) ≡ rate t x
  rate_of_pack x i = ap (λ (k : Pack). k.rate) (sym (other x i).written)

  members_long : (x : ℕ) → IsPack t x → length (members u (pack_to x)) ≡ length (members t x)
  members_long x i =
      let a = length-map (members t x) (λ m. kind_written p (kind_at t m)) in
      let b = length-map (members u (pack_to x)) (λ m. kind_written q (kind_at u m)) in
      let e = ap (λ (k : Pack). length k.members) (other x i).written in
      omega (arith, a, b, e)

  words_same : (x k : ℕ) → IsPack t x → k < length (members t x) → kind_written p (kind_at t (member t x k)) ≡ kind_written q
      (kind_at u (member u (pack_to x) k))
  words_same x k i l =
      sym (get_or-map (λ m. kind_written p (kind_at t m)) (members t x) k 0 (Number 0) l)
      ∙ ap (λ (z : Pack). get_or z.members k (Number 0)) (other x i).written
      ∙ get_or-map (λ m. kind_written q (kind_at u m)) (members u (pack_to x)) k 0 (Number 0) (let n = members_long x i in omega (arith, l, n))

  -- ---- the other number of a node

  abbrev member_to : ℕ → ℕ
  member_to x = member u (pack_to (home t x)) (place t x)

  abbrev moved_by : Kind → ℕ → ℕ
  moved_by (kind.Leaf leaf) x = member_to x
  moved_by (kind.Pack level) x = pack_to x
  moved_by (kind.Dual primal) x = member_to x

  abbrev pub moved : ℕ → ℕ
  moved x = moved_by (kind_at t x) x

  moved_pack : (x : ℕ) → IsPack t x → moved x ≡ pack_to x
  moved_pack x i = go (kind_at t x) i.1
    where
      go : (c : Kind) → is_pack c ≡ true → moved_by c x ≡ pack_to x
      go (kind.Leaf leaf) e = absurd (both_ways false refl e)
      go (kind.Pack level) e = refl
      go (kind.Dual primal) e = absurd (both_ways false refl e)

  moved_member : (x : ℕ) → IsMember t x → moved x ≡ member_to x
  moved_member x i = go (kind_at t x) i.1
    where
      go : (c : Kind) → is_pack c ≡ false → moved_by c x ≡ member_to x
      go (kind.Leaf leaf) e = refl
      go (kind.Pack level) e = absurd (both_ways true e refl)
      go (kind.Dual primal) e = refl

  -- a member's other one stands at the same place, and is written alike
  record IsTwin (x : ℕ) : Type 0 where
    is_member_of : IsMember u (member_to x)
    home_of_it : home u (member_to x) ≡ pack_to (home t x)
    place_of_it : place u (member_to x) ≡ place t x
    level_of_it : level u (home u (member_to x)) ≡ level t (home t x)
    word : kind_written p (kind_at t x) ≡ kind_written q (kind_at u (member_to x))

  twin : (x : ℕ) → IsMember t x → IsTwin x
  twin x i =
      let up = ht.tree.homes_are x i in
      let o = other (home t x) up.0 in
      let n = members_long (home t x) up.0 in
      let l : place t x < length (members u (pack_to (home t x))) = (let a = up.1 in omega (arith, a, n)) in
      let m = hu.tree.members_are (pack_to (home t x)) (place t x) o.is_pack_of l in
      record {
        is_member_of = m.0;
        home_of_it = m.1;
        place_of_it = m.2;
        level_of_it = ap (level u) m.1 ∙ o.level_of_it;
        word = ap (λ z. kind_written p (kind_at t z)) (sym up.2) ∙ words_same (home t x) (place t x) up.0 up.1;
      }

  rate_of_member : (x : ℕ) → IsMember t x → rate u (member_to x) ≡ rate t x
  rate_of_member x i =
      let w = twin x i in
      let l = level t (home t x) in
      let a = names s t ls ht x l i refl in
      let b = names s u ls hu (member_to x) l w.is_member_of w.level_of_it in
      let number : Some b.0 ≡ Some a.0 = sym b.1 ∙ sym (ap (λ z. named z l (kind_written p (kind_at t x))) same ∙ ap (named (written_of q) l) w.word) ∙ a.1 in
      let e : b.0 ≡ a.0 = cc (number) in
      sym b.2 ∙ ap (rate_at (written_of q) l) e ∙ sym (ap (λ z. rate_at z l a.0) same) ∙ a.2

  -- ---- kinds

  leaf_alike : (a b : Leaf) → (x y : ℕ) → IsLeaf t x → leaf t x ≡ a → IsLeaf u y → leaf u y ≡ b → leaf_written p a ≡ leaf_written q b → b ≡ a
  leaf_alike (Task i) (Task j) x y lx ex ly ey w =
      let e : (task_at s.tasks i.0).name ≡ (task_at s.tasks j.0).name = cc (w) in
      ap (λ k. Task (task_id k)) (sym (same_task s ls i.0 j.0 (ht.tasks.known x i lx ex) (hu.tasks.known y j ly ey) e))
  leaf_alike (Task i) (Idle k) x y lx ex ly ey w = cc
  leaf_alike (Idle k) (Task j) x y lx ex ly ey w = cc
  leaf_alike (Idle k) (Idle m) x y lx ex ly ey w = (let e : k ≡ m = cc (w) in ap Idle (sym e))
  leaf_alike (Wait id) b x y lx ex ly ey w = absurd (both_ways (is_real (leaf t x)) (ap is_real ex) (ht.tasks.real x lx))
  leaf_alike Empty b x y lx ex ly ey w = absurd (both_ways (is_real (leaf t x)) (ap is_real ex) (ht.tasks.real x lx))
  leaf_alike a (Wait id) x y lx ex ly ey w = absurd (both_ways (is_real (leaf u y)) (ap is_real ey) (hu.tasks.real y ly))
  leaf_alike a Empty x y lx ex ly ey w = absurd (both_ways (is_real (leaf u y)) (ap is_real ey) (hu.tasks.real y ly))

  kind_of_leaf : (x : ℕ) (f : Leaf) → IsMember t x → kind_at t x ≡ kind.Leaf f → kind_at u (member_to x) ≡ kind.Leaf f
  kind_of_leaf x f i e = go (kind_at u (member_to x)) refl
    where
      is : IsLeaf t x
      is = (i.0, ap is_leaf e)

      w : IsTwin x
      w = twin x i

      is_u : IsLeaf u (member_to x)
      is_u = (w.is_member_of.0, leaf_at_level u hu.tree (member_to x) w.is_member_of (w.level_of_it ∙ (ht.tree.leaves_are x is).0))

      go : (c : Kind) → kind_at u (member_to x) ≡ c → kind_at u (member_to x) ≡ kind.Leaf f
      go (kind.Leaf g) d =
          d ∙ ap kind.Leaf (leaf_alike f g x (member_to x) is (ap leaf_of e) is_u (ap leaf_of d) (sym (ap (kind_written p) e) ∙ w.word ∙ ap (kind_written q) d))
      go (kind.Pack m) d = absurd (both_ways (is_leaf (kind_at u (member_to x))) (ap is_leaf d) is_u.1)
      go (kind.Dual m) d = absurd (both_ways (is_leaf (kind_at u (member_to x))) (ap is_leaf d) is_u.1)

  kind_of_dual : (x : ℕ) (m : ℕ) → IsMember t x → kind_at t x ≡ kind.Dual (record { 0 = m }) → kind_at u (member_to x) ≡ kind.Dual (record { 0 = moved m })
  kind_of_dual x m i e = go (kind_at u (member_to x)) refl
    where
      is : IsDual t x
      is = (i.0, ap is_dual e)

      w : IsTwin x
      w = twin x i

      primal_is : primal t x ≡ m
      primal_is = ap primal_of e

      pack_m : IsPack t m
      pack_m = subst (IsPack t) primal_is (ht.tree.duals_are x is).0

      above : level t (home t x) ≡ suc (level t m)
      above = (ht.tree.duals_are x is).2 ∙ ap (λ z. suc (level t z)) primal_is

      go : (c : Kind) → kind_at u (member_to x) ≡ c → kind_at u (member_to x) ≡ kind.Dual (record { 0 = moved m })
      go (kind.Leaf g) d = absurd (
          let z = (hu.tree.leaves_are (member_to x) (w.is_member_of.0, ap is_leaf d)).0 in
          let a = above in
          let b = w.level_of_it in
          omega (arith, z, a, b))
      go (kind.Pack k) d = absurd (both_ways (is_pack (kind_at u (member_to x))) w.is_member_of.1 (ap is_pack d))
      go (kind.Dual r) d =
          let is_u : IsDual u (member_to x) = (w.is_member_of.0, ap is_dual d) in
          let up = hu.tree.duals_are (member_to x) is_u in
          let at : primal u (member_to x) ≡ r.0 = ap primal_of d in
          let pack_r : IsPack u r.0 = subst (IsPack u) at up.0 in
          let words : Number (place_in_level t m) ≡ Number (place_in_level u r.0) = sym (ap (kind_written p) e) ∙ w.word ∙ ap (kind_written q) d in
          let places : place_in_level t m ≡ place_in_level u r.0 = cc (words) in
          let here = up.2 ∙ ap (λ z. suc (level u z)) at in
          let levels : level t m ≡ level u r.0 = (let a = above in let b = w.level_of_it in omega (arith, a, b, here)) in
          let found : moved m ≡ r.0 = moved_pack m pack_m ∙ ap₂ (λ l i. pack_of u l i) levels places ∙ (placed u r.0 pack_r).1 in
          d ∙ ap (λ z. kind.Dual (record { 0 = z })) (sym found)

  kind_of_pack : (x l : ℕ) → IsPack t x → kind_at t x ≡ kind.Pack l → kind_at u (pack_to x) ≡ kind.Pack l
  kind_of_pack x l i e = go (kind_at u (pack_to x)) refl
    where
      o : IsOther x
      o = other x i

      go : (c : Kind) → kind_at u (pack_to x) ≡ c → kind_at u (pack_to x) ≡ kind.Pack l
      go (kind.Leaf g) d = absurd (both_ways (is_pack (kind_at u (pack_to x))) (ap is_pack d) o.is_pack_of.1)
      go (kind.Pack k) d =
          let same_level : k ≡ l = sym (ap level_of d) ∙ o.level_of_it ∙ ap level_of e in
          d ∙ ap kind.Pack same_level
      go (kind.Dual r) d = absurd (both_ways (is_pack (kind_at u (pack_to x))) (ap is_pack d) o.is_pack_of.1)

  kinds : (x : ℕ) → x < length t.nodes → kind_at u (moved x) ≡ renumbered moved (kind_at t x)
  kinds x l = go (kind_at t x) refl
    where
      go : (c : Kind) → kind_at t x ≡ c → kind_at u (moved x) ≡ renumbered moved c
      go (kind.Leaf f) e = (let i : IsMember t x = (l, ap is_pack e) in ap (kind_at u) (moved_member x i) ∙ kind_of_leaf x f i e)
      go (kind.Pack m) e = (let i : IsPack t x = (l, ap is_pack e) in ap (kind_at u) (moved_pack x i) ∙ kind_of_pack x m i e)
      go (kind.Dual r) e = (let i : IsMember t x = (l, ap is_pack e) in ap (kind_at u) (moved_member x i) ∙ kind_of_dual x r.0 i e)

  -- ---- the rest

  low : (x : ℕ) → x < length t.nodes → moved x < length u.nodes
  low x l = go (kind_of (kind_at t x))
    where
      of_member : IsMember t x → moved x < length u.nodes
      of_member i = (let e = moved_member x i in let b = (twin x i).is_member_of.0 in omega (arith, e, b))

      go : KindOf (kind_at t x) → moved x < length u.nodes
      go (inl a_leaf) = of_member (l, not_pack_leaf (kind_at t x) a_leaf)
      go (inr (inl a_dual)) = of_member (l, not_pack (kind_at t x) a_dual)
      go (inr (inr a_pack)) = (let e = moved_pack x (l, a_pack) in let b = (other x (l, a_pack)).is_pack_of.0 in omega (arith, e, b))

  rates : (x : ℕ) → x < length t.nodes → rate u (moved x) ≡ rate t x
  rates x l = go (kind_of (kind_at t x))
    where
      of_member : IsMember t x → rate u (moved x) ≡ rate t x
      of_member i = ap (rate u) (moved_member x i) ∙ rate_of_member x i

      go : KindOf (kind_at t x) → rate u (moved x) ≡ rate t x
      go (inl a_leaf) = of_member (l, not_pack_leaf (kind_at t x) a_leaf)
      go (inr (inl a_dual)) = of_member (l, not_pack (kind_at t x) a_dual)
      go (inr (inr a_pack)) = ap (rate u) (moved_pack x (l, a_pack)) ∙ rate_of_pack x (l, a_pack)

  duals : (x : ℕ) → IsPack t x → dual u (moved x) ≡ option_map moved (dual t x)
  duals x i = ap (dual u) (moved_pack x i) ∙ go (dual t x) refl
    where
      o : IsOther x
      o = other x i

      none : rate t x ≡ t.scale → (c : Option ℕ) → dual u (pack_to x) ≡ c → c ≡ None
      none full None d = refl
      none full (Some y) d = absurd (
          let has = (hu.tree.has_dual (pack_to x) y o.is_pack_of d).3 in
          let r = rate_of_pack x i in
          let z = scale_same in
          omega (arith, has, r, z, full))

      go : (c : Option ℕ) → dual t x ≡ c → dual u (pack_to x) ≡ option_map moved c
      go None e = none (ht.tree.roots_are x i e) (dual u (pack_to x)) refl
      go (Some d) e =
          let has = ht.tree.has_dual x d i e in
          let m : IsMember t d = (has.0.0, not_pack (kind_at t d) has.0.1) in
          by_kind d has.0 has.1 m (kind_at t d) refl
        where
          by_kind : (d : ℕ) → IsDual t d → primal t d ≡ x → IsMember t d → (c : Kind) → kind_at t d ≡ c → dual u (pack_to x) ≡ Some (moved d)
          by_kind d is from m (kind.Leaf f) e = absurd (both_ways (is_dual (kind_at t d)) (ap is_dual e) is.1)
          by_kind d is from m (kind.Pack l) e = absurd (both_ways (is_dual (kind_at t d)) (ap is_dual e) is.1)
          by_kind d is from m (kind.Dual r) e =
              let w = twin d m in
              let there = kind_of_dual d r.0 m e in
              let is_u : IsDual u (member_to d) = (w.is_member_of.0, ap is_dual there) in
              let to : r.0 ≡ x = sym (ap primal_of e) ∙ from in
              let at : primal u (member_to d) ≡ pack_to x = ap primal_of there ∙ ap moved to ∙ moved_pack x i in
              ap (dual u) (sym at) ∙ (hu.tree.duals_are (member_to d) is_u).1 ∙ ap Some (sym (moved_member d m))

  -- a pack of the other tree has its number from this one
  from_pack : (y : ℕ) → IsPack u y → (x : ℕ) × IsPack t x × (pack_to x ≡ y)
  from_pack y i =
      let at = placed u y i in
      let b : level u y < t.levels = (let a = hu.tree.leveled y i in let e = levels_same in omega (arith, a, e)) in
      let li : place_in_level u y < length (packs_at t (level u y)) = (let n = packs_long (level u y) b in let a = at.0 in omega (arith, a, n)) in
      let is = pack_in t (level u y) (place_in_level u y) li in
      let x = pack_of t (level u y) (place_in_level u y) in
      (x, is.0, ap₂ (λ l k. pack_of u l k) is.1 (place_is t (level u y) (place_in_level u y) li) ∙ at.1)

  all : (y : ℕ) → y < length u.nodes → (x : ℕ) × (x < length t.nodes) × (moved x ≡ y)
  all y l = go (kind_of (kind_at u y))
    where
      of_member : IsMember u y → (x : ℕ) × (x < length t.nodes) × (moved x ≡ y)
      of_member i =
          let up = hu.tree.homes_are y i in
          let (h, is, e) = from_pack (home u y) up.0 in
          let n = members_long h is in
          let k = ap (λ z. length (members u z)) e in
          let lk : place u y < length (members t h) = (let a = up.1 in omega (arith, a, n, k)) in
          let m = ht.tree.members_are h (place u y) is lk in (
            member t h (place u y),
            m.0.0,
            moved_member (member t h (place u y)) m.0 ∙ ap₂ (λ z c. member u (pack_to z) c) m.1 m.2
                ∙ ap (λ z. member u z (place u y)) e ∙ up.2,
          )

      go : KindOf (kind_at u y) → (x : ℕ) × (x < length t.nodes) × (moved x ≡ y)
      go (inl a_leaf) = of_member (l, not_pack_leaf (kind_at u y) a_leaf)
      go (inr (inl a_dual)) = of_member (l, not_pack (kind_at u y) a_dual)
      go (inr (inr a_pack)) = (let (x, is, e) = from_pack y (l, a_pack) in (x, is.0, moved_pack x is ∙ e))

  packed : (x : ℕ) → IsPack t x → members u (moved x) ≡ map moved (members t x)
  packed x i =
      ap (members u) (moved_pack x i)
      ∙ ext_get_or 0 (members u (pack_to x)) (map moved (members t x)) (let n = members_long x i in let m = length-map (members t x) moved in
      omega (arith, n, m)) (λ k lk. (
      let l : k < length (members t x) = (let n = members_long x i in omega (arith, lk, n)) in
      let m = ht.tree.members_are x k i l in
      sym (get_or-map moved (members t x) k 0 0 l ∙ moved_member (member t x k) m.0 ∙ ap₂ (λ z c. member u (pack_to z) c) m.1 m.2)))

  first_packs : packs_at u 0 ≡ map moved (packs_at t 0)
  first_packs =
      let some = some_level s t ls ht in
      let n = packs_long 0 some in
      let m = length-map (packs_at t 0) moved in
      ext_get_or 0 (packs_at u 0) (map moved (packs_at t 0)) (omega (arith, n, m)) (λ i li. (
      let l : i < length (packs_at t 0) = omega (arith, li, n) in
      let is = pack_in t 0 i l in
      sym (get_or-map moved (packs_at t 0) i 0 0 l ∙ moved_pack (pack_of t 0 i) is.0 ∙ ap₂ (λ z c. pack_of u z c) is.1 (place_is t 0 i l))))

  pub same_renumbered : IsRenumbered moved t u
  same_renumbered = record {
    processors_same = hu.processors ∙ sym ht.processors;
    scale_same = sym scale_same;
    levels_same = sym levels_same;
    low = low;
    all = all;
    kinds = kinds;
    rates = rates;
    homes = λ x i. ap (home u) (moved_member x i) ∙ (twin x i).home_of_it ∙ sym (moved_pack (home t x) (ht.tree.homes_are x i).0);
    places = λ x i. ap (place u) (moved_member x i) ∙ (twin x i).place_of_it;
    packed = packed;
    duals = duals;
    first_packs = first_packs;
  }
