-- The tree of a text with no fault is written again as the text.
use Rattle.std.proofs.Common.{◌≡◌, ℕ, zero, suc, ◌+◌, ◌-◌, ◌<◌, List, [], ◌∷◌, Option, Some, None, map, length, get_or, refl, ap, ap₂, arith, inl}
use Rattle.std.proofs.Common.{inr, sym, ◌∙◌}
use Rattle.std.proofs.lemmas.Bool.{cases_Bool, cond-true, cond-false}
use Rattle.std.proofs.lemmas.List.{get_or-map, length-map, ext_get_or, get_or-append_right}
use Rattle.std.proofs.lemmas.List.FromFn.{get_or-map-range_with_len, length-map-range_with_len}
use Rattle.std.proofs.lemmas.List.Concat.{get_or-flat_map}
use Rattle.std.proofs.lemmas.List.Folds.{length-flat_map-take}
use Rattle.std.proofs.lemmas.Slice.Eq.{bytes_eq-Decides}
use Rattle.std.specs.List.{position_from, range_with_len}
use Rattle.std.specs.Str.{bytes_eq}
use Rattle.sched_base.specs.declared.rows.Leaf.TheVariants.{Idle}
use Rattle.sched_base.specs.declared.sets.Task as declared
use Rattle.sched_base.specs.Scale.{rate_of}
use Rattle.sched_base.specs.Sets.{task_at}
use Rattle.run_tree.specs.declared.kinds.Kind.TheVariants as kind
use Rattle.run_tree.specs.Tree.{Tree, kind_at, leaf, rate, members}
use Rattle.run_tree.specs.TreeOfSet.{idle_count}
use Rattle.run_tree.specs.Schedule.{packs_at}
use Rattle.run_tree.specs.Plans.{PlanContents}
use Rattle.tree_laws.proofs.LeafEntries.{Entry, leaf_from}
use Rattle.tree_text.specs.Text.{idle_node}
use Rattle.tree_check.specs.declared.written.Member.{Member}
use Rattle.tree_check.specs.declared.written.Member.TheVariants.{Name, Number}
use Rattle.tree_check.specs.Written.{Pack, Written, IsWritten, IsMemberAt, level_at, pack_at, no_pack, kind_written, pack_written, written_of}
use Rattle.tree_check.specs.Faults.{rate_at, named, rate_of_named, member_rate, members_of, before, HasNoFault}
use Rattle.tree_check.specs.TextTree.{leaf_named, text_making, text_tree}
use Rattle.tree_check.proofs.LevelLists.{all_at}
use Rattle.tree_check.proofs.Faultless.{number_in, pack_is, good, name_is, there_is, numbers_all, numbers_long}
use Rattle.tree_check.proofs.TextLevels.{each_level, last_level, low_last}
use Rattle.tree_check.proofs.TextLeaves.{text_is_tree_of, scale_is, idles_told, place_long, some_idle, leaves_long, entry_k, leaf_k, named_k}
use Rattle.tree_check.proofs.LevelNodes.{pack_of, place_is}
use Rattle.tree_check.proofs.WrittenTree.{idle_at}
use Rattle.tree_check.proofs.SeenLevels.{kind_for, each_seen, IsSeenLevel}

-- the name that is found at j is that of task j
pub name_at : (name : List ℕ) (i : ℕ) (tasks : List declared.Task) (j : ℕ) → position_from (λ (t : declared.Task). bytes_eq t.name name) i tasks ≡ Some j →
    (k : ℕ) × (j ≡ i + k) × ((task_at tasks k).name ≡ name)
name_at name i [] j e = cc
name_at name i (t ∷ ts) j e = elim (cases_Bool (bytes_eq t.name name)) [
  | inl on ↦ (let f : Some i ≡ Some j = sym (cond-true (bytes_eq t.name name) (Some i) (position_from (λ (u : declared.Task). bytes_eq u.name name) (i + 1)
      ts) on) ∙ e in
      let same : i ≡ j = cc in (0, omega (arith, same), (bytes_eq-Decides t.name name).0 on))
  | inr off ↦ (let (k, at, is) = name_at name (i + 1) ts j (sym (cond-false (bytes_eq t.name name) (Some i) (position_from (λ (u : declared.Task). bytes_eq
      u.name name) (i + 1) ts) off) ∙ e) in (suc k, omega (arith, at), is))
]

module _ (w : Written) (iw : IsWritten w) (nf : HasNoFault w) where
  abbrev pub t : Tree
  t = text_tree w

  abbrev pub p : PlanContents
  p = record { set = w.set; tree = t }

  pub seen : IsSeenLevel w (last_level w iw nf) (text_making w (last_level w iw nf))
  seen = each_seen w iw nf (last_level w iw nf) (low_last w iw nf)

  pub levels_is : t.levels ≡ length w.levels
  levels_is = let a = (each_level w iw nf (last_level w iw nf) (low_last w iw nf)).levels_same in let s = iw.some_level in omega (arith, a, s)

  pub seen_low : (l : ℕ) → l < length w.levels → l < suc (last_level w iw nf)
  seen_low l b = omega (arith, b)

  -- a member of a level is written again as it stands
  pub member_again : (l : ℕ) → l < length w.levels → (x : Member) → IsMemberAt l x → 0 < member_rate w l x → kind_written p (kind_for w t l x) ≡ x
  member_again zero b (Name name) is some = go (position_from (λ (u : declared.Task). bytes_eq u.name name) 0 w.set.tasks) refl some
    where
      go : (o : Option ℕ) → position_from (λ (u : declared.Task). bytes_eq u.name name) 0 w.set.tasks ≡ o → 0 < rate_of_named w 0 o →
          kind_written p (kind.Leaf (leaf_named o (Name name))) ≡ Name name
      go None e some = absurd (omega (arith, some))
      go (Some j) e some = (let (k, at, is) = name_at name 0 w.set.tasks j e in let same : j ≡ k = omega (arith, at) in
          ap Name (ap (λ i. (task_at w.set.tasks i).name) same ∙ is))
  member_again zero b (Number k) is some = refl
  member_again (suc l) b (Name name) is some = absurd (omega (arith, is))
  member_again (suc l) b (Number j) is some =
      let there = there_is w (suc l) j some in
      let n = length-map (level_at w l) (λ (q : Pack). w.scale - q.rate) in
      let m = seen.long l (seen_low l (omega (arith, b))) in
      ap Number (place_is t l j (omega (arith, there, n, m)))

  pub member_good : (l i k : ℕ) → l < length w.levels → i < length (level_at w l) → k < length (pack_at (level_at w l) i).members →
      0 < member_rate w l (get_or (pack_at (level_at w l) i).members k (Number 0))
  member_good l i k b li lk =
      let packs = level_at w l in
      let f : Pack → List Member = λ (q : Pack). q.members in
      let room = length-flat_map-take f packs i no_pack li in
      let place = before packs i + k in
      let low : place < length (members_of packs) = omega (arith, room, lk) in
      let at = get_or-flat_map f packs i k no_pack (Number 0) li lk in
      let g = good w iw nf l b place low in
      let e = ap (rate_of_named w l) (name_is w iw nf l b place low ∙ ap (named w l) at) in
      omega (arith, g, e)

  pub members_again : (l i : ℕ) → l < length w.levels → i < length (level_at w l) → map (λ x. kind_written p (kind_at t x)) (members t (pack_of t l i))
      ≡ (pack_at (level_at w l) i).members
  members_again l i b li =
      composed (members t (pack_of t l i))
      ∙ ap (map (kind_written p)) (seen.kinds l i (seen_low l b) li)
      ∙ back (pack_at (level_at w l) i).members (λ k lk. member_again l b (get_or (pack_at (level_at w l) i).members k (Number 0)) (all_at (IsMemberAt l)
      (Number 0) (pack_at (level_at w l) i).members k (pack_is w iw nf l b i li).each lk) (member_good l i k b li lk))
    where
      composed : (xs : List ℕ) → map (λ x. kind_written p (kind_at t x)) xs ≡ map (kind_written p) (map (kind_at t) xs)
      composed [] = refl
      composed (x ∷ xs) = ap (λ ys. kind_written p (kind_at t x) ∷ ys) (composed xs)

      back : (ms : List Member) → ((k : ℕ) → k < length ms → kind_written p (kind_for w t l (get_or ms k (Number 0))) ≡ get_or ms k (Number 0)) →
          map (kind_written p) (map (kind_for w t l) ms) ≡ ms
      back [] f = refl
      back (x ∷ ms) f = ap₂ (λ y ys. y ∷ ys) (f 0 (omega arith)) (back ms (λ k lk. f (suc k) (omega (arith, lk))))

  pub level_again : (l : ℕ) → l < length w.levels → map (pack_written p) (packs_at t l) ≡ level_at w l
  level_again l b =
      let n = length-map (packs_at t l) (pack_written p) in
      let m = seen.long l (seen_low l b) in
      let made : ℕ → List Member → Pack = λ r ms. record { rate = r; members = ms } in
      ext_get_or no_pack (map (pack_written p) (packs_at t l)) (level_at w l) (omega (arith, n, m)) (λ i li. (
      let lp : i < length (packs_at t l) = omega (arith, li, n) in
      let lw : i < length (level_at w l) = omega (arith, lp, m) in
      get_or-map (pack_written p) (packs_at t l) i 0 no_pack lp ∙ ap₂ made (seen.rates l i (seen_low l b) lw) (members_again l i b lw)))

  pub levels_again : map (λ l. map (pack_written p) (packs_at t l)) (range_with_len 0 t.levels) ≡ w.levels
  levels_again =
      let n = length-map-range_with_len (λ l. map (pack_written p) (packs_at t l)) 0 t.levels in
      let e = levels_is in
      ext_get_or [] (map (λ l. map (pack_written p) (packs_at t l)) (range_with_len 0 t.levels)) w.levels (omega (arith, n, e)) (λ l li. (
      let b : l < length w.levels = omega (arith, li, n, e) in
      get_or-map-range_with_len (λ l. map (pack_written p) (packs_at t l)) 0 t.levels l l [] (omega (arith, b, e)) (omega arith) ∙ level_again l b))

  pub idle_again : (k : ℕ) → k < length w.idles → rate t (idle_node t k) ≡ get_or w.idles k 0
  idle_again k lk =
      let count = length w.set.tasks in
      let low = iw.some_level in
      let long = place_long w iw nf in
      let (i, li, at) = numbers_all w iw nf 0 low (count + k) (some_idle w iw nf (count + k) (omega arith) (omega (arith, long, lk))) in
      let n = numbers_long w iw nf 0 low in
      let lm : i < length (members_of (level_at w 0)) = omega (arith, li, n) in
      let m = leaves_long w iw nf in
      let (x, lx, is, e) = leaf_from t.nodes i (omega (arith, lm, m)) in
      let both = sym e ∙ entry_k w iw nf i lm in
      let the_leaf : leaf t x ≡ Idle k = elim (leaf_k w iw nf i lm) [
        | inl task ↦ absurd (let (j, o, b, f) = task in let same = ap number_in o in omega (arith, same, at, b))
        | inr idle ↦ (let (j, o, f) = idle in let same = ap number_in o in let z : j ≡ k = omega (arith, same, at) in ap (λ (y : Entry). y.leaf) both ∙ f
            ∙ ap Idle z)
      ] in
      let node_is = idle_at w.set t iw.lawful (text_is_tree_of w iw nf) x k (lx, is) the_leaf in
      let z : count + k - count ≡ k = omega arith in
      ap (rate t) node_is ∙ ap (λ (y : Entry). y.rate) both ∙ ap (rate_of_named w 0) (named_k w iw nf i lm) ∙ ap (rate_at w 0) at
      ∙ get_or-append_right (map (rate_of w.scale) w.set.tasks) w.idles count (count + k) 0 (length-map w.set.tasks (rate_of w.scale)) (omega arith)
      ∙ ap (λ j. get_or w.idles j 0) z

  pub idles_again : map (λ k. rate t (idle_node t k)) (range_with_len 0 (idle_count t)) ≡ w.idles
  idles_again =
      let n = length-map-range_with_len (λ k. rate t (idle_node t k)) 0 (idle_count t) in
      let e = idles_told w iw nf in
      ext_get_or 0 (map (λ k. rate t (idle_node t k)) (range_with_len 0 (idle_count t))) w.idles (omega (arith, n, e)) (λ k lk. (
      let b : k < length w.idles = omega (arith, lk, n, e) in
      get_or-map-range_with_len (λ k. rate t (idle_node t k)) 0 (idle_count t) k k 0 (omega (arith, b, e)) (omega arith) ∙ idle_again k b))

  pub written_again : written_of p ≡ w
  written_again =
      let made : ℕ → List ℕ → List (List Pack) → Written = λ scale idles levels. record { set = w.set; scale = scale; idles = idles; levels = levels } in
      ap (λ scale. made scale (written_of p).idles (written_of p).levels) (scale_is w iw nf) ∙ ap₂ (made w.scale) idles_again levels_again
