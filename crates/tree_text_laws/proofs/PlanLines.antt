-- The text of a plan's tree is made of the lines of what the plan is written as.
use Rattle.std.proofs.Common.{◌≡◌, ℕ, zero, suc, ◌+◌, ◌<◌, List, [], ◌∷◌, ◌++◌, map, length, get_or, codes, decimal, refl, ap, ap₂, arith, sym, ◌∙◌}
use Rattle.std.proofs.Common.{append_assoc, append-nil}
use Rattle.std.specs.List.{flat_map, range_with_len}
use Rattle.std.proofs.lemmas.Bool.{both_ways}
use Rattle.std.proofs.lemmas.Fmt.{decimal_digit}
use Rattle.std.proofs.lemmas.List.{length-map}
use Rattle.std.proofs.lemmas.List.FromFn.{length-map-range_with_len}
use Rattle.sched_base.specs.declared.rows.Leaf.{Leaf}
use Rattle.sched_base.specs.declared.rows.Leaf.TheVariants.{Task, Wait, Idle, Empty}
use Rattle.sched_base.specs.declared.sets.Task as declared
use Rattle.sched_base.specs.Sets.{SetContents}
use Rattle.sched_edges.specs.Lines.{line_of, word_line, number_line, numbers_line}
use Rattle.run_tree.specs.declared.kinds.Kind.{Kind}
use Rattle.run_tree.specs.declared.kinds.Kind.TheVariants as kind
use Rattle.run_tree.specs.Tree.{Tree, IsPack, IsMember, kind_at, is_leaf, is_pack, is_dual, leaf, leaf_of, level, home, rate, member, members}
use Rattle.run_tree.specs.TreeOfSet.{IsTreeOf, idle_count, is_real}
use Rattle.run_tree.specs.Schedule.{packs_at}
use Rattle.run_tree.specs.Plans.{PlanContents}
use Rattle.trace_format.specs.declared.versions.Version.TheVariants.{One}
use Rattle.trace_format.specs.Lines as lines
use Rattle.tree_text.specs.Text.{task_line, idle_node, idle_line, idles_text, kind_word, member_word, pack_line, level_text, tree_text}
use Rattle.tree_check.specs.Written.{Pack, kind_written, pack_written, written_of}
use Rattle.tree_check.proofs.LevelNodes.{pack_in}
use Rattle.tree_text_laws.proofs.TreeLines.{word_at, line_of_pack, lines_of_levels, lines_of_idles, last_lines, tree_lines}

-- what lines make
abbrev pub joined : List (List ℕ) → List ℕ
joined ls = flat_map (λ line. line) ls

-- ---- lists

joined_map : {A : Type 0} (f : A → List ℕ) (xs : List A) (rest : List (List ℕ)) → joined (map f xs ++ rest) ≡ flat_map f xs ++ joined rest
joined_map f [] rest = refl
joined_map f (x ∷ xs) rest = ap (λ w. f x ++ w) (joined_map f xs rest) ∙ sym (append_assoc (f x) (flat_map f xs) (joined rest))

map_same : (f g : ℕ → List ℕ) (xs : List ℕ) → ((i : ℕ) → i < length xs → f (get_or xs i 0) ≡ g (get_or xs i 0)) → map f xs ≡ map g xs
map_same f g [] h = refl
map_same f g (x ∷ xs) h = ap₂ (λ y ys. y ∷ ys) (h 0 (omega arith)) (map_same f g xs (λ i l. h (suc i) (omega (arith, l))))

map_twice : {A B : Type 0} (f : B → List ℕ) (g : A → B) (xs : List A) → map f (map g xs) ≡ map (λ x. f (g x)) xs
map_twice f g [] = refl
map_twice f g (x ∷ xs) = ap (λ ys. f (g x) ∷ ys) (map_twice f g xs)

flat_same : (f g : ℕ → List ℕ) (xs : List ℕ) → ((i : ℕ) → i < length xs → f (get_or xs i 0) ≡ g (get_or xs i 0)) → flat_map f xs ≡ flat_map g xs
flat_same f g [] h = refl
flat_same f g (x ∷ xs) h = ap₂ (λ y ys. y ++ ys) (h 0 (omega arith)) (flat_same f g xs (λ i l. h (suc i) (omega (arith, l))))

-- ---- the parts

task_same : (t : declared.Task) → lines.task_line One t ≡ task_line t
unfolding lines.task_line task_line
task_same t = refl

tasks_joined : (tasks : List declared.Task) (rest : List (List ℕ)) → joined (map (lines.task_line One) tasks ++ rest) ≡ flat_map task_line tasks ++ joined rest
tasks_joined [] rest = refl
tasks_joined (t ∷ tasks) rest =
    ap₂ (λ a b. a ++ b) (task_same t) (tasks_joined tasks rest) ∙ sym (append_assoc (task_line t) (flat_map task_line tasks) (joined rest))

idles_joined : (t : Tree) (k n : ℕ) (rest : List (List ℕ)) → joined (lines_of_idles k (map (λ k. rate t (idle_node t k)) (range_with_len k n)) ++ rest)
    ≡ flat_map (idle_line t) (range_with_len k n) ++ joined rest
idles_joined t k zero rest = refl
idles_joined t k (suc n) rest =
    ap (λ w. idle_line t k ++ w) (idles_joined t (k + 1) n rest) ∙ sym (append_assoc (idle_line t k) (flat_map (idle_line t) (range_with_len (k + 1) n))
    (joined rest))

first_line : word_line (codes "run-tree 1") ≡ number_line (codes "run-tree") 1
unfolding word_line number_line line_of
first_line = ap (λ d. line_of (codes "run-tree") (d ∷ [])) (sym (decimal_digit 1 (omega arith)))

word_is : (p : PlanContents) (x : ℕ) → kind_word p (kind_at p.tree x) ≡ member_word p x
unfolding member_word
word_is p x = refl

module _ (s : SetContents) (t : Tree) (h : IsTreeOf s t) where
  abbrev pub p : PlanContents
  p = record { set = s; tree = t }

  -- a member's word is that of what it is written as
  word_same : (l x : ℕ) → IsMember t x → level t (home t x) ≡ l → word_at l (kind_written p (kind_at t x)) ≡ kind_word p (kind_at t x)
  word_same l x i at = by_kind (kind_at t x) refl
    where
      by_leaf : (f : Leaf) → kind_at t x ≡ kind.Leaf f → l ≡ 0 → word_at l (kind_written p (kind.Leaf f)) ≡ kind_word p (kind.Leaf f)
      by_leaf (Task id) e z = ap (λ m. word_at m (kind_written p (kind.Leaf (Task id)))) z
      by_leaf (Idle k) e z = ap (λ m. word_at m (kind_written p (kind.Leaf (Idle k)))) z
      by_leaf (Wait id) e z = absurd (both_ways (is_real (leaf t x)) (ap (λ k. is_real (leaf_of k)) e) (h.tasks.real x (i.0, ap is_leaf e)))
      by_leaf Empty e z = absurd (both_ways (is_real (leaf t x)) (ap (λ k. is_real (leaf_of k)) e) (h.tasks.real x (i.0, ap is_leaf e)))

      by_kind : (k : Kind) → kind_at t x ≡ k → word_at l (kind_written p k) ≡ kind_word p k
      by_kind (kind.Leaf f) e = by_leaf f e (sym at ∙ (h.tree.leaves_are x (i.0, ap is_leaf e)).0)
      by_kind (kind.Pack m) e = absurd (both_ways (is_pack (kind_at t x)) i.1 (ap is_pack e))
      by_kind (kind.Dual q) e =
          let up : l ≡ suc (level t q.0) = sym at ∙ (h.tree.duals_are x (i.0, ap is_dual e)).2 ∙ ap (λ c. suc (level t (primal_in c))) e in
          ap (λ m. word_at m (kind_written p (kind.Dual q))) up
        where
          primal_in : Kind → ℕ
          primal_in (kind.Dual r) = r.0
          primal_in (kind.Pack r) = 0
          primal_in (kind.Leaf r) = 0

  pack_same : (l q : ℕ) → IsPack t q → level t q ≡ l → line_of_pack l (pack_written p q) ≡ pack_line p q
  unfolding pack_line
  pack_same l q i at =
      ap (λ ws. line_of (codes "pack") (decimal (rate t q) ∷ ws))
      (map_twice (word_at l) (λ x. kind_written p (kind_at t x)) (members t q)
      ∙ map_same (λ x. word_at l (kind_written p (kind_at t x))) (member_word p) (members t q) (λ k lk. (
      let m = h.tree.members_are q k i lk in
      word_same l (member t q k) m.0 (ap (level t) m.1 ∙ at) ∙ word_is p (member t q k))))

  packs_joined : (l : ℕ) (rest : List (List ℕ)) → joined (map (line_of_pack l) (map (pack_written p) (packs_at t l)) ++ rest) ≡ flat_map (pack_line p)
      (packs_at t l) ++ joined rest
  packs_joined l rest =
      ap (λ ls. joined (ls ++ rest)) (map_twice (line_of_pack l) (pack_written p) (packs_at t l))
      ∙ joined_map (λ q. line_of_pack l (pack_written p q)) (packs_at t l) rest
      ∙ ap (λ w. w ++ joined rest) (flat_same (λ q. line_of_pack l (pack_written p q)) (pack_line p) (packs_at t l) (λ i li. (let is = pack_in t l i li in
      pack_same l (get_or (packs_at t l) i 0) is.0 is.1)))

  level_joined : (l : ℕ) (rest : List (List ℕ))
      → joined (numbers_line (codes "level") l (length (map (pack_written p) (packs_at t l))) ∷ (map (line_of_pack l) (map (pack_written p) (packs_at t l))
      ++ rest)) ≡ level_text p l ++ joined rest
  level_joined l rest =
      ap₂ (λ a b. a ++ b) (ap (numbers_line (codes "level") l) (length-map (packs_at t l) (pack_written p))) (packs_joined l rest)
      ∙ sym (append_assoc (numbers_line (codes "level") l (length (packs_at t l))) (flat_map (pack_line p) (packs_at t l)) (joined rest))

  levels_joined : (l n : ℕ) (rest : List (List ℕ))
      → joined (lines_of_levels l (map (λ l. map (pack_written p) (packs_at t l)) (range_with_len l n)) ++ rest) ≡ flat_map (level_text p)
      (range_with_len l n) ++ joined rest
  levels_joined l zero rest = refl
  levels_joined l (suc n) rest =
      let more = lines_of_levels (l + 1) (map (λ l. map (pack_written p) (packs_at t l)) (range_with_len (l + 1) n)) in
      ap (λ ls. joined (numbers_line (codes "level") l (length (map (pack_written p) (packs_at t l))) ∷ ls))
      (append_assoc (map (line_of_pack l) (map (pack_written p) (packs_at t l))) more rest)
      ∙ level_joined l (more ++ rest)
      ∙ ap (λ w. level_text p l ++ w) (levels_joined (l + 1) n rest)
      ∙ sym (append_assoc (level_text p l) (flat_map (level_text p) (range_with_len (l + 1) n)) (joined rest))

  -- ---- the whole

  abbrev idle_rates : List ℕ
  idle_rates = map (λ k. rate t (idle_node t k)) (range_with_len 0 (idle_count t))

  abbrev packs_written : List (List Pack)
  packs_written = map (λ l. map (pack_written p) (packs_at t l)) (range_with_len 0 t.levels)

  end_joined : joined (number_line (codes "levels") (length packs_written) ∷ []) ≡ number_line (codes "levels") t.levels
  end_joined =
      append-nil (number_line (codes "levels") (length packs_written))
      ∙ ap (number_line (codes "levels")) (length-map-range_with_len (λ l. map (pack_written p) (packs_at t l)) 0 t.levels)

  last_joined : joined (last_lines (written_of p)) ≡ idles_text t ++ (flat_map (level_text p) (range_with_len 0 t.levels) ++ number_line (codes "levels")
      t.levels)
  last_joined =
      let last = number_line (codes "levels") (length packs_written) ∷ [] in
      let levels : joined (lines_of_levels 0 packs_written ++ last) ≡ flat_map (level_text p) (range_with_len 0 t.levels) ++ number_line (codes "levels")
      t.levels =
      levels_joined 0 t.levels last ∙ ap (λ w. flat_map (level_text p) (range_with_len 0 t.levels) ++ w) end_joined in
      let count : number_line (codes "idles") (length idle_rates) ≡ number_line (codes "idles") (idle_count t) =
      ap (number_line (codes "idles")) (length-map-range_with_len (λ k. rate t (idle_node t k)) 0 (idle_count t)) in
      ap₂ (λ a b. a ++ b) count (idles_joined t 0 (idle_count t) (lines_of_levels 0 packs_written ++ last)
      ∙ ap (λ w. flat_map (idle_line t) (range_with_len 0 (idle_count t)) ++ w) levels)
      ∙ sym (append_assoc (number_line (codes "idles") (idle_count t)) (flat_map (idle_line t) (range_with_len 0 (idle_count t))) _)

  pub text_is_lines : joined (tree_lines (written_of p)) ≡ tree_text p
  text_is_lines =
      let rest : joined (map (lines.task_line One) s.tasks ++ last_lines (written_of p)) ≡ flat_map task_line s.tasks ++ (idles_text
      t ++ (flat_map (level_text p) (range_with_len 0 t.levels) ++ number_line (codes "levels") t.levels)) =
      tasks_joined s.tasks (last_lines (written_of p)) ∙ ap (λ w. flat_map task_line s.tasks ++ w) last_joined in
      ap₂ (λ a r. a ++ (number_line (codes "processors") s.processors ++ (number_line (codes "horizon") s.horizon ++ (number_line (codes "scale")
      t.scale ++ (number_line (codes "tasks") (length s.tasks) ++ r))))) (sym first_line) rest
      ∙ five (word_line (codes "run-tree 1")) (number_line (codes "processors") s.processors) (number_line (codes "horizon") s.horizon)
      (number_line (codes "scale") t.scale) (number_line (codes "tasks") (length s.tasks)) _
    where
      five : (a b c d e r : List ℕ) → a ++ (b ++ (c ++ (d ++ (e ++ r)))) ≡ (a ++ (b ++ (c ++ (d ++ e)))) ++ r
      five a b c d e r = simp append_assoc refl
