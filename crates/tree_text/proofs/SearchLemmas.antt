-- What the searches of nodes and packs find.
use Rattle.std.proofs.Common.{◌≡◌, ◌∙◌, ℕ, suc, ◌+◌, ◌<◌, ◌==◌, ◌&&◌, Bool, false, true, length, get_or, ap, ap₂, sym, arith, eq-eqb}
use Rattle.std.specs.List.{position_or_len}
use Rattle.std.proofs.lemmas.Bool.{and_parts}
use Rattle.std.proofs.lemmas.List.{get_or_default}
use Rattle.std.proofs.lemmas.List.Sums.{position_or_len_is}
use Rattle.std.proofs.Math.ListN.{get_or-eq_default}
use Rattle.sched_base.specs.Counting.{sum_to, bit}
use Rattle.sched_base.proofs.ListLemmas.{first_from}
use Rattle.run_tree.specs.Tree.{Node, Tree, IsPack, no_node, at_level, is_leaf, is_pack, kind_at, leaf, leaf_of, level, rate}
use Rattle.run_tree.specs.Schedule.{packs_at}
use Rattle.run_tree.specs.TreeOfSet.{is_idle}
use Rattle.tree_text.specs.Text.{is_idle_leaf, idle_node, place_in_level}

-- ---- idle leaves

-- how many of the first n nodes are idle leaves
abbrev pub idles_before : Tree → ℕ → ℕ
idles_before t n = sum_to n (λ x. bit (is_leaf (kind_at t x) && is_idle (leaf t x)))

pub idles_next : (t : Tree) (n count next : ℕ) (b : Bool) → b ≡ (is_leaf (kind_at t n) && is_idle (leaf t n)) → count ≡ idles_before t n →
    next ≡ count + bit b → next ≡ idles_before t (n + 1)
idles_next t n count next b is before step =
    let e : n + 1 ≡ suc n = omega arith in
    rw e (step ∙ ap₂ (λ i j. i + j) before (ap bit is))

-- no node before n is idle leaf k
abbrev pub NoneBefore : Tree → ℕ → ℕ → Type 0
NoneBefore t k n = (i : ℕ) → i < n → is_idle_leaf k (leaf_of (kind_at t i)) ≡ false

-- the first node that is idle leaf k
pub idle_found : (t : Tree) (k n : ℕ) → n < length t.nodes → NoneBefore t k n → is_idle_leaf k (leaf_of (kind_at t n)) ≡ true → idle_node t k ≡ n
idle_found t k n l none is = position_or_len_is (λ (x : Node). is_idle_leaf k (leaf_of x.kind)) t.nodes n no_node (omega (arith, l)) none (λ _. is)

-- where none is, no rate is told
pub idle_absent : (t : Tree) (k n : ℕ) → n ≡ length t.nodes → NoneBefore t k n → rate t (idle_node t k) ≡ 0
idle_absent t k n e none =
    let is : idle_node t k ≡ n = position_or_len_is (λ (x : Node). is_idle_leaf k (leaf_of x.kind)) t.nodes n no_node (omega (arith, e)) none
    (λ l. absurd (omega (arith, e, l))) in
    ap (rate t) is ∙ ap (λ (x : Node). x.rate) (get_or-eq_default t.nodes no_node (omega (arith, e)))

-- ---- packs

-- the packs of a level are packs
pub pack_of_level : (t : Tree) (l i : ℕ) → i < length (packs_at t l) → IsPack t (get_or (packs_at t l) i 0)
pack_of_level t l i b =
    let r = first_from (at_level t l) (length t.nodes) 0 i b in
    let p : ℕ = get_or (packs_at t l) i 0 in
    (let below = r.0 in omega (arith, below), (and_parts (is_pack (kind_at t p)) (level t p == l) r.1).0)

-- pack i of a level, at any default
pub pack_at_place : (t : Tree) (l i p : ℕ) → i < length (packs_at t l) → p ≡ get_or (packs_at t l) i 0 → p ≡ get_or (packs_at t l) i p
pack_at_place t l i p b is = is ∙ get_or_default (packs_at t l) i 0 p b

-- no pack of level l before its i-th is pack p
abbrev pub OthersBefore : Tree → ℕ → ℕ → ℕ → Type 0
OthersBefore t l p i = (k : ℕ) → k < i → (get_or (packs_at t l) k 0 == p) ≡ false

-- the first pack of its level that is pack p
pub place_found : (t : Tree) (p l i : ℕ) → l ≡ level t p → i < length (packs_at t l) → OthersBefore t l p i → get_or (packs_at t l) i 0 ≡ p →
    place_in_level t p ≡ i
place_found t p l i is b others here =
    ap (λ m. position_or_len (λ (q : ℕ). q == p) (packs_at t m)) (sym is)
    ∙ position_or_len_is (λ (q : ℕ). q == p) (packs_at t l) i 0 (omega (arith, b)) others (λ _. eq-eqb (get_or (packs_at t l) i 0) p here)

pub place_absent : (t : Tree) (p l i : ℕ) → l ≡ level t p → i ≡ length (packs_at t l) → OthersBefore t l p i → place_in_level t p ≡ i
place_absent t p l i is e others =
    ap (λ m. position_or_len (λ (q : ℕ). q == p) (packs_at t m)) (sym is)
    ∙ position_or_len_is (λ (q : ℕ). q == p) (packs_at t l) i 0 (omega (arith, e)) others (λ b. absurd (omega (arith, e, b)))
