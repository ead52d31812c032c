-- A row that hits an earlier one, by the test of keys and by the words of faults.
use Rattle.std.proofs.Common.{ℕ, ◌*◌, ◌<◌, ◌≡◌, ◌⊎◌, inl, inr, true, List, Option, Some, ltb, refl, ap, subst, sym, arith}
use Rattle.std.proofs.lemmas.Bool.{cases_lt, both_ways, and_parts, and_from, eqb-true, eq-eqb, ltb-true, lt-ltb}
use Rattle.sched_base.specs.declared.rows.Row.{Row}
use Rattle.sched_base.specs.declared.rows.Leaf.{Leaf}
use Rattle.sched_base.specs.declared.rows.Leaf.TheVariants as leaves
use Rattle.sched_base.specs.Sets.{SetContents, task_at}
use Rattle.sched_base.specs.Rows.{is_of_task, DontOverlap}
use Rattle.trace_verdict.specs.Orders.{processor_key, task_key, leaf_key}
use Rattle.trace_verdict.specs.Faults.{row_at, Overlap}
use Rattle.trace_verdict.specs.Searches.{overlaps, same_key, hits, is_early_leaf, is_early}
use Rattle.trace_verdict.proofs.EntryLemmas.{some_key, same_key_parts}

-- row i overlaps an earlier row of the same processor
abbrev OverlapsOnProcessor : List Row → ℕ → Type 0
OverlapsOnProcessor rows i = (k : ℕ) × (k < i) × ((row_at rows k).processor ≡ (row_at rows i).processor) × Overlap (row_at rows k) (row_at rows i)

-- row i overlaps an earlier row of the same task
abbrev OverlapsInTask : List Row → ℕ → Type 0
OverlapsInTask rows i = (k : ℕ) × (j : ℕ) × (k < i) × (is_of_task j (row_at rows k).leaf ≡ true) × (is_of_task j (row_at rows i).leaf ≡ true)
    × Overlap (row_at rows k) (row_at rows i)

-- the row is one of a task and begins before that task does
abbrev IsEarly : SetContents → ℕ → Row → Type 0
IsEarly s scale r = (j : ℕ) × (is_of_task j r.leaf ≡ true) × (r.start < (task_at s.tasks j).offset * scale)

pub apart_or_overlap : (r q : Row) → DontOverlap r q ⊎ Overlap r q
apart_or_overlap r q =
    elim (cases_lt r.start q.end) [
      | inr le ↦ inl (inr le)
      | inl a ↦ (elim (cases_lt q.start r.end) [ inr le ↦ inl (inl le) | inl b ↦ inr (a, b) ])
    ]

pub not_both : (r q : Row) → DontOverlap r q → Overlap r q → ⊥
not_both r q d o = elim d [ inl x ↦ omega (arith, x, o.1) | inr x ↦ omega (arith, x, o.0) ]

pub overlaps_from : (r q : Row) → Overlap r q → overlaps r q ≡ true
overlaps_from r q o = and_from _ _ (lt-ltb _ _ o.0) (lt-ltb _ _ o.1)

pub overlaps_to : (r q : Row) → overlaps r q ≡ true → Overlap r q
overlaps_to r q h = let p = and_parts (ltb r.start q.end) (ltb q.start r.end) h in (ltb-true _ _ p.0, ltb-true _ _ p.1)

pub key_of_task : (leaf : Leaf) (j : ℕ) → is_of_task j leaf ≡ true → leaf_key leaf ≡ Some j
key_of_task (leaves.Task id) j h = ap Some (eqb-true _ _ h)
key_of_task (leaves.Wait id) j h = absurd (both_ways _ refl h)
key_of_task (leaves.Idle i) j h = absurd (both_ways _ refl h)
key_of_task leaves.Empty j h = absurd (both_ways _ refl h)

pub task_of_key : (leaf : Leaf) (j : ℕ) → leaf_key leaf ≡ Some j → is_of_task j leaf ≡ true
task_of_key (leaves.Task id) j h = eq-eqb _ _ (let e : id.0 ≡ j = cc in e)
task_of_key (leaves.Wait id) j h = cc
task_of_key (leaves.Idle i) j h = cc
task_of_key leaves.Empty j h = cc

-- row i hits an earlier row of its key
abbrev pub Hits : (Row → Option ℕ) → List Row → ℕ → Type 0
Hits key rows i = (k : ℕ) × (k < i) × (hits key rows i k ≡ true)

pub processor_hit : (rows : List Row) (i : ℕ) → Hits processor_key rows i → OverlapsOnProcessor rows i
processor_hit rows i h =
    let p = and_parts (same_key (processor_key (row_at rows h.0)) (processor_key (row_at rows i))) (overlaps (row_at rows h.0) (row_at rows i)) h.2 in
    (h.0, h.1, eqb-true _ _ p.0, overlaps_to (row_at rows h.0) (row_at rows i) p.1)

pub hit_of_processor : (rows : List Row) (i : ℕ) → OverlapsOnProcessor rows i → Hits processor_key rows i
hit_of_processor rows i o = (o.0, o.1, and_from _ _ (eq-eqb _ _ o.2) (overlaps_from (row_at rows o.0) (row_at rows i) o.3))

pub task_hit : (rows : List Row) (i : ℕ) → Hits task_key rows i → OverlapsInTask rows i
task_hit rows i h =
    let p = and_parts (same_key (task_key (row_at rows h.0)) (task_key (row_at rows i))) (overlaps (row_at rows h.0) (row_at rows i)) h.2 in
    let c = some_key (task_key (row_at rows h.0)) (task_key (row_at rows i)) p.0 in
    (h.0, c.0, h.1, task_of_key _ c.0 c.1, task_of_key _ c.0 c.2, overlaps_to (row_at rows h.0) (row_at rows i) p.1)

pub hit_of_task : (rows : List Row) (i : ℕ) → OverlapsInTask rows i → Hits task_key rows i
hit_of_task rows i o =
    (o.0, o.2, and_from _ _ (same_key_parts _ _ o.1 (key_of_task _ o.1 o.3) (key_of_task _ o.1 o.4)) (overlaps_from (row_at rows o.0) (row_at rows i) o.5))

-- ---- rows before their task

pub early_of : (s : SetContents) (l start : ℕ) (leaf : Leaf) (j : ℕ) → is_of_task j leaf ≡ true → start < (task_at s.tasks j).offset * l →
    is_early_leaf s l start leaf ≡ true
early_of s l start (leaves.Task id) j h u =
    let same : id.0 ≡ j = eqb-true _ _ h in
    lt-ltb _ _ (subst (λ w. start < (task_at s.tasks w).offset * l) (sym same) u)
early_of s l start (leaves.Wait id) j h u = absurd (both_ways _ refl h)
early_of s l start (leaves.Idle i) j h u = absurd (both_ways _ refl h)
early_of s l start leaves.Empty j h u = absurd (both_ways _ refl h)

pub of_early : (s : SetContents) (l start : ℕ) (leaf : Leaf) → is_early_leaf s l start leaf ≡ true → (j : ℕ) × (is_of_task j leaf ≡ true)
    × (start < (task_at s.tasks j).offset * l)
of_early s l start (leaves.Task id) h = (id.0, eq-eqb _ _ refl, ltb-true _ _ h)
of_early s l start (leaves.Wait id) h = absurd (both_ways _ refl h)
of_early s l start (leaves.Idle i) h = absurd (both_ways _ refl h)
of_early s l start leaves.Empty h = absurd (both_ways _ refl h)

pub early_test : (s : SetContents) (l : ℕ) (r : Row) → IsEarly s l r → is_early s l r ≡ true
early_test s l r e = early_of s l r.start r.leaf e.0 e.1 e.2
