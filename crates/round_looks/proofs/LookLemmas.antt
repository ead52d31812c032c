-- What is told of processors, one after another.
use Rattle.std.proofs.Common.{◌≡◌, ◌≢◌, ℕ, zero, suc, ◌+◌, ◌*◌, ◌<◌, ◌≤◌, inl, inr, Bool, true, false, List, [], ◌∷◌, length, get_or, get_or-set_same}
use Rattle.std.proofs.Common.{get_or-set_other, set, nat_lt, Option, None, refl, sym, ap, subst, ◌∙◌, arith}
use Rattle.std.proofs.lemmas.Bool.{cases_Bool, cases_lt, le-ltb, ltb-false}
use Rattle.sched_base.specs.declared.rows.Leaf.{Leaf}
use Rattle.sched_base.specs.declared.rows.Leaf.TheVariants.{Task, Wait, Idle, Empty}
use Rattle.sched_base.specs.declared.rows.NodeId.{NodeId}
use Rattle.sched_base.specs.declared.rows.TaskId.{TaskId}
use Rattle.sched_base.specs.declared.sets.Task as declared
use Rattle.sched_base.specs.Sets.{task_at}
use Rattle.run_tree.specs.Schedule.{shown}
use Rattle.run_tree.specs.Plans.{PlanContents}
use Rattle.round_looks.specs.Looks.{IsLooked}

-- what doesn't wait is shown the same from then on
pub stays_on : (tasks : List declared.Task) (scale s t : ℕ) (l : Leaf) → s ≤ t → ((task : TaskId) → shown tasks scale s l ≡ Wait task → ⊥)
    → shown tasks scale t l ≡ shown tasks scale s l
stays_on tasks scale s t (Task id) later runs =
    let at = (task_at tasks id.0).offset * scale in
    elim (cases_Bool (nat_lt s at)) [
      | inl waits ↦ absurd (runs id (ap (λ (b : Bool). elim b as (λ y. Leaf) [ true ↦ Wait id | false ↦ Task id ]) waits))
      | inr now ↦ (let past = ltb-false s at now in
          let then : nat_lt t at ≡ false = le-ltb t at (omega (arith, past, later)) in
          ap (λ (b : Bool). elim b as (λ y. Leaf) [ true ↦ Wait id | false ↦ Task id ]) (then ∙ sym now))
    ]
stays_on tasks scale s t (Wait id) later runs = absurd (runs id refl)
stays_on tasks scale s t (Idle number) later runs = refl
stays_on tasks scale s t Empty later runs = refl

-- ---- the loop over the processors

same_there : (nodes : List (Option NodeId)) (q : ℕ) (d : Option NodeId) → q < length nodes → get_or nodes q d ≡ get_or nodes q None
same_there [] q d l = absurd (omega (arith, l))
same_there (n ∷ nodes) zero d l = refl
same_there (n ∷ nodes) (suc q) d l = same_there nodes q d (omega (arith, l))

-- with one processor more
pub looked_on : (p : PlanContents) (start end q : ℕ) (first kept : List (Option NodeId)) (told : List (Option Leaf)) (d node : Option NodeId)
    (leaf : Option Leaf)
    → q < length kept → q < length told
    → ((k : ℕ) → k < q → IsLooked p start end k (get_or first k None) (get_or kept k None) (get_or told k None))
    → ((k : ℕ) → q ≤ k → get_or kept k None ≡ get_or first k None)
    → IsLooked p start end q (get_or kept q d) node leaf
    → (k : ℕ) → k < q + 1 → IsLooked p start end k (get_or first k None) (get_or (set kept q node) k None) (get_or (set told q leaf) k None)
looked_on p start end q first kept told d node leaf here there done left now k l = elim (cases_lt k q) [
  | inl low ↦
      (let apart : k ≢ q = (λ e. omega (arith, e, low)) in
      let nodes : get_or (set kept q node) k None ≡ get_or kept k None = get_or-set_other kept q k node None apart in
      let leaves : get_or (set told q leaf) k None ≡ get_or told k None = get_or-set_other told q k leaf None apart in
      subst (λ (o : Option Leaf). IsLooked p start end k (get_or first k None) (get_or (set kept q node) k None) o) (sym leaves)
      (subst (λ (a : Option NodeId). IsLooked p start end k (get_or first k None) a (get_or told k None)) (sym nodes) (done k low)))
  | inr high ↦
      (let same : q ≡ k = omega (arith, l, high) in
      let P : ℕ → Type 0 = λ j. IsLooked p start end j (get_or first j None) (get_or (set kept q node) j None) (get_or (set told q leaf) j None) in
      let before : get_or kept q d ≡ get_or first q None = same_there kept q d here ∙ left q (omega arith) in
      subst P same
      (subst (λ (o : Option Leaf). IsLooked p start end q (get_or first q None) (get_or (set kept q node) q None) o)
      (sym (get_or-set_same told q leaf None there))
      (subst (λ (a : Option NodeId). IsLooked p start end q (get_or first q None) a leaf) (sym (get_or-set_same kept q node None here))
      (subst (λ (b : Option NodeId). IsLooked p start end q b node leaf) before now))))
]

-- past processors where the node that is kept goes on
pub looked_past : (p : PlanContents) (start end n m : ℕ) (first kept : List (Option NodeId)) (told : List (Option Leaf))
    → ((k : ℕ) → k < n → IsLooked p start end k (get_or first k None) (get_or kept k None) (get_or told k None))
    → ((k : ℕ) → n ≤ k → get_or kept k None ≡ get_or first k None)
    → ((k : ℕ) → n ≤ k → get_or told k None ≡ None)
    → ((k : ℕ) → n ≤ k → k < m → IsLooked p start end k (get_or kept k None) (get_or kept k None) None)
    → (k : ℕ) → k < m → IsLooked p start end k (get_or first k None) (get_or kept k None) (get_or told k None)
looked_past p start end n m first kept told done left untold again k b = elim (cases_lt k n) [
  | inl low ↦ done k low
  | inr most ↦
      (let high : n ≤ k = omega (arith, most) in
      subst (λ (o : Option Leaf). IsLooked p start end k (get_or first k None) (get_or kept k None) o) (sym (untold k high))
      (subst (λ (b : Option NodeId). IsLooked p start end k b (get_or kept k None) None) (left k high) (again k high b)))
]

-- what is read of the node that is kept
pub looked_again : (p : PlanContents) (start end q : ℕ) (kept : List (Option NodeId)) (d : Option NodeId) → q < length kept → IsLooked p start end q
    (get_or kept q d) (get_or kept q d) None
    → IsLooked p start end q (get_or kept q None) (get_or kept q None) None
looked_again p start end q kept d l now = subst (λ (o : Option NodeId). IsLooked p start end q o o None) (same_there kept q d l) now
