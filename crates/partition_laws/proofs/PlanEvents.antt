-- What an event of a plan says.
use Rattle.std.proofs.Common.{Bool, ap, arith, eq-eqb, eqb, inl, inr, length, not, suc, true, zero, zero-add, ℕ, ◌%◌, ◌&&◌, ◌+◌, ◌/◌, ◌<◌, ◌∙◌, ◌≡◌, ◌⊎◌}
use Rattle.std.specs.List.{list_any, range_with_len}
use Rattle.std.proofs.lemmas.Bool.{and_from, and_parts, eqb-true, not-true, or_cases, or_left, or_right}
use Rattle.std.proofs.lemmas.List.Folds.{list_any_at}
use Rattle.std.proofs.lemmas.List.FromFn.{get_or-range_with_len, length-range_with_len}
use Rattle.run_tree.specs.Boundaries.{set_boundary}
use Rattle.run_tree.specs.Plans.{PlanContents}
use Rattle.run_tree.specs.Rounds.{is_event, is_task, runs_dry, task_begins}
use Rattle.run_tree.specs.Runs.{runs}
use Rattle.run_tree.specs.Tree.{IsLeaf, IsMember, is_leaf, is_pack, kind_at, leaf}
use Rattle.run_tree.proofs.RunLemmas.{left_at}

-- where some number of a range passes, one does
pub found_any : (p : ℕ → Bool) (n a : ℕ) → list_any p (range_with_len a n) ≡ true → (x : ℕ) × (x < a + n) × (p x ≡ true)
found_any p zero a e = cc
found_any p (suc n) a e = elim (or_cases (p a) (list_any p (range_with_len (a + 1) n)) e) [
  | inl on ↦ (a, omega arith, on)
  | inr later ↦ (let r = found_any p n (a + 1) later in let b = r.1 in (r.0, omega (arith, b), r.2))
]

-- and where one passes, some does
pub any_found : (p : ℕ → Bool) (n x : ℕ) → x < n → p x ≡ true → list_any p (range_with_len 0 n) ≡ true
any_found p n x l on = list_any_at p (range_with_len 0 n) x 0 (let c = length-range_with_len 0 n in omega (arith, c, l))
    (ap p (get_or-range_with_len 0 n x 0 l ∙ zero-add x) ∙ on)

-- node x is a task of the plan that has a boundary at tick n
abbrev pub Begins : PlanContents → ℕ → ℕ → Type 0
Begins p n x = (n % p.tree.scale ≡ 0) × IsLeaf p.tree x × (is_task (leaf p.tree x) ≡ true) × (set_boundary p.set.tasks (leaf p.tree x) (n / p.tree.scale)
    ≡ true)

-- node x is a member that ran at tick n and has nothing left at the next
abbrev pub Dries : PlanContents → ℕ → ℕ → Type 0
Dries p n x = IsMember p.tree x × (runs (set_boundary p.set.tasks) p.tree x n ≡ true) × (left_at (set_boundary p.set.tasks) p.tree (suc n) x ≡ 0)

module _ (p : PlanContents) (n : ℕ) where
  -- what an event after tick 0 says
  pub event_parts : is_event (set_boundary p.set.tasks) p.tree (suc n) ≡ true → ((x : ℕ) × Begins p (suc n) x) ⊎ ((x : ℕ) × Dries p n x)
  unfolding is_event
  event_parts e =
      let b = set_boundary p.set.tasks in
      let t = p.tree in
      elim (or_cases (eqb (suc n % t.scale) 0 && list_any (λ x. task_begins b t (suc n) x) (range_with_len 0 (length t.nodes)))
      (list_any (λ x. runs_dry b t n x) (range_with_len 0 (length t.nodes))) e) [
        | inl begun ↦
            (let both = and_parts (eqb (suc n % t.scale) 0) (list_any (λ x. task_begins b t (suc n) x) (range_with_len 0 (length t.nodes))) begun in
            let r = found_any (λ x. task_begins b t (suc n) x) (length t.nodes) 0 both.1 in
            let x = r.0 in
            let low = r.1 in
            let two = and_parts (is_leaf (kind_at t x) && is_task (leaf t x)) (b (leaf t x) (suc n / t.scale)) r.2 in
            let one = and_parts (is_leaf (kind_at t x)) (is_task (leaf t x)) two.0 in
            inl (x, (eqb-true (suc n % t.scale) 0 both.0, (omega (arith, low), one.0), one.1, two.1)))
        | inr dry ↦
            (let r = found_any (λ x. runs_dry b t n x) (length t.nodes) 0 dry in
            let x = r.0 in
            let low = r.1 in
            let two = and_parts (not (is_pack (kind_at t x)) && runs b t x n) (eqb (left_at b t (suc n) x) 0) r.2 in
            let one = and_parts (not (is_pack (kind_at t x))) (runs b t x n) two.0 in
            inr (x, ((omega (arith, low), not-true (is_pack (kind_at t x)) one.0), one.1, eqb-true (left_at b t (suc n) x) 0 two.1)))
      ]

  -- a task's boundary is an event
  pub begin_event : (x : ℕ) → Begins p (suc n) x → is_event (set_boundary p.set.tasks) p.tree (suc n) ≡ true
  unfolding is_event
  begin_event x at =
      let b = set_boundary p.set.tasks in
      let t = p.tree in
      or_left (eqb (suc n % t.scale) 0 && list_any (λ y. task_begins b t (suc n) y) (range_with_len 0 (length t.nodes)))
      (list_any (λ y. runs_dry b t n y) (range_with_len 0 (length t.nodes)))
      (and_from (eqb (suc n % t.scale) 0) (list_any (λ y. task_begins b t (suc n) y) (range_with_len 0 (length t.nodes))) (eq-eqb (suc n % t.scale) 0 at.0)
      (any_found (λ y. task_begins b t (suc n) y) (length t.nodes) x at.1.0
      (and_from (is_leaf (kind_at t x) && is_task (leaf t x)) (b (leaf t x) (suc n / t.scale)) (and_from (is_leaf (kind_at t x)) (is_task (leaf t x)) at.1.1
      at.2) at.3)))

  -- and so is the tick after one that leaves a member nothing
  pub dry_event : (x : ℕ) → Dries p n x → is_event (set_boundary p.set.tasks) p.tree (suc n) ≡ true
  unfolding is_event
  dry_event x at =
      let b = set_boundary p.set.tasks in
      let t = p.tree in
      or_right (eqb (suc n % t.scale) 0 && list_any (λ y. task_begins b t (suc n) y) (range_with_len 0 (length t.nodes)))
      (list_any (λ y. runs_dry b t n y) (range_with_len 0 (length t.nodes)))
      (any_found (λ y. runs_dry b t n y) (length t.nodes) x at.0.0
      (and_from (not (is_pack (kind_at t x)) && runs b t x n) (eqb (left_at b t (suc n) x) 0)
      (and_from (not (is_pack (kind_at t x))) (runs b t x n) (ap not at.0.1) at.1) (eq-eqb (left_at b t (suc n) x) 0 at.2)))
