use Rattle.std.proofs.Common.{◌≡◌, ℕ, ◌<◌, ◌≤◌, ◌-◌, ◌*◌, ◌^◌, List, true, length, get_or, ap, subst, sym, ◌∙◌}
use Rattle.sched_base.specs.Counting.{bit}
use Rattle.server_budget.specs.Spent.{spends}
use Rattle.server_budget.proofs.SpendLemmas.{written, spent_fits}
use Rattle.server_budget.proofs.Budgets.spend.Goals as goal

pub spend_all-requires-clause-nodes : goal.spend_all-requires-clause-nodes
spend_all-requires-clause-nodes c = ap (λ (xs : List ℕ). length xs) (c.deref_mut.ensures.value ∙ c.self.view_is) ∙ c.requires.nodes

pub spend_all-requires-clause-enough : goal.spend_all-requires-clause-enough
spend_all-requires-clause-enough c =
    let P : List ℕ → Type 0 = λ xs. (x : ℕ) → x < length xs → spends c.args.tree.now c.args.runs.now x ≡ true → c.args.ticks ≤ get_or xs x 0 in
    subst P (sym (c.deref_mut.ensures.value ∙ c.self.view_is)) c.requires.enough

pub invariant_of-self : goal.invariant_of-self
invariant_of-self c =
    let P : List ℕ → Type 0 = λ xs. (x : ℕ) → get_or xs x 0 ≤ 2 ^ 127 in
    let here = written c.self.inside.remains c.spend_all.new.remains (c.spend_all.auto.remains ∙ ap (λ (xs : List ℕ). length xs) c.deref_mut.ensures.value) in
    subst P (sym here) (spent_fits c.args.tree.now c.args.runs.now c.args.ticks _ _ (length c.args.tree.now.nodes) c.spend_all.ensures
    (subst P (sym c.deref_mut.ensures.value) c.self.invariant))

pub returns-clause-nodes : goal.returns-clause-nodes
returns-clause-nodes c =
    let here = written c.self.inside.remains c.spend_all.new.remains (c.spend_all.auto.remains ∙ ap (λ (xs : List ℕ). length xs) c.deref_mut.ensures.value) in
    ap (λ (xs : List ℕ). length xs) here ∙ c.spend_all.auto.remains ∙ ap (λ (xs : List ℕ). length xs) (c.deref_mut.ensures.value ∙ c.self.view_is)

pub returns-clause-spent : goal.returns-clause-spent
returns-clause-spent c = λ x l.
    let here = written c.self.inside.remains c.spend_all.new.remains (c.spend_all.auto.remains ∙ ap (λ (xs : List ℕ). length xs) c.deref_mut.ensures.value) in
    ap (λ (xs : List ℕ). get_or xs x 0) here
    ∙ c.spend_all.ensures.below x (subst (λ n. x < n) c.requires.nodes l)
    ∙ ap (λ (xs : List ℕ). get_or xs x 0 - bit (spends c.args.tree.now c.args.runs.now x) * c.args.ticks) (c.deref_mut.ensures.value ∙ c.self.view_is)
