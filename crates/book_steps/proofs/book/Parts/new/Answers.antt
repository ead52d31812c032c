use Rattle.std.proofs.Common.{◌≡◌, ◌∙◌, ℕ, Option, None, Some, ap, refl, replicate}
use Rattle.std.proofs.lemmas.Result.{IfOk-from_err}
use Rattle.run_tree.specs.declared.tree.Tree.{Tree}
use Rattle.run_tree.specs.Plans.{PlanContents}
use Rattle.book_machine.specs.Machine.{start}
use Rattle.book_steps.proofs.book.Parts.new.Goals as goal

pub returns-in_err-vec : goal.returns-in_err-vec
returns-in_err-vec c =
    let err = c.from_residual.ensures.0 in
    record {
      source = IfOk-from_err _ _ err;
      start = IfOk-from_err _ _ err;
      width = IfOk-from_err _ _ err;
      held = IfOk-from_err _ _ err;
      computed = IfOk-from_err _ _ err;
      given = IfOk-from_err _ _ err;
      last = IfOk-from_err _ _ err;
      state = IfOk-from_err _ _ err;
      totals = IfOk-from_err _ _ err;
      faults = IfOk-from_err _ _ err;
    }

pub returns-in_err-vec-2 : goal.returns-in_err-vec-2
returns-in_err-vec-2 c =
    let err = c.from_residual-in_err-vec-2.ensures.0 in
    record {
      source = IfOk-from_err _ _ err;
      start = IfOk-from_err _ _ err;
      width = IfOk-from_err _ _ err;
      held = IfOk-from_err _ _ err;
      computed = IfOk-from_err _ _ err;
      given = IfOk-from_err _ _ err;
      last = IfOk-from_err _ _ err;
      state = IfOk-from_err _ _ err;
      totals = IfOk-from_err _ _ err;
      faults = IfOk-from_err _ _ err;
    }

pub returns-in_err-new : goal.returns-in_err-new
returns-in_err-new c =
    let err = c.from_residual-in_err-new.ensures.0 in
    record {
      source = IfOk-from_err _ _ err;
      start = IfOk-from_err _ _ err;
      width = IfOk-from_err _ _ err;
      held = IfOk-from_err _ _ err;
      computed = IfOk-from_err _ _ err;
      given = IfOk-from_err _ _ err;
      last = IfOk-from_err _ _ err;
      state = IfOk-from_err _ _ err;
      totals = IfOk-from_err _ _ err;
      faults = IfOk-from_err _ _ err;
    }

pub returns-in_err-new-2 : goal.returns-in_err-new-2
returns-in_err-new-2 c =
    let err = c.from_residual-in_err-new-2.ensures.0 in
    record {
      source = IfOk-from_err _ _ err;
      start = IfOk-from_err _ _ err;
      width = IfOk-from_err _ _ err;
      held = IfOk-from_err _ _ err;
      computed = IfOk-from_err _ _ err;
      given = IfOk-from_err _ _ err;
      last = IfOk-from_err _ _ err;
      state = IfOk-from_err _ _ err;
      totals = IfOk-from_err _ _ err;
      faults = IfOk-from_err _ _ err;
    }

pub new-requires-2 : goal.new-requires-2
new-requires-2 c = c.requires

-- the number of processors of a plan's tree
wide : (p : PlanContents) (t : Tree) (processors : ℕ) → processors ≡ t.processors → t ≡ p.tree → processors ≡ p.tree.processors
wide p t processors is same = is ∙ ap (λ (tree : Tree). tree.processors) same

only_none : (P : Option ℕ → Type 0) → ((x : ℕ) → P (Some x) → ⊥) → (o : Option ℕ) → P o → o ≡ None
only_none P none None h = refl
only_none P none (Some x) h = absurd (none x h)

pub same-result : goal.same-result
same-result c = refl

pub returns-clause-source : goal.returns-clause-source
returns-clause-source c = c.in_ok-new-2.ensures.source

pub returns-clause-start : goal.returns-clause-start
returns-clause-start c = c.in_ok-new-2.ensures.start

pub returns-clause-width : goal.returns-clause-width
returns-clause-width c = c.in_ok-new-2.ensures.width

pub returns-clause-held : goal.returns-clause-held
returns-clause-held c = c.in_ok-new-2.ensures.held

pub returns-clause-computed : goal.returns-clause-computed
returns-clause-computed c = c.in_ok-new-2.ensures.computed

pub returns-clause-given : goal.returns-clause-given
returns-clause-given c = c.in_ok-new-2.ensures.given

pub returns-clause-last : goal.returns-clause-last
returns-clause-last c = c.in_ok-new-2.ensures.last

pub returns-clause-state : goal.returns-clause-state
returns-clause-state c =
    c.in_ok-new.ensures ∙ ap start (wide c.args.plan.now c.tree.result.now c.processors-processors.result c.processors-processors.ensures.value
    c.tree.ensures.value)

pub returns-clause-faults : goal.returns-clause-faults
returns-clause-faults c =
    c.in_ok-vec-2.ensures.items_if_clones_equal (only_none _ (λ x same. same))
    ∙ ap (λ (n : ℕ). replicate {A = Option ℕ} n None) (wide c.args.plan.now c.tree.result.now c.processors-processors.result
    c.processors-processors.ensures.value c.tree.ensures.value)
