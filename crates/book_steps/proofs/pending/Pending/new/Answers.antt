use Rattle.std.proofs.Common.{◌≡◌, ◌*◌, ◌∙◌, ℕ, [], ap, refl}
use Rattle.std.proofs.lemmas.Result.{IfOk-from_err}
use Rattle.run_tree.specs.declared.tree.Tree.{Tree}
use Rattle.run_tree.specs.Plans.{PlanContents}
use Rattle.circular_buffer.specs.Buffer.{buffer}
use Rattle.book_steps.specs.declared.ring.PendingRow.{PendingRow}
use Rattle.book_steps.proofs.pending.Pending.new.Goals as goal

pub returns-in_err-held : goal.returns-in_err-held
returns-in_err-held c =
    let err = c.from_residual-in_err-held.ensures.0 in
    record {
      source = IfOk-from_err _ _ err;
      start = IfOk-from_err _ _ err;
      width = IfOk-from_err _ _ err;
      held = IfOk-from_err _ _ err;
      computed = IfOk-from_err _ _ err;
      given = IfOk-from_err _ _ err;
      last = IfOk-from_err _ _ err;
    }

pub returns-in_err-given : goal.returns-in_err-given
returns-in_err-given c =
    let err = c.from_residual.ensures.0 in
    record {
      source = IfOk-from_err _ _ err;
      start = IfOk-from_err _ _ err;
      width = IfOk-from_err _ _ err;
      held = IfOk-from_err _ _ err;
      computed = IfOk-from_err _ _ err;
      given = IfOk-from_err _ _ err;
      last = IfOk-from_err _ _ err;
    }

pub returns-in_err-last : goal.returns-in_err-last
returns-in_err-last c =
    let err = c.from_residual-in_err-last.ensures.0 in
    record {
      source = IfOk-from_err _ _ err;
      start = IfOk-from_err _ _ err;
      width = IfOk-from_err _ _ err;
      held = IfOk-from_err _ _ err;
      computed = IfOk-from_err _ _ err;
      given = IfOk-from_err _ _ err;
      last = IfOk-from_err _ _ err;
    }

pub returns-in_err-rows : goal.returns-in_err-rows
returns-in_err-rows c =
    let err = c.from_residual-in_err-rows.ensures.0 in
    record {
      source = IfOk-from_err _ _ err;
      start = IfOk-from_err _ _ err;
      width = IfOk-from_err _ _ err;
      held = IfOk-from_err _ _ err;
      computed = IfOk-from_err _ _ err;
      given = IfOk-from_err _ _ err;
      last = IfOk-from_err _ _ err;
    }

pub returns-in_err-source : goal.returns-in_err-source
returns-in_err-source c =
    let err = c.from_residual-in_err-source.ensures.0 in
    record {
      source = IfOk-from_err _ _ err;
      start = IfOk-from_err _ _ err;
      width = IfOk-from_err _ _ err;
      held = IfOk-from_err _ _ err;
      computed = IfOk-from_err _ _ err;
      given = IfOk-from_err _ _ err;
      last = IfOk-from_err _ _ err;
    }

-- the number of processors of a plan's tree
wide : (p : PlanContents) (t : Tree) (processors : ℕ) → processors ≡ t.processors → t ≡ p.tree → processors ≡ p.tree.processors
wide p t processors is same = is ∙ ap (λ (tree : Tree). tree.processors) same

pub same-held : goal.same-held
same-held c = refl

pub returns-clause-source : goal.returns-clause-source
returns-clause-source c = c.in_ok-source.ensures.source

pub returns-clause-start : goal.returns-clause-start
returns-clause-start c = c.in_ok-source.ensures.start

pub returns-clause-width : goal.returns-clause-width
returns-clause-width c = c.in_ok-rows.rows.ok.0 ∙ c.in_ok-rows.ensures ∙ wide c.args.plan.now c.tree.result.now c.processors-processors.result
    c.processors-processors.ensures.value c.tree.ensures.value

pub returns-clause-computed : goal.returns-clause-computed
returns-clause-computed c = refl

pub returns-clause-held : goal.returns-clause-held
returns-clause-held c =
    c.in_ok-held.ensures
    ∙ ap (λ (m : ℕ). buffer {X = PendingRow} [] (c.args.window * m)) (wide c.args.plan.now c.tree.result.now c.processors-processors.result
    c.processors-processors.ensures.value c.tree.ensures.value)
