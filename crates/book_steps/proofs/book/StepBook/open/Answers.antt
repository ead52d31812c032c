use Rattle.std.proofs.Common.{◌≡◌, ◌∙◌, Result, Ok, Err, ap, subst, sym}
use Rattle.std.specs.Result.{IfErr, IsErrAnd}
use Rattle.std.proofs.lemmas.Result.{IfOk-from_err}
use Rattle.round_steps.specs.declared.faults.OpenFault.TheVariants as fault
use Rattle.round_steps.specs.Refusals.{IsRefusedFor}
use Rattle.round_steps.specs.Steps.{IsPlanOf}
use Rattle.book_steps.specs.Books.{BookHeld, begun}
use Rattle.book_steps.proofs.book.StepBook.open.Goals as goal

-- what holds of the fault that is told holds of the one that there is
told_fault : {T E : Type 0} (answer : Result T E) (fault : E) (P : E → Type 0) → IsErrAnd answer (λ e. e ≡ fault) → P fault → IfErr answer P
told_fault (Ok v) fault P told here = tt
told_fault (Err e) fault P told here = subst P (sym told) here

pub returns-in_err-plan-clause-book : goal.returns-in_err-plan-clause-book
returns-in_err-plan-clause-book c = IfOk-from_err _ _ c.from_residual.ensures.0

pub returns-in_err-plan-clause-refused : goal.returns-in_err-plan-clause-refused
returns-in_err-plan-clause-refused c =
    told_fault c.from_residual.result c.in_err-plan.field-0.0 (IsRefusedFor c.args.bytes.now) c.from_residual.ensures.1 c.in_err-plan.ensures.refused

pub begin-requires-clause-compiled : goal.begin-requires-clause-compiled
begin-requires-clause-compiled c = c.in_ok-plan.ensures.plan.tree

pub begin-requires-clause-some_window : goal.begin-requires-clause-some_window
begin-requires-clause-some_window c = c.requires.some_window

pub begin-requires-clause-small_window : goal.begin-requires-clause-small_window
begin-requires-clause-small_window c = c.requires.small_window

pub returns-in_err-begin-clause-book : goal.returns-in_err-begin-clause-book
returns-in_err-begin-clause-book c = IfOk-from_err _ _ c.from_residual-in_err-begin.ensures.0

pub returns-in_err-begin-clause-refused : goal.returns-in_err-begin-clause-refused
returns-in_err-begin-clause-refused c =
    told_fault c.from_residual-in_err-begin.result fault.NoMemory (IsRefusedFor c.args.bytes.now) c.from_residual-in_err-begin.ensures.1 tt

pub returns-clause-book : goal.returns-clause-book
returns-clause-book c =
    let is = c.in_ok-begin.ensures in
    record {
      plan = subst (λ (b : BookHeld). IsPlanOf c.args.bytes.now b.plan) (sym is) c.in_ok-plan.ensures.plan;
      begun = is ∙ ap (λ (b : BookHeld). begun b.plan c.args.window) (sym is);
    }
