use Rattle.std.proofs.Common.{ap, refl, replicate, sym, ◌∙◌, ℕ, List, length}
use Rattle.std.proofs.lemmas.List.{length-replicate}
use Rattle.std.proofs.lemmas.Result.{IfOk-from_err}
use Rattle.run_tree.specs.Tree.{Tree}
use Rattle.release_calendar.proofs.TurnLemmas.{first_unit, belongs_written, kept_written}
use Rattle.release_calendar.proofs.Calendar.new.Goals as goal

pub returns-in_err-begins : goal.returns-in_err-begins
returns-in_err-begins c = IfOk-from_err _ _ c.from_residual.ensures.0

pub returns-in_err-ends : goal.returns-in_err-ends
returns-in_err-ends c = IfOk-from_err _ _ c.from_residual-in_err-ends.ensures.0

pub returns-in_err-begun : goal.returns-in_err-begun
returns-in_err-begun c = IfOk-from_err _ _ c.from_residual-in_err-begun.ensures.0

pub returns-in_err-next : goal.returns-in_err-next
returns-in_err-next c = IfOk-from_err _ _ c.from_residual-in_err-next.ensures.0

pub turn_first-requires-clause-begins : goal.turn_first-requires-clause-begins
turn_first-requires-clause-begins c =
    ap (λ (xs : List ℕ). length xs) (c.deref_mut.ensures.value ∙ c.in_ok-begins.ensures)
    ∙ length-replicate c.nodes-count.result 0 ∙ c.nodes-count.ensures.value ∙ ap (λ (t : Tree). length t.nodes) c.tree.ensures.value

pub turn_first-requires-clause-ends : goal.turn_first-requires-clause-ends
turn_first-requires-clause-ends c =
    ap (λ (xs : List ℕ). length xs) (c.deref_mut-2.ensures.value ∙ c.in_ok-ends.ensures)
    ∙ length-replicate c.nodes-count.result 0 ∙ c.nodes-count.ensures.value ∙ ap (λ (t : Tree). length t.nodes) c.tree.ensures.value

pub turn_first-requires-clause-none : goal.turn_first-requires-clause-none
turn_first-requires-clause-none c =
    c.deref_mut-2.ensures.value ∙ c.in_ok-ends.ensures ∙ ap (λ (n : ℕ). replicate n 0) c.nodes-count.ensures.value
    ∙ ap (λ (t : Tree). replicate (length t.nodes) 0) c.tree.ensures.value

pub invariant_of-result : goal.invariant_of-result
invariant_of-result c =
    let w = ap (λ (xs : List ℕ). length xs) c.deref_mut.ensures.value in
    let w' = ap (λ (xs : List ℕ). length xs) c.deref_mut-2.ensures.value in
    let b = c.turn_first.auto.begins ∙ ap (λ (xs : List ℕ). length xs) (c.deref_mut.ensures.value ∙ c.in_ok-begins.ensures) ∙ length-replicate
    c.nodes-count.result 0 in
    let e = c.turn_first.auto.ends ∙ ap (λ (xs : List ℕ). length xs) (c.deref_mut-2.ensures.value ∙ c.in_ok-ends.ensures) ∙ length-replicate
    c.nodes-count.result 0 in
    kept_written c.in_ok-begins.begins c.in_ok-ends.ends c.turn_first.new.begins c.turn_first.new.ends _ c.nodes-count.result _ 0 c.in_ok-next.next (sym w
    ∙ sym c.turn_first.auto.begins) (sym w' ∙ sym c.turn_first.auto.ends)
    b e c.in_ok-begun.ensures (first_unit _) c.in_ok-next.ensures.fit c.in_ok-next.ensures.order c.in_ok-next.ensures.next.below

pub returns : goal.returns
returns c =
    let count = c.nodes-count.ensures.value ∙ ap (λ (t : Tree). length t.nodes) c.tree.ensures.value in
    let w = ap (λ (xs : List ℕ). length xs) c.deref_mut.ensures.value in
    let w' = ap (λ (xs : List ℕ). length xs) c.deref_mut-2.ensures.value in
    let b = c.turn_first.auto.begins ∙ ap (λ (xs : List ℕ). length xs) (c.deref_mut.ensures.value ∙ c.in_ok-begins.ensures) ∙ length-replicate
    c.nodes-count.result 0 ∙ count in
    let e = c.turn_first.auto.ends ∙ ap (λ (xs : List ℕ). length xs) (c.deref_mut-2.ensures.value ∙ c.in_ok-ends.ensures) ∙ length-replicate
    c.nodes-count.result 0 ∙ count in (
      refl,
      belongs_written c.args.plan.now c.tree.ensures.lawful c.in_ok-begins.begins c.in_ok-ends.ends c.turn_first.new.begins c.turn_first.new.ends _
          c.in_ok-steps.steps.items 0 c.in_ok-next.next (first_unit _) b e
          (sym w ∙ sym c.turn_first.auto.begins) (sym w' ∙ sym c.turn_first.auto.ends) c.turn_first.ensures.windows c.turn_first.ensures.packs
          c.in_ok-next.ensures.next c.in_ok-steps.ensures,
    )

pub returns-in_err-steps : goal.returns-in_err-steps
returns-in_err-steps c = IfOk-from_err _ _ c.from_residual-in_err-steps.ensures.0
