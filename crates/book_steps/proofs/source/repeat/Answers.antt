use Rattle.std.proofs.Common.{◌≡◌, ◌+◌, ◌∙◌, ◌∷◌, ℕ, [], ap, arith, min, refl, subst, sym}
use Rattle.std.specs.Prelude.{slice_index}
use Rattle.sched_base.specs.declared.rows.Row.{Row}
use Rattle.run_tree.specs.Plans.{stop_of}
use Rattle.event_core.specs.Rounds.{IsRoundUpTo}
use Rattle.book_steps.proofs.SourceLemmas.{IsRepeating-next, end_fits, repeats_round, repeats_rows, shown_low}
use Rattle.book_steps.proofs.source.repeat.Goals as goal

pub bounds-ends-again : goal.bounds-ends-again
bounds-ends-again c = c.requires.within

pub overflow_add-ends : goal.overflow_add-ends
overflow_add-ends c =
    let fits = end_fits c.args.plan.now c.know_lawful.ensures.lawful c.args.tick c.args.ends.now c.args.shown.now c.args.again c.requires.again
    c.requires.early c.requires.within in
    omega (arith, fits)

pub leaf_in-requires : goal.leaf_in-requires
leaf_in-requires c =
    shown_low c.args.plan.now c.know_lawful.ensures.lawful c.args.tick c.args.ends.now c.args.shown.now c.args.again c.requires.again c.requires.early
    c.requires.within

pub returns-clause-round : goal.returns-clause-round
returns-clause-round c =
    let p = c.args.plan.now in
    let end : c.min-end.result ≡ min (slice_index c.args.ends.now c.args.again.next + c.args.again.passed) (stop_of p) =
    c.min-end.ensures ∙ ap (λ (n : ℕ). min (slice_index c.args.ends.now c.args.again.next + c.args.again.passed) n) c.rounds_end.ensures.value in
    subst (λ (n : ℕ). IsRoundUpTo p c.args.tick n) (sym end)
    (repeats_round p c.know_lawful.ensures.lawful c.args.tick c.args.ends.now c.args.shown.now c.args.again c.requires.again c.requires.early c.requires.within)

pub returns-clause-row : goal.returns-clause-row
returns-clause-row c =
    let p = c.args.plan.now in
    let row : Row = record { processor = 0; leaf = c.leaf_in.result; start = c.args.tick; end = c.min-end.result } in
    sym (repeats_rows p c.know_lawful.ensures.lawful c.args.tick c.args.ends.now c.args.shown.now c.args.again c.requires.again c.requires.early
    c.requires.within
    (row ∷ []) c.leaf_in.result c.min-end.result (sym c.requires.again.turn.alone) refl c.leaf_in.ensures)

pub returns-clause-again : goal.returns-clause-again
returns-clause-again c =
    let p = c.args.plan.now in
    let end : c.min-end.result ≡ min (slice_index c.args.ends.now c.args.again.next + c.args.again.passed) (stop_of p) =
    c.min-end.ensures ∙ ap (λ (n : ℕ). min (slice_index c.args.ends.now c.args.again.next + c.args.again.passed) n) c.rounds_end.ensures.value in
    IsRepeating-next p c.know_lawful.ensures.lawful c.args.tick c.args.ends.now c.args.shown.now c.args.again c.requires.again c.requires.early
    c.requires.within c.min-end.result end
