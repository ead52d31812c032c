use Rattle.std.proofs.Common.{◌∙◌, [], length, drop, sym, ap, subst}
use Rattle.std.proofs.lemmas.List.{take_at}
use Rattle.std.proofs.lemmas.Result.{IfOk-from_err}
use Rattle.trace_check.specs.Reaches.{HaveEnds, AreReachesOf}
use Rattle.trace_check.proofs.reaches.reaches_of.Goals as goal

pub no_reaches-requires : goal.no_reaches-requires
no_reaches-requires c = c.requires

pub returns-in_err-reaches-clause-periods : goal.returns-in_err-reaches-clause-periods
returns-in_err-reaches-clause-periods c = IfOk-from_err _ _ c.from_residual.ensures.0

pub returns-in_err-reaches-clause-count : goal.returns-in_err-reaches-clause-count
returns-in_err-reaches-clause-count c = IfOk-from_err _ _ c.from_residual.ensures.0

pub returns-in_err-reaches-clause-ends : goal.returns-in_err-reaches-clause-ends
returns-in_err-reaches-clause-ends c = IfOk-from_err _ _ c.from_residual.ensures.0

pub returns-in_err-add_rows-clause-periods : goal.returns-in_err-add_rows-clause-periods
returns-in_err-add_rows-clause-periods c = IfOk-from_err _ _ c.from_residual-in_err-add_rows.ensures.0

pub returns-in_err-add_rows-clause-count : goal.returns-in_err-add_rows-clause-count
returns-in_err-add_rows-clause-count c = IfOk-from_err _ _ c.from_residual-in_err-add_rows.ensures.0

pub returns-in_err-add_rows-clause-ends : goal.returns-in_err-add_rows-clause-ends
returns-in_err-add_rows-clause-ends c = IfOk-from_err _ _ c.from_residual-in_err-add_rows.ensures.0

pub add_rows-requires : goal.add_rows-requires
add_rows-requires c = subst (HaveEnds []) (sym c.deref_mut.ensures.value) c.in_ok-reaches.ensures.ends

pub returns-clause-periods : goal.returns-clause-periods
returns-clause-periods c =
    let old = c.in_ok-reaches.reaches in
    let new = c.add_rows.new.reaches in
    let long = c.in_ok-add_rows.ensures.count ∙ ap length c.deref_mut.ensures.value in
    let back = take_at new (drop (length new) old.items) old.len (long ∙ sym old.ok.0) in
    let are = AreReachesOf c.args.scale c.args.set.now.tasks in
    subst are (sym back) (c.in_ok-add_rows.ensures.periods c.args.scale c.args.set.now.tasks (subst are (sym c.deref_mut.ensures.value)
    c.in_ok-reaches.ensures.periods))

pub returns-clause-count : goal.returns-clause-count
returns-clause-count c =
    let old = c.in_ok-reaches.reaches in
    let new = c.add_rows.new.reaches in
    let long = c.in_ok-add_rows.ensures.count ∙ ap length c.deref_mut.ensures.value in
    let back = take_at new (drop (length new) old.items) old.len (long ∙ sym old.ok.0) in
    ap length back ∙ long ∙ c.in_ok-reaches.ensures.count

pub returns-clause-ends : goal.returns-clause-ends
returns-clause-ends c =
    let old = c.in_ok-reaches.reaches in
    let new = c.add_rows.new.reaches in
    let long = c.in_ok-add_rows.ensures.count ∙ ap length c.deref_mut.ensures.value in
    let back = take_at new (drop (length new) old.items) old.len (long ∙ sym old.ok.0) in
    subst (HaveEnds c.args.rows.now) (sym back) c.in_ok-add_rows.ensures.ends
