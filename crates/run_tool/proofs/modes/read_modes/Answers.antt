use Rattle.std.proofs.Common.{ℕ, List, Err, ap, subst}
use Rattle.std.proofs.lemmas.Result.{IfOk-from_err}
use Rattle.mode_switch.proofs.RunLemmas.{told_fault}
use Rattle.run_tool.specs.ModeInput.{RefusesPieces}
use Rattle.run_tool.specs.ModeTexts.{ReadsSets}
use Rattle.run_tool.proofs.ModeEndLemmas.{untaken_modes, unread_piece, unjoined, modes_read}
use Rattle.run_tool.proofs.modes.read_modes.Goals as goal

pub returns-in_err-bytes-clause-read : goal.returns-in_err-bytes-clause-read
returns-in_err-bytes-clause-read g c = IfOk-from_err _ _ c.from_residual.ensures.0

pub returns-in_err-bytes-clause-refusal : goal.returns-in_err-bytes-clause-refusal
returns-in_err-bytes-clause-refusal g c =
    let taken = c.in_err-bytes.ensures in
    told_fault _ _ _ c.from_residual.ensures.1
    (untaken_modes _ _ _ _ _ c.in_err-bytes.field-0.0 (λ count is. taken.too_long count (ap Err is)) (λ is. taken.read (ap Err is))
    (λ is. taken.unfinished (ap Err is)))

pub returns-in_err-sets-clause-read : goal.returns-in_err-sets-clause-read
returns-in_err-sets-clause-read g c = IfOk-from_err _ _ c.from_residual-in_err-sets.ensures.0

pub returns-in_err-sets-clause-refusal : goal.returns-in_err-sets-clause-refusal
returns-in_err-sets-clause-refusal g c =
    told_fault _ _ _ c.from_residual-in_err-sets.ensures.1
    (unread_piece _ _ _ _ _ c.in_ok-bytes.bytes c.in_err-sets.field-0.0 c.in_ok-bytes.ensures.all
    (subst (λ (b : List ℕ). RefusesPieces b c.in_err-sets.field-0.0) c.as_slice.ensures c.in_err-sets.ensures.refused))

pub returns-in_err-join-clause-read : goal.returns-in_err-join-clause-read
returns-in_err-join-clause-read g c = IfOk-from_err _ _ c.from_residual-in_err-join.ensures.0

pub returns-in_err-join-clause-refusal : goal.returns-in_err-join-clause-refusal
returns-in_err-join-clause-refusal g c =
    told_fault _ _ _ c.from_residual-in_err-join.ensures.1
    (unjoined _ _ _ _ _ c.in_ok-bytes.bytes c.in_ok-sets.sets.items c.in_err-join.field-0.0 c.in_ok-bytes.ensures.all
    (subst (λ (b : List ℕ). ReadsSets b c.in_ok-sets.sets.items) c.as_slice.ensures c.in_ok-sets.ensures.read) c.in_err-join.ensures.refused)

pub returns-clause-read : goal.returns-clause-read
returns-clause-read g c =
    modes_read _ _ _ c.in_ok-bytes.bytes c.in_ok-sets.sets.items c.in_ok-join.field-0 c.in_ok-bytes.ensures.all
    (subst (λ (b : List ℕ). ReadsSets b c.in_ok-sets.sets.items) c.as_slice.ensures c.in_ok-sets.ensures.read)
    c.in_ok-join.ensures.sets c.in_ok-join.ensures.joined c.in_ok-join.ensures.lawful c.in_ok-join.ensures.no_crossing
