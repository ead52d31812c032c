use Rattle.std.proofs.Common.{◌≡◌, ℕ, Bool, List, false, [], length, replicate, ap, sym, subst, ◌∙◌, arith}
use Rattle.std.proofs.lemmas.List.{take_at}
use Rattle.tree_check.specs.Scans.{AreMarks, HasFaultIn, names_of}
use Rattle.tree_check.specs.Written.{level_at}
use Rattle.tree_check.specs.Faults.{IsFirstOf}
use Rattle.tree_check.proofs.LevelScans.{level_first, line_first}
use Rattle.tree_check.proofs.MarkLemmas.{marks_none}
use Rattle.std.proofs.lemmas.Result.{IfOk-from_err}
use Rattle.tree_check.proofs.levels.level_fault.Goals as goal

pub returns : goal.returns
returns c = level_first c.args.tree.now c.args.l c.scan-first.result c.in-None.ensures c.scan-first.ensures.first

pub scan-first-requires-clause-marks : goal.scan-first-requires-clause-marks
scan-first-requires-clause-marks c =
    let rates = c.deref.result.now in
    let count : c.len.result ≡ length rates = c.len.ensures ∙ sym c.deref.ensures.len in
    let marks = c.deref_mut.ensures.value ∙ c.in_ok-marks.ensures.items_if_clones_equal (λ y same. same) ∙ ap (λ (n : ℕ). replicate n false) count in
    subst (AreMarks rates []) (sym marks) (marks_none rates)

pub returns-in-Some : goal.returns-in-Some
returns-in-Some c =
    let w = c.args.tree.now in
    let l = c.args.l in
    let kind = c.in-Some.kind in
    subst (λ (line : ℕ). IsFirstOf (HasFaultIn w l) line kind) (sym c.requires.line) (line_first w l kind c.in-Some.ensures)

pub returns-in_err-rates : goal.returns-in_err-rates
returns-in_err-rates c = IfOk-from_err _ _ c.from_residual.ensures.0

pub returns-in_err-marks : goal.returns-in_err-marks
returns-in_err-marks c = IfOk-from_err _ _ c.from_residual-in_err-marks.ensures.0

pub scan-first-requires-clause-level : goal.scan-first-requires-clause-level
scan-first-requires-clause-level c = c.requires.level

pub scan-first-requires-clause-line : goal.scan-first-requires-clause-line
scan-first-requires-clause-line c = c.requires.line

pub scan-first-requires-clause-rates : goal.scan-first-requires-clause-rates
scan-first-requires-clause-rates c = c.deref.ensures.value ∙ c.in_ok-rates.ensures

pub line_fault-requires-clause-rates : goal.line_fault-requires-clause-rates
line_fault-requires-clause-rates c = c.deref-2.ensures.value ∙ c.in_ok-rates.ensures

pub to_place-requires : goal.to_place-requires
to_place-requires c = c.requires.level

pub line_fault-requires-clause-marks : goal.line_fault-requires-clause-marks
line_fault-requires-clause-marks c =
    let names = names_of c.args.tree.now c.args.l (level_at c.args.tree.now c.args.l) in
    let marked = subst (λ (rates : List ℕ). AreMarks rates names c.scan-first.new.marks) (c.deref.ensures.value ∙ sym c.deref-2.ensures.value)
    c.scan-first.ensures.marks in
    let kept = c.deref-3.ensures.value ∙ take_at c.scan-first.new.marks _ _ (omega (arith, c.scan-first.auto.marks, c.deref_mut.ensures.len)) in
    subst (λ (marks : List Bool). AreMarks c.deref-2.result.now names marks) (sym kept) marked
