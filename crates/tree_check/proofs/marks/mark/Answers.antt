use Rattle.std.proofs.Common.{◌++◌, ◌∷◌, [], ℕ, Option, sym, subst}
use Rattle.tree_check.specs.Scans.{AreMarks}
use Rattle.tree_check.proofs.marks.mark.Goals as goal

pub returns-in-Some-clause-marks : goal.returns-in-Some-clause-marks
returns-in-Some-clause-marks c = λ names a.
    subst (λ (o : Option ℕ). AreMarks c.args.rates.now (names ++ o ∷ []) c.mark_number.new.marks) (sym c.in-Some.is) (c.mark_number.ensures.marks names a)
