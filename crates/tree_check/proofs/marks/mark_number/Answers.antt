use Rattle.std.proofs.Common.{Some, arith, inl, inr}
use Rattle.tree_check.proofs.MarkLemmas.{marks_good, marks_bad, past_bad, fresh_good}
use Rattle.tree_check.proofs.marks.mark_number.Goals as goal

pub returns-then-n-rates-clause-marks : goal.returns-then-n-rates-clause-marks
returns-then-n-rates-clause-marks c = λ names a.
    marks_bad c.args.rates.now names c.args.marks.now (Some c.args.n) a (past_bad c.args.rates.now names c.args.n (omega arith))

pub returns-then-n-rates-clause-result : goal.returns-then-n-rates-clause-result
returns-then-n-rates-clause-result c = λ names a. past_bad c.args.rates.now names c.args.n (omega arith)

pub returns-then-rates-n-eq0-clause-marks : goal.returns-then-rates-n-eq0-clause-marks
returns-then-rates-n-eq0-clause-marks c = λ names a. marks_bad c.args.rates.now names c.args.marks.now (Some c.args.n) a (inl c.if-rates-n-eq0.true)

pub returns-then-rates-n-eq0-clause-result : goal.returns-then-rates-n-eq0-clause-result
returns-then-rates-n-eq0-clause-result c = λ names a. inl c.if-rates-n-eq0.true

pub returns-then-marks-n-clause-marks : goal.returns-then-marks-n-clause-marks
returns-then-marks-n-clause-marks c = λ names a.
    marks_bad c.args.rates.now names c.args.marks.now (Some c.args.n) a (inr (a.named c.args.n (omega arith) c.if-marks-n.true))

pub returns-then-marks-n-clause-result : goal.returns-then-marks-n-clause-result
returns-then-marks-n-clause-result c = λ names a. inr (a.named c.args.n (omega arith) c.if-marks-n.true)

pub returns-clause-marks : goal.returns-clause-marks
returns-clause-marks c = λ names a. marks_good c.args.rates.now names c.args.marks.now c.args.n a (omega arith)

pub returns-clause-result : goal.returns-clause-result
returns-clause-result c = λ names a. fresh_good c.args.rates.now names c.args.marks.now c.args.n a c.if-rates-n-eq0.false c.if-marks-n.false
