use Rattle.std.proofs.Common.{◌≡◌, ◌∙◌, max, length, get_or, set, ap, refl, arith}
use Rattle.trace_check.proofs.EndsLemmas.{ends_set, ends_past}
use Rattle.trace_check.proofs.reaches.TaskReach.add.Goals as goal

pub returns-in_ok-raise-clause-ends : goal.returns-in_ok-raise-clause-ends
returns-in_ok-raise-clause-ends c = λ done j own e.
    let n = c.seek-number.result in
    let same = c.seek-number.ensures.ends in
    let size : length c.seek-number.new.self.ends ≡ length c.args.self.now.ends = ap length same in
    ends_set done c.args.row.now j n (max c.args.row.now.end (get_or c.args.self.now.ends n 0)) c.args.self.now _ e own c.seek-number.ensures.base
    c.seek-number.ensures.span c.seek-number.ensures.begin
    c.seek-number.ensures.number (omega (arith, c.if-number-len.true, c.len-2.ensures, size)) refl (c.in_ok-raise.ensures
    ∙ ap (λ xs. set xs n (max c.args.row.now.end (get_or xs n 0))) same)

pub returns-else-number-len-clause-ends : goal.returns-else-number-len-clause-ends
returns-else-number-len-clause-ends c = λ done j own e.
    let same = c.seek-number.ensures.ends in
    let size : length c.seek-number.new.self.ends ≡ length c.args.self.now.ends = ap length same in
    ends_past done c.args.row.now j c.seek-number.result c.args.self.now _ e own c.seek-number.ensures.base c.seek-number.ensures.span
    c.seek-number.ensures.begin c.seek-number.ensures.number
    (omega (arith, c.if-number-len.false, c.len-2.ensures, size)) same
