use Rattle.std.proofs.Common.{◌≡◌, [], ◌++◌, List, ℕ, drop, length, refl, subst, sym, ap, ◌∙◌, append_assoc, arith}
use Rattle.std.proofs.lemmas.List.{take_at}
use Rattle.std.proofs.lemmas.Result.{IfOk-from_err}
use Rattle.trace_check.specs.WholeRows.{AreRowsOf}
use Rattle.trace_check.proofs.RestLemmas.{less_still, no_more}
use Rattle.trace_check.proofs.RunLemmas.{run_taken}
use Rattle.trace_check.proofs.WholeRowLemmas.{rows_more}
use Rattle.trace_check.proofs.row_reader.RowReader.take_short.Goals as goal

pub run_row-requires-clause-totals : goal.run_row-requires-clause-totals
run_row-requires-clause-totals c =
    let so = c.loop-words.invariant.1 c.requires.0 c.requires.1 in
    rw c.deref.ensures.value so.totals

pub run_row-requires-clause-count : goal.run_row-requires-clause-count
run_row-requires-clause-count c =
    let so = c.loop-words.invariant.1 c.requires.0 c.requires.1 in
    ap length c.deref.ensures.value ∙ so.count

pub add_ticks-requires-clause-totals : goal.add_ticks-requires-clause-totals
add_ticks-requires-clause-totals c =
    let so = c.loop-words.invariant.1 c.requires.0 c.requires.1 in
    rw c.deref_mut.ensures.value so.totals

pub add_ticks-requires-clause-count : goal.add_ticks-requires-clause-count
add_ticks-requires-clause-count c =
    let so = c.loop-words.invariant.1 c.requires.0 c.requires.1 in
    ap length c.deref_mut.ensures.value ∙ so.count

pub take_run-requires-in-loop-words : goal.take_run-requires-in-loop-words
take_run-requires-in-loop-words c =
    let tasks = c.args.set.now.tasks in
    let done = c.loop-words.self.rows in
    let w = c.in-Some.words.words in
    let later = w.later.now in
    let old = c.loop-words.self.totals in
    let new = c.add_ticks.new.totals in
    let long = c.add_ticks.auto.totals ∙ ap length c.deref_mut.ensures.value in
    let back = take_at new (drop (length new) old.items) old.len (long ∙ sym old.ok.0) in
    let whole = c.requires.0 in (
      whole,
      subst (λ sums. AreRowsOf tasks whole c.push.new.self sums later) (sym back)
          (rows_more tasks whole c.loop-words.rest.now later done c.push.new.self c.in-Some-run_row.row old.items new (c.loop-words.invariant.1 whole
          c.requires.1) c.in-Some-run_row.ensures.read
          (run_taken tasks done c.in-Some-run_row.row c.loop-words.rest.now w c.in-Some.ensures.says c.in-Some-run_row.ensures.row) c.in_ok-push.ensures
          c.add_ticks.ensures long),
    )

pub loop-words-preserved : goal.loop-words-preserved
loop-words-preserved c =
    let tasks = c.args.set.now.tasks in
    let done = c.loop-words.self.rows in
    let w = c.in-Some.words.words in
    let later = w.later.now in
    let old = c.loop-words.self.totals in
    let new = c.add_ticks.new.totals in
    let long = c.add_ticks.auto.totals ∙ ap length c.deref_mut.ensures.value in
    let back = take_at new (drop (length new) old.items) old.len (long ∙ sym old.ok.0) in
    let says = c.in-Some.ensures.says in
    let less = says.less in
    let gone = c.loop-words.invariant.0.0 in
    let then = c.in_ok-behind.ensures.split in
    let before : List ℕ = gone ++ says.split.0 in
    let split : c.args.text.now ≡ before ++ later = c.loop-words.invariant.0.1 ∙ ap (λ t. gone ++ t) says.split.1
    ∙ sym (append_assoc gone says.split.0 later) in (
      (before ++ then.0, split ∙ ap (λ t. before ++ t) then.1 ∙ sym (append_assoc before then.0 c.in_ok-behind.behind.now)),
      λ whole so. c.in_ok-behind.ensures.read whole (subst (λ sums. AreRowsOf tasks whole c.push.new.self sums later) (sym back)
          (rows_more tasks whole c.loop-words.rest.now later done c.push.new.self c.in-Some-run_row.row old.items new (c.loop-words.invariant.1 whole so)
          c.in-Some-run_row.ensures.read
          (run_taken tasks done c.in-Some-run_row.row c.loop-words.rest.now w says c.in-Some-run_row.ensures.row) c.in_ok-push.ensures c.add_ticks.ensures
          long)),
      omega (arith, less, c.in_ok-behind.ensures.less, c.loop-words.invariant.2),
    )

pub returns-then-is_none-clause-split : goal.returns-then-is_none-clause-split
returns-then-is_none-clause-split c = ([], refl)

pub returns-then-is_none-clause-less : goal.returns-then-is_none-clause-less
returns-then-is_none-clause-less c = no_more _

pub returns-then-is_none-clause-read : goal.returns-then-is_none-clause-read
returns-then-is_none-clause-read c = λ whole so. so

pub take_run-requires : goal.take_run-requires
take_run-requires c = c.requires

pub returns-in_err-rest-clause-split : goal.returns-in_err-rest-clause-split
returns-in_err-rest-clause-split c = IfOk-from_err _ _ c.from_residual.ensures.0

pub returns-in_err-rest-clause-less : goal.returns-in_err-rest-clause-less
returns-in_err-rest-clause-less c = IfOk-from_err _ _ c.from_residual.ensures.0

pub returns-in_err-rest-clause-read : goal.returns-in_err-rest-clause-read
returns-in_err-rest-clause-read c = IfOk-from_err _ _ c.from_residual.ensures.0

pub loop-words-init : goal.loop-words-init
loop-words-init c = (c.in_ok-rest.ensures.split, c.in_ok-rest.ensures.read, c.in_ok-rest.ensures.less)

pub run_row-requires-clause-leaf : goal.run_row-requires-clause-leaf
run_row-requires-clause-leaf c = c.in-Some.ensures.leaf

pub run_row-requires-clause-known : goal.run_row-requires-clause-known
run_row-requires-clause-known c = c.in-Some.ensures.known

pub add_ticks-requires-clause-read : goal.add_ticks-requires-clause-read
add_ticks-requires-clause-read c = c.in-Some-run_row.ensures.read

pub returns-in_err-push-clause-split : goal.returns-in_err-push-clause-split
returns-in_err-push-clause-split c = IfOk-from_err _ _ c.from_residual-in_err-push.ensures.0

pub returns-in_err-push-clause-less : goal.returns-in_err-push-clause-less
returns-in_err-push-clause-less c = IfOk-from_err _ _ c.from_residual-in_err-push.ensures.0

pub returns-in_err-push-clause-read : goal.returns-in_err-push-clause-read
returns-in_err-push-clause-read c = IfOk-from_err _ _ c.from_residual-in_err-push.ensures.0

pub returns-in_err-behind-clause-split : goal.returns-in_err-behind-clause-split
returns-in_err-behind-clause-split c = IfOk-from_err _ _ c.from_residual-in_err-behind.ensures.0

pub returns-in_err-behind-clause-less : goal.returns-in_err-behind-clause-less
returns-in_err-behind-clause-less c = IfOk-from_err _ _ c.from_residual-in_err-behind.ensures.0

pub returns-in_err-behind-clause-read : goal.returns-in_err-behind-clause-read
returns-in_err-behind-clause-read c = IfOk-from_err _ _ c.from_residual-in_err-behind.ensures.0

pub loop-words-smaller : goal.loop-words-smaller
loop-words-smaller c = less_still _ _ _ c.in_ok-behind.ensures.less c.in-Some.ensures.says.less

pub returns-clause-split : goal.returns-clause-split
returns-clause-split c = c.loop-words.invariant.0

pub returns-clause-less : goal.returns-clause-less
returns-clause-less c = c.loop-words.invariant.2

pub returns-clause-read : goal.returns-clause-read
returns-clause-read c = c.loop-words.invariant.1
