use Rattle.std.proofs.Common.{[], ◌++◌, drop, length, refl, subst, sym, ap, ◌∙◌, append_assoc}
use Rattle.std.proofs.lemmas.List.{take_at}
use Rattle.std.proofs.lemmas.Result.{IfOk-from_err}
use Rattle.trace_check.specs.WholeRows.{AreRowsOf}
use Rattle.trace_check.proofs.RestLemmas.{no_more, rest_within}
use Rattle.trace_check.proofs.RunLemmas.{run_taken}
use Rattle.trace_check.proofs.WholeRowLemmas.{rows_more}
use Rattle.trace_check.proofs.row_reader.RowReader.take_run.Goals as goal

pub run_row-requires-clause-totals : goal.run_row-requires-clause-totals
run_row-requires-clause-totals c =
    let so = c.loop-words.invariant.1 c.requires.0 c.requires.1 in
    rw c.deref.ensures.value so.totals

pub run_row-requires-clause-count : goal.run_row-requires-clause-count
run_row-requires-clause-count c =
    let so = c.loop-words.invariant.1 c.requires.0 c.requires.1 in
    ap length c.deref.ensures.value ∙ so.count

pub add_ticks-requires-clause-totals : goal.add_ticks-requires-clause-totals
add_ticks-requires-clause-totals c =
    let so = c.loop-words.invariant.1 c.requires.0 c.requires.1 in
    rw c.deref_mut.ensures.value so.totals

pub add_ticks-requires-clause-count : goal.add_ticks-requires-clause-count
add_ticks-requires-clause-count c =
    let so = c.loop-words.invariant.1 c.requires.0 c.requires.1 in
    ap length c.deref_mut.ensures.value ∙ so.count

pub loop-words-preserved : goal.loop-words-preserved
loop-words-preserved c =
    let tasks = c.args.set.now.tasks in
    let done = c.loop-words.self.rows in
    let w = c.in-Some-run_words.words.words in
    let later = w.later.now in
    let old = c.loop-words.self.totals in
    let new = c.add_ticks.new.totals in
    let long = c.add_ticks.auto.totals ∙ ap length c.deref_mut.ensures.value in
    let back = take_at new (drop (length new) old.items) old.len (long ∙ sym old.ok.0) in
    let says = c.in-Some-run_words.ensures.says in
    let gone = c.loop-words.invariant.0.0 in (
      (gone ++ says.split.0, c.loop-words.invariant.0.1 ∙ ap (λ t. gone ++ t) says.split.1 ∙ sym (append_assoc gone says.split.0 later)),
      λ whole so. subst (λ sums. AreRowsOf tasks whole c.push.new.self sums later) (sym back)
          (rows_more tasks whole c.loop-words.rest.now later done c.push.new.self c.in-Some-run_row.row old.items new (c.loop-words.invariant.1 whole so)
          c.in-Some-run_row.ensures.read
          (run_taken tasks done c.in-Some-run_row.row c.loop-words.rest.now w says c.in-Some-run_row.ensures.row) c.in_ok-push.ensures c.add_ticks.ensures
          long),
    )

pub returns-in_default-clause-split : goal.returns-in_default-clause-split
returns-in_default-clause-split c = ([], refl)

pub returns-in_default-clause-less : goal.returns-in_default-clause-less
returns-in_default-clause-less c = no_more _

pub returns-in_default-clause-read : goal.returns-in_default-clause-read
returns-in_default-clause-read c = λ whole so. so

pub returns-in_default-short-clause-split : goal.returns-in_default-short-clause-split
returns-in_default-short-clause-split c = ([], refl)

pub returns-in_default-short-clause-less : goal.returns-in_default-short-clause-less
returns-in_default-short-clause-less c = no_more _

pub returns-in_default-short-clause-read : goal.returns-in_default-short-clause-read
returns-in_default-short-clause-read c = λ whole so. so

pub loop-words-init : goal.loop-words-init
loop-words-init c = (([], refl), λ whole so. so)

pub run_row-requires-clause-leaf : goal.run_row-requires-clause-leaf
run_row-requires-clause-leaf c = c.in-Some-run_words.ensures.leaf

pub run_row-requires-clause-known : goal.run_row-requires-clause-known
run_row-requires-clause-known c = c.in-Some-run_words.ensures.known

pub add_ticks-requires-clause-read : goal.add_ticks-requires-clause-read
add_ticks-requires-clause-read c = c.in-Some-run_row.ensures.read

pub returns-in_err-push-clause-split : goal.returns-in_err-push-clause-split
returns-in_err-push-clause-split c = IfOk-from_err _ _ c.from_residual.ensures.0

pub returns-in_err-push-clause-less : goal.returns-in_err-push-clause-less
returns-in_err-push-clause-less c = IfOk-from_err _ _ c.from_residual.ensures.0

pub returns-in_err-push-clause-read : goal.returns-in_err-push-clause-read
returns-in_err-push-clause-read c = IfOk-from_err _ _ c.from_residual.ensures.0

pub loop-words-smaller : goal.loop-words-smaller
loop-words-smaller c = c.in-Some-run_words.ensures.says.less

pub returns-clause-split : goal.returns-clause-split
returns-clause-split c = c.loop-words.invariant.0

pub returns-clause-less : goal.returns-clause-less
returns-clause-less c = rest_within _ c.loop-words.invariant.0.0 _ c.loop-words.invariant.0.1

pub returns-clause-read : goal.returns-clause-read
returns-clause-read c = c.loop-words.invariant.1
