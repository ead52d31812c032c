use Rattle.std.proofs.Common.{ℕ, ◌≤◌, Fits, w32, Err, arith}
use Rattle.std.proofs.lemmas.Result.{err_from_is_err_and, IfOk-from_err}
use Rattle.text_words.specs.Words.{lines_of}
use Rattle.trace_check.proofs.ScaleTest.{is_scale_to}
use Rattle.tree_check.specs.Written.{Written}
use Rattle.tree_reader.proofs.ReadingLemmas.{body_count, written_is}
use Rattle.tree_reader.proofs.reading.read_body.Goals as goal

pub returns-in_err-count-clause-fault : goal.returns-in_err-count-clause-fault
returns-in_err-count-clause-fault c =
    let why = err_from_is_err_and c.from_residual.result c.from_residual.ensures.1 in
    rw (why.1, why.2) (body_count c.args.set c.args.scale _ (lines_of c.args.text.now) (Err c.in_err-count.field-0.0.line) (omega arith)
    c.in_err-count.ensures.fault)

pub read_idles-requires-clause-scale : goal.read_idles-requires-clause-scale
read_idles-requires-clause-scale c = (is_scale_to c.args.set.tasks c.args.scale c.requires).1

pub read_levels-requires-clause-scale : goal.read_levels-requires-clause-scale
read_levels-requires-clause-scale c = (is_scale_to c.args.set.tasks c.args.scale c.requires).1

pub new-requires : goal.new-requires
new-requires c =
    let w : Written = record { set = c.args.set; scale = c.args.scale; idles = c.in_ok-idles.idles.items; levels = c.in_ok-levels.levels.items } in
    written_is w c.count.ensures.lawful c.requires (omega (arith, c.in_ok-idles.ensures.count, c.in_ok-count.ensures.limits)) c.in_ok-idles.ensures.each
    c.in_ok-levels.ensures.some c.in_ok-levels.ensures.lawful
    (omega (arith, c.in_ok-levels.ensures.lines, c.from-after_tasks.ensures, c.count.ensures.value, c.len.ensures))

pub returns-in_err-count-clause-tree : goal.returns-in_err-count-clause-tree
returns-in_err-count-clause-tree c = IfOk-from_err _ _ c.from_residual.ensures.0

pub returns-in_err-idles-clause-tree : goal.returns-in_err-idles-clause-tree
returns-in_err-idles-clause-tree c = IfOk-from_err _ _ c.from_residual-in_err-idles.ensures.0

pub returns-in_err-levels-clause-tree : goal.returns-in_err-levels-clause-tree
returns-in_err-levels-clause-tree c = IfOk-from_err _ _ c.from_residual-in_err-levels.ensures.0

count_fits : (n : ℕ) → n ≤ 1024 → Fits w32 n
count_fits n few = omega (arith, few)

pub overflow_cast-count : goal.overflow_cast-count
overflow_cast-count c = count_fits _ c.in_ok-count.ensures.limits.1

pub read_idles-requires-clause-count : goal.read_idles-requires-clause-count
read_idles-requires-clause-count c = c.in_ok-count.ensures.limits.1
