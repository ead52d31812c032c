use Rattle.std.proofs.Common.{ℕ, ◌≡◌, ◌+◌, ◌≤◌, ◌++◌, [], Some, None, Err, length, refl, ap, ◌∙◌, arith, Fits, w64}
use Rattle.std.proofs.lemmas.Result.{IfOk-from_err, err_from_is_err_and}
use Rattle.trace_check.specs.TailLines.{tail_lines}
use Rattle.trace_check.proofs.ReadingLemmas.{trace_read}
use Rattle.trace_check.proofs.ScaleTest.{is_scale_to}
use Rattle.trace_check.proofs.TailLemmas.{other_within, tail_few}
use Rattle.trace_check.proofs.SourceLemmas.{some_last, some_within, some_small, some_stops, tail_unread, rows_known, rows_few, row_told, tail_told}
use Rattle.trace_check.proofs.source_reading.read_rest.Goals as goal

first_fits : (from rows : ℕ) → from ≤ 256 → rows ≤ 2097152 → Fits w64 (6 + from + rows)
first_fits from rows a b = omega arith

place_fits : (from rows place : ℕ) → from ≤ 256 → rows ≤ 2097152 → place ≤ 2097410 → Fits w64 (6 + from + rows + place)
place_fits from rows place a b d = omega arith

pub overflow_add-first-2 : goal.overflow_add-first-2
overflow_add-first-2 g c =
    let (one, some, at) = c.in_ok-at.ensures.read in
    let few = rows_few _ _ _ _ _ _ (at [] (λ _. refl)) in
    let tasks = c.count.ensures.lawful.few_tasks in
    first_fits _ _ (omega (arith, tasks, c.from.ensures, c.count.ensures.value)) (omega (arith, c.len.ensures, few))

pub skip_rest-requires-clause-within : goal.skip_rest-requires-clause-within
skip_rest-requires-clause-within g c =
    let (one, some, at) = c.in_ok-at.ensures.read in
    some_within _ _ c.args.window.now c.read_rows.new.window _ one some

pub skip_rest-requires-clause-small : goal.skip_rest-requires-clause-small
skip_rest-requires-clause-small g c =
    let (one, some, at) = c.in_ok-at.ensures.read in
    some_small _ _ c.args.window.now c.read_rows.new.window _ one _ some c.requires.small

pub skip_rest-requires-clause-end : goal.skip_rest-requires-clause-end
skip_rest-requires-clause-end g c = c.in_ok-at.ensures.read.1.at_end

pub returns-in_err-skip_rest-clause-stops : goal.returns-in_err-skip_rest-clause-stops
returns-in_err-skip_rest-clause-stops g c =
    let (one, some, at) = c.in_ok-at.ensures.read in
    let (fault, is, same) = err_from_is_err_and c.from_residual-in_err-skip_rest.result c.from_residual-in_err-skip_rest.ensures.1 in
    rw (is, same) (some_stops _ _ _ _ _ _ c.args.window.now c.read_rows.new.window _ one _ some c.read_rows.ensures.later c.in_err-skip_rest.ensures.stops)

pub returns-then-is_fault-clause-stops : goal.returns-then-is_fault-clause-stops
returns-then-is_fault-clause-stops g c =
    let (one, some, at) = c.in_ok-at.ensures.read in
    let (two, last) = c.in_ok-skip_rest.ensures.rest in
    let line : 6 + length c.args.set.tasks + length c.read_rows.new.rows.rows ≡ 6 + c.from.result + c.len.result = omega (
      arith,
      c.from.ensures,
      c.count.ensures.value,
      c.len.ensures,
    ) in (
      one ++ two,
      some_last _ _ _ c.args.window.now c.read_rows.new.window _ one two some last,
      row_told c.args.head.now c.args.set.tasks c.args.window.now.ahead one two _ c.read_rows.new.rows.rows _ _ at (c.if-is_fault.ensures.fault refl)
          last.none ∙ ap Err line,
    )

pub read_tail_of-requires-clause-within : goal.read_tail_of-requires-clause-within
read_tail_of-requires-clause-within g c =
    let (one, some, at) = c.in_ok-at.ensures.read in
    some_within _ _ c.args.window.now c.read_rows.new.window _ one some

pub read_tail_of-requires-clause-small : goal.read_tail_of-requires-clause-small
read_tail_of-requires-clause-small g c =
    let (one, some, at) = c.in_ok-at.ensures.read in
    some_small _ _ c.args.window.now c.read_rows.new.window _ one _ some c.requires.small

pub read_tail_of-requires-clause-end : goal.read_tail_of-requires-clause-end
read_tail_of-requires-clause-end g c = c.in_ok-at.ensures.read.1.at_end

pub read_tail_of-requires-clause-scale : goal.read_tail_of-requires-clause-scale
read_tail_of-requires-clause-scale g c = (is_scale_to c.args.set.tasks c.args.head.now.scale c.requires.scale).1

pub read_tail_of-requires-clause-few : goal.read_tail_of-requires-clause-few
read_tail_of-requires-clause-few g c =
    let (one, some, at) = c.in_ok-at.ensures.read in
    (rows_known _ _ _ _ _ _ at (c.if-is_fault.ensures.other refl)).few

pub read_tail_of-requires-clause-totals : goal.read_tail_of-requires-clause-totals
read_tail_of-requires-clause-totals g c =
    let (one, some, at) = c.in_ok-at.ensures.read in
    rw c.deref.ensures.value ((rows_known _ _ _ _ _ _ at (c.if-is_fault.ensures.other refl)).totals)

pub read_tail_of-requires-clause-count : goal.read_tail_of-requires-clause-count
read_tail_of-requires-clause-count g c =
    let (one, some, at) = c.in_ok-at.ensures.read in
    ap length c.deref.ensures.value ∙ (rows_known _ _ _ _ _ _ at (c.if-is_fault.ensures.other refl)).count

pub returns-in_err-place-clause-stops : goal.returns-in_err-place-clause-stops
returns-in_err-place-clause-stops g c =
    let (one, some, at) = c.in_ok-at.ensures.read in
    let (fault, is, same) = err_from_is_err_and c.from_residual-in_err-place.result c.from_residual-in_err-place.ensures.1 in
    rw (is, same) (tail_unread _ _ _ _ _ _ c.args.window.now c.read_rows.new.window _ one c.args.head.now c.args.set.tasks _ some c.read_rows.ensures.later
    c.in_err-place.ensures.stops)

pub overflow_add-result : goal.overflow_add-result
overflow_add-result g c =
    let (one, some, at) = c.in_ok-at.ensures.read in
    let few = rows_few _ _ _ _ _ _ (at [] (λ _. refl)) in
    let tasks = c.count.ensures.lawful.few_tasks in
    let (two, last, told) = c.in_ok-place.ensures.read in
    let most = tail_few c.args.head.now.version c.args.set c.args.head.now.scale c.read_rows.new.rows.rows in
    let all = tail_lines c.args.head.now.version c.args.set c.args.head.now.scale c.read_rows.new.rows.rows in
    let within : c.in-Some.place ≤ length all = other_within all _ c.in-Some.place (told ∙ c.in-Some.is) in
    place_fits _ _ _ (omega (arith, tasks, c.from.ensures, c.count.ensures.value)) (omega (arith, c.len.ensures, few)) (omega (arith, most, within, tasks))

pub returns-in-Some-clause-stops : goal.returns-in-Some-clause-stops
returns-in-Some-clause-stops g c =
    let (one, some, at) = c.in_ok-at.ensures.read in
    let (two, last, told) = c.in_ok-place.ensures.read in
    let line : 6 + length c.args.set.tasks + length c.read_rows.new.rows.rows + c.in-Some.place ≡ 6 + c.from.result + c.len.result + c.in-Some.place
    = omega (arith, c.from.ensures, c.count.ensures.value, c.len.ensures) in (
      one ++ two,
      some_last _ _ _ c.args.window.now c.read_rows.new.window _ one two some last,
      tail_told c.args.head.now c.args.set c.args.window.now.ahead one two _ c.read_rows.new.rows.rows _ _ (Some c.in-Some.place) c.requires.set at
          (c.if-is_fault.ensures.other refl) last.none (told ∙ c.in-Some.is) ∙ ap Err line,
    )

pub returns-in-None-clause-read : goal.returns-in-None-clause-read
returns-in-None-clause-read g c =
    let (one, some, at) = c.in_ok-at.ensures.read in
    let (two, last, told) = c.in_ok-place.ensures.read in (
      one ++ two,
      some_last _ _ _ c.args.window.now c.read_rows.new.window _ one two some last,
      tail_told c.args.head.now c.args.set c.args.window.now.ahead one two _ c.read_rows.new.rows.rows _ _ None c.requires.set at
          (c.if-is_fault.ensures.other refl) last.none (told ∙ c.in-None.is),
    )

pub returns-in-None-clause-lawful : goal.returns-in-None-clause-lawful
returns-in-None-clause-lawful g c =
    let (one, some, at) = c.in_ok-at.ensures.read in
    let all = rows_known _ _ _ _ _ _ at (c.if-is_fault.ensures.other refl) in
    trace_read c.args.set c.args.head.now.scale c.read_rows.new.rows.rows c.requires.scale all.few all.each

pub returns-in_err-reader-clause-read : goal.returns-in_err-reader-clause-read
returns-in_err-reader-clause-read g c = IfOk-from_err _ _ c.from_residual.ensures.0

pub returns-in_err-reader-clause-lawful : goal.returns-in_err-reader-clause-lawful
returns-in_err-reader-clause-lawful g c = IfOk-from_err _ _ c.from_residual.ensures.0

pub returns-in_err-reader-clause-stops : goal.returns-in_err-reader-clause-stops
returns-in_err-reader-clause-stops g c = (let (fault, is, same) = err_from_is_err_and c.from_residual.result c.from_residual.ensures.1 in rw (is, same) tt)

pub read_rows-requires-clause-within : goal.read_rows-requires-clause-within
read_rows-requires-clause-within g c = c.requires.within

pub read_rows-requires-clause-small : goal.read_rows-requires-clause-small
read_rows-requires-clause-small g c = c.requires.small

pub read_rows-requires-clause-none : goal.read_rows-requires-clause-none
read_rows-requires-clause-none g c = c.in_ok-reader.ensures c.args.window.now.ahead

pub returns-in_err-at-clause-read : goal.returns-in_err-at-clause-read
returns-in_err-at-clause-read g c = IfOk-from_err _ _ c.from_residual-in_err-at.ensures.0

pub returns-in_err-at-clause-lawful : goal.returns-in_err-at-clause-lawful
returns-in_err-at-clause-lawful g c = IfOk-from_err _ _ c.from_residual-in_err-at.ensures.0

pub returns-in_err-skip_rest-clause-read : goal.returns-in_err-skip_rest-clause-read
returns-in_err-skip_rest-clause-read g c = IfOk-from_err _ _ c.from_residual-in_err-skip_rest.ensures.0

pub returns-in_err-skip_rest-clause-lawful : goal.returns-in_err-skip_rest-clause-lawful
returns-in_err-skip_rest-clause-lawful g c = IfOk-from_err _ _ c.from_residual-in_err-skip_rest.ensures.0

pub returns-in_err-place-clause-read : goal.returns-in_err-place-clause-read
returns-in_err-place-clause-read g c = IfOk-from_err _ _ c.from_residual-in_err-place.ensures.0

pub returns-in_err-place-clause-lawful : goal.returns-in_err-place-clause-lawful
returns-in_err-place-clause-lawful g c = IfOk-from_err _ _ c.from_residual-in_err-place.ensures.0
