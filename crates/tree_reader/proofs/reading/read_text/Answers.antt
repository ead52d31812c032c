use Rattle.std.proofs.Common.{sym}
use Rattle.std.proofs.lemmas.Result.{err_from_is_err_and, IfOk-from_err}
use Rattle.text_words.specs.Words.{lines_of}
use Rattle.trace_check.proofs.ReadingLemmas.{set_is}
use Rattle.tree_reader.specs.Reading.{reading, body}
use Rattle.tree_reader.proofs.ReadingLemmas.{stops_in_head, stops_in_tasks, stops_at_scale, reading_body, ok_same, err_same}
use Rattle.tree_reader.proofs.reading.read_text.Goals as goal

pub returns-in_err-head-clause-fault : goal.returns-in_err-head-clause-fault
returns-in_err-head-clause-fault c =
    let why = err_from_is_err_and c.from_residual.result c.from_residual.ensures.1 in
    rw (why.1, why.2) (stops_in_head c.args.bytes.now c.in_err-head.field-0.0.line c.in_err-head.ensures.fault)

pub returns-in_err-set-clause-fault : goal.returns-in_err-set-clause-fault
returns-in_err-set-clause-fault c =
    let why = err_from_is_err_and c.from_residual-in_err-set.result c.from_residual-in_err-set.ensures.1 in
    let h = c.in_ok-head.ensures.read in
    rw (why.1, why.2) (stops_in_tasks c.args.bytes.now c.in_ok-head.head h.0 (lines_of c.in_ok-head.rest.now) c.in_err-set.field-0.0 h.1 h.2
    c.in_ok-head.ensures.version c.in_err-set.ensures.fault)

pub returns-then-not-is_scale-clause-fault : goal.returns-then-not-is_scale-clause-fault
returns-then-not-is_scale-clause-fault c =
    let h = c.in_ok-head.ensures.read in
    stops_at_scale c.args.bytes.now c.in_ok-head.head h.0 (lines_of c.in_ok-head.rest.now) (lines_of c.in_ok-set.rest.now) c.in_ok-set.set.tasks h.1 h.2
    c.in_ok-head.ensures.version
    c.in_ok-set.ensures.tasks (sym c.if-not-is_scale.ensures)

pub returns-clause-tree : goal.returns-clause-tree
returns-clause-tree c =
    let h = c.in_ok-head.ensures.read in
    let head = c.in_ok-head.head in
    let set = c.in_ok-set.set in
    let same = set_is set head c.in_ok-set.ensures.processors c.in_ok-set.ensures.horizon in
    let whole = reading_body c.args.bytes.now head h.0 (lines_of c.in_ok-head.rest.now) (lines_of c.in_ok-set.rest.now) set h.1 h.2
    c.in_ok-head.ensures.version c.in_ok-set.ensures.tasks (sym c.if-not-is_scale.ensures) same in
    ok_same c.read_body.result (reading c.args.bytes.now) (body set head.scale (lines_of c.in_ok-set.rest.now)) whole c.read_body.ensures.tree

pub returns-clause-fault : goal.returns-clause-fault
returns-clause-fault c =
    let h = c.in_ok-head.ensures.read in
    let head = c.in_ok-head.head in
    let set = c.in_ok-set.set in
    let same = set_is set head c.in_ok-set.ensures.processors c.in_ok-set.ensures.horizon in
    let whole = reading_body c.args.bytes.now head h.0 (lines_of c.in_ok-head.rest.now) (lines_of c.in_ok-set.rest.now) set h.1 h.2
    c.in_ok-head.ensures.version c.in_ok-set.ensures.tasks (sym c.if-not-is_scale.ensures) same in
    err_same c.read_body.result (reading c.args.bytes.now) (body set head.scale (lines_of c.in_ok-set.rest.now)) whole c.read_body.ensures.fault

pub returns-in_err-head-clause-tree : goal.returns-in_err-head-clause-tree
returns-in_err-head-clause-tree c = IfOk-from_err _ _ c.from_residual.ensures.0

pub returns-in_err-set-clause-tree : goal.returns-in_err-set-clause-tree
returns-in_err-set-clause-tree c = IfOk-from_err _ _ c.from_residual-in_err-set.ensures.0

pub read_tasks-requires-clause-some_processors : goal.read_tasks-requires-clause-some_processors
read_tasks-requires-clause-some_processors c = c.in_ok-head.ensures.processors.0

pub read_tasks-requires-clause-few_processors : goal.read_tasks-requires-clause-few_processors
read_tasks-requires-clause-few_processors c = c.in_ok-head.ensures.processors.1

pub read_tasks-requires-clause-some_horizon : goal.read_tasks-requires-clause-some_horizon
read_tasks-requires-clause-some_horizon c = c.in_ok-head.ensures.horizon.0

pub read_tasks-requires-clause-horizon_fits : goal.read_tasks-requires-clause-horizon_fits
read_tasks-requires-clause-horizon_fits c = c.in_ok-head.ensures.horizon.1

pub read_tasks-requires-clause-few_tasks : goal.read_tasks-requires-clause-few_tasks
read_tasks-requires-clause-few_tasks c = c.in_ok-head.ensures.tasks
