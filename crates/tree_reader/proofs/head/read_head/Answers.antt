use Rattle.std.proofs.Common.{refl, ℕ, ◌<◌, ◌≤◌, ◌^◌, ◌-◌, Fits, w32, w64, arith}
use Rattle.std.proofs.lemmas.Result.{err_from_is_err_and, IfOk-from_err}
use Rattle.text_words.specs.Words.{lines_of}
use Rattle.trace_format.specs.declared.versions.Version.TheVariants.{One}
use Rattle.trace_check.proofs.HeadLemmas.{capped_is}
use Rattle.tree_reader.proofs.HeadLemmas.{stops_at_version, stops_at_processors, stops_at_horizon, stops_at_scale, stops_at_tasks}
use Rattle.tree_reader.proofs.ReadingLemmas.{head_is}
use Rattle.tree_reader.proofs.head.read_head.Goals as goal

fits_32 : (n : ℕ) → n ≤ 32 → Fits w32 n
fits_32 n h = omega arith

fits_64 : (n : ℕ) → n ≤ 2 ^ 32 - 1 → Fits w64 n
fits_64 n h = omega arith

fits_tasks : (n : ℕ) → n ≤ 256 → Fits w32 n
fits_tasks n h = omega arith

below : (n : ℕ) → n ≤ 2 ^ 32 - 1 → n < 2 ^ 32
below n h = omega arith

pub returns-clause-read : goal.returns-clause-read
returns-clause-read c =
    let s = c.in_ok-scale.ensures.read in (
      record { version = One; processors = c.in_ok-processors.processors; horizon = c.in_ok-horizon.horizon; scale = s.0; tasks = c.in_ok-tasks.tasks },
      head_is (lines_of c.args.text.now) (lines_of c.in_ok-_version.rest.now) (lines_of c.in_ok-processors.rest.now) (lines_of c.in_ok-horizon.rest.now)
          (lines_of c.in_ok-scale.rest.now) (lines_of c.in_ok-tasks.rest.now)
          c.in_ok-_version._version c.in_ok-processors.processors c.in_ok-horizon.horizon s.0 c.in_ok-tasks.tasks
          c.in_ok-_version.ensures.read c.in_ok-processors.ensures.read c.in_ok-horizon.ensures.read s.1 c.in_ok-tasks.ensures.read,
      capped_is One 1 c.in_ok-processors.processors c.in_ok-horizon.horizon c.in_ok-scale.scale s.0 c.in_ok-tasks.tasks refl s.2,
    )

pub returns-in_err-_version-clause-fault : goal.returns-in_err-_version-clause-fault
returns-in_err-_version-clause-fault c =
    let why = err_from_is_err_and c.from_residual.result c.from_residual.ensures.1 in
    rw (why.1, why.2) (stops_at_version (lines_of c.args.text.now) c.in_err-_version.field-0.0.line
    c.in_err-_version.ensures.fault)

pub returns-in_err-processors-clause-fault : goal.returns-in_err-processors-clause-fault
returns-in_err-processors-clause-fault c =
    let why = err_from_is_err_and c.from_residual-in_err-processors.result c.from_residual-in_err-processors.ensures.1 in
    rw (why.1, why.2) (stops_at_processors (lines_of c.args.text.now) (lines_of c.in_ok-_version.rest.now) c.in_ok-_version._version
    c.in_err-processors.field-0.0.line
    c.in_ok-_version.ensures.read c.in_err-processors.ensures.fault)

pub returns-in_err-horizon-clause-fault : goal.returns-in_err-horizon-clause-fault
returns-in_err-horizon-clause-fault c =
    let why = err_from_is_err_and c.from_residual-in_err-horizon.result c.from_residual-in_err-horizon.ensures.1 in
    rw (why.1, why.2) (stops_at_horizon (lines_of c.args.text.now) (lines_of c.in_ok-_version.rest.now) (lines_of c.in_ok-processors.rest.now)
    c.in_ok-_version._version c.in_ok-processors.processors c.in_err-horizon.field-0.0.line
    c.in_ok-_version.ensures.read c.in_ok-processors.ensures.read c.in_err-horizon.ensures.fault)

pub returns-in_err-scale-clause-fault : goal.returns-in_err-scale-clause-fault
returns-in_err-scale-clause-fault c =
    let why = err_from_is_err_and c.from_residual-in_err-scale.result c.from_residual-in_err-scale.ensures.1 in
    rw (why.1, why.2) (stops_at_scale (lines_of c.args.text.now) (lines_of c.in_ok-_version.rest.now) (lines_of c.in_ok-processors.rest.now)
    (lines_of c.in_ok-horizon.rest.now) c.in_ok-_version._version c.in_ok-processors.processors c.in_ok-horizon.horizon c.in_err-scale.field-0.0.line
    c.in_ok-_version.ensures.read c.in_ok-processors.ensures.read c.in_ok-horizon.ensures.read c.in_err-scale.ensures.fault)

pub returns-in_err-tasks-clause-fault : goal.returns-in_err-tasks-clause-fault
returns-in_err-tasks-clause-fault c =
    let s = c.in_ok-scale.ensures.read in
    let why = err_from_is_err_and c.from_residual-in_err-tasks.result c.from_residual-in_err-tasks.ensures.1 in
    rw (why.1, why.2) (stops_at_tasks (lines_of c.args.text.now) (lines_of c.in_ok-_version.rest.now) (lines_of c.in_ok-processors.rest.now)
    (lines_of c.in_ok-horizon.rest.now) (lines_of c.in_ok-scale.rest.now) c.in_ok-_version._version c.in_ok-processors.processors
    c.in_ok-horizon.horizon s.0 c.in_err-tasks.field-0.0.line
    c.in_ok-_version.ensures.read c.in_ok-processors.ensures.read c.in_ok-horizon.ensures.read s.1 c.in_err-tasks.ensures.fault)

pub returns-in_err-_version-clause-read : goal.returns-in_err-_version-clause-read
returns-in_err-_version-clause-read c = IfOk-from_err _ _ c.from_residual.ensures.0

pub returns-in_err-_version-clause-version : goal.returns-in_err-_version-clause-version
returns-in_err-_version-clause-version c = IfOk-from_err _ _ c.from_residual.ensures.0

pub returns-in_err-_version-clause-processors : goal.returns-in_err-_version-clause-processors
returns-in_err-_version-clause-processors c = IfOk-from_err _ _ c.from_residual.ensures.0

pub returns-in_err-_version-clause-horizon : goal.returns-in_err-_version-clause-horizon
returns-in_err-_version-clause-horizon c = IfOk-from_err _ _ c.from_residual.ensures.0

pub returns-in_err-_version-clause-tasks : goal.returns-in_err-_version-clause-tasks
returns-in_err-_version-clause-tasks c = IfOk-from_err _ _ c.from_residual.ensures.0

pub returns-in_err-processors-clause-read : goal.returns-in_err-processors-clause-read
returns-in_err-processors-clause-read c = IfOk-from_err _ _ c.from_residual-in_err-processors.ensures.0

pub returns-in_err-processors-clause-version : goal.returns-in_err-processors-clause-version
returns-in_err-processors-clause-version c = IfOk-from_err _ _ c.from_residual-in_err-processors.ensures.0

pub returns-in_err-processors-clause-processors : goal.returns-in_err-processors-clause-processors
returns-in_err-processors-clause-processors c = IfOk-from_err _ _ c.from_residual-in_err-processors.ensures.0

pub returns-in_err-processors-clause-horizon : goal.returns-in_err-processors-clause-horizon
returns-in_err-processors-clause-horizon c = IfOk-from_err _ _ c.from_residual-in_err-processors.ensures.0

pub returns-in_err-processors-clause-tasks : goal.returns-in_err-processors-clause-tasks
returns-in_err-processors-clause-tasks c = IfOk-from_err _ _ c.from_residual-in_err-processors.ensures.0

pub returns-in_err-horizon-clause-read : goal.returns-in_err-horizon-clause-read
returns-in_err-horizon-clause-read c = IfOk-from_err _ _ c.from_residual-in_err-horizon.ensures.0

pub returns-in_err-horizon-clause-version : goal.returns-in_err-horizon-clause-version
returns-in_err-horizon-clause-version c = IfOk-from_err _ _ c.from_residual-in_err-horizon.ensures.0

pub returns-in_err-horizon-clause-processors : goal.returns-in_err-horizon-clause-processors
returns-in_err-horizon-clause-processors c = IfOk-from_err _ _ c.from_residual-in_err-horizon.ensures.0

pub returns-in_err-horizon-clause-horizon : goal.returns-in_err-horizon-clause-horizon
returns-in_err-horizon-clause-horizon c = IfOk-from_err _ _ c.from_residual-in_err-horizon.ensures.0

pub returns-in_err-horizon-clause-tasks : goal.returns-in_err-horizon-clause-tasks
returns-in_err-horizon-clause-tasks c = IfOk-from_err _ _ c.from_residual-in_err-horizon.ensures.0

pub returns-in_err-scale-clause-read : goal.returns-in_err-scale-clause-read
returns-in_err-scale-clause-read c = IfOk-from_err _ _ c.from_residual-in_err-scale.ensures.0

pub returns-in_err-scale-clause-version : goal.returns-in_err-scale-clause-version
returns-in_err-scale-clause-version c = IfOk-from_err _ _ c.from_residual-in_err-scale.ensures.0

pub returns-in_err-scale-clause-processors : goal.returns-in_err-scale-clause-processors
returns-in_err-scale-clause-processors c = IfOk-from_err _ _ c.from_residual-in_err-scale.ensures.0

pub returns-in_err-scale-clause-horizon : goal.returns-in_err-scale-clause-horizon
returns-in_err-scale-clause-horizon c = IfOk-from_err _ _ c.from_residual-in_err-scale.ensures.0

pub returns-in_err-scale-clause-tasks : goal.returns-in_err-scale-clause-tasks
returns-in_err-scale-clause-tasks c = IfOk-from_err _ _ c.from_residual-in_err-scale.ensures.0

pub returns-in_err-tasks-clause-read : goal.returns-in_err-tasks-clause-read
returns-in_err-tasks-clause-read c = IfOk-from_err _ _ c.from_residual-in_err-tasks.ensures.0

pub returns-in_err-tasks-clause-version : goal.returns-in_err-tasks-clause-version
returns-in_err-tasks-clause-version c = IfOk-from_err _ _ c.from_residual-in_err-tasks.ensures.0

pub returns-in_err-tasks-clause-processors : goal.returns-in_err-tasks-clause-processors
returns-in_err-tasks-clause-processors c = IfOk-from_err _ _ c.from_residual-in_err-tasks.ensures.0

pub returns-in_err-tasks-clause-horizon : goal.returns-in_err-tasks-clause-horizon
returns-in_err-tasks-clause-horizon c = IfOk-from_err _ _ c.from_residual-in_err-tasks.ensures.0

pub returns-in_err-tasks-clause-tasks : goal.returns-in_err-tasks-clause-tasks
returns-in_err-tasks-clause-tasks c = IfOk-from_err _ _ c.from_residual-in_err-tasks.ensures.0

pub returns-clause-fault : goal.returns-clause-fault
returns-clause-fault c = tt

pub returns-clause-version : goal.returns-clause-version
returns-clause-version c = refl

pub returns-clause-processors : goal.returns-clause-processors
returns-clause-processors c = c.in_ok-processors.ensures.limits

pub returns-clause-tasks : goal.returns-clause-tasks
returns-clause-tasks c = c.in_ok-tasks.ensures.limits.1

pub next_number-requires : goal.next_number-requires
next_number-requires _ = omega arith

pub next_number-requires-2 : goal.next_number-requires-2
next_number-requires-2 _ = omega arith

pub next_number-requires-3 : goal.next_number-requires-3
next_number-requires-3 _ = omega arith

pub next_number-requires-4 : goal.next_number-requires-4
next_number-requires-4 _ = omega arith

pub overflow_cast-head : goal.overflow_cast-head
overflow_cast-head c = fits_32 _ c.in_ok-processors.ensures.limits.1

pub overflow_cast-head-2 : goal.overflow_cast-head-2
overflow_cast-head-2 c = fits_64 _ c.in_ok-horizon.ensures.limits.1

pub overflow_cast-head-3 : goal.overflow_cast-head-3
overflow_cast-head-3 c = fits_tasks _ c.in_ok-tasks.ensures.limits.1

pub returns-clause-horizon : goal.returns-clause-horizon
returns-clause-horizon c = (c.in_ok-horizon.ensures.limits.0, below _ c.in_ok-horizon.ensures.limits.1)
