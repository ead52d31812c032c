use Rattle.std.proofs.Common.{sym, refl}
use Rattle.trace_check.proofs.FrontLemmas.{front_is}
use Rattle.trace_check.proofs.front.front_of.Goals as goal

pub returns-clause-front : goal.returns-clause-front
returns-clause-front c =
    let h = c.in-Ok.ensures.read in
    front_is c.args.text.now c.in-Ok.rest.now c.in-Ok-read_tasks.rest.now c.in-Ok.head h.0 c.in-Ok-read_tasks.set _ c.requires h.1 h.2
    c.in-Ok-read_tasks.ensures.tasks
    c.in-Ok-read_tasks.ensures.processors c.in-Ok-read_tasks.ensures.horizon (sym c.if-not-is_empty.ensures) (sym c.if-not-is_scale.ensures) refl refl refl
