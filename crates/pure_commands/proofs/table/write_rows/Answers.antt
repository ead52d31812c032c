use Rattle.std.proofs.Common.{ap, arith}
use Rattle.sched_base.specs.Sets.{SetContents}
use Rattle.sched_base.specs.Tables.{all_rows}
use Rattle.repeat_laws.proofs.Deciding.{unit_within}
use Rattle.pure_commands.proofs.table.write_rows.Goals as goal

pub write_table-requires-clause-from : goal.write_table-requires-clause-from
write_table-requires-clause-from g c =
    let p = c.args.plan.now in
    let within = unit_within p.set p.tree.scale (all_rows c.args.rows.now.lanes) in
    let from = c.requires.from in
    let same = ap (λ (s : SetContents). s.horizon) c.set.ensures.value in
    omega (arith, within, from, same)

pub returns-clause-wrote : goal.returns-clause-wrote
returns-clause-wrote g c =
    rw (← c.requires.rows)
    (rw (c.set.ensures.value, c.scale.ensures.value, c.requires.from) at c.write_table.ensures.wrote)
