use Rattle.std.proofs.Common.{rules, arith}
use Rattle.sched_edges.proofs.Wrote.{wrote_part}
use Rattle.run_tool.specs.ModeTexts.{mode_part}
use Rattle.pure_commands.proofs.NumberedLemmas.{item_at, none_written, more_written, part_written}
use Rattle.run_tool.proofs.mode_text.write_each.Goals as goal

pub loop-j-init : goal.loop-j-init
loop-j-init g c = record { written = none_written mode_part c.args.modes.now.modes _; later = search rules }

pub loop-j-preserved : goal.loop-j-preserved
loop-j-preserved g c =
    let (m, at) = item_at c.args.modes.now.modes c.loop-j.j (omega arith) in
    record {
      written = more_written mode_part c.args.modes.now.modes c.loop-j.j m _ _ _ at c.loop-j.invariant.written (c.in_ok-write_mode.ensures.wrote m at).ok;
      later = search rules;
    }

pub returns-in_err-write_mode-clause-wrote : goal.returns-in_err-write_mode-clause-wrote
returns-in_err-write_mode-clause-wrote g c =
    let (m, at) = item_at c.args.modes.now.modes c.loop-j.j (omega arith) in
    wrote_part _ _ _ c.from_residual.result c.from_residual.ensures.0
    (part_written mode_part c.args.modes.now.modes c.loop-j.j m _ _ _ at c.loop-j.invariant.written (c.in_err-write_mode.ensures.wrote m at).err)
