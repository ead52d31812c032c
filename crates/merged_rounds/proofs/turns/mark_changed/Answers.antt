use Rattle.std.proofs.Common.{◌∙◌, arith, get_or, sym}
use Rattle.merged_rounds.proofs.turns.mark_changed.Goals as goal

pub mark-requires : goal.mark-requires
mark-requires c = λ k e.
    let within = c.loop-j.invariant.within (get_or c.args.changed.now c.loop-j.j 0) k (sym c.held_by-before.ensures ∙ e) in
    let long = c.loop-j.invariant.long in
    omega (arith, within, long)

pub mark-requires-in-loop-j : goal.mark-requires-in-loop-j
mark-requires-in-loop-j c = λ k e.
    let within = c.requires.now (get_or c.args.changed.now c.loop-j.j 0) k (sym c.pack_on-pack.ensures ∙ e) in
    let long = c.loop-j.invariant.long in
    let more = c.mark.ensures.long in
    omega (arith, within, long, more)

pub returns-clause-long : goal.returns-clause-long
returns-clause-long c = c.loop-j.invariant.long
