use Rattle.std.proofs.Common.{◌≡◌, ◌∙◌, true, false, rules, sym}
use Rattle.sched_base.specs.Tables.{lane_of}
use Rattle.merged_rows.proofs.FirstLemmas.{merged_from, held_on, held_off}
use Rattle.merged_rows.proofs.neighbours.first_merged.Goals as goal

pub loop-next-init : goal.loop-next-init
loop-next-init c = merged_from (lane_of c.args.table.now.lanes c.args.p) c.args.k c.row-held.result c.row-held.ensures.value

pub loop-next-preserved : goal.loop-next-preserved
loop-next-preserved c =
    let told : c.goes_on.result ≡ true = search rules in
    c.loop-next.invariant ∙ held_on (lane_of c.args.table.now.lanes c.args.p) c.loop-next.next c.loop-next.held c.row-row.result c.row-row.ensures.value
    (sym c.goes_on.ensures ∙ told)

pub returns-then-not-goes_on-clause-first : goal.returns-then-not-goes_on-clause-first
returns-then-not-goes_on-clause-first c =
    let told : c.goes_on.result ≡ false = search rules in
    c.loop-next.invariant ∙ held_off (lane_of c.args.table.now.lanes c.args.p) c.loop-next.next c.loop-next.held c.row-row.result c.row-row.ensures.value
    (sym c.goes_on.ensures ∙ told)
