use Rattle.std.proofs.Common.{◌≡◌, ◌∙◌, length, ap, sym, subst, replicate}
use Rattle.std.proofs.lemmas.List.{length-replicate}
use Rattle.sched_base.specs.Tables.{all_rows}
use Rattle.row_totals.specs.Sums.{Adds}
use Rattle.row_totals.proofs.SumLemmas.{sums_are, written_back}
use Rattle.merged_rows.proofs.totals.totals_of_merged.Goals as goal

pub returns : goal.returns
returns c =
    let rows = all_rows c.args.rows.now.lanes in
    let zeros : c.deref_mut.result.now ≡ replicate c.args.tasks 0 = c.deref_mut.ensures.value ∙ c.in_ok-sums.ensures in
    let adds : Adds rows (replicate c.args.tasks 0) c.add_lanes.new.sums = subst (λ sums. Adds rows sums c.add_lanes.new.sums) zeros c.add_lanes.ensures in
    let count : length c.deref_mut.result.now ≡ c.args.tasks = ap length zeros ∙ length-replicate c.args.tasks 0 in
    let long : length c.add_lanes.new.sums ≡ c.args.tasks = c.add_lanes.auto.sums ∙ count in
    let room : c.in_ok-sums.sums.len ≡ c.args.tasks = sym c.deref_mut.ensures.len ∙ count in
    written_back c.add_lanes.new.sums c.in_ok-sums.sums.items c.in_ok-sums.sums.len (long ∙ sym room) (ap length (sym c.deref_mut.ensures.value)
    ∙ c.deref_mut.ensures.len)
    ∙ sums_are c.args.tasks c.args.rows.now.lanes c.add_lanes.new.sums long adds
