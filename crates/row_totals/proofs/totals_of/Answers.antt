use Rattle.std.proofs.Common.{List, ℕ, ◌≡◌, ◌∙◌, arith, get_or, length, ap, sym, subst, replicate, IfOk}
use Rattle.std.proofs.lemmas.List.{get_or-replicate, length-replicate}
use Rattle.std.proofs.lemmas.Result.{IfOk-from_err}
use Rattle.std.specs.List.{AllByRecursion}
use Rattle.sched_base.specs.Tables.{all_rows}
use Rattle.row_totals.specs.Sums.{Adds, NamesAmong}
use Rattle.row_totals.proofs.SumLemmas.{sums_are, written_back}
use Rattle.row_totals.proofs.totals_of.Goals as goal

pub returns : goal.returns
returns c =
    let zeros : c.deref_mut.result.now ≡ replicate c.args.tasks 0 = c.deref_mut.ensures.value ∙ c.in_ok-sums.ensures in
    let adds : Adds (all_rows c.args.table.now.lanes) (replicate c.args.tasks 0) c.add_lanes.new.sums =
    subst (λ sums. Adds (all_rows c.args.table.now.lanes) sums c.add_lanes.new.sums) zeros c.add_lanes.ensures in
    let count : length c.deref_mut.result.now ≡ c.args.tasks = ap length zeros ∙ length-replicate c.args.tasks 0 in
    let long : length c.add_lanes.new.sums ≡ c.args.tasks = c.add_lanes.auto.sums ∙ count in
    let room : c.in_ok-sums.sums.len ≡ c.args.tasks = sym c.deref_mut.ensures.len ∙ count in
    let kept : c.deref.result.now ≡ c.add_lanes.new.sums =
    c.deref.ensures.value ∙ written_back c.add_lanes.new.sums c.in_ok-sums.sums.items c.in_ok-sums.sums.len (long ∙ sym room)
    (ap length (sym c.deref_mut.ensures.value) ∙ c.deref_mut.ensures.len) in
    subst (λ sums. IfOk c.totals_from.result (λ t. t.ticks ≡ sums)) (kept ∙ sums_are c.args.tasks c.args.table.now.lanes c.add_lanes.new.sums long adds)
    c.totals_from.ensures

pub returns-in_err-sums : goal.returns-in_err-sums
returns-in_err-sums c = IfOk-from_err _ _ c.from_residual.ensures.0

pub add_lanes-requires-clause-names : goal.add_lanes-requires-clause-names
add_lanes-requires-clause-names c =
    let count = ap length (c.deref_mut.ensures.value ∙ c.in_ok-sums.ensures) ∙ length-replicate c.args.tasks 0 in
    subst (λ (n : ℕ). AllByRecursion (NamesAmong n) c.args.table.now.lanes) (sym count) c.requires

pub add_lanes-requires-clause-none : goal.add_lanes-requires-clause-none
add_lanes-requires-clause-none c = λ i within.
    let zeros = c.deref_mut.ensures.value ∙ c.in_ok-sums.ensures in
    let count = ap length zeros ∙ length-replicate c.args.tasks 0 in
    ap (λ (sums : List ℕ). get_or sums i 0) zeros ∙ get_or-replicate c.args.tasks i 0 0 (omega (arith, within, count))
