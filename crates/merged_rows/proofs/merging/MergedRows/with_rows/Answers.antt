use Rattle.std.proofs.Common.{◌≡◌, ◌∙◌, ◌++◌, ap, sym, subst, length, map, take, drop}
use Rattle.sched_base.specs.Tables.{IsRound}
use Rattle.merged_rows.specs.Merging.{merged}
use Rattle.merged_rows.specs.Columns.{MergedContents, lanes_up_to, showing_each}
use Rattle.merged_rows.proofs.ColumnLemmas.{length-lanes_up_to, length-showing_each, with_next, written_back}
use Rattle.merged_rows.proofs.merging.MergedRows.with_rows.Goals as goal

pub show_each-requires : goal.show_each-requires
show_each-requires c =
    let lanes = c.self.inside.lanes in
    record {
      whole = c.requires.whole ∙ ap (λ (m : MergedContents). length m.lanes) (sym c.self.view_is) ∙ length-lanes_up_to 0 c.self.inside.end lanes.items
          ∙ ap length (sym c.as_mut_slice.ensures.value);
    }

pub returns-clause-merged : goal.returns-clause-merged
returns-clause-merged c = λ lanes is.
    let held = c.self.inside.lanes in
    let start = c.self.inside.end in
    let rows = c.args.rows.now in
    let whole : length rows ≡ length held.items = c.requires.whole ∙ ap (λ (m : MergedContents). length m.lanes) (sym c.self.view_is) ∙ length-lanes_up_to 0
    start held.items in
    let round : IsRound start rows = subst (λ (m : MergedContents). IsRound m.end rows) (sym c.self.view_is) c.requires.round in
    let before : lanes_up_to 0 start held.items ≡ map merged lanes = ap (λ (m : MergedContents). m.lanes) c.self.view_is ∙ is in
    let shown : c.show_each.new.lanes ≡ showing_each held.items start rows = c.in_ok-show_each.ensures.shown ∙ ap (λ ls. showing_each ls start rows)
    c.as_mut_slice.ensures.value in
    let back : take held.len (c.show_each.new.lanes ++ drop (length c.show_each.new.lanes) held.items) ≡ showing_each held.items start rows =
    written_back held.items c.as_mut_slice.result.now c.show_each.new.lanes (showing_each held.items start rows) held.len c.as_mut_slice.ensures.value
    c.as_mut_slice.ensures.len c.show_each.auto.lanes shown in
    ap (lanes_up_to 0 c.end_of_round.result) back
    ∙ ap (λ end. lanes_up_to 0 end (showing_each held.items start rows)) c.end_of_round.ensures
    ∙ with_next start held.items lanes rows whole round before

pub returns-clause-processors : goal.returns-clause-processors
returns-clause-processors c =
    let held = c.self.inside.lanes in
    let start = c.self.inside.end in
    let rows = c.args.rows.now in
    let shown : c.show_each.new.lanes ≡ showing_each held.items start rows = c.in_ok-show_each.ensures.shown ∙ ap (λ ls. showing_each ls start rows)
    c.as_mut_slice.ensures.value in
    let back : take held.len (c.show_each.new.lanes ++ drop (length c.show_each.new.lanes) held.items) ≡ showing_each held.items start rows =
    written_back held.items c.as_mut_slice.result.now c.show_each.new.lanes (showing_each held.items start rows) held.len c.as_mut_slice.ensures.value
    c.as_mut_slice.ensures.len c.show_each.auto.lanes shown in
    length-lanes_up_to 0 c.end_of_round.result _ ∙ ap length back ∙ length-showing_each held.items start rows
    ∙ sym (ap (λ (m : MergedContents). length m.lanes) (sym c.self.view_is) ∙ length-lanes_up_to 0 start held.items)
