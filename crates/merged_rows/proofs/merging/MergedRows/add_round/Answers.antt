use Rattle.std.proofs.Common.{◌≡◌, ◌∙◌, ◌++◌, ap, sym, subst, length, map, take, drop}
use Rattle.sched_base.specs.Tables.{IsRound, end_after}
use Rattle.merged_rows.specs.Merging.{merged}
use Rattle.merged_rows.specs.Columns.{MergedContents, lanes_up_to, showing_each, going_on_each, AreChangesTold}
use Rattle.merged_rows.proofs.ColumnLemmas.{length-lanes_up_to, length-going_on_each, told_is, with_next, written_back}
use Rattle.merged_rows.proofs.merging.MergedRows.add_round.Goals as goal

pub show_told-requires : goal.show_told-requires
show_told-requires c =
    let lanes = c.self.inside.lanes in
    record {
      whole = c.requires.whole ∙ ap (λ (m : MergedContents). length m.lanes) (sym c.self.view_is) ∙ length-lanes_up_to 0 c.self.inside.end lanes.items
          ∙ ap length (sym c.as_mut_slice.ensures.value);
    }

pub returns-clause-merged : goal.returns-clause-merged
returns-clause-merged c = λ lanes rows is round to told.
    let held = c.self.inside.lanes in
    let start = c.self.inside.end in
    let end = c.args.end in
    let said = c.args.told.now in
    let told' : AreChangesTold (lanes_up_to 0 start held.items) said rows = subst (λ (m : MergedContents). AreChangesTold m.lanes said rows)
    (sym c.self.view_is) told in
    let whole : length rows ≡ length held.items = told.long ∙ c.requires.whole ∙ ap (λ (m : MergedContents). length m.lanes) (sym c.self.view_is)
    ∙ length-lanes_up_to 0 start held.items in
    let round' : IsRound start rows = subst (λ (m : MergedContents). IsRound m.end rows) (sym c.self.view_is) round in
    let to' : end_after start rows ≡ end = subst (λ (m : MergedContents). end_after m.end rows ≡ end) (sym c.self.view_is) to in
    let before : lanes_up_to 0 start held.items ≡ map merged lanes = ap (λ (m : MergedContents). m.lanes) c.self.view_is ∙ is in
    let shown : c.show_told.new.lanes ≡ going_on_each held.items start said = c.in_ok-show_told.ensures.shown ∙ ap (λ ls. going_on_each ls start said)
    c.as_mut_slice.ensures.value in
    let back : take held.len (c.show_told.new.lanes ++ drop (length c.show_told.new.lanes) held.items) ≡ going_on_each held.items start said =
    written_back held.items c.as_mut_slice.result.now c.show_told.new.lanes (going_on_each held.items start said) held.len c.as_mut_slice.ensures.value
    c.as_mut_slice.ensures.len c.show_told.auto.lanes shown in
    ap (lanes_up_to 0 end) (back ∙ told_is 0 start held.items said rows told')
    ∙ ap (λ n. lanes_up_to 0 n (showing_each held.items start rows)) (sym to')
    ∙ with_next start held.items lanes rows whole round' before

pub returns-clause-processors : goal.returns-clause-processors
returns-clause-processors c =
    let held = c.self.inside.lanes in
    let start = c.self.inside.end in
    let said = c.args.told.now in
    let shown : c.show_told.new.lanes ≡ going_on_each held.items start said = c.in_ok-show_told.ensures.shown ∙ ap (λ ls. going_on_each ls start said)
    c.as_mut_slice.ensures.value in
    let back : take held.len (c.show_told.new.lanes ++ drop (length c.show_told.new.lanes) held.items) ≡ going_on_each held.items start said =
    written_back held.items c.as_mut_slice.result.now c.show_told.new.lanes (going_on_each held.items start said) held.len c.as_mut_slice.ensures.value
    c.as_mut_slice.ensures.len c.show_told.auto.lanes shown in
    length-lanes_up_to 0 c.args.end _ ∙ ap length back ∙ length-going_on_each held.items start said
    ∙ sym (ap (λ (m : MergedContents). length m.lanes) (sym c.self.view_is) ∙ length-lanes_up_to 0 start held.items)
