use Rattle.std.proofs.Common.{arith, refl, ◌≡◌, ◌∙◌, ◌++◌, List, ap, sym, subst, length, map, take, drop}
use Rattle.sched_base.specs.Tables.{IsRound, end_after}
use Rattle.merged_rows.specs.Merging.{merged}
use Rattle.merged_rows.specs.Columns.{AreGoingOn, AreShown, Begun, MergedContents, lanes_up_to, showing_each}
use Rattle.merged_rows.proofs.ChangedLemmas.{on_shown}
use Rattle.merged_rows.proofs.ColumnLemmas.{length-lanes_up_to, with_next, written_back}
use Rattle.merged_rows.proofs.merging.MergedRows.add_changed.Goals as goal

pub show_changed-requires-clause-whole : goal.show_changed-requires-clause-whole
show_changed-requires-clause-whole c =
    let lanes = c.self.inside.lanes in
    c.requires.whole ∙ ap (λ (m : MergedContents). length m.lanes) (sym c.self.view_is) ∙ length-lanes_up_to 0 c.self.inside.end lanes.items
    ∙ ap length (sym c.as_mut_slice.ensures.value)

pub show_changed-requires-clause-within : goal.show_changed-requires-clause-within
show_changed-requires-clause-within c = λ k l.
    let lanes = c.self.inside.lanes in
    let whole = ap (λ (m : MergedContents). length m.lanes) (sym c.self.view_is) ∙ length-lanes_up_to 0 c.self.inside.end lanes.items
    ∙ ap length (sym c.as_mut_slice.ensures.value) in
    let w = c.requires.within k l in
    omega (arith, w, whole)

pub returns-clause-merged : goal.returns-clause-merged
returns-clause-merged c = λ lanes rows is round to shows.
    let held = c.self.inside.lanes in
    let start = c.self.inside.end in
    let end = c.args.end in
    let changed = c.args.changed.now in
    let said = c.args.shown.now in
    let shows' : AreShown (lanes_up_to 0 start held.items) changed said rows = subst (λ (m : MergedContents). AreShown m.lanes changed said rows)
    (sym c.self.view_is) shows in
    let whole : length rows ≡ length held.items = shows.long ∙ c.requires.whole ∙ ap (λ (m : MergedContents). length m.lanes) (sym c.self.view_is)
    ∙ length-lanes_up_to 0 start held.items in
    let round' : IsRound start rows = subst (λ (m : MergedContents). IsRound m.end rows) (sym c.self.view_is) round in
    let to' : end_after start rows ≡ end = subst (λ (m : MergedContents). end_after m.end rows ≡ end) (sym c.self.view_is) to in
    let before : lanes_up_to 0 start held.items ≡ map merged lanes = ap (λ (m : MergedContents). m.lanes) c.self.view_is ∙ is in
    let going : AreGoingOn held.items start changed said c.show_changed.new.lanes (length changed) =
    subst (λ (ls : List (List Begun)). AreGoingOn ls start changed said c.show_changed.new.lanes (length changed)) c.as_mut_slice.ensures.value
    c.in_ok-show_changed.ensures.shown in
    let shown : c.show_changed.new.lanes ≡ showing_each held.items start rows = on_shown held.items start changed said c.show_changed.new.lanes rows whole
    shows' going in
    let back : take held.len (c.show_changed.new.lanes ++ drop (length c.show_changed.new.lanes) held.items) ≡ showing_each held.items start rows =
    written_back held.items c.as_mut_slice.result.now c.show_changed.new.lanes (showing_each held.items start rows) held.len c.as_mut_slice.ensures.value
    c.as_mut_slice.ensures.len c.show_changed.auto.lanes shown in
    ap (lanes_up_to 0 end) back
    ∙ ap (λ n. lanes_up_to 0 n (showing_each held.items start rows)) (sym to')
    ∙ with_next start held.items lanes rows whole round' before

pub returns-clause-processors : goal.returns-clause-processors
returns-clause-processors c =
    let held = c.self.inside.lanes in
    let back : take held.len (c.show_changed.new.lanes ++ drop (length c.show_changed.new.lanes) held.items) ≡ c.show_changed.new.lanes =
    written_back held.items c.as_mut_slice.result.now c.show_changed.new.lanes c.show_changed.new.lanes held.len c.as_mut_slice.ensures.value
    c.as_mut_slice.ensures.len c.show_changed.auto.lanes refl in
    length-lanes_up_to 0 c.args.end _ ∙ ap length back ∙ c.show_changed.auto.lanes ∙ ap length c.as_mut_slice.ensures.value
    ∙ sym (ap (λ (m : MergedContents). length m.lanes) (sym c.self.view_is) ∙ length-lanes_up_to 0 c.self.inside.end held.items)
