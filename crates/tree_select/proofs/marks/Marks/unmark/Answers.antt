use Rattle.std.proofs.Common.{◌∙◌, ℕ, Bool, List, false, ap, arith, length}
use Rattle.std.proofs.Math.ListN.{set}
use Rattle.tree_select.specs.Marks.{is_marked, marks_by}
use Rattle.tree_select.proofs.MarkWords.{length-marks, marks_set, written}
use Rattle.tree_select.proofs.marks.Marks.unmark.Goals as goal

pub clear_bit-requires : goal.clear_bit-requires
clear_bit-requires c =
    let many = length-marks c.self.inside.words.items c.self.inside.count in
    let long = ap (λ (xs : List Bool). length xs) c.self.view_is in
    let room = c.self.invariant in
    let same = ap (λ (xs : List ℕ). length xs) c.deref_mut.ensures.value in
    let within = c.requires in
    omega (arith, many, long, room, same, within)

pub returns : goal.returns
returns c =
    let inside = c.self.inside in
    let many = length-marks inside.words.items inside.count in
    let long = ap (λ (xs : List Bool). length xs) c.self.view_is in
    let within = c.requires in
    let was = c.deref_mut.ensures.value in
    ap (λ (ws : List ℕ). marks_by ws inside.count) (written inside.words c.deref_mut.result.now c.clear_bit.new.words was c.clear_bit.auto.words)
    ∙ marks_set inside.words.items c.clear_bit.new.words inside.count c.args.n.0 false (omega (arith, many, long, within)) c.clear_bit.ensures.own
    (λ k ne. c.clear_bit.ensures.rest k ne ∙ ap (λ (ws : List ℕ). is_marked ws k) was)
    ∙ ap (λ (xs : List Bool). set xs c.args.n.0 false) c.self.view_is
