use Rattle.std.proofs.Common.{◌∙◌, ℕ, Bool, List, false, ap, arith, get_or, length}
use Rattle.cpu_assign.proofs.StepLemmas.{written}
use Rattle.merged_rounds.specs.Marks.{is_marked, marks_by}
use Rattle.merged_rounds.proofs.WordLemmas.{length-marks, mark_at, marked_list}
use Rattle.merged_rounds.proofs.marks.Marks.mark.Goals as goal

pub set_mark-requires : goal.set_mark-requires
set_mark-requires c =
    let many = length-marks c.self.inside.words.items c.self.inside.count in
    let long = ap (λ (xs : List Bool). length xs) c.self.view_is in
    let room = c.self.invariant in
    let same = ap (λ (xs : List ℕ). length xs) c.deref_mut.ensures.value in
    let within = c.requires in
    omega (arith, many, long, room, same, within)

pub returns-clause-own : goal.returns-clause-own
returns-clause-own c =
    let many = length-marks c.self.inside.words.items c.self.inside.count in
    let long = ap (λ (xs : List Bool). length xs) c.self.view_is in
    let within = c.requires in
    let words = written c.self.inside.words c.deref_mut.result.now c.set_mark.new.words c.deref_mut.ensures.value c.set_mark.auto.words in
    ap (λ (ws : List ℕ). get_or (marks_by ws c.self.inside.count) c.args.k false) words ∙ mark_at c.set_mark.new.words c.self.inside.count c.args.k
    (omega (arith, many, long, within)) ∙ c.set_mark.ensures.own

pub returns-clause-rest : goal.returns-clause-rest
returns-clause-rest c = λ j on.
    let words = written c.self.inside.words c.deref_mut.result.now c.set_mark.new.words c.deref_mut.ensures.value c.set_mark.auto.words in
    ap (λ (ws : List ℕ). get_or (marks_by ws c.self.inside.count) j false) words
    ∙ marked_list c.self.inside.words.items c.set_mark.new.words c.self.inside.count (λ i e. c.set_mark.ensures.rest i (ap (λ (ws : List ℕ). is_marked ws i)
    c.deref_mut.ensures.value ∙ e)) j
    (ap (λ (xs : List Bool). get_or xs j false) c.self.view_is ∙ on)
