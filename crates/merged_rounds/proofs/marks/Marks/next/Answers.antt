use Rattle.std.proofs.Common.{◌∙◌, ℕ, Bool, List, false, ap, arith, get_or, length, sym}
use Rattle.merged_rounds.specs.Marks.{is_marked}
use Rattle.merged_rounds.proofs.WordLemmas.{length-marks, unmarked_list}
use Rattle.merged_rounds.proofs.marks.Marks.next.Goals as goal

pub next_marked-requires-clause-from : goal.next_marked-requires-clause-from
next_marked-requires-clause-from c =
    let many = length-marks c.self.inside.words.items c.self.inside.count in
    let long = ap (λ (xs : List Bool). length xs) c.self.view_is in
    let within = c.requires in
    omega (arith, many, long, within)

pub returns-clause-within : goal.returns-clause-within
returns-clause-within c =
    let many = length-marks c.self.inside.words.items c.self.inside.count in
    let long = ap (λ (xs : List Bool). length xs) c.self.view_is in
    let within = c.next_marked.ensures.within in
    omega (arith, many, long, within)

pub returns-clause-skipped : goal.returns-clause-skipped
returns-clause-skipped c = λ j up low.
    ap (λ (xs : List Bool). get_or xs j false) (sym c.self.view_is)
    ∙ unmarked_list c.self.inside.words.items c.self.inside.count c.args.from c.next_marked.result c.next_marked.ensures.within
    (λ i from to. ap (λ (ws : List ℕ). is_marked ws i) (sym c.deref.ensures.value) ∙ c.next_marked.ensures.skipped i from to) j up low
