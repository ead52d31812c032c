use Rattle.std.proofs.Common.{◌∙◌, ◌+◌, ◌-◌, ◌*◌, ◌/◌, ap, sym}
use Rattle.merged_rounds.proofs.KeptLemmas.{all_by_kept}
use Rattle.merged_rounds.proofs.copies.count_by_kept.Goals as goal

pub count_all-requires-clause-all : goal.count_all-requires-clause-all
count_all-requires-clause-all c =
    let turn = c.end-turn.result in
    let last = c.rounds_end-last.result - 1 in
    let rest = c.starts_before-rest.result in
    let is = c.starts_before-rest.ensures in
    all_by_kept c.args.plan.now c.know_lawful.ensures.lawful c.requires.can c.args.kept.now c.requires.kept c.requires.turns c.requires.within turn last rest
    c.end-turn.ensures (ap (λ n. n - 1) c.rounds_end-last.ensures.value) is.some is.within is.begun is.next
    ∙ ap (λ n. last / turn * n + rest) (sym c.rounds.ensures)
