use Rattle.std.proofs.Common.{◌∙◌, List, ap, length, subst, sym}
use Rattle.merged_rows.specs.Columns.{AreGoingOn, Begun, lanes_up_to}
use Rattle.merged_rounds.specs.declared.sums.RoundSum.{RoundSum}
use Rattle.merged_rounds.specs.Changes.{leaves_in}
use Rattle.merged_rounds.proofs.SumLemmas.{ends_on, lanes_whole, seen_on, sum_on}
use Rattle.merged_rounds.proofs.sums.add_seen.Goals as goal

pub show_seen-requires-clause-many : goal.show_seen-requires-clause-many
show_seen-requires-clause-many c =
    c.know_begun.ensures.many ∙ lanes_whole c.args.plan.now c.in_ok-rounds.ensures.lawful c.args.start c.args.source.now.tick c.requires.round
    c.args.sum.now c.requires.sum

pub returns-clause-sum : goal.returns-clause-sum
returns-clause-sum c =
    let p = c.args.plan.now in
    let h = c.in_ok-rounds.ensures.lawful in
    let start = c.args.start in
    let end = c.args.source.now.tick in
    let sum = c.args.sum.now in
    let changed = c.args.changed.now in
    let next : RoundSum = record { rows = c.go_to.new.self; rounds = c.in_ok-rounds.rounds } in
    let to = c.go_to.ensures.end ∙ c.now-end.ensures in
    let going = subst (λ (ls : List (List Begun)). AreGoingOn sum.rows.begun sum.rows.end changed (leaves_in p start end) ls (length changed))
    (sym c.go_to.ensures.begun) c.in_ok-show_seen.ensures.going in
    let lanes = seen_on p h start end c.requires.round sum c.requires.sum next changed c.know_begun.ensures.many c.know_begun.ensures.lanes
    (c.know_begun-2.ensures.lanes ∙ ap (λ n. lanes_up_to 0 n next.rows.begun) to) c.requires.shown going in
    sum_on p h start end c.requires.round sum c.requires.sum next lanes c.in_ok-rounds.ensures.count c.in_ok-rounds.ensures.few to

pub returns-clause-ends : goal.returns-clause-ends
returns-clause-ends c =
    let p = c.args.plan.now in
    let h = c.in_ok-rounds.ensures.lawful in
    let start = c.args.start in
    let end = c.args.source.now.tick in
    let sum = c.args.sum.now in
    let changed = c.args.changed.now in
    let next : RoundSum = record { rows = c.go_to.new.self; rounds = c.in_ok-rounds.rounds } in
    let to = c.go_to.ensures.end ∙ c.now-end.ensures in
    let going = subst (λ (ls : List (List Begun)). AreGoingOn sum.rows.begun sum.rows.end changed (leaves_in p start end) ls (length changed))
    (sym c.go_to.ensures.begun) c.in_ok-show_seen.ensures.going in
    let lanes = seen_on p h start end c.requires.round sum c.requires.sum next changed c.know_begun.ensures.many c.know_begun.ensures.lanes
    (c.know_begun-2.ensures.lanes ∙ ap (λ n. lanes_up_to 0 n next.rows.begun) to) c.requires.shown going in
    λ q r at. ends_on p h start end c.requires.round sum c.requires.sum next lanes q r at
