use Rattle.std.proofs.Common.{◌≡◌, ◌∙◌, ℕ, ◌<◌, List, Option, None, ap, arith, get_or, length, subst, sym}
use Rattle.sched_base.specs.Places.{Placing}
use Rattle.run_tree.specs.Boundaries.{set_boundary}
use Rattle.run_tree.proofs.ScheduleLemmas.{length-places}
use Rattle.event_core.specs.Cores.{places_of}
use Rattle.merged_rounds.specs.Changes.{IsNone}
use Rattle.merged_rounds.specs.Laps.{IsAllTold}
use Rattle.merged_rounds.specs.Replays.{AreHolding, AreStill}
use Rattle.merged_rounds.proofs.MarkLemmas.{holds_now, last_on, packs_held, packs_listed, still_now}
use Rattle.std.proofs.lemmas.Result.{IfOk-from_err}
use Rattle.merged_rounds.proofs.turns.turn_next.Goals as goal

pub mark_changed-requires-clause-within : goal.mark_changed-requires-clause-within
mark_changed-requires-clause-within c = λ j l.
    let many = c.first_of-seen.ensures.long in
    let m : j < c.in_ok-count.count = omega (arith, l, many) in
    let e = c.first_of-seen.ensures.each j m in
    let w = c.in_ok-count.ensures.changed.processors j m in
    let long = c.requires.holds.long in
    omega (arith, e, w, long)

pub mark_changed-requires-clause-long : goal.mark_changed-requires-clause-long
mark_changed-requires-clause-long c =
    let p = c.args.plan.now in
    c.requires.holds.long ∙ sym (ap (λ (w : Placing). length w.onto) c.places.ensures ∙ length-places (set_boundary p.set.tasks) p.tree
    c.merge_telling.new.source.tick)

pub mark_changed-requires-clause-before : goal.mark_changed-requires-clause-before
mark_changed-requires-clause-before c = λ q k at.
    let going = c.requires.going in
    let w = packs_listed c.args.plan.now c.know_lawful.ensures.lawful going.showing.start c.args.source.now.tick going.showing.round c.args.holds.now
    c.requires.holds q k at in
    let long = c.forget.ensures in
    let marks = c.requires.marks in
    omega (arith, w, long, marks)

pub mark_changed-requires-clause-now : goal.mark_changed-requires-clause-now
mark_changed-requires-clause-now c = λ q k at.
    let w = packs_held c.args.plan.now c.know_lawful.ensures.lawful c.args.source.now.tick c.merge_telling.new.source.tick c.in_ok-count.ensures.round q k
    (ap (λ (w : Placing). get_or w.onto q None) (sym c.places.ensures) ∙ at) in
    let long = c.forget.ensures in
    let marks = c.requires.marks in
    omega (arith, w, long, marks)

pub keep_round-requires-clause-leaves : goal.keep_round-requires-clause-leaves
keep_round-requires-clause-leaves c =
    let p = c.args.plan.now in
    let start = c.args.source.now.tick in
    let end = c.merge_telling.new.source.tick in
    let told = c.merge_telling.new.told in
    let all : IsAllTold p start end told = c.in_ok-count.ensures.told.all start c.in_ok-count.ensures.round in
    subst (λ (n : ℕ). IsAllTold p c.now-start.result n told) (sym c.now-end.ensures) (subst (λ (n : ℕ). IsAllTold p n end told) (sym c.now-start.ensures) all)

pub keep_round-requires-clause-still : goal.keep_round-requires-clause-still
keep_round-requires-clause-still c = λ some.
    let p = c.args.plan.now in
    let start = c.args.source.now.tick in
    let end = c.merge_telling.new.source.tick in
    let seen = c.first_of-seen.result.now in
    let e = c.in_ok-count.ensures in
    let m = c.mark_changed.ensures in
    let onto = ap (λ (w : Placing). w.onto) c.places.ensures in
    let each : (j : ℕ) → j < length seen → get_or c.mark_changed.new.holds (get_or seen j 0) None ≡ get_or (places_of p end).onto (get_or seen j 0) None =
    (λ j l. m.each j l ∙ ap (λ (os : List (Option ℕ)). get_or os (get_or seen j 0) None) onto) in
    let now : AreHolding p end c.mark_changed.new.holds =
    holds_now p start end seen c.merge_telling.new.changed c.in_ok-count.count c.first_of-seen.ensures.long c.first_of-seen.ensures.each c.args.holds.now
    c.mark_changed.new.holds c.requires.holds e.placed each m.rest c.mark_changed.auto.holds in
    let many = c.first_of-seen.ensures.long in
    let not_seen : (q : ℕ) → IsNone seen (length seen) q → get_or c.merge_telling.new.told q None ≡ get_or c.args.told.now q None =
    (λ q away. e.still q (λ k l at. away k (omega (arith, l, many)) (c.first_of-seen.ensures.each k l ∙ at))) in
    let going = c.requires.going in
    let before = going.showing.start in
    let gone = going.showing.round in
    let turn = c.args.turn.now in
    subst (λ (w : Placing). AreStill w.onto c.merge_telling.new.told turn.last.items c.mark_changed.new.marks 0) (sym c.places-2.ensures)
    (still_now p c.know_lawful.ensures.lawful c.requires.can before start end gone c.args.told.now c.merge_telling.new.told turn.last.items
    (going.leaves.all before gone) (last_on p turn before start going.turn going.end gone some) going.turn.long
    c.args.holds.now c.mark_changed.new.holds c.requires.holds now c.mark_changed.new.marks seen m.rest m.held
    (λ j k l at. m.marked j k l (ap (λ (os : List (Option ℕ)). get_or os (get_or seen j 0) None) onto ∙ at)) not_seen)

pub returns-clause-holds : goal.returns-clause-holds
returns-clause-holds c =
    let p = c.args.plan.now in
    let start = c.args.source.now.tick in
    let end = c.merge_telling.new.source.tick in
    let seen = c.first_of-seen.result.now in
    let e = c.in_ok-count.ensures in
    let m = c.mark_changed.ensures in
    let onto = ap (λ (w : Placing). w.onto) c.places.ensures in
    let each : (j : ℕ) → j < length seen → get_or c.mark_changed.new.holds (get_or seen j 0) None ≡ get_or (places_of p end).onto (get_or seen j 0) None =
    (λ j l. m.each j l ∙ ap (λ (os : List (Option ℕ)). get_or os (get_or seen j 0) None) onto) in
    let now : AreHolding p end c.mark_changed.new.holds =
    holds_now p start end seen c.merge_telling.new.changed c.in_ok-count.count c.first_of-seen.ensures.long c.first_of-seen.ensures.each c.args.holds.now
    c.mark_changed.new.holds c.requires.holds e.placed each m.rest c.mark_changed.auto.holds in
    now

pub returns-clause-going : goal.returns-clause-going
returns-clause-going c = record {
  showing = c.in_ok-count.ensures.showing;
  turn = c.in_ok-keep_round.ensures.turn;
  end = c.in_ok-keep_round.ensures.end ∙ c.now-end.ensures;
  leaves = c.in_ok-count.ensures.told;
}

pub keep_round-requires-clause-marks : goal.keep_round-requires-clause-marks
keep_round-requires-clause-marks c = c.mark_changed.ensures.long ∙ c.forget.ensures ∙ c.requires.marks

pub returns-clause-long : goal.returns-clause-long
returns-clause-long c = c.mark_changed.ensures.long ∙ c.forget.ensures ∙ c.requires.marks

pub returns-in_err-count-clause-going : goal.returns-in_err-count-clause-going
returns-in_err-count-clause-going c = IfOk-from_err _ _ c.from_residual.ensures.0

pub returns-in_err-count-clause-long : goal.returns-in_err-count-clause-long
returns-in_err-count-clause-long c = IfOk-from_err _ _ c.from_residual.ensures.0

pub returns-in_err-count-clause-holds : goal.returns-in_err-count-clause-holds
returns-in_err-count-clause-holds c = IfOk-from_err _ _ c.from_residual.ensures.0

pub returns-in_err-count-clause-later : goal.returns-in_err-count-clause-later
returns-in_err-count-clause-later c = IfOk-from_err _ _ c.from_residual.ensures.0

pub returns-in_err-keep_round-clause-going : goal.returns-in_err-keep_round-clause-going
returns-in_err-keep_round-clause-going c = IfOk-from_err _ _ c.from_residual-in_err-keep_round.ensures.0

pub returns-in_err-keep_round-clause-long : goal.returns-in_err-keep_round-clause-long
returns-in_err-keep_round-clause-long c = IfOk-from_err _ _ c.from_residual-in_err-keep_round.ensures.0

pub returns-in_err-keep_round-clause-holds : goal.returns-in_err-keep_round-clause-holds
returns-in_err-keep_round-clause-holds c = IfOk-from_err _ _ c.from_residual-in_err-keep_round.ensures.0

pub returns-in_err-keep_round-clause-later : goal.returns-in_err-keep_round-clause-later
returns-in_err-keep_round-clause-later c = IfOk-from_err _ _ c.from_residual-in_err-keep_round.ensures.0
