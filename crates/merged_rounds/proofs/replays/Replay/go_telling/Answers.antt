use Rattle.std.proofs.Common.{◌∙◌, ℕ, ◌<◌, List, ap, arith, length, get_or, subst}
use Rattle.sched_base.specs.Places.{Placing}
use Rattle.run_tree.proofs.ScheduleLemmas.{length-places}
use Rattle.run_tree.specs.Boundaries.{set_boundary}
use Rattle.event_core.specs.Told.{AreTold}
use Rattle.event_core.proofs.OneRound.{length-last}
use Rattle.merged_rounds.proofs.ReplaySteps.{others_same, stays}
use Rattle.merged_rounds.proofs.replays.Replay.go_telling.Goals as goal

pub tell_places-count-requires-clause-packs : goal.tell_places-count-requires-clause-packs
tell_places-count-requires-clause-packs c = λ k l.
    let e = c.seen.ensures.packs in
    let p = c.args.plan.now in
    let b = c.go-end.ensures.belongs in
    let last = ap (λ (w : Placing). length w.last) b.places ∙ length-last p c.go-end.result in
    let w = c.go-end.ensures.placed.within k (subst (λ (xs : List ℕ). k < length xs) e l) in
    let at = ap (λ (xs : List ℕ). get_or xs k 0) e in
    omega (arith, last, w, at)

pub tell_places-count-requires-clause-room : goal.tell_places-count-requires-clause-room
tell_places-count-requires-clause-room c =
    let long = ap (λ (xs : List ℕ). length xs) c.seen.ensures.packs in
    let most = c.seen.ensures.room in
    let room = c.go-end.ensures.belongs.room in
    let told = c.requires.room in
    omega (arith, long, most, room, told)

pub returns-clause-processors : goal.returns-clause-processors
returns-clause-processors c = λ j l.
    let p = c.args.plan.now in
    let within = c.tell_places-count.ensures.told.processors j l in
    let onto = ap (λ (w : Placing). length w.onto) c.go-end.ensures.belongs.places ∙ length-places (set_boundary p.set.tasks) p.tree c.go-end.result in
    omega (arith, within, onto)

pub returns-clause-others : goal.returns-clause-others
returns-clause-others c = λ q before none l away up.
    let p = c.args.plan.now in
    let r' = c.go-end.new.self in
    let tells = subst (λ (xs : List ℕ). AreTold r'.places xs c.tell_places-count.new.told (length xs) c.tell_places-count.result) c.seen.ensures.packs
    c.tell_places-count.ensures.told in
    others_same p c.know_lawful.ensures.lawful c.args.start c.go-end.result c.args.self.now r' c.requires.belongs c.go-end.ensures.belongs
    c.go-end.ensures.round c.go-end.ensures.placed
    c.know_noted.ensures c.know_noted-2.ensures c.tell_places-count.new.told c.tell_places-count.result tells q l away before up none

pub returns-clause-placed : goal.returns-clause-placed
returns-clause-placed c = λ q l away.
    let r' = c.go-end.new.self in
    let tells = subst (λ (xs : List ℕ). AreTold r'.places xs c.tell_places-count.new.told (length xs) c.tell_places-count.result) c.seen.ensures.packs
    c.tell_places-count.ensures.told in
    stays c.args.plan.now c.know_lawful.ensures.lawful c.args.start c.go-end.result c.args.self.now r' c.requires.belongs c.go-end.ensures.belongs
    c.go-end.ensures.round c.go-end.ensures.placed
    c.know_noted.ensures c.know_noted-2.ensures c.tell_places-count.new.told c.tell_places-count.result tells q l away
