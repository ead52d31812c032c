use Rattle.run_tree.specs.Plans.{stop_of}
use Rattle.event_core.specs.Rounds.{IsRoundUpTo, rows_of_round}
use Rattle.std.proofs.Common.{◌<◌, ◌≡◌, ap, arith, get_or, length, subst, sym, List, None, ℕ}
use Rattle.event_core.specs.Cores.{CoreContents, IsCoreOf}
use Rattle.event_core.specs.States.{contents}
use Rattle.event_core.proofs.KeptLemmas.{stop_fits}
use Rattle.event_core.proofs.OneRound.{last_long, onto_long}
use Rattle.event_core.specs.Told.{AreHeldTold}
use Rattle.event_core.proofs.ToldLemmas.{shows_same, stays}
use Rattle.event_core.proofs.cores.Core.go_telling.Goals as goal

pub invariant_of-self : goal.invariant_of-self
invariant_of-self c =
    let p = c.args.plan.now in
    let h = c.know_lawful.ensures.lawful in
    let before = contents c.self.inside.state in
    let after = contents c.run_round.new.state in
    let old = subst (λ (k : CoreContents). IsCoreOf p k) (sym c.self.view_is) c.requires.belongs in
    let new = c.run_round.ensures.core in
    let packs = c.self.invariant.0 in
    let room = c.run_round.ensures.room in
    let last = last_long p h before old.at in
    let last' = last_long p h after new.at in
    let early = new.at.early in
    let most = stop_fits p h in
    (omega (arith, packs, room, last, last'), omega (arith, early, most))

pub run_round-requires-clause-room : goal.run_round-requires-clause-room
run_round-requires-clause-room c =
    let old = subst (λ (k : CoreContents). IsCoreOf c.args.plan.now k) (sym c.self.view_is) c.requires.belongs in
    let room = c.self.invariant.0 in
    let last = last_long c.args.plan.now c.know_lawful.ensures.lawful (contents c.self.inside.state) old.at in
    omega (arith, room, last)

pub run_round-requires-clause-plan : goal.run_round-requires-clause-plan
run_round-requires-clause-plan c = c.know_lawful.ensures.lawful

pub run_round-requires-clause-core : goal.run_round-requires-clause-core
run_round-requires-clause-core c = subst (λ (k : CoreContents). IsCoreOf c.args.plan.now k) (sym c.self.view_is) c.requires.belongs

pub run_round-requires-clause-early : goal.run_round-requires-clause-early
run_round-requires-clause-early c = subst (λ (k : CoreContents). k.tick < stop_of c.args.plan.now) (sym c.self.view_is) c.requires.early

pub returns-clause-belongs : goal.returns-clause-belongs
returns-clause-belongs c = c.run_round.ensures.core

pub returns-clause-round : goal.returns-clause-round
returns-clause-round c = subst (λ (k : CoreContents). IsRoundUpTo c.args.plan.now k.tick c.run_round.new.state.dues.tick) c.self.view_is
    c.run_round.ensures.round

pub tell_places-requires-clause-packs : goal.tell_places-requires-clause-packs
tell_places-requires-clause-packs c = λ k l.
    let e = c.seen.ensures.packs in
    let last = last_long c.args.plan.now c.know_lawful.ensures.lawful (contents c.run_round.new.state) c.run_round.ensures.core.at in
    let w = c.run_round.ensures.seen.within k (subst (λ (xs : List ℕ). k < length xs) e l) in
    let at = ap (λ (xs : List ℕ). get_or xs k 0) e in
    omega (arith, last, w, at)

pub tell_places-requires-clause-room : goal.tell_places-requires-clause-room
tell_places-requires-clause-room c =
    let old = subst (λ (k : CoreContents). IsCoreOf c.args.plan.now k) (sym c.self.view_is) c.requires.belongs in
    let long = ap (λ (xs : List ℕ). length xs) c.seen.ensures.packs in
    let most = c.seen.ensures.room in
    let room = c.run_round.ensures.room in
    let packs = c.self.invariant.0 in
    let last = last_long c.args.plan.now c.know_lawful.ensures.lawful (contents c.self.inside.state) old.at in
    let told = c.requires.room in
    omega (arith, long, most, room, packs, last, told)

pub returns-clause-processors : goal.returns-clause-processors
returns-clause-processors c = λ j l.
    let within = c.tell_places.ensures.told.processors j l in
    let onto = onto_long c.args.plan.now c.know_lawful.ensures.lawful (contents c.run_round.new.state) c.run_round.ensures.core.at in
    omega (arith, within, onto)

pub returns-clause-others : goal.returns-clause-others
returns-clause-others c = λ q start none l no on_time before.
    let p = c.args.plan.now in
    let s = c.self.inside.state in
    let next = c.run_round.new.state in
    let old = subst (λ (k : CoreContents). IsCoreOf p k) (sym c.self.view_is) c.requires.belongs in
    let (runs, long, changed, placed) = c.run_round.ensures.placed in
    let tells = subst (λ (xs : List ℕ). AreHeldTold next.places.onto xs c.tell_places.new.told (length xs) c.tell_places.result) c.seen.ensures.packs
    c.tell_places.ensures.told in
    subst (λ (k : CoreContents). IsRoundUpTo p start k.tick → (get_or (rows_of_round p k.tick next.dues.tick) q none).leaf ≡ (get_or (rows_of_round p start
    k.tick) q none).leaf) c.self.view_is
    (λ r. shows_same p c.know_lawful.ensures.lawful (contents s) (contents next) old c.run_round.ensures.core c.run_round.ensures.round runs long
    c.run_round.new.changes changed placed
    c.know_noted.ensures c.run_round.ensures.seen c.tell_places.new.told c.tell_places.result tells q l no start none on_time r) before

pub returns-clause-placed : goal.returns-clause-placed
returns-clause-placed c = λ q l no.
    let p = c.args.plan.now in
    let s = c.self.inside.state in
    let next = c.run_round.new.state in
    let old = subst (λ (k : CoreContents). IsCoreOf p k) (sym c.self.view_is) c.requires.belongs in
    let (runs, long, changed, placed) = c.run_round.ensures.placed in
    let tells = subst (λ (xs : List ℕ). AreHeldTold next.places.onto xs c.tell_places.new.told (length xs) c.tell_places.result) c.seen.ensures.packs
    c.tell_places.ensures.told in
    subst (λ (k : CoreContents). get_or next.places.onto q None ≡ get_or k.places.onto q None) c.self.view_is
    (stays p c.know_lawful.ensures.lawful (contents s) (contents next) old c.run_round.ensures.core c.run_round.ensures.round runs long
    c.run_round.new.changes changed placed
    c.know_noted.ensures c.run_round.ensures.seen c.tell_places.new.told c.tell_places.result tells q l no)
