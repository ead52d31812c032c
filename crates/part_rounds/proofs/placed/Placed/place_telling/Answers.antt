use Rattle.std.proofs.Common.{◌∙◌, ◌<◌, ℕ, List, Option, ap, arith, get_or, length, subst, sym}
use Rattle.sched_base.specs.declared.rows.Leaf.{Leaf}
use Rattle.sched_base.specs.Places.{Placing}
use Rattle.run_tree.specs.Boundaries.{set_boundary}
use Rattle.run_tree.specs.Schedule.{packs_running}
use Rattle.run_tree.proofs.ScheduleLemmas.{length-places}
use Rattle.cpu_assign.proofs.StepLemmas.{written}
use Rattle.event_core.specs.Told.{AreTold}
use Rattle.merged_rounds.specs.Replays.{AreNotedTo}
use Rattle.part_rounds.proofs.PlacedLemmas.{changed_now, first_told, last_long, last_packs, others_same, placed_on}
use Rattle.part_rounds.proofs.placed.Placed.place_telling.Goals as goal

pub note_all-requires-clause-many : goal.note_all-requires-clause-many
note_all-requires-clause-many c = c.requires.shows.long ∙ sym c.requires.belongs.long ∙ ap (λ (xs : List (Option Leaf)). length xs)
    (sym c.deref_mut.ensures.value)

pub note_all-requires-clause-few : goal.note_all-requires-clause-few
note_all-requires-clause-few c =
    let long = c.requires.shows.long in
    let few = c.know_noted.ensures.few_packs in
    let last = last_packs c.args.plan.now c.args.start c.args.self.now c.requires.belongs in
    omega (arith, long, few, last)

pub note_all-requires-clause-room : goal.note_all-requires-clause-room
note_all-requires-clause-room c = c.requires.belongs.room ∙ sym c.requires.belongs.long ∙ ap (λ (xs : List (Option Leaf)). length xs)
    (sym c.deref_mut.ensures.value)

pub place_again-requires : goal.place_again-requires
place_again-requires c =
    let p = c.args.plan.now in
    let h = c.know_lawful.ensures.lawful in
    let now = c.note_all.new.before in
    let noted = subst (λ (xs : List (Option Leaf)). AreNotedTo xs now (length xs) c.note_all.new.changes) c.deref_mut.ensures.value c.note_all.ensures.noted in
    record {
      changes = (
        packs_running (set_boundary p.set.tasks) p.tree c.args.start,
        last_long p c.args.start c.args.self.now c.requires.belongs,
        changed_now p h c.args.start c.args.self.now c.requires.belongs c.args.shows.now c.requires.shows now c.note_all.ensures.shown
            c.note_all.new.changes noted,
      );
    }

pub tell_places-requires-clause-packs : goal.tell_places-requires-clause-packs
tell_places-requires-clause-packs c = λ k l.
    let e = c.seen.ensures.packs in
    let now = c.note_all.new.before in
    let noted = subst (λ (xs : List (Option Leaf)). AreNotedTo xs now (length xs) c.note_all.new.changes) c.deref_mut.ensures.value c.note_all.ensures.noted in
    let last = last_packs c.args.plan.now c.args.start c.args.self.now c.requires.belongs in
    let many = c.place_again.ensures.packs in
    let long = c.requires.belongs.long in
    let w = noted.within k (subst (λ (xs : List ℕ). k < length xs) e l) in
    let at = ap (λ (xs : List ℕ). get_or xs k 0) e in
    omega (arith, last, many, long, w, at)

pub tell_places-requires-clause-room : goal.tell_places-requires-clause-room
tell_places-requires-clause-room c =
    let long = ap (λ (xs : List ℕ). length xs) c.seen.ensures.packs in
    let most = c.seen.ensures.room in
    let noted = c.note_all.ensures.room in
    let room = c.requires.belongs.room in
    let told = c.requires.room in
    omega (arith, long, most, noted, room, told)

pub returns-clause-belongs : goal.returns-clause-belongs
returns-clause-belongs c = λ end round.
    let p = c.args.plan.now in
    let h = c.know_lawful.ensures.lawful in
    let r = c.args.self.now in
    let b = c.requires.belongs in
    let now = c.note_all.new.before in
    let noted = subst (λ (xs : List (Option Leaf)). AreNotedTo xs now (length xs) c.note_all.new.changes) c.deref_mut.ensures.value c.note_all.ensures.noted in
    let changed = changed_now p h c.args.start r b c.args.shows.now c.requires.shows now c.note_all.ensures.shown c.note_all.new.changes noted in
    let placed = c.place_again.ensures.places (packs_running (set_boundary p.set.tasks) p.tree c.args.start) (last_long p c.args.start r b) changed in
    placed_on p h c.args.start r b c.args.shows.now c.requires.shows now c.note_all.ensures.shown c.note_all.new.changes noted _
    (written r.before c.deref_mut.result.now now c.deref_mut.ensures.value c.note_all.auto.before)
    (c.note_all.auto.before ∙ ap (λ (xs : List (Option Leaf)). length xs) c.deref_mut.ensures.value ∙ b.long) placed (c.note_all.ensures.room ∙ b.room) end
    round

pub returns-clause-processors : goal.returns-clause-processors
returns-clause-processors c = λ j l.
    let p = c.args.plan.now in
    let within = c.tell_places.ensures.told.processors j l in
    let onto = ap (λ (w : Placing). length w.onto) c.requires.belongs.places ∙ length-places (set_boundary p.set.tasks) p.tree c.args.start in
    let many = c.place_again.ensures.processors in
    omega (arith, within, onto, many)

pub returns-clause-others : goal.returns-clause-others
returns-clause-others c = λ q before end none l away up round.
    let p = c.args.plan.now in
    let h = c.know_lawful.ensures.lawful in
    let r = c.args.self.now in
    let b = c.requires.belongs in
    let now = c.note_all.new.before in
    let places = c.place_again.new.self in
    let noted = subst (λ (xs : List (Option Leaf)). AreNotedTo xs now (length xs) c.note_all.new.changes) c.deref_mut.ensures.value c.note_all.ensures.noted in
    let changed = changed_now p h c.args.start r b c.args.shows.now c.requires.shows now c.note_all.ensures.shown c.note_all.new.changes noted in
    let placed = c.place_again.ensures.places (packs_running (set_boundary p.set.tasks) p.tree c.args.start) (last_long p c.args.start r b) changed in
    let tells = subst (λ (xs : List ℕ). AreTold places xs c.tell_places.new.told (length xs) c.tell_places.result) c.seen.ensures.packs
    c.tell_places.ensures.told in
    others_same p h c.args.start r b c.args.shows.now c.requires.shows now c.note_all.ensures.shown c.note_all.new.changes noted places placed
    c.place_again.ensures.packs
    c.know_noted.ensures c.know_noted-2.ensures c.tell_places.new.told c.tell_places.result tells q l away before end up none

pub returns-clause-first : goal.returns-clause-first
returns-clause-first c = λ zero_is q l.
    let p = c.args.plan.now in
    let h = c.know_lawful.ensures.lawful in
    let r = c.args.self.now in
    let b = c.requires.belongs in
    let now = c.note_all.new.before in
    let places = c.place_again.new.self in
    let noted = subst (λ (xs : List (Option Leaf)). AreNotedTo xs now (length xs) c.note_all.new.changes) c.deref_mut.ensures.value c.note_all.ensures.noted in
    let changed = changed_now p h c.args.start r b c.args.shows.now c.requires.shows now c.note_all.ensures.shown c.note_all.new.changes noted in
    let placed = c.place_again.ensures.places (packs_running (set_boundary p.set.tasks) p.tree c.args.start) (last_long p c.args.start r b) changed in
    let tells = subst (λ (xs : List ℕ). AreTold places xs c.tell_places.new.told (length xs) c.tell_places.result) c.seen.ensures.packs
    c.tell_places.ensures.told in
    first_told p h c.args.start r b c.args.shows.now c.requires.shows now c.note_all.ensures.shown c.note_all.new.changes noted places placed
    c.place_again.ensures.packs
    c.know_noted.ensures c.know_noted-2.ensures c.tell_places.new.told c.tell_places.result tells q l zero_is
