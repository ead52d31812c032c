use Rattle.std.proofs.Common.{◌≡◌, ◌∙◌, ℕ, ◌+◌, min, List, Option, ap, arith, length, get_or, None, refl, sym, subst}
use Rattle.sched_base.specs.declared.rows.Leaf.{Leaf}
use Rattle.run_tree.specs.Boundaries.{set_boundary}
use Rattle.run_tree.specs.Plans.{stop_of}
use Rattle.run_tree.specs.Schedule.{packs_running}
use Rattle.event_core.specs.Rounds.{IsRoundUpTo}
use Rattle.cpu_assign.proofs.StepLemmas.{written}
use Rattle.merged_rounds.specs.Replays.{AreNotedTo, IsTaken, packs_kept, part_start, shown_kept}
use Rattle.merged_rounds.specs.Shown.{PackShows, packs_in, shown_in}
use Rattle.merged_rounds.proofs.ReplaySteps.{changed_now, end_fits, high_fits, high_is, last_long, low_fits, next_entries, ordered_as, replay_on}
use Rattle.merged_rounds.proofs.ReplaySteps.{round_now, taken_as}
use Rattle.merged_rounds.proofs.replays.Replay.go.Goals as goal

pub part-low-requires : goal.part-low-requires
part-low-requires c = low_fits c.args.plan.now c.know_lawful.ensures.lawful c.args.start c.args.self.now c.requires.belongs c.requires.early

pub part-high-requires : goal.part-high-requires
part-high-requires c = high_fits c.args.plan.now c.know_lawful.ensures.lawful c.args.start c.args.self.now c.requires.belongs c.requires.early

pub take_entries-requires-clause-ordered : goal.take_entries-requires-clause-ordered
take_entries-requires-clause-ordered c =
    let p = c.args.plan.now in
    let h = c.know_lawful.ensures.lawful in
    let r = c.args.self.now in
    let b = c.requires.belongs in
    let l = c.requires.early in
    ordered_as (packs_kept r.lap) _ (part_start r.lap.parts.items r.next) _ (get_or r.lap.parts.items r.next 0) _ _ _
    (ap (λ (es : List PackShows). packs_in es) c.deref.ensures.value) c.part-low.ensures
    (c.part-high.ensures ∙ high_is p h c.args.start r b l) (ap (λ (xs : List (Option Leaf)). length xs) c.deref_mut.ensures.value ∙ b.long)
    (next_entries p h c.args.start r b l).ordered

pub take_entries-requires-clause-room : goal.take_entries-requires-clause-room
take_entries-requires-clause-room c = c.requires.belongs.room ∙ sym c.requires.belongs.long ∙ sym (ap (λ (xs : List (Option Leaf)). length xs)
    c.deref_mut.ensures.value)

pub place_again-requires : goal.place_again-requires
place_again-requires c =
    let p = c.args.plan.now in
    let h = c.know_lawful.ensures.lawful in
    let r = c.args.self.now in
    let b = c.requires.belongs in
    let l = c.requires.early in
    let start = c.args.start in
    let now = c.take_entries.new.shows in
    let high = c.part-high.ensures ∙ high_is p h start r b l in
    let taken : (k : ℕ) → IsTaken (packs_kept r.lap) (shown_kept r.lap) (part_start r.lap.parts.items r.next) (get_or r.lap.parts.items r.next 0)
    r.shows.items now k =
    (λ k. taken_as (packs_kept r.lap) (packs_in c.deref.result.now) (shown_kept r.lap) (shown_in c.deref.result.now) (part_start r.lap.parts.items r.next)
    c.part-low.result (get_or r.lap.parts.items r.next 0) c.part-high.result
    r.shows.items c.deref_mut.result.now now k (ap (λ (es : List PackShows). packs_in es) c.deref.ensures.value) (ap (λ (es : List PackShows). shown_in es)
    c.deref.ensures.value) c.part-low.ensures high c.deref_mut.ensures.value (c.take_entries.ensures.taken k)) in
    let noted = subst (λ (xs : List (Option Leaf)). AreNotedTo xs now (length xs) c.take_entries.new.changes) c.deref_mut.ensures.value
    c.take_entries.ensures.noted in
    let changed = changed_now p h start r b l now taken c.take_entries.new.changes noted in
    record { changes = (packs_running (set_boundary p.set.tasks) p.tree start, last_long p h start r b l, changed) }

pub end_of-end-requires-clause-round : goal.end_of-end-requires-clause-round
end_of-end-requires-clause-round c = c.requires.belongs.next

pub end_of-end-requires-clause-fits : goal.end_of-end-requires-clause-fits
end_of-end-requires-clause-fits c =
    let p = c.args.plan.now in
    let h = c.know_lawful.ensures.lawful in
    let r = c.args.self.now in
    let b = c.requires.belongs in
    end_fits p h c.args.start r b c.requires.early

pub returns-clause-round : goal.returns-clause-round
returns-clause-round c =
    let p = c.args.plan.now in
    let h = c.know_lawful.ensures.lawful in
    let r = c.args.self.now in
    let b = c.requires.belongs in
    let end : c.end_of-end.result ≡ min (get_or r.lap.ends r.next 0 + r.shift) (stop_of p) =
    c.end_of-end.ensures ∙ ap (λ n. min (get_or r.lap.ends r.next 0 + r.shift) n) c.rounds_end.ensures.value in
    subst (λ (n : ℕ). IsRoundUpTo p c.args.start n) (sym end) (round_now p h c.args.start r b c.requires.early)

pub returns-clause-belongs : goal.returns-clause-belongs
returns-clause-belongs c =
    let p = c.args.plan.now in
    let h = c.know_lawful.ensures.lawful in
    let r = c.args.self.now in
    let b = c.requires.belongs in
    let l = c.requires.early in
    let start = c.args.start in
    let now = c.take_entries.new.shows in
    let high = c.part-high.ensures ∙ high_is p h start r b l in
    let taken : (k : ℕ) → IsTaken (packs_kept r.lap) (shown_kept r.lap) (part_start r.lap.parts.items r.next) (get_or r.lap.parts.items r.next 0)
    r.shows.items now k =
    (λ k. taken_as (packs_kept r.lap) (packs_in c.deref.result.now) (shown_kept r.lap) (shown_in c.deref.result.now) (part_start r.lap.parts.items r.next)
    c.part-low.result (get_or r.lap.parts.items r.next 0) c.part-high.result
    r.shows.items c.deref_mut.result.now now k (ap (λ (es : List PackShows). packs_in es) c.deref.ensures.value) (ap (λ (es : List PackShows). shown_in es)
    c.deref.ensures.value) c.part-low.ensures high c.deref_mut.ensures.value (c.take_entries.ensures.taken k)) in
    let noted = subst (λ (xs : List (Option Leaf)). AreNotedTo xs now (length xs) c.take_entries.new.changes) c.deref_mut.ensures.value
    c.take_entries.ensures.noted in
    let changed = changed_now p h start r b l now taken c.take_entries.new.changes noted in
    let placed = c.place_again.ensures.places (packs_running (set_boundary p.set.tasks) p.tree start) (last_long p h start r b l) changed in
    let shows = written r.shows c.deref_mut.result.now now c.deref_mut.ensures.value c.take_entries.auto.shows in
    let many = c.take_entries.auto.shows ∙ ap (λ (xs : List (Option Leaf)). length xs) c.deref_mut.ensures.value ∙ b.long in
    let end : c.end_of-end.result ≡ min (get_or r.lap.ends r.next 0 + r.shift) (stop_of p) =
    c.end_of-end.ensures ∙ ap (λ n. min (get_or r.lap.ends r.next 0 + r.shift) n) c.rounds_end.ensures.value in
    replay_on p h start r b l now taken _ refl shows many placed (c.take_entries.ensures.room ∙ b.room) c.behind-next.ensures.within
    c.behind-next.ensures.at c.behind-next.ensures.shift c.behind-next.ensures.next c.end_of-end.result end

pub returns-clause-placed : goal.returns-clause-placed
returns-clause-placed c =
    let p = c.args.plan.now in
    let h = c.know_lawful.ensures.lawful in
    let r = c.args.self.now in
    let b = c.requires.belongs in
    let l = c.requires.early in
    let start = c.args.start in
    let now = c.take_entries.new.shows in
    let high = c.part-high.ensures ∙ high_is p h start r b l in
    let taken : (k : ℕ) → IsTaken (packs_kept r.lap) (shown_kept r.lap) (part_start r.lap.parts.items r.next) (get_or r.lap.parts.items r.next 0)
    r.shows.items now k =
    (λ k. taken_as (packs_kept r.lap) (packs_in c.deref.result.now) (shown_kept r.lap) (shown_in c.deref.result.now) (part_start r.lap.parts.items r.next)
    c.part-low.result (get_or r.lap.parts.items r.next 0) c.part-high.result
    r.shows.items c.deref_mut.result.now now k (ap (λ (es : List PackShows). packs_in es) c.deref.ensures.value) (ap (λ (es : List PackShows). shown_in es)
    c.deref.ensures.value) c.part-low.ensures high c.deref_mut.ensures.value (c.take_entries.ensures.taken k)) in
    let noted = subst (λ (xs : List (Option Leaf)). AreNotedTo xs now (length xs) c.take_entries.new.changes) c.deref_mut.ensures.value
    c.take_entries.ensures.noted in
    let changed = changed_now p h start r b l now taken c.take_entries.new.changes noted in
    let shows = written r.shows c.deref_mut.result.now now c.deref_mut.ensures.value c.take_entries.auto.shows in
    record {
      changed = changed;
      placed = c.place_again.ensures.places (packs_running (set_boundary p.set.tasks) p.tree start) (last_long p h start r b l) changed;
      same = λ k m away. ap (λ (xs : List (Option Leaf)). get_or xs k None) shows ∙ noted.same k (let e = b.long in omega (arith, m, e)) away;
      within = λ k m. (let w = noted.within k m in let e = b.long in omega (arith, w, e));
    }
