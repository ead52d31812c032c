use Rattle.std.proofs.Common.{◌≡◌, ◌≢◌, ◌<◌, ◌+◌, ◌∙◌, ◌++◌, ◌∷◌, ℕ, List, [], ap, arith, length, map, subst, sym}
use Rattle.std.specs.Prelude.{vec_len}
use Rattle.sched_base.specs.declared.rows.Row.{Row}
use Rattle.sched_laws.proofs.WholeRounds.{length-round}
use Rattle.run_tree.specs.Plans.{stop_of}
use Rattle.event_core.specs.Rounds.{IsRoundUpTo, rows_of_round}
use Rattle.circular_buffer.specs.Buffer.{buffer}
use Rattle.book_steps.specs.declared.source.Repeating.{Repeating}
use Rattle.book_steps.specs.declared.source.Stage.TheVariants.{Repeats}
use Rattle.book_steps.specs.Pending.{AreCounted, AreNoted, CanCount, pending}
use Rattle.book_steps.specs.Sources.{GoesOnWithPlan, SourceContents}
use Rattle.book_steps.proofs.PendingLemmas.{can_note}
use Rattle.book_steps.proofs.pending.Pending.compute_next.Goals.{After-compute_each, After-keep_one}
use Rattle.book_steps.proofs.pending.Pending.compute_next.Goals as goal

pub keep_one-requires-clause-place : goal.keep_one-requires-clause-place
keep_one-requires-clause-place c =
    let p = c.args.plan.now in
    let s = c.self.inside in
    let width = rw (← c.self.view_is) at c.requires.width in
    let places = rw (← c.self.view_is) at c.requires.places in
    let one : 1 ≡ p.tree.processors = ap (λ (rs : List Row). length rs) (sym c.in-Some.ensures.row) ∙ length-round p.set.tasks p.tree s.source.tick
    c.again.new.self.tick in
    omega (arith, width, places, one)

pub keep_one-requires-clause-noted : goal.keep_one-requires-clause-noted
keep_one-requires-clause-noted c =
    let p = c.args.plan.now in
    let s = c.self.inside in
    let width = rw (← c.self.view_is) at c.requires.width in
    let each = rw (← c.self.view_is) at c.requires.each in
    let fits = rw (← c.self.view_is) at c.requires.fits in
    let one : 1 ≡ p.tree.processors = ap (λ (rs : List Row). length rs) (sym c.in-Some.ensures.row) ∙ length-round p.set.tasks p.tree s.source.tick
    c.again.new.self.tick in
    let can = subst (λ (rs : List Row). CanCount s.given.items rs) c.in-Some.ensures.row (fits c.again.new.self.tick c.in-Some.ensures.round) in
    can_note s.given.items (c.in-Some.row ∷ []) (length s.last.items) (vec_len s.rows) can (one ∙ sym width) each

pub again-requires-clause-source : goal.again-requires-clause-source
again-requires-clause-source c = rw (← c.self.view_is) at c.requires.belongs

pub again-requires-clause-early : goal.again-requires-clause-early
again-requires-clause-early c = rw (← c.self.view_is) at c.requires.early

pub keep_one-requires-clause-counted : goal.keep_one-requires-clause-counted
keep_one-requires-clause-counted c = rw (← c.self.view_is) at c.requires.counted

pub keep_one-requires-clause-fits : goal.keep_one-requires-clause-fits
keep_one-requires-clause-fits c =
    let s = c.self.inside in
    let fits = rw (← c.self.view_is) at c.requires.fits in
    subst (λ (rs : List Row). CanCount s.given.items rs) c.in-Some.ensures.row (fits c.again.new.self.tick c.in-Some.ensures.round)

pub compute_each-requires-clause-belongs : goal.compute_each-requires-clause-belongs
compute_each-requires-clause-belongs c = subst (λ (x : SourceContents). GoesOnWithPlan c.args.plan.now x) (sym c.in-None.ensures.none)
    (rw (← c.self.view_is) at c.requires.belongs)

pub compute_each-requires-clause-computes : goal.compute_each-requires-clause-computes
compute_each-requires-clause-computes c = subst (λ (x : SourceContents). (again : Repeating) → x.stage ≢ Repeats again) (sym c.in-None.ensures.none)
    c.in-None.ensures.computes

pub compute_each-requires-clause-early : goal.compute_each-requires-clause-early
compute_each-requires-clause-early c = subst (λ (x : SourceContents). x.tick < stop_of c.args.plan.now) (sym c.in-None.ensures.none) (rw (← c.self.view_is)
    at c.requires.early)

pub compute_each-requires-clause-width : goal.compute_each-requires-clause-width
compute_each-requires-clause-width c = rw (← c.self.view_is) at c.requires.width

pub compute_each-requires-clause-places : goal.compute_each-requires-clause-places
compute_each-requires-clause-places c = rw (← c.self.view_is) at c.requires.places

pub compute_each-requires-clause-counted : goal.compute_each-requires-clause-counted
compute_each-requires-clause-counted c = rw (← c.self.view_is) at c.requires.counted

pub compute_each-requires-clause-each : goal.compute_each-requires-clause-each
compute_each-requires-clause-each c = rw (← c.self.view_is) at c.requires.each

pub compute_each-requires-clause-fits : goal.compute_each-requires-clause-fits
compute_each-requires-clause-fits c =
    let p = c.args.plan.now in
    let s = c.self.inside in
    let fits = rw (← c.self.view_is) at c.requires.fits in
    subst (λ (x : SourceContents). (end : ℕ) → IsRoundUpTo p x.tick end → CanCount s.given.items (rows_of_round p x.tick end)) (sym c.in-None.ensures.none) fits

pub returns-in-Some-clause-belongs : goal.returns-in-Some-clause-belongs
returns-in-Some-clause-belongs c = subst (λ (x : SourceContents). GoesOnWithPlan c.args.plan.now x) (sym c.keep_one.ensures.source) c.in-Some.ensures.source

pub returns-in-Some-clause-round : goal.returns-in-Some-clause-round
returns-in-Some-clause-round c =
    rw (← c.self.view_is)
    (subst (λ (x : SourceContents). IsRoundUpTo c.args.plan.now c.self.inside.source.tick x.tick) (sym c.keep_one.ensures.source) c.in-Some.ensures.round)

pub returns-in-Some-clause-width : goal.returns-in-Some-clause-width
returns-in-Some-clause-width c = rw (← c.self.view_is) c.keep_one.ensures.width

pub returns-in-Some-clause-computed : goal.returns-in-Some-clause-computed
returns-in-Some-clause-computed c = rw (← c.self.view_is) c.keep_one.ensures.computed

-- the row is the round's only one
only_row : (c : After-keep_one) → c.in-Some.row ∷ [] ≡ rows_of_round c.args.plan.now c.self.inside.source.tick c.keep_one.new.self.source.tick
only_row c =
    sym c.in-Some.ensures.row ∙ ap (λ (x : SourceContents). rows_of_round c.args.plan.now c.self.inside.source.tick x.tick) (sym c.keep_one.ensures.source)

pub returns-in-Some-clause-held : goal.returns-in-Some-clause-held
returns-in-Some-clause-held c =
    let s = c.self.inside in
    rw (← c.self.view_is) (c.keep_one.ensures.held ∙ ap (λ (rs : List Row). buffer (s.held.items ++ map (pending s.given.items) rs) s.held.capacity)
    (only_row c))

pub returns-in-Some-clause-given : goal.returns-in-Some-clause-given
returns-in-Some-clause-given c = rw (← c.self.view_is) (subst (λ (rs : List Row). AreCounted c.self.inside.given.items rs c.keep_one.new.self.given)
    (only_row c) c.keep_one.ensures.given)

pub returns-in-Some-clause-last : goal.returns-in-Some-clause-last
returns-in-Some-clause-last c =
    let s = c.self.inside in
    rw (← c.self.view_is)
    (subst (λ (rs : List Row). AreNoted (length s.given.items) (s.computed + 1) s.last.items rs c.keep_one.new.self.last) (only_row c) c.keep_one.ensures.last)

pub returns-in-None-clause-belongs : goal.returns-in-None-clause-belongs
returns-in-None-clause-belongs c = c.compute_each.ensures.belongs

pub returns-in-None-clause-width : goal.returns-in-None-clause-width
returns-in-None-clause-width c = rw (← c.self.view_is) c.compute_each.ensures.width

pub returns-in-None-clause-computed : goal.returns-in-None-clause-computed
returns-in-None-clause-computed c = rw (← c.self.view_is) c.compute_each.ensures.computed

pub returns-in-None-clause-round : goal.returns-in-None-clause-round
returns-in-None-clause-round c =
    rw (← c.self.view_is)
    (subst (λ (x : SourceContents). IsRoundUpTo c.args.plan.now x.tick c.compute_each.new.self.source.tick) c.in-None.ensures.none c.compute_each.ensures.round)

-- the round begins where the source stood
same_rows : (c : After-compute_each) → rows_of_round c.args.plan.now c.again.new.self.tick c.compute_each.new.self.source.tick
    ≡ rows_of_round c.args.plan.now c.self.inside.source.tick c.compute_each.new.self.source.tick
same_rows c = ap (λ (x : SourceContents). rows_of_round c.args.plan.now x.tick c.compute_each.new.self.source.tick) c.in-None.ensures.none

pub returns-in-None-clause-held : goal.returns-in-None-clause-held
returns-in-None-clause-held c =
    let s = c.self.inside in
    rw (← c.self.view_is) (c.compute_each.ensures.held ∙ ap (λ (rs : List Row). buffer (s.held.items ++ map (pending s.given.items) rs) s.held.capacity)
    (same_rows c))

pub returns-in-None-clause-given : goal.returns-in-None-clause-given
returns-in-None-clause-given c = rw (← c.self.view_is) (subst (λ (rs : List Row). AreCounted c.self.inside.given.items rs c.compute_each.new.self.given)
    (same_rows c) c.compute_each.ensures.given)

pub returns-in-None-clause-last : goal.returns-in-None-clause-last
returns-in-None-clause-last c =
    let s = c.self.inside in
    rw (← c.self.view_is)
    (subst (λ (rs : List Row). AreNoted (length s.given.items) (s.computed + 1) s.last.items rs c.compute_each.new.self.last) (same_rows c)
    c.compute_each.ensures.last)
