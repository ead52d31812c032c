use Rattle.std.proofs.Common.{◌≡◌, ◌≤◌, ◌+◌, ◌∙◌, ◌++◌, ℕ, List, arith, drop, length, map, refl, take, ap, ap₂, subst, sym}
use Rattle.std.specs.Prelude.{vec_len}
use Rattle.std.proofs.Math.Seq.{take-append_seam}
use Rattle.sched_base.specs.declared.rows.Row.{Row}
use Rattle.event_core.specs.Rounds.{rows_of_round}
use Rattle.circular_buffer.specs.Buffer.{buffer}
use Rattle.sched_laws.proofs.WholeRounds.{length-round}
use Rattle.book_steps.specs.Pending.{AreCounted, AreNoted, CanCount, CanNote, pending}
use Rattle.book_steps.proofs.PendingLemmas.{can_note}
use Rattle.book_steps.proofs.pending.Pending.compute_each.Goals.{After-compute}
use Rattle.book_steps.proofs.pending.Pending.compute_each.Goals as goal

pub compute-requires-clause-source : goal.compute-requires-clause-source
compute-requires-clause-source c = rw (← c.self.view_is) at c.requires.belongs

pub compute-requires-clause-computes : goal.compute-requires-clause-computes
compute-requires-clause-computes c = rw (← c.self.view_is) at c.requires.computes

pub compute-requires-clause-early : goal.compute-requires-clause-early
compute-requires-clause-early c = rw (← c.self.view_is) at c.requires.early

pub compute-requires-clause-rows : goal.compute-requires-clause-rows
compute-requires-clause-rows c = let width = rw (← c.self.view_is) at c.requires.width in c.deref_mut.ensures.len ∙ width

module _ (c : After-compute) where
  -- the rows of the round
  abbrev round_rows : List Row
  round_rows = rows_of_round c.args.plan.now c.self.inside.source.tick c.compute.new.self.tick

  all : vec_len c.self.inside.rows ≡ length c.compute.new.rows
  all =
      let p = c.args.plan.now in
      let width = rw (← c.self.view_is) at c.requires.width in
      width ∙ sym (ap (λ (rs : List Row). length rs) c.compute.ensures.rows ∙ length-round p.set.tasks p.tree c.self.inside.source.tick c.compute.new.self.tick)

  -- they are what is written
  are_written : take (vec_len c.self.inside.rows) (c.compute.new.rows ++ drop (length c.compute.new.rows) c.self.inside.rows.items) ≡ round_rows
  are_written =
      let new = c.compute.new.rows in
      let rest = drop (length new) c.self.inside.rows.items in
      ap (λ n. take n (new ++ rest)) all ∙ take-append_seam new rest ∙ c.compute.ensures.rows

  can_count : CanCount c.self.inside.given.items round_rows
  can_count = let fits = rw (← c.self.view_is) at c.requires.fits in fits c.compute.new.self.tick c.compute.ensures.round

pub push_each-requires : goal.push_each-requires
push_each-requires c =
    let s = c.self.inside in
    let places = rw (← c.self.view_is) at c.requires.places in
    subst (λ n. length s.held.items + n ≤ s.held.capacity) (sym c.as_slice-2.ensures.len) places

pub overflow_add-self : goal.overflow_add-self
overflow_add-self c = let counted = rw (← c.self.view_is) at c.requires.counted in omega (arith, counted)

pub note_each-requires : goal.note_each-requires
note_each-requires c =
    let r = (goal.at.note_each-requires c).After-compute in
    let s = c.self.inside in
    let each = rw (← c.self.view_is) at c.requires.each in
    let long : length (round_rows r) ≡ vec_len s.rows = ap (λ (rs : List Row). length rs) (sym c.compute.ensures.rows) ∙ sym (all r) in
    let many = c.len.ensures ∙ sym c.as_slice.ensures.len ∙ ap (λ (ts : List ℕ). length ts) c.as_slice.ensures.value in
    subst (λ (rs : List Row). CanNote c.len.result rs (length s.last.items)) (sym (c.as_slice-3.ensures.value ∙ are_written r))
    (subst (λ n. CanNote n (round_rows r) (length s.last.items)) (sym many)
    (can_note s.given.items (round_rows r) (length s.last.items) (vec_len s.rows) (can_count r) long each))

pub count_each-requires : goal.count_each-requires
count_each-requires c =
    let r = (goal.at.count_each-requires c).After-compute in
    subst (λ (rs : List Row). CanCount c.self.inside.given.items rs) (sym (c.as_slice-4.ensures.value ∙ are_written r)) (can_count r)

pub returns-clause-belongs : goal.returns-clause-belongs
returns-clause-belongs c = c.compute.ensures.source

pub returns-clause-round : goal.returns-clause-round
returns-clause-round c = rw (← c.self.view_is) c.compute.ensures.round

pub returns-clause-width : goal.returns-clause-width
returns-clause-width c = rw (← c.self.view_is) refl

pub returns-clause-held : goal.returns-clause-held
returns-clause-held c =
    let r = (goal.at.returns-clause-held c).After-compute in
    let s = c.self.inside in
    rw (← c.self.view_is) (c.push_each.ensures
    ∙ ap₂ (λ (gs : List ℕ) (rs : List Row). buffer (s.held.items ++ map (pending gs) rs) s.held.capacity) c.as_slice.ensures.value
    (c.as_slice-2.ensures.value ∙ are_written r))

pub returns-clause-computed : goal.returns-clause-computed
returns-clause-computed c = rw (← c.self.view_is) refl

pub returns-clause-given : goal.returns-clause-given
returns-clause-given c =
    let r = (goal.at.returns-clause-given c).After-compute in
    rw (← c.self.view_is)
    (subst (λ (rs : List Row). AreCounted c.self.inside.given.items rs c.count_each.new.given.items) (c.as_slice-4.ensures.value ∙ are_written r)
    c.count_each.ensures)

pub returns-clause-last : goal.returns-clause-last
returns-clause-last c =
    let r = (goal.at.returns-clause-last c).After-compute in
    let s = c.self.inside in
    let many = c.len.ensures ∙ sym c.as_slice.ensures.len ∙ ap (λ (ts : List ℕ). length ts) c.as_slice.ensures.value in
    rw (← c.self.view_is)
    (subst (λ n. AreNoted n (s.computed + 1) s.last.items (round_rows r) c.note_each.new.last.items) many
    (subst (λ (rs : List Row). AreNoted c.len.result (s.computed + 1) s.last.items rs c.note_each.new.last.items) (c.as_slice-3.ensures.value
    ∙ are_written r) c.note_each.ensures))
