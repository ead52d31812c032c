use Rattle.std.proofs.Common.{◌≡◌, ◌<◌, ◌+◌, ◌∙◌, ◌++◌, ℕ, List, Option, None, Some, inl, inr, length, get_or, get_or-set_same, min, set, slice_get}
use Rattle.std.proofs.Common.{take, drop, arith, refl, sym, ap, subst}
use Rattle.std.proofs.lemmas.Bool.{cases_eq}
use Rattle.std.proofs.lemmas.Option.{slice_get_read}
use Rattle.sched_base.specs.declared.rows.Leaf.{Leaf}
use Rattle.run_tree.specs.Plans.{IsPlan}
use Rattle.merged_rounds.specs.Replays.{packs_of}
use Rattle.part_plans.specs.declared.parts.PartPlan.{PartPlan}
use Rattle.part_rounds.specs.declared.sources.PartRounds.{PartRounds}
use Rattle.part_rounds.specs.Parted.{IsCovered}
use Rattle.part_rounds.specs.PartedSteps.{IsTelling}
use Rattle.part_rounds.proofs.PartedLemmas.{AreMoved, IsPartNow, back, covered_now, due_now, goes_now, one_moved, parts_now, round_now, shown_now, still}
use Rattle.part_rounds.proofs.parted.Parted.go_parts.Goals as goal

pub go_if-requires-clause-belongs : goal.go_if-requires-clause-belongs
go_if-requires-clause-belongs c =
    let parts = c.loop-c.self.parts.items in
    let n = c.loop-c.c in
    let moved = c.loop-c.invariant.moved in
    let in_parts : n < length parts = omega arith in
    let at : slice_get parts n ≡ Some c.index_mut.result.now = slice_get_read parts (length parts) n c.index_mut.result.now refl in_parts
    c.index_mut.ensures.value in
    c.requires.belongs.each n c.index_mut.result.now (sym (moved.rest n (omega arith)) ∙ at)

pub go_if-requires-clause-lawful : goal.go_if-requires-clause-lawful
go_if-requires-clause-lawful c =
    let parts = c.loop-c.self.parts.items in
    let n = c.loop-c.c in
    let moved = c.loop-c.invariant.moved in
    let in_parts : n < length parts = omega arith in
    let at : slice_get parts n ≡ Some c.index_mut.result.now = slice_get_read parts (length parts) n c.index_mut.result.now refl in_parts
    c.index_mut.ensures.value in
    c.requires.belongs.lawful n c.index_mut.result.now (sym (moved.rest n (omega arith)) ∙ at)

pub loop-c-preserved : goal.loop-c-preserved
loop-c-preserved c =
    let parted = c.args.self.now in
    let whole = c.args.plan.now in
    let w = c.rounds_end-end.ensures.lawful in
    let b = c.requires.belongs in
    let early = c.requires.early in
    let tick = parted.tick in
    let parts = c.loop-c.self.parts.items in
    let n = c.loop-c.c in
    let end = c.loop-c.end in
    let moved = c.loop-c.invariant.moved in
    let shows = c.loop-c.self.shows.items in
    let shows' = c.go_if.new.shows in
    let s = c.index_mut.result.now in
    let s' = c.go_if.new.rounds in
    let in_parts : n < length parts = omega arith in
    let at : slice_get parts n ≡ Some s = slice_get_read parts (length parts) n s refl in_parts c.index_mut.ensures.value in
    let was : c.deref_mut.result.now ≡ shows = c.deref_mut.ensures.value in
    let long' : length shows' ≡ length shows = c.go_if.auto.shows ∙ ap (λ (xs : List (Option Leaf)). length xs) was in
    let written : shows' ≡ take c.loop-c.self.shows.len (shows' ++ drop (length shows') shows) = sym (back shows' shows c.loop-c.self.shows.len long'
    c.loop-c.self.shows.ok.0) in
    let read : c.index.result.now ≡ s' = c.index.ensures ∙ get_or-set_same parts n s' c.index.result.now in_parts in
    let least : min end s'.end ≡ c.min-end.result = sym (c.min-end.ensures ∙ ap (λ (r : PartRounds). min end r.end) read) in
    let P : List (Option Leaf) → ℕ → Type 0 = λ v e. AreMoved whole tick (n + 1) parted.parts.items (set parts n s') parted.shows.items v e in
    let same = c.go_if.ensures.part in
    let more : P shows' (min end s'.end) = elim (cases_eq s.end tick) [
      | inl due ↦
          (let t : IsTelling whole tick s'.part.packs.items (packs_of s'.part.plan) shows shows' =
          subst (λ (v : List (Option Leaf)). IsTelling whole tick s'.part.packs.items (packs_of s'.part.plan) v shows') was (c.go_if.ensures.told due) in
          let o : IsPlan s'.part.plan = subst (λ (x : PartPlan). IsPlan x.plan) (sym same) (b.lawful n s (still whole w parted b early n parts shows end
          moved s at)) in
          one_moved whole tick n parted.parts.items parts parted.shows.items shows end moved s s' in_parts at same shows' long' t.rest
          (due_now whole w parted b early n parts shows end moved s' shows' c.go_if.ensures.belongs o (c.go_if.ensures.round due) t))
      | inr on ↦
          (let kept = c.go_if.ensures.kept on in
          let as_was : shows' ≡ shows = c.go_if.ensures.same on ∙ was in
          one_moved whole tick n parted.parts.items parts parted.shows.items shows end moved s s' in_parts at same shows' long'
          (λ i. inl (ap (λ v. get_or v i None) as_was))
          (subst (λ (r : PartRounds). IsPartNow whole tick shows' r) (sym kept)
          (subst (λ (v : List (Option Leaf)). IsPartNow whole tick v s) (sym as_was) (goes_now whole w parted b early n parts shows end moved s at on))))
    ] in
    record {
      tick = refl;
      part = c.loop-c.invariant.part;
      like = c.loop-c.invariant.like;
      placed = c.loop-c.invariant.placed;
      moved = subst (λ (e : ℕ). P (take c.loop-c.self.shows.len (shows' ++ drop (length shows') shows)) e) least
          (subst (λ (v : List (Option Leaf)). P v (min end s'.end)) written more);
    }

pub returns-clause-covered : goal.returns-clause-covered
returns-clause-covered c =
    let parted = c.args.self.now in
    let whole = c.args.plan.now in
    let w = c.rounds_end-end.ensures.lawful in
    let moved = c.loop-c.invariant.moved in
    let long = moved.long in
    let new = c.loop-c.self.parts.items in
    let all : c.loop-c.c ≡ length parted.parts.items = omega arith in
    let is = covered_now whole w parted c.requires.belongs c.requires.early c.loop-c.c new c.loop-c.self.shows.items c.loop-c.end moved all in
    subst (λ (p : _). IsCovered whole new p.items c.loop-c.self.like.items) (sym c.loop-c.invariant.part)
    (subst (λ (p : _). IsCovered whole new parted.part.items p.items) (sym c.loop-c.invariant.like) is)

pub returns-clause-parts : goal.returns-clause-parts
returns-clause-parts c =
    let parted = c.args.self.now in
    let moved = c.loop-c.invariant.moved in
    let long = moved.long in
    let all : c.loop-c.c ≡ length parted.parts.items = omega arith in
    parts_now c.args.plan.now c.rounds_end-end.ensures.lawful parted c.requires.belongs c.requires.early c.loop-c.c c.loop-c.self.parts.items
    c.loop-c.self.shows.items c.loop-c.end moved all

pub returns-clause-shows : goal.returns-clause-shows
returns-clause-shows c =
    let parted = c.args.self.now in
    let moved = c.loop-c.invariant.moved in
    let long = moved.long in
    let all : c.loop-c.c ≡ length parted.parts.items = omega arith in
    shown_now c.args.plan.now c.rounds_end-end.ensures.lawful parted c.requires.belongs c.requires.early c.loop-c.c c.loop-c.self.parts.items
    c.loop-c.self.shows.items c.loop-c.end moved all

pub returns-clause-round : goal.returns-clause-round
returns-clause-round c =
    let parted = c.args.self.now in
    let moved = c.loop-c.invariant.moved in
    let long = moved.long in
    let all : c.loop-c.c ≡ length parted.parts.items = omega arith in
    round_now c.args.plan.now c.rounds_end-end.ensures.lawful parted c.requires.belongs c.requires.early c.loop-c.c c.loop-c.self.parts.items
    c.loop-c.self.shows.items c.loop-c.end moved all
