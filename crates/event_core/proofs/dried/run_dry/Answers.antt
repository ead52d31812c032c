use Rattle.std.proofs.Common.{arith, ap, get_or, length, refl, sym, true, ℕ, Bool, List, None, Option, Some, ◌≡◌, ◌∙◌, ◌+◌, ◌<◌, ◌≤◌, inl, inr}
use Rattle.std.proofs.Math.ListN.{set}
use Rattle.std.proofs.lemmas.List.{length-set}
use Rattle.std.proofs.lemmas.Bool.{cases_lt}
use Rattle.run_tree.specs.Tree.{IsPack}
use Rattle.event_core.specs.Serving.{lists}
use Rattle.event_core.proofs.DryLemmas.{drying_wide, drying_skip, drying_step, dry_is_pack, dry_within, dried_is, all_dried}
use Rattle.event_core.specs.Ticks.{ticks_by}
use Rattle.event_core.proofs.TickLemmas.{skipped_by, tick_at, tick_of, ticks_long}
use Rattle.event_core.proofs.dried.run_dry.Goals as goal

-- what is marked is as long as before
taken_long : (p : ℕ) (k : Option ℕ) (stale stale' : List Bool) → ((j : ℕ) → k ≡ Some j → stale' ≡ set stale p true) → (k ≡ None → stale' ≡ stale) →
    length stale' ≡ length stale
taken_long p None stale stale' some none = ap (λ (xs : List Bool). length xs) (none refl)
taken_long p (Some j) stale stale' some none = ap (λ (xs : List Bool). length xs) (some j refl) ∙ length-set stale p true

pub dried-init : goal.dried-init
dried-init c =
    let s = lists c.args.ready.now c.args.serves.now (ticks_by c.args.number.now c.args.dry.now) c.args.stale.now c.args.runs.now in (
      drying_wide c.args.tree.now c.args.dues.now c.args.ends.now s (λ q. ⊥) (λ q. get_or c.args.number.now q 0 < 0) (λ q i m. omega (arith, m))
          c.requires.drying,
      omega arith,
      refl,
    )

pub dried-preserved : goal.dried-preserved
dried-preserved c =
    let t = c.args.tree.now in
    let s = lists c.dried.ready c.args.serves.now (ticks_by c.args.number.now c.args.dry.now) c.dried.stale c.args.runs.now in
    let number = c.args.number.now in
    let next = c.next_of-next.result in
    let was = drying_skip t c.args.dues.now c.args.ends.now s number c.dried.k next c.now-now.result c.now-now.ensures.value
    (skipped_by number c.args.nodes.now c.args.dry.now c.now-now.result c.dried.k next c.requires.places c.next_of-next.ensures.skipped)
    c.dried.invariant.0 in
    let p = get_or c.args.nodes.now next 0 in
    let off = c.if-next-used.false in
    let on : next + 1 ≤ c.args.used = omega (arith, off) in
    let few = c.requires.narrowed.few in
    let at = tick_at number c.args.nodes.now c.args.dry.now next c.requires.places (omega (arith, on, few)) in
    let here = at.1 ∙ c.next_of-next.ensures.here (omega (arith, on)) in
    let pack : IsPack t p = dry_is_pack t c.args.dues.now c.args.ends.now s _ was p at.0 (here ∙ c.now-now.ensures.value) in
    let b = pack.0 in
    let ready = c.requires.ready in
    let ready' = c.dried.auto.ready in
    let stale = c.requires.stale in
    let stale' = c.dried.invariant.2 in
    let by = ticks_long number c.args.dry.now in
    let numbers = c.requires.places.number_long in
    let long = c.dried.invariant.0.ticks.long in (
      drying_step t c.args.dues.now c.args.ends.now s c.take_out.new.ready c.take_out.new.stale number next p c.now-now.result c.now-now.ensures.value
          (omega (arith, b, ready, ready')) (omega (arith, b, stale, stale')) pack
          (λ q i e. sym (c.requires.places.back q (let l = i.0 in omega (arith, l, long, by, numbers))) ∙ ap (λ j. get_or c.args.nodes.now j 0) e)
          (dried_is c.args.serves.now (ticks_by number c.args.dry.now) p c.now-now.result c.dried.ready c.take_out.new.ready c.dried.stale
          c.take_out.new.stale here c.take_out.ensures.some c.take_out.ensures.none) was,
      on,
      taken_long p (get_or c.args.serves.now p None) c.dried.stale c.take_out.new.stale (λ j e. (c.take_out.ensures.some j e).1)
          (λ e. (c.take_out.ensures.none e).1) ∙ c.dried.invariant.2,
    )

pub returns-then-next-used-clause-serving : goal.returns-then-next-used-clause-serving
returns-then-next-used-clause-serving c =
    let t = c.args.tree.now in
    let s = lists c.dried.ready c.args.serves.now (ticks_by c.args.number.now c.args.dry.now) c.dried.stale c.args.runs.now in
    let number = c.args.number.now in
    let next = c.next_of-next.result in
    let was = drying_skip t c.args.dues.now c.args.ends.now s number c.dried.k next c.now-now.result c.now-now.ensures.value
    (skipped_by number c.args.nodes.now c.args.dry.now c.now-now.result c.dried.k next c.requires.places c.next_of-next.ensures.skipped)
    c.dried.invariant.0 in
    let past = c.if-next-used.true in
    let long = c.dried.invariant.0.ticks.long in
    let early = c.dried.invariant.0.early in
    let by = ticks_long number c.args.dry.now in
    let numbers = c.requires.places.number_long in
    all_dried t c.args.dues.now c.args.ends.now s _
    (λ q i e. elim (cases_lt (get_or number q 0) c.args.used) [
      | inl low ↦ omega (arith, low, past)
      | inr high ↦ absurd (let l : q < length c.args.dry.now = (let b = i.0 in omega (arith, b, long, by, numbers)) in
          let r = c.requires.narrowed.rest (get_or number q 0) (c.requires.places.stands q l) (omega (arith, high)) in
          let at = tick_of number c.args.dry.now q (omega (arith, l, numbers)) in
          omega (arith, r, e, early, at))
    ]) was

pub returns-clause-serving : goal.returns-clause-serving
returns-clause-serving c =
    let t = c.args.tree.now in
    let off = c.dried-test.false in
    let long = c.dried.invariant.0.ticks.long in
    let early = c.dried.invariant.0.early in
    let number = c.args.number.now in
    let by = ticks_long number c.args.dry.now in
    let numbers = c.requires.places.number_long in
    all_dried t c.args.dues.now c.args.ends.now (lists c.dried.ready c.args.serves.now (ticks_by c.args.number.now c.args.dry.now) c.dried.stale
    c.args.runs.now) _
    (λ q i e. elim (cases_lt (get_or c.args.number.now q 0) c.args.used) [
      | inl low ↦ omega (arith, low, off)
      | inr past ↦ absurd (let l : q < length c.args.dry.now = (let b = i.0 in omega (arith, b, long, by, numbers)) in
          let r = c.requires.narrowed.rest (get_or number q 0) (c.requires.places.stands q l) (omega (arith, past)) in
          let at = tick_of number c.args.dry.now q (omega (arith, l, numbers)) in
          omega (arith, r, e, early, at))
    ]) c.dried.invariant.0

pub take_out-requires-clause-member : goal.take_out-requires-clause-member
take_out-requires-clause-member c = λ j e.
    let off = c.if-next-used.false in
    let few = c.requires.narrowed.few in
    let number = c.args.number.now in
    let next = c.next_of-next.result in
    let s = lists c.dried.ready c.args.serves.now (ticks_by number c.args.dry.now) c.dried.stale c.args.runs.now in
    let was = drying_skip c.args.tree.now c.args.dues.now c.args.ends.now s number c.dried.k next c.now-now.result c.now-now.ensures.value
    (skipped_by number c.args.nodes.now c.args.dry.now c.now-now.result c.dried.k next c.requires.places c.next_of-next.ensures.skipped)
    c.dried.invariant.0 in
    let p = get_or c.args.nodes.now next 0 in
    let at = tick_at number c.args.nodes.now c.args.dry.now next c.requires.places (omega (arith, off, few)) in
    let pack = dry_is_pack c.args.tree.now c.args.dues.now c.args.ends.now s _ was p at.0 (at.1 ∙ c.next_of-next.ensures.here (omega (arith, off))
    ∙ c.now-now.ensures.value) in
    dry_within c.args.tree.now c.args.dues.now c.args.ends.now s _ was p j pack e

pub next_of-next-requires-clause-narrowed : goal.next_of-next-requires-clause-narrowed
next_of-next-requires-clause-narrowed c = c.requires.narrowed

pub next_of-next-requires-clause-blocks : goal.next_of-next-requires-clause-blocks
next_of-next-requires-clause-blocks c = c.requires.blocks

pub next_of-next-requires-clause-from : goal.next_of-next-requires-clause-from
next_of-next-requires-clause-from c = c.dried.invariant.1

pub returns-then-next-used-clause-long : goal.returns-then-next-used-clause-long
returns-then-next-used-clause-long c = c.dried.invariant.2

pub bounds-nodes-next : goal.bounds-nodes-next
bounds-nodes-next c = let off = c.if-next-used.false in let few = c.requires.narrowed.few in let long = c.requires.places.nodes_long in
    omega (arith, off, few, long)

pub bounds-serves-p : goal.bounds-serves-p
bounds-serves-p c =
    let off = c.if-next-used.false in
    let few = c.requires.narrowed.few in
    let number = c.args.number.now in
    let within = c.requires.places.within c.next_of-next.result (omega (arith, off, few)) in
    let by = ticks_long number c.args.dry.now in
    let numbers = c.requires.places.number_long in
    let long = c.dried.invariant.0.ticks.long in
    let serves = c.requires.serves in
    omega (arith, within, by, numbers, long, serves)

pub take_out-requires-clause-ready : goal.take_out-requires-clause-ready
take_out-requires-clause-ready c =
    let off = c.if-next-used.false in
    let few = c.requires.narrowed.few in
    let number = c.args.number.now in
    let within = c.requires.places.within c.next_of-next.result (omega (arith, off, few)) in
    let by = ticks_long number c.args.dry.now in
    let numbers = c.requires.places.number_long in
    let long = c.dried.invariant.0.ticks.long in
    let ready = c.requires.ready in
    let ready' = c.dried.auto.ready in
    omega (arith, within, by, numbers, long, ready, ready')

pub take_out-requires-clause-stale : goal.take_out-requires-clause-stale
take_out-requires-clause-stale c =
    let off = c.if-next-used.false in
    let few = c.requires.narrowed.few in
    let number = c.args.number.now in
    let within = c.requires.places.within c.next_of-next.result (omega (arith, off, few)) in
    let by = ticks_long number c.args.dry.now in
    let numbers = c.requires.places.number_long in
    let long = c.dried.invariant.0.ticks.long in
    let stale = c.requires.stale in
    let stale' = c.dried.invariant.2 in
    omega (arith, within, by, numbers, long, stale, stale')

pub dried-smaller : goal.dried-smaller
dried-smaller c = let after = c.next_of-next.ensures.after in let off = c.if-next-used.false in omega (arith, after, off)

pub returns-clause-long : goal.returns-clause-long
returns-clause-long c = c.dried.invariant.2
