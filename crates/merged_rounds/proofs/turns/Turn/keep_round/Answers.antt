use Rattle.std.proofs.Common.{◌≡◌, ◌∙◌, ℕ, ◌+◌, ◌<◌, None, ap, arith, get_or, length, subst, sym}
use Rattle.sched_base.specs.Places.{Placing}
use Rattle.run_tree.specs.Boundaries.{set_boundary}
use Rattle.run_tree.proofs.ScheduleLemmas.{length-places}
use Rattle.event_core.proofs.OneRound.{length-last}
use Rattle.merged_rounds.specs.Replays.{AreKept, packs_of}
use Rattle.merged_rounds.proofs.ReplayLemmas.{onto_end}
use Rattle.merged_rounds.proofs.ReplaySteps.{pack_by}
use Rattle.merged_rounds.proofs.TurnLemmas.{end_on, kept_none, kept_to, turn_on}
use Rattle.merged_rounds.proofs.turns.Turn.keep_round.Goals as goal

pub packs-init : goal.packs-init
packs-init c =
    let p = c.args.plan.now in
    let h = c.know_lawful.ensures.lawful in
    let turn = c.args.self.now in
    let next = c.next_kept-k.result in
    let marks = c.requires.marks in
    let within = c.next_kept-k.ensures.within in
    let long = c.requires.turn.long in
    let some : 0 < next → 0 < length turn.ends = (λ l. c.is_none-whole.ensures (c.next_kept-k.ensures.later l)) in
    let onto = ap (λ (w : Placing). w.onto) c.requires.places ∙ onto_end p h c.args.start c.args.end c.requires.round in
    record {
      kept = kept_to p c.args.start turn turn 0 next (omega arith) (kept_none p c.args.start turn c.requires.turn) some (λ k low high.
          let inside : k < length turn.last.items = omega (arith, high, marks, within, long) in
          let still = c.requires.still (some (omega (arith, high))) in
          let off = c.next_kept-k.ensures.skipped k low high in
          pack_by p h c.requires.can c.args.start c.args.end c.args.places.now.onto onto c.args.leaves.now c.requires.leaves k (get_or turn.last.items k None)
          (λ free. still.none k (omega arith) inside off free) (λ q at. still.some k q (omega arith) inside off at));
      within = omega (arith, marks, within);
    }

pub shown_by-requires-clause-pack : goal.shown_by-requires-clause-pack
shown_by-requires-clause-pack c =
    let many = c.pack_count-count.ensures in
    let on = c.packs-test.true in
    let last = ap (λ (w : Placing). length w.last) c.requires.places ∙ length-last c.args.plan.now c.args.end in
    omega (arith, many, on, last)

pub shown_by-requires-clause-long : goal.shown_by-requires-clause-long
shown_by-requires-clause-long c =
    let p = c.args.plan.now in
    c.requires.leaves.long ∙ sym (ap (λ (w : Placing). length w.onto) c.requires.places ∙ length-places (set_boundary p.set.tasks) p.tree c.args.end)

pub keep_pack-requires : goal.keep_pack-requires
keep_pack-requires c =
    let many = c.pack_count-count.ensures in
    let on = c.packs-test.true in
    let long = c.packs.invariant.kept.long ∙ c.requires.turn.long in
    omega (arith, many, on, long)

pub packs-preserved : goal.packs-preserved
packs-preserved c =
    let p = c.args.plan.now in
    let h = c.know_lawful.ensures.lawful in
    let turn = c.args.self.now in
    let many = c.pack_count-count.ensures in
    let on = c.packs-test.true in
    let next = c.next_kept-k-in-packs.result in
    let marks = c.requires.marks in
    let within = c.next_kept-k-in-packs.ensures.within in
    let long = c.requires.turn.long in
    let some : c.packs.k + 1 < next → 0 < length turn.ends = (λ l. c.is_none-whole.ensures (c.next_kept-k-in-packs.ensures.later l)) in
    let onto = ap (λ (w : Placing). w.onto) c.requires.places ∙ onto_end p h c.args.start c.args.end c.requires.round in
    let kept = c.in_ok-keep_pack.ensures.kept p c.args.start turn c.packs.invariant.kept (omega (arith, many, on))
    (pack_by p h c.requires.can c.args.start c.args.end c.args.places.now.onto onto c.args.leaves.now c.requires.leaves c.packs.k c.of-leaf.result
    (λ free. c.of-leaf.ensures ∙ c.shown_by.ensures.none free) (λ q at. c.of-leaf.ensures ∙ c.shown_by.ensures.some q at)) in
    record {
      kept = kept_to p c.args.start turn c.keep_pack.new.self (c.packs.k + 1) next c.next_kept-k-in-packs.ensures.after kept some (λ k low high.
          let inside : k < length turn.last.items = omega (arith, high, marks, within, long) in
          let still = c.requires.still (some (omega (arith, low, high))) in
          let off = c.next_kept-k-in-packs.ensures.skipped k low high in
          let same = kept.later k low in
          pack_by p h c.requires.can c.args.start c.args.end c.args.places.now.onto onto c.args.leaves.now c.requires.leaves k
          (get_or c.keep_pack.new.self.last.items k None)
          (λ free. same ∙ still.none k (omega arith) inside off free) (λ q at. same ∙ still.some k q (omega arith) inside off at));
      within = omega (arith, marks, within);
    }

pub returns : goal.returns
returns c =
    let p = c.args.plan.now in
    let many : c.pack_count-count.result ≡ packs_of p = c.pack_count-count.ensures in
    let off = c.packs-test.false in
    let within = c.packs.invariant.within in
    let all : c.packs.k ≡ packs_of p = omega (arith, many, off, within) in
    let kept = subst (λ (n : ℕ). AreKept p c.args.start c.args.self.now c.packs.self n) all c.packs.invariant.kept in
    let e = c.in_ok-close.ensures in
    record {
      turn = turn_on p c.args.start c.args.end c.args.self.now c.packs.self c.close.new.self c.requires.turn c.requires.here c.requires.round kept e.ends
          e.parts e.entries e.last;
      end = end_on p c.args.start c.args.end c.args.self.now c.packs.self c.close.new.self c.requires.turn c.requires.here c.requires.round kept e.ends
          e.parts e.entries e.last;
    }
