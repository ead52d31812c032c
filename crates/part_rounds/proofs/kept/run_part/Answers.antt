use Rattle.std.proofs.Common.{◌∙◌, ◌<◌, ap, arith, length, length-set, subst, sym}
use Rattle.run_tree.specs.Schedule.{packs_at}
use Rattle.run_tree.specs.Tree.{Tree}
use Rattle.event_core.specs.Rounds.{IsRoundUpTo}
use Rattle.event_core.proofs.FirstLevel.{some_level}
use Rattle.part_rounds.proofs.KeptParts.{one_more_shown}
use Rattle.part_rounds.proofs.kept.run_part.Goals as goal

pub packs-k-end-requires : goal.packs-k-end-requires
packs-k-end-requires c =
    let h = c.know_lawful.ensures.lawful in
    subst (λ (t : Tree). 0 < t.levels) (sym c.tree.ensures.value) (some_level c.args.part.now.plan.tree h.tree.tree h.sized.some_processors)

pub loop-k-preserved : goal.loop-k-preserved
loop-k-preserved c =
    let long = c.loop-k.invariant.long in
    let many = c.packs-k-end.ensures in
    let same = ap (λ (t : Tree). length (packs_at t 0)) c.tree.ensures.value in
    let on = c.loop-k-test.true in
    record {
      long = length-set c.loop-k.shows c.loop-k.k c.shown_of.result ∙ long;
      each = one_more_shown c.args.part.now c.now-start.result c.loop-k.k c.loop-k.shows c.shown_of.result (omega (arith, long, many, same, on))
          c.loop-k.invariant.each c.shown_of.ensures;
    }

pub go-requires-clause-belongs : goal.go-requires-clause-belongs
go-requires-clause-belongs c = c.requires.belongs

pub go-requires-clause-early : goal.go-requires-clause-early
go-requires-clause-early c = c.requires.early

pub shown_of-requires-clause-leaves : goal.shown_of-requires-clause-leaves
shown_of-requires-clause-leaves c = c.requires.part.leaves_long

pub shown_of-requires-clause-belongs : goal.shown_of-requires-clause-belongs
shown_of-requires-clause-belongs c = c.go.ensures.belongs

pub shown_of-requires-clause-round : goal.shown_of-requires-clause-round
shown_of-requires-clause-round c = subst (λ n. IsRoundUpTo c.args.part.now.plan n c.go.new.self.tick) (sym c.now-start.ensures.value) c.go.ensures.round

pub shown_of-requires-clause-pack : goal.shown_of-requires-clause-pack
shown_of-requires-clause-pack c = subst (λ n. c.loop-k.k < n) (c.packs-k-end.ensures ∙ ap (λ (t : Tree). length (packs_at t 0)) c.tree.ensures.value)
    c.loop-k-test.true

pub bounds-shows-k : goal.bounds-shows-k
bounds-shows-k c =
    subst (λ n. c.loop-k.k < n) (sym c.loop-k.invariant.long)
    (subst (λ n. c.loop-k.k < n) (c.packs-k-end.ensures ∙ ap (λ (t : Tree). length (packs_at t 0)) c.tree.ensures.value) c.loop-k-test.true)

pub returns-clause-belongs : goal.returns-clause-belongs
returns-clause-belongs c = c.go.ensures.belongs
