use Rattle.std.proofs.Common.{◌≡◌, ◌<◌, ◌+◌, ℕ, Option, None, get_or, length, refl, set, arith, subst, sym}
use Rattle.sched_base.specs.declared.rows.Leaf.{Leaf}
use Rattle.run_tree.specs.Plans.{IsPlan, stop_of}
use Rattle.merged_rounds.specs.Replays.{packs_of}
use Rattle.part_plans.specs.declared.parts.PartPlan.{PartPlan}
use Rattle.part_rounds.specs.PartRounds.{IsPartRound}
use Rattle.part_rounds.specs.PartedSteps.{IsTelling}
use Rattle.part_rounds.proofs.CoverLemmas.{goes_on, pack_shows}
use Rattle.part_rounds.proofs.PartedLemmas.{read_at, telling_more}
use Rattle.part_rounds.proofs.parted.go_if.Goals as goal

pub loop-k-preserved : goal.loop-k-preserved
loop-k-preserved c =
    let whole = c.args.plan.now in
    let now = c.args.now in
    let w = c.know_lawful.ensures.lawful in
    let r = c.go.new.self in
    let k = c.loop-k.k in
    let belongs = c.go.ensures.belongs in
    let o : IsPlan r.part.plan = subst (λ (x : PartPlan). IsPlan x.plan) (sym c.go.ensures.part) c.requires.lawful in
    let due : c.args.rounds.now.end ≡ now = omega arith in
    let round = subst (λ (s : ℕ). IsPartRound r.part s r.end r.shows.items) due c.go.ensures.round in
    let long = belongs.long in
    let in_shows : k < length r.shows.items = omega arith in
    let lk : k < packs_of r.part.plan = omega (arith, in_shows, long) in
    let packs_long = belongs.part.packs_long in
    let within = belongs.part.packs_within k lk in
    let many = c.requires.many in
    let told = c.loop-k.invariant.telling in
    let as_long = told.long in
    let pack : get_or r.part.packs.items k 0 ≡ c.index-in-loop-k.result.now = read_at r.part.packs.items k c.index-in-loop-k.result.now 0
    (omega (arith, lk, packs_long)) c.index-in-loop-k.ensures in
    let leaf : get_or r.shows.items k None ≡ c.index.result.now = read_at r.shows.items k c.index.result.now None in_shows c.index.ensures in
    let on = pack_shows whole w r.part o belongs.part now r.end now k r.shows.items round (omega arith) (goes_on whole w r.part o belongs.part now r.end
    r.shows.items round) lk in
    let more = telling_more whole now r.part.packs.items k c.args.shows.now c.loop-k.shows (get_or r.shows.items k None) told (omega (
      arith,
      within,
      many,
      as_long,
    )) on in
    let Q : ℕ → Option Leaf → Type 0 = λ i v. IsTelling whole now r.part.packs.items (k + 1) c.args.shows.now (set c.loop-k.shows i v) in
    record { telling = subst (λ (i : ℕ). Q i c.index.result.now) pack (subst (λ (v : Option Leaf). Q (get_or r.part.packs.items k 0) v) leaf more) }

pub returns-then-rounds-now-clause-belongs : goal.returns-then-rounds-now-clause-belongs
returns-then-rounds-now-clause-belongs c = c.requires.belongs

pub returns-then-rounds-now-clause-part : goal.returns-then-rounds-now-clause-part
returns-then-rounds-now-clause-part c = refl

pub returns-then-rounds-now-clause-round : goal.returns-then-rounds-now-clause-round
returns-then-rounds-now-clause-round c = λ due. absurd (c.if-rounds-now.true due)

pub returns-then-rounds-now-clause-told : goal.returns-then-rounds-now-clause-told
returns-then-rounds-now-clause-told c = λ due. absurd (c.if-rounds-now.true due)

pub returns-then-rounds-now-clause-kept : goal.returns-then-rounds-now-clause-kept
returns-then-rounds-now-clause-kept c = λ _. refl

pub returns-then-rounds-now-clause-same : goal.returns-then-rounds-now-clause-same
returns-then-rounds-now-clause-same c = λ _. refl

pub go-requires-clause-belongs : goal.go-requires-clause-belongs
go-requires-clause-belongs c = c.requires.belongs

pub go-requires-clause-early : goal.go-requires-clause-early
go-requires-clause-early c = subst (λ n. n < stop_of c.args.plan.now) (sym c.if-rounds-now.false) c.requires.early

pub returns-clause-belongs : goal.returns-clause-belongs
returns-clause-belongs c = c.go.ensures.belongs

pub returns-clause-part : goal.returns-clause-part
returns-clause-part c = c.go.ensures.part

pub returns-clause-round : goal.returns-clause-round
returns-clause-round c = λ due. subst (λ s. IsPartRound c.go.new.self.part s c.go.new.self.end c.go.new.self.shows.items) due c.go.ensures.round

pub returns-clause-kept : goal.returns-clause-kept
returns-clause-kept c = λ late. absurd (late c.if-rounds-now.false)

pub returns-clause-same : goal.returns-clause-same
returns-clause-same c = λ late. absurd (late c.if-rounds-now.false)
