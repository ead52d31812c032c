use Rattle.std.proofs.Common.{◌≡◌, ◌<◌, ◌+◌, ◌∙◌, ℕ, Some, inl, inr, length, get_or-set_same, min, set, slice_get, arith, refl, sym, ap, subst}
use Rattle.std.proofs.lemmas.Bool.{cases_eq}
use Rattle.std.proofs.lemmas.Option.{slice_get_read}
use Rattle.sched_base.specs.declared.rows.Leaf.TheVariants.{Empty}
use Rattle.run_tree.specs.Plans.{stop_of}
use Rattle.partition_rounds.specs.declared.own_rounds.OwnRounds.{OwnRounds}
use Rattle.partition_rounds.proofs.PartitionLemmas.{AreMoved, Moving, gone_on, moved_gone, moved_stayed}
use Rattle.partition_rounds.proofs.partitions.Partition.go_telling.Goals as goal

pub go_if-count-requires-clause-belongs : goal.go_if-count-requires-clause-belongs
go_if-count-requires-clause-belongs c =
    let lanes = c.loop-q.self.lanes.items in
    let q = c.loop-q.q in
    let moved = c.loop-q.invariant.moved in
    let in_lanes : q < length lanes = omega arith in
    let at : slice_get lanes q ≡ Some c.index_mut.result.now = slice_get_read lanes (length lanes) q c.index_mut.result.now refl in_lanes
    c.index_mut.ensures.value in
    c.requires.belongs.each q c.index_mut.result.now (sym (moved.rest q (omega arith)) ∙ at)

pub loop-q-preserved : goal.loop-q-preserved
loop-q-preserved c =
    let lanes = c.loop-q.self.lanes.items in
    let q = c.loop-q.q in
    let plan = c.args.plan.now in
    let tick = c.args.self.now.tick in
    let old : Moving = record { lanes = c.args.self.now.lanes.items; told = c.args.told.now; leaves = c.args.leaves.now; count = 0; end = stop_of plan } in
    let new : Moving = record { lanes = lanes; told = c.loop-q.told; leaves = c.loop-q.leaves; count = c.loop-q.count; end = c.loop-q.end } in
    let moved : AreMoved plan tick q old new = c.loop-q.invariant.moved in
    let lane = c.index_mut.result.now in
    let lane' = c.go_if-count.new.lane in
    let in_lanes : q < length lanes = omega arith in
    let at : slice_get lanes q ≡ Some lane = slice_get_read lanes (length lanes) q lane refl in_lanes c.index_mut.ensures.value in
    let read : c.index.result.now ≡ lane' = c.index.ensures ∙ get_or-set_same lanes q lane' c.index.result.now in_lanes in
    let end : min c.loop-q.end lane'.end ≡ c.min-end.result = sym (c.min-end.ensures ∙ ap (λ (r : OwnRounds). min c.loop-q.end r.end) read) in
    let P : ℕ → Type 0 = λ e. AreMoved plan tick (q + 1) old
    (record { lanes = set lanes q lane'; told = c.go_if-count.new.told; leaves = c.go_if-count.new.leaves; count = c.go_if-count.result; end = e }) in
    record {
      tick = refl;
      moved = subst P end (elim (cases_eq lane.end tick) [
        | inl due ↦ moved_gone plan tick q old new moved lane lane' in_lanes at c.go_if-count.ensures.belongs c.go_if-count.ensures.own
            c.go_if-count.new.told c.go_if-count.new.leaves c.go_if-count.result (omega arith) (omega arith) (c.go_if-count.ensures.due due)
        | inr on ↦ moved_stayed plan tick q old new moved lane lane' in_lanes at c.go_if-count.ensures.belongs c.go_if-count.ensures.own
            c.go_if-count.new.told c.go_if-count.new.leaves c.go_if-count.result on (c.go_if-count.ensures.kept on)
      ]);
    }

pub returns-clause-belongs : goal.returns-clause-belongs
returns-clause-belongs c =
    let part = c.args.self.now in
    let plan = c.args.plan.now in
    let old : Moving = record { lanes = part.lanes.items; told = c.args.told.now; leaves = c.args.leaves.now; count = 0; end = stop_of plan } in
    let new : Moving = record {
      lanes = c.loop-q.self.lanes.items;
      told = c.loop-q.told;
      leaves = c.loop-q.leaves;
      count = c.loop-q.count;
      end = c.loop-q.end;
    } in
    let long = c.loop-q.invariant.moved.long in
    let all : c.loop-q.q ≡ length part.lanes.items = omega arith in
    let gone = gone_on plan c.rounds_end-end.ensures.lawful part c.requires.belongs c.requires.early old new c.loop-q.q refl all c.loop-q.invariant.moved in
    record {
      partitioned = c.requires.belongs.partitioned;
      on_time = c.requires.belongs.on_time;
      many = gone.lanes.many;
      each = gone.lanes.each;
      lawful = gone.lanes.lawful;
      going = λ q r at. gone.lanes.going q r at;
      event = gone.round.last;
      within = gone.round.below;
    }

pub returns-clause-round : goal.returns-clause-round
returns-clause-round c =
    let part = c.args.self.now in
    let plan = c.args.plan.now in
    let old : Moving = record { lanes = part.lanes.items; told = c.args.told.now; leaves = c.args.leaves.now; count = 0; end = stop_of plan } in
    let new : Moving = record {
      lanes = c.loop-q.self.lanes.items;
      told = c.loop-q.told;
      leaves = c.loop-q.leaves;
      count = c.loop-q.count;
      end = c.loop-q.end;
    } in
    let long = c.loop-q.invariant.moved.long in
    let all : c.loop-q.q ≡ length part.lanes.items = omega arith in
    let gone = gone_on plan c.rounds_end-end.ensures.lawful part c.requires.belongs c.requires.early old new c.loop-q.q refl all c.loop-q.invariant.moved in
    gone.round

pub returns-clause-all : goal.returns-clause-all
returns-clause-all c =
    let part = c.args.self.now in
    let plan = c.args.plan.now in
    let old : Moving = record { lanes = part.lanes.items; told = c.args.told.now; leaves = c.args.leaves.now; count = 0; end = stop_of plan } in
    let new : Moving = record {
      lanes = c.loop-q.self.lanes.items;
      told = c.loop-q.told;
      leaves = c.loop-q.leaves;
      count = c.loop-q.count;
      end = c.loop-q.end;
    } in
    let long = c.loop-q.invariant.moved.long in
    let all : c.loop-q.q ≡ length part.lanes.items = omega arith in
    let gone = gone_on plan c.rounds_end-end.ensures.lawful part c.requires.belongs c.requires.early old new c.loop-q.q refl all c.loop-q.invariant.moved in
    gone.all c.requires.many c.requires.before

pub returns-clause-first : goal.returns-clause-first
returns-clause-first c =
    let part = c.args.self.now in
    let plan = c.args.plan.now in
    let old : Moving = record { lanes = part.lanes.items; told = c.args.told.now; leaves = c.args.leaves.now; count = 0; end = stop_of plan } in
    let new : Moving = record {
      lanes = c.loop-q.self.lanes.items;
      told = c.loop-q.told;
      leaves = c.loop-q.leaves;
      count = c.loop-q.count;
      end = c.loop-q.end;
    } in
    let long = c.loop-q.invariant.moved.long in
    let all : c.loop-q.q ≡ length part.lanes.items = omega arith in
    let gone = gone_on plan c.rounds_end-end.ensures.lawful part c.requires.belongs c.requires.early old new c.loop-q.q refl all c.loop-q.invariant.moved in
    gone.first (record { processor = 0; start = 0; end = 0; leaf = Empty })

pub returns-clause-others : goal.returns-clause-others
returns-clause-others c =
    let part = c.args.self.now in
    let plan = c.args.plan.now in
    let old : Moving = record { lanes = part.lanes.items; told = c.args.told.now; leaves = c.args.leaves.now; count = 0; end = stop_of plan } in
    let new : Moving = record {
      lanes = c.loop-q.self.lanes.items;
      told = c.loop-q.told;
      leaves = c.loop-q.leaves;
      count = c.loop-q.count;
      end = c.loop-q.end;
    } in
    let long = c.loop-q.invariant.moved.long in
    let all : c.loop-q.q ≡ length part.lanes.items = omega arith in
    let gone = gone_on plan c.rounds_end-end.ensures.lawful part c.requires.belongs c.requires.early old new c.loop-q.q refl all c.loop-q.invariant.moved in
    λ q start none l away round. gone.others q start none l away round
