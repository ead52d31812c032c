use Rattle.std.proofs.Common.{◌≡◌, ◌∙◌, length, ap, arith}
use Rattle.sched_base.specs.Sets.{SetContents}
use Rattle.run_tree.specs.Tree.{Tree}
use Rattle.exec_lanes.proofs.ErrorLemmas.{no_answer}
use Rattle.exec_lanes.proofs.run_memory.RunMemory.of_plan.Goals.{After-count-n}
use Rattle.exec_lanes.proofs.run_memory.RunMemory.of_plan.Goals as goal

tasks : (g : _) (c : After-count-n g) → c.count-n.result ≡ length c.args.plan.now.set.tasks
tasks g c = c.count-n.ensures.value ∙ ap (λ (s : SetContents). length s.tasks) c.set.ensures.value

pub fault_counts-requires : goal.fault_counts-requires
fault_counts-requires g c t below =
    let n = tasks g (goal.at.fault_counts-requires g c).After-count-n in
    c.requires t (omega (arith, n, below))

pub returns-in_err-fault_counts : goal.returns-in_err-fault_counts
returns-in_err-fault_counts g c = no_answer _ _ c.from_residual.ensures.0

pub returns-in_err-vec : goal.returns-in_err-vec
returns-in_err-vec g c = no_answer _ _ c.from_residual-in_err-vec.ensures.0

pub returns-in_err-of_lanes : goal.returns-in_err-of_lanes
returns-in_err-of_lanes g c = no_answer _ _ c.from_residual-in_err-of_lanes.ensures.0

pub returns-in_err-with_room : goal.returns-in_err-with_room
returns-in_err-with_room g c = no_answer _ _ c.from_residual-in_err-with_room.ensures.0

pub returns-in_err-with_capacity : goal.returns-in_err-with_capacity
returns-in_err-with_capacity g c = no_answer _ _ c.from_residual-in_err-with_capacity.ensures.0

pub returns : goal.returns
returns g c =
    let n = tasks g (goal.at.returns g c).After-count-n in
    let m = c.processors-m.ensures.value ∙ ap (λ (t : Tree). t.processors) c.tree.ensures.value in
    record {
      count = let count = c.in_ok-fault_counts.ensures.count in omega (arith, count, n);
      told = λ t job within at. c.in_ok-fault_counts.ensures.counts t job (omega (arith, within, n)) at;
      all_posted = let long = c.in_ok-vec.ensures.len in omega (arith, m, long);
      no_total = c.in_ok-with_room.ensures.none;
      all_totals = let room = c.in_ok-with_room.ensures.room in omega (arith, room, n);
      no_lane = c.in_ok-with_capacity.ensures.len;
      all_lanes = let capacity = c.in_ok-with_capacity.ensures.capacity in omega (arith, m, capacity);
    }
