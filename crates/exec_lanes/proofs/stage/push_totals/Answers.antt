use Rattle.std.proofs.Common.{◌≡◌, ◌+◌, ap, ◌∙◌, arith, length}
use Rattle.std.proofs.lemmas.List.{length_push}
use Rattle.sched_edges.specs.Jobs.{JobAt}
use Rattle.exec_lanes.proofs.PlaceLemmas.{each_push_or}
use Rattle.exec_lanes.proofs.stage.push_totals.Goals as goal

pub used-requires : goal.used-requires
used-requires g c = c.requires.there c.loop-t.t c.loop-t-test.true

pub loop-t-init : goal.loop-t-init
loop-t-init g c = record { count = ap length c.requires.none; left = omega arith; ticks = λ t job below at. absurd (omega (arith, below)) }

pub push-requires : goal.push-requires
push-requires g c = let left = c.loop-t.invariant.left in let room = c.requires.room in let below = c.loop-t-test.true in omega (arith, left, room, below)

pub loop-t-preserved : goal.loop-t-preserved
loop-t-preserved g c =
    let inv = c.loop-t.invariant in
    record {
      count = rw c.push.ensures.ticks (length_push c.loop-t.totals.ticks c.used.result ∙ ap (λ n. n + 1) inv.count);
      left = let room = c.push.ensures.room in let left = inv.left in omega (arith, room, left);
      ticks = λ t job below at. rw c.push.ensures.ticks
          (each_push_or 0 (λ q x. (k : g.row.J.Denot) → JobAt c.args.jobs.now.places q k → x ≡ g.J.Job.used k) c.loop-t.totals.ticks c.loop-t.t
          c.used.result inv.count c.used.ensures (λ q before k at. inv.ticks q k before at) t below job at);
    }

pub returns-clause-count : goal.returns-clause-count
returns-clause-count g c = let count = c.loop-t.invariant.count in let end = c.loop-t-test.false in let up = c.loop-t.auto.t-end in
    omega (arith, count, end, up)

pub returns-clause-ticks : goal.returns-clause-ticks
returns-clause-ticks g c = λ t job below at. c.loop-t.invariant.ticks t job (let end = c.loop-t-test.false in omega (arith, below, end)) at
