use Rattle.std.proofs.Common.{◌≡◌, ◌∙◌, arith, length, rules}
use Rattle.sched_edges.specs.Jobs.{JobAt}
use Rattle.exec_lanes.proofs.PlaceLemmas.{each_push_or}
use Rattle.exec_lanes.proofs.ErrorLemmas.{no_answer}
use Rattle.exec_lanes.proofs.stage.fault_counts.Goals as goal

pub faults-requires : goal.faults-requires
faults-requires g c = c.requires c.loop-t.t c.loop-t-test.true

pub returns-in_err-counts-clause-count : goal.returns-in_err-counts-clause-count
returns-in_err-counts-clause-count g c = no_answer _ _ c.from_residual.ensures.0

pub returns-in_err-counts-clause-counts : goal.returns-in_err-counts-clause-counts
returns-in_err-counts-clause-counts g c = no_answer _ _ c.from_residual.ensures.0

pub returns-in_err-push-clause-count : goal.returns-in_err-push-clause-count
returns-in_err-push-clause-count g c = no_answer _ _ c.from_residual-in_err-push.ensures.0

pub returns-in_err-push-clause-counts : goal.returns-in_err-push-clause-counts
returns-in_err-push-clause-counts g c = no_answer _ _ c.from_residual-in_err-push.ensures.0

pub loop-t-init : goal.loop-t-init
loop-t-init g c = (c.in_ok-counts.ensures.len, λ t job below at. absurd (omega (arith, below)))

pub returns-clause-count : goal.returns-clause-count
returns-clause-count g c = let count = c.loop-t.invariant.0 in omega (arith, count)

pub returns-clause-counts : goal.returns-clause-counts
returns-clause-counts g c = λ t job below at. c.loop-t.invariant.1 t job (omega (arith, below)) at

pub loop-t-preserved : goal.loop-t-preserved
loop-t-preserved g c =
    let inv = c.loop-t.invariant in
    let own : length c.loop-t.counts.items ≡ c.loop-t.counts.len = search rules in (
      (let long = c.in_ok-push.ensures.len in let count = inv.0 in omega (arith, long, count)),
      λ t job below at. rw c.in_ok-push.ensures.items
          (each_push_or 0 (λ q x. (k : g.row.J.Denot) → JobAt c.args.jobs.now.places q k → x ≡ g.J.Job.faults k) c.loop-t.counts.items c.loop-t.t
          c.faults.result (own ∙ inv.0) c.faults.ensures (λ q before k at. inv.1 q k before at) t below job at),
    )
