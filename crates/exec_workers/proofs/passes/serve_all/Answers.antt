use Rattle.std.proofs.Common.{ap, arith, ◌∙◌}
use Rattle.std.proofs.lemmas.List.{get_or_default}
use Rattle.exec_lanes.specs.Lanes.{LaneContents, no_lane}
use Rattle.exec_workers.proofs.passes.serve_all.Goals as goal

pub for_each_mut-requires-clause-threads : goal.for_each_mut-requires-clause-threads
for_each_mut-requires-clause-threads g c κs within = omega arith

pub for_each_mut-requires-clause-accepts : goal.for_each_mut-requires-clause-accepts
for_each_mut-requires-clause-accepts g c κs within = λ i p below is κs' ref ref' name same known fits none n κs'' lives. (
  c.requires.agreed,
  (
    c.requires.counts,
    ap (λ (l : LaneContents). l.cause) (is ∙ get_or_default c.args.lanes.now i _ no_lane below) ∙ c.requires.fresh i
        below,
  ),
)
