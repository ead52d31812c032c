use Rattle.std.proofs.Common.{◌/◌, sym, ap₂, ◌∙◌}
use Rattle.job_vm.proofs.LoadingLemmas.{put_back, lifted_place, told_in_place}
use Rattle.job_vm.proofs.results.told_at.Goals as goal

pub returns-clause-same : goal.returns-clause-same
returns-clause-same g c = put_back _ _ _ c.args.i c.lift-job.result c.lift-job.ensures.job c.lift-job.ensures.rest c.lay.ensures

pub lift-job-requires : goal.lift-job-requires
lift-job-requires g c = c.requires.there

pub nonzero_div-told : goal.nonzero_div-told
nonzero_div-told g c = c.requires.scale

pub lay-requires : goal.lay-requires
lay-requires g c = lifted_place _ _ c.args.i c.lift-job.result c.lift-job.ensures.job c.lift-job.ensures.rest

pub returns-clause-told : goal.returns-clause-told
returns-clause-told g c =
    told_in_place g.J.Job c.args.scale c.args.jobs.now.places c.args.i c.lift-job.result c.lift-job.ensures.job
    ∙ ap₂ (λ used numbers. record { units = used / c.args.scale; numbers = numbers }) (sym c.used.ensures) (sym c.state.ensures)
