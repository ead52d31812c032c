use Rattle.mode_join.proofs.JoinLemmas.{no_large_scale}
use Rattle.mode_join.proofs.joins.plan_of.Goals as goal

pub unreachable-requires : goal.unreachable-requires
unreachable-requires c = no_large_scale c.args.set c.know_lawful.ensures.lawful c.requires c.in-Err-ScaleTooLarge.field-0-0
    (rw c.in-Err-ScaleTooLarge.field-0-is at c.in-Err-ScaleTooLarge.ensures.refused)
