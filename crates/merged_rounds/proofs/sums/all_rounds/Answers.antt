use Rattle.std.proofs.Common.{subst, sym}
use Rattle.merged_rows.specs.Lawful.{AreLawful}
use Rattle.merged_rounds.proofs.SumLemmas.{all_lawful}
use Rattle.merged_rounds.proofs.sums.all_rounds.Goals as goal

pub returns-clause-lawful : goal.returns-clause-lawful
returns-clause-lawful c = subst (λ rows. AreLawful c.args.plan.now.set rows.lanes) (sym c.into_rows.ensures) (all_lawful c.args.plan.now
    c.know_lawful.ensures.lawful c.args.sum c.requires.sum)
