use Rattle.task_gen.proofs.DrillLemmas.{IsDrawn-none, IsDrawn-onto, fits_at, scale_divides, scale_small}
use Rattle.task_gen.proofs.drill.drill_law.Goals as goal

pub returns-clause-lawful : goal.returns-clause-lawful
returns-clause-lawful c words whole = (IsDrawn-onto _ words IsDrawn-none).lawful

pub returns-clause-fits : goal.returns-clause-fits
returns-clause-fits c words scale is = fits_at _ scale (IsDrawn-onto _ words IsDrawn-none) is

pub returns-clause-divides : goal.returns-clause-divides
returns-clause-divides c words scale is = scale_divides _ scale (IsDrawn-onto _ words IsDrawn-none) is

pub returns-clause-small : goal.returns-clause-small
returns-clause-small c words scale is = scale_small _ scale (IsDrawn-onto _ words IsDrawn-none) is
