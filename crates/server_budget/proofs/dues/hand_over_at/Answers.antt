use Rattle.std.proofs.Common.{Bool, ap, arith, false, get_or, ℕ, List, ◌∙◌}
use Rattle.server_budget.proofs.DueLemmas.{still_rests}
use Rattle.server_budget.proofs.dues.hand_over_at.Goals as goal

pub start_at-requires-clause-ahead : goal.start_at-requires-clause-ahead
start_at-requires-clause-ahead c = c.stop_at.ensures.ahead

pub start_at-requires-clause-rests : goal.start_at-requires-clause-rests
start_at-requires-clause-rests c = ap (λ (rs : List Bool). get_or rs c.args.after false) c.stop_at.ensures.runs ∙ still_rests c.args.runs.now c.args.before
    c.args.after c.requires.runs c.requires.rests

pub start_at-requires-clause-fits : goal.start_at-requires-clause-fits
start_at-requires-clause-fits c =
    let same = ap (λ (xs : List ℕ). get_or xs c.args.after 0) c.stop_at.ensures.remains in
    let fits = c.requires.fits in
    omega (arith, same, fits)

pub returns-clause-remains : goal.returns-clause-remains
returns-clause-remains c = c.start_at.ensures.remains ∙ c.stop_at.ensures.remains

pub returns-clause-dry : goal.returns-clause-dry
returns-clause-dry c =
    let same = ap (λ (xs : List ℕ). get_or xs c.args.after 0) c.stop_at.ensures.remains in
    let dry = c.start_at.ensures.dry in
    omega (arith, same, dry)
