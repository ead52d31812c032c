use Rattle.std.proofs.Common.{refl}
use Rattle.knockout.proofs.KnockoutLemmas.{partner_left, partner_right}
use Rattle.knockout.proofs.partner.Goals as goal

pub returns-clause-left : goal.returns-clause-left
returns-clause-left c = λ i e. partner_left c.args.at i _ refl e

pub returns-clause-right : goal.returns-clause-right
returns-clause-right c = λ i e. partner_right c.args.at i _ refl e
