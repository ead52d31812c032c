use Rattle.server_pack.proofs.ItemLemmas.{items_held, items_only, items_rise}
use Rattle.server_pack.proofs.laws.items_law.Goals as goal

pub returns-clause-held : goal.returns-clause-held
returns-clause-held c = items_held

pub returns-clause-only : goal.returns-clause-only
returns-clause-only c = items_only

pub returns-clause-rising : goal.returns-clause-rising
returns-clause-rising c = items_rise
