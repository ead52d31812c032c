use Rattle.part_plans.proofs.FirstPacks.{some_level}
use Rattle.part_plans.proofs.first_level.first_packs.Goals as goal

pub packs-requires : goal.packs-requires
packs-requires c = let lawful = c.know_lawful.ensures.lawful in some_level c.args.tree.now lawful.tree lawful.sized.some_processors
