use Rattle.std.proofs.Common.{◌<◌, subst, sym}
use Rattle.std.proofs.lemmas.Result.{IfOk-from_err}
use Rattle.run_tree.specs.Tree.{Tree}
use Rattle.event_core.proofs.FirstLevel.{some_level}
use Rattle.part_rounds.proofs.sources.no_shows.Goals as goal

pub packs-requires : goal.packs-requires
packs-requires c =
    let h = c.know_lawful.ensures.lawful in
    subst (λ (t : Tree). 0 < t.levels) (sym c.tree.ensures.value) (some_level c.args.part.now.plan.tree h.tree.tree h.sized.some_processors)

pub returns-in_err-vec : goal.returns-in_err-vec
returns-in_err-vec c = IfOk-from_err _ _ c.from_residual.ensures.0
