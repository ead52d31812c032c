use Rattle.std.proofs.Common.{◌<◌, get_or, length, subst, sym}
use Rattle.std.proofs.lemmas.Result.{IfOk-from_err}
use Rattle.run_tree.specs.Schedule.{packs_at}
use Rattle.part_plans.proofs.NodeLemmas.{none_in, one_below}
use Rattle.part_plans.proofs.first_level.packs_of.Goals as goal
use Rattle.part_plans.proofs.first_level.packs_of.Goals.{then-part-first_pack+in_ok-push, else-part-first_pack}

pub loop-i-init : goal.loop-i-init
loop-i-init c =
    none_in (λ k. get_or c.new-packs.result.items k 0 < length (packs_at c.args.tree.now 0)) c.new-packs.result.items c.new-packs.ensures.items

pub first_pack-requires : goal.first_pack-requires
first_pack-requires c = subst (λ n. c.loop-i.i < n) c.first_packs-i-end.ensures c.loop-i-test.true

pub bounds-part-first_pack : goal.bounds-part-first_pack
bounds-part-first_pack c = subst (λ n. c.first_pack.result.0 < n) (sym c.requires) c.first_pack.ensures.pack.0

pub returns-in_err-push : goal.returns-in_err-push
returns-in_err-push c = IfOk-from_err _ _ c.from_residual.ensures.0

pub returns : goal.returns
returns c = c.loop-i.invariant

pub loop-i-preserved : goal.loop-i-preserved
loop-i-preserved c = elim c.if-part-first_pack.branch [
  | then-part-first_pack+in_ok-push w ↦
      rw w.packs-is
      (one_below (length (packs_at c.args.tree.now 0)) c.loop-i.packs.items w.push.new.self.items c.loop-i.i c.loop-i.invariant
      (subst (λ n. c.loop-i.i < n) c.first_packs-i-end.ensures c.loop-i-test.true) w.in_ok-push.ensures.items)
  | else-part-first_pack w ↦ rw w.packs-is c.loop-i.invariant
]
