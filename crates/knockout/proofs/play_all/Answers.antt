use Rattle.std.proofs.Common.{◌-◌, ◌∙◌, arith, refl}
use Rattle.knockout.proofs.KnockoutLemmas.{second_same, right_from}
use Rattle.knockout.proofs.play_all.Goals as goal

pub loop-at-preserved : goal.loop-at-preserved
loop-at-preserved c =
    let at = c.loop-at.at - 1 in (
      omega arith,
      omega arith,
      second_same c.loop-at.keys c.play.new.keys at _ c.play.ensures refl c.args.count (omega arith) ∙ c.loop-at.invariant.2,
      right_from c.loop-at.keys c.play.new.keys at _ c.play.ensures refl c.args.count c.loop-at.at (omega arith) (omega arith) (omega arith)
          c.loop-at.invariant.3,
    )
