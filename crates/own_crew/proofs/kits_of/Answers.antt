use Rattle.std.proofs.Common.{◌++◌, ◌∷◌, [], ap, ◌∙◌}
use Rattle.own_crew.proofs.CrewLemmas.{length_more, filled_more}
use Rattle.own_crew.proofs.kits_of.Goals as goal

pub loop-preserved : goal.loop-preserved
loop-preserved c =
    let inv = c.loop.invariant in
    let grown = c.in_ok-push.ensures.items ∙ ap (λ kit. c.loop.kits.items ++ kit ∷ []) c.new-in-loop.ensures in
    record {
      long = length_more c.loop.counter _ _ _ inv.long grown;
      filled = filled_more c.loop.counter _ _ _ inv.long inv.filled grown;
    }
