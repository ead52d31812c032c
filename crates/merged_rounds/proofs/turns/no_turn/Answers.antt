use Rattle.std.proofs.Common.{List, Option, None, ap, length, ◌∙◌}
use Rattle.std.proofs.lemmas.List.{length-replicate}
use Rattle.sched_base.specs.declared.rows.Leaf.{Leaf}
use Rattle.merged_rounds.specs.Replays.{packs_of}
use Rattle.merged_rounds.proofs.TurnLemmas.{turn_none}
use Rattle.merged_rounds.proofs.turns.no_turn.Goals as goal

pub returns-clause-turn : goal.returns-clause-turn
returns-clause-turn c =
    turn_none c.args.plan.now _ c.in_ok-with_room.ensures c.in_ok-with_capacity.ensures.items c.in_ok-with_capacity-2.ensures.items
    (ap (λ (xs : List (Option Leaf)). length xs) c.in_ok-no_packs.ensures ∙ length-replicate {A = Option Leaf} (packs_of c.args.plan.now) None)
