use Rattle.std.proofs.Common.{refl, ◌∙◌}
use Rattle.merged_rounds.specs.declared.replays.Replay.{Replay}
use Rattle.merged_rounds.proofs.TurnLemmas.{begins}
use Rattle.merged_rounds.proofs.replays.replay_of.Goals as goal

pub returns : goal.returns
returns c = λ again.
    let r : Replay = record {
      lap = c.args.lap;
      next = 0;
      shift = c.now.result;
      places = c.in_ok-places.places;
      changes = c.in_ok-changes.changes;
      shows = c.in_ok-shows.shows;
    } in
    begins c.args.plan.now c.know_lawful.ensures.lawful again.can c.args.core.now c.requires.belongs r again.lap again.end again.turns
    refl c.now.ensures.value (c.in_ok-places.ensures ∙ c.places.ensures) c.in_ok-changes.ensures (c.in_ok-shows.ensures.items ∙ c.deref.ensures.value)
