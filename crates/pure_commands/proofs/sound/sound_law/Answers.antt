use Rattle.pure_commands.proofs.SoundLemmas.{tells_truth}
use Rattle.pure_commands.proofs.sound.sound_law.Goals as goal

pub returns : goal.returns
returns c =
    tells_truth c.reading_law.ensures.lawful c.tree_law.ensures.is c.tree_law.ensures.scale c.valid_law.ensures.set c.wrap_law.ensures.valid
    c.merged_plan_law.ensures.valid c.step_law.ensures.rows c.repeat_unit_law.ensures.again
