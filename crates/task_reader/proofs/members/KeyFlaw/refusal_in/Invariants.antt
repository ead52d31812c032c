use Rattle.std.proofs.Common.{◌≡◌, drop}
use Rattle.toml.specs.View.{table_view}
use Rattle.task_reader.specs.Members.{first_refusal, flawed_key}
use Rattle.task_reader.proofs.members.KeyFlaw.refusal_in.Given as goal

abbrev pub invariant-loop-key : goal.invariant-loop-key
invariant-loop-key l =
    first_refusal (flawed_key l.self l.place (table_view l.table)) (drop l.key-index l.key-items) ≡ first_refusal (flawed_key l.self l.place
    (table_view l.table)) l.key-items
