use Rattle.std.proofs.Common.{◌≡◌, ◌∙◌, Some, None, refl, ap, map, option_map, string_bytes, sym}
use Rattle.command_words.specs.Words.{command_of}
use Rattle.command_words.specs.declared.command.Command.TheVariants.{Execute}
use Rattle.pure_commands.proofs.EndLemmas.{keeps_same, quiet_same}
use Rattle.run_tool.proofs.AskedLemmas.{words_unread, no_execution, execution_done, execution_stopped}
use Rattle.run_tool.proofs.RunLemmas.{unread_same}
use Rattle.run_tool.proofs.running.run_execution.Goals as goal

pub execution_of-requires : goal.execution_of-requires
execution_of-requires g c = record { executes = c.requires.asks }

pub returns-in-Err : goal.returns-in-Err
returns-in-Err g c =
    words_unread _ _ _ _ _ _ _ c.refuse.result c.requires.asks (unread_same _ _ _ _ _ _) (keeps_same _) refl (refl, refl) c.refuse.ensures

pub returns-in-Ok-None : goal.returns-in-Ok-None
returns-in-Ok-None g c =
    let none : command_of (map string_bytes c.args.words.now) ≡ None =
    sym (ap (option_map Execute) (sym c.in-Ok-None.field-0-is) ∙ c.in-Ok-None.ensures.line) in
    no_execution _ _ _ _ _ _ _ c.refuse-in-Ok-None.result none (unread_same _ _ _ _ _ _) (keeps_same _) refl (refl, refl) c.refuse-in-Ok-None.ensures

pub returns-in-Ok : goal.returns-in-Ok
returns-in-Ok g c =
    let asked : Some (Execute c.in-Ok-Some.execution) ≡ command_of (map string_bytes c.args.words.now) =
    ap (option_map Execute) (sym c.in-Ok-Some.field-0-is) ∙ c.in-Ok-Some.ensures.line in
    execution_done _ _ _ _ _ _ _ _ c.in-Ok-Some.execution asked c.in-Ok.ensures.told (quiet_same _) c.in-Ok.ensures.back

pub returns-in-Err-perform : goal.returns-in-Err-perform
returns-in-Err-perform g c =
    let asked : Some (Execute c.in-Ok-Some.execution) ≡ command_of (map string_bytes c.args.words.now) =
    ap (option_map Execute) (sym c.in-Ok-Some.field-0-is) ∙ c.in-Ok-Some.ensures.line in
    execution_stopped _ _ _ _ _ _ _ _ c.refuse-in-Err-perform.result c.in-Ok-Some.execution c.in-Err-perform.refusal asked c.in-Err-perform.ensures.stops
    c.refuse-in-Err-perform.ensures c.in-Err-perform.ensures.uncalled c.in-Err-perform.ensures.back
