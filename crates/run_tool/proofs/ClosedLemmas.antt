-- What was so before `out` handed on what it kept back is so then.
use Rattle.std.proofs.Common.{◌≡◌, ◌≢◌, ◌↔◌, ◌∙◌, ℕ, List, Option, Some, None, Result, Ok, Err, refl, sym, subst}
use Rattle.std.specs.Io.KnownBytes.{Keeps, Appends}
use Rattle.sched_edges.specs.declared.streams.Failed.{Failed}
use Rattle.command_words.specs.declared.command.Command.{Command}
use Rattle.command_words.specs.declared.command.Command.TheVariants.{Read, Batch, Execute}
use Rattle.command_words.specs.declared.command.Execution.{Execution}
use Rattle.command_words.specs.declared.command.Execution.TheVariants.{Exec, ExecMet, Drill, Jobs, Modes}
use Rattle.exit_status.specs.declared.Status.{Status}
use Rattle.exit_status.specs.declared.Status.TheVariants.{Done, Invalid, Usage, WriteFault, NoMemory, GateFault}
use Rattle.pure_commands.specs.Commands.{Output, of_set, of_tree, of_batch, output_of}
use Rattle.pure_commands.specs.Ends.{Streams, IsTold, IsDoneSoundly}
use Rattle.run_tool.specs.Closing.{closed}
use Rattle.run_tool.specs.Executions.{Crew}
use Rattle.run_tool.specs.Drill.{drill_text}
use Rattle.run_tool.specs.Ends.{IsCommandDone}
use Rattle.run_tool.specs.Executed.{ToldRun}

-- ---- the status

-- a status that no fault gives is the one that the run had
pub done_closed : (status result : Status) (flushed : Result (Unit {0}) Failed) → result ≡ closed status flushed → result ≡ Done → status ≡ Done
done_closed status result (Ok _) is e = sym is ∙ e
done_closed Done result (Err f) is e = refl
done_closed Invalid result (Err f) is e = absurd (let bad : WriteFault ≡ Done = sym is ∙ e in cc)
done_closed _ result (Err f) is e = sym is ∙ e

-- usage is told where it was
pub usage_closed : {P : Type 0} (status result : Status) (flushed : Result (Unit {0}) Failed) → result ≡ closed status flushed
    → (status ≢ NoMemory → ((status ≡ Usage) ↔ P)) → result ≢ NoMemory → ((result ≡ Usage) ↔ P)
usage_closed {P} status result (Ok _) is usage wanted = subst (λ (s : Status). s ≢ NoMemory → ((s ≡ Usage) ↔ P)) (sym is) usage wanted
usage_closed Done result (Err f) is usage wanted =
    let told = usage (λ e. let bad : Done ≡ NoMemory = e in cc) in
    (λ e. absurd (let bad : WriteFault ≡ Usage = sym is ∙ e in cc), λ p. absurd (let bad : Done ≡ Usage = told.1 p in cc))
usage_closed Invalid result (Err f) is usage wanted =
    let told = usage (λ e. let bad : Invalid ≡ NoMemory = e in cc) in
    (λ e. absurd (let bad : WriteFault ≡ Usage = sym is ∙ e in cc), λ p. absurd (let bad : Invalid ≡ Usage = told.1 p in cc))
usage_closed {P} _ result (Err f) is usage wanted = subst (λ (s : Status). s ≢ NoMemory → ((s ≡ Usage) ↔ P)) (sym is) usage wanted

-- a gate's fault isn't told where none was
pub sure_closed : (status result : Status) (flushed : Result (Unit {0}) Failed) → result ≡ closed status flushed → status ≢ GateFault → result ≢ GateFault
sure_closed status result (Ok _) is sure = λ e. sure (sym is ∙ e)
sure_closed Done result (Err f) is sure = λ e. let bad : WriteFault ≡ GateFault = sym is ∙ e in cc
sure_closed Invalid result (Err f) is sure = λ e. let bad : WriteFault ≡ GateFault = sym is ∙ e in cc
sure_closed _ result (Err f) is sure = λ e. sure (sym is ∙ e)

-- ---- the text

appends_kept : (a b c : Option (List ℕ)) (text : List ℕ) → Appends a b text → Keeps b c → Appends a c text
appends_kept None b c text took kept = tt
appends_kept (Some xs) None c text took kept = absurd took
appends_kept (Some xs) (Some ys) None text took kept = absurd kept
appends_kept (Some xs) (Some ys) (Some zs) text took kept = kept ∙ took

module _ (old mid : Streams) (out : Option (List ℕ)) (faults : ℕ) (kept : Keeps mid.out out) where
  abbrev now : Streams
  now = record mid { out = out; out_faults = faults }

  told_closed : (limit : ℕ) (Writes : List ℕ → Status → List ℕ → Type 0) (status : Status) → IsTold limit Writes status old mid
      → IsTold limit Writes status old now
  told_closed limit Writes status t =
      record { told = (t.told.0, t.told.1, t.told.2, t.told.3, appends_kept old.out mid.out out t.told.1 t.told.4 kept) }

  soundly_closed : (o : Output) → IsDoneSoundly o Done old mid → IsDoneSoundly o Done old now
  soundly_closed (of_set what) t = told_closed _ _ Done t
  soundly_closed of_tree t = told_closed _ _ Done t
  soundly_closed _ t = told_closed _ _ Done t

  execution_closed : (e : Execution) (before after : Crew) → ToldRun e old mid before after → ToldRun e old now before after
  execution_closed (Exec window) before after t = told_closed _ _ Done t
  execution_closed ExecMet before after t = told_closed _ _ Done t
  execution_closed Jobs before after t = told_closed _ _ Done t
  execution_closed Modes before after t = told_closed _ _ Done t
  execution_closed (Drill number) before after t =
      let (unread, ran) = t in
      let (scale, is, took, all) = ran in
      (record { left = unread.left; faults = unread.faults }, (scale, is, appends_kept old.out mid.out out (drill_text number scale) took kept, all))

  pub command_closed : (c : Command) (before : Crew) → IsCommandDone c Done old mid before → IsCommandDone c Done old now before
  command_closed (Read reading) before t = soundly_closed (output_of reading) t
  command_closed Batch before t = soundly_closed of_batch t
  command_closed (Execute e) before t = (t.0, (t.1.0, execution_closed e before t.1.0 t.1.1))
