-- What the commands tell is sound, by the laws.
use Rattle.std.proofs.Common.{◌≡◌, ℕ, ◌*◌, ◌^◌, ◌<◌, ◌≤◌, List, Ok, arith, map, subst}
use Rattle.std.proofs.Math.Nat.{mul-pos}
use Rattle.sched_base.specs.Sets.{SetContents, IsLawful}
use Rattle.sched_base.specs.declared.rows.Row.{Row}
use Rattle.sched_base.specs.Lanes.{lanes_of}
use Rattle.sched_base.specs.Scale.{IsScale, Fits}
use Rattle.sched_base.specs.Tables.{all_rows}
use Rattle.sched_base.specs.Valid.{IsValid}
use Rattle.run_tree.specs.Tree.{Tree}
use Rattle.run_tree.specs.TreeOfSet.{IsTreeOf}
use Rattle.run_tree.specs.Compiled.{tree_of}
use Rattle.run_tree.specs.Plans.{PlanContents, schedule_of, stop_of}
use Rattle.run_tree.specs.Schedule.{schedule}
use Rattle.repeat_laws.specs.Repeats.{ComesAgain, repeat_unit, up_to}
use Rattle.repeat_plans.specs.Again.{HasTree}
use Rattle.table_text.specs.Steps.{AreWhole, step_of}
use Rattle.merged_rows.specs.Merging.{merged}
use Rattle.task_reader.specs.Reading.{set_read_from}
use Rattle.pure_commands.specs.Commands.{SetText, rates, server_tree, schedule_rows, wrapped_rows, c_table, repeating, plan_of, HasRoom, IsSound}
use Rattle.pure_commands.specs.SetTexts.{IsSchedulable, IsSoundTable, table_rows}
use Rattle.pure_commands.specs.Commands.{Output, of_set, of_tree}
use Rattle.exit_status.specs.declared.Status.{Status}
use Rattle.exit_status.specs.declared.Status.TheVariants.{Done}
use Rattle.pure_commands.specs.Follow.{FollowsTrees}
use Rattle.pure_commands.specs.Ends.{Streams, IsAlwaysSound, IsDone, IsDoneSoundly}
use Rattle.wrap_sched.specs.Wrapped.{wrapped}

-- the same set up to another horizon is lawful
lawful_up_to : (s : SetContents) (horizon : ℕ) → IsLawful s → 1 ≤ horizon → horizon < 2 ^ 32 → IsLawful (up_to horizon s)
lawful_up_to s horizon l some fits = record {
  some_processors = l.some_processors;
  few_processors = l.few_processors;
  some_horizon = some;
  horizon_fits = fits;
  few_tasks = l.few_tasks;
  each = l.each;
  names_differ = l.names_differ;
}

module _
    (lawful : (bytes : List ℕ) (s : SetContents) → set_read_from bytes ≡ Ok s → IsLawful s)
    (is_tree : (s : SetContents) (scale : ℕ) → IsLawful s → IsScale s.tasks scale → Fits scale s → IsTreeOf s (tree_of scale s))
    (same : (s : SetContents) (scale : ℕ) → IsLawful s → IsScale s.tasks scale → Fits scale s → (tree_of scale s).scale ≡ scale)
    (valid : (s : SetContents) → IsLawful s → (t : Tree) → IsTreeOf s t
    → IsValid s t.scale (s.horizon * t.scale) (s.horizon * t.scale) (schedule s.tasks t (s.horizon * t.scale)))
    (wraps : (s : SetContents) (scale : ℕ) → IsLawful s → IsScale s.tasks scale → Fits scale s
    → IsValid s scale (s.horizon * scale) (s.horizon * scale) (wrapped scale s))
    (merges : (p : PlanContents) → HasTree p
    → IsValid p.set p.tree.scale (stop_of p) (stop_of p) (all_rows (map merged (lanes_of p.tree.processors (schedule_of p)))))
    (wholes : (ticks : ℕ) (rows : List Row) → 1 ≤ ticks → AreWhole (step_of ticks rows) rows)
    (again : (s : SetContents) (scale : ℕ) (rows : List Row) → IsScale s.tasks scale
    → IsValid s scale (s.horizon * scale) (s.horizon * scale) rows → repeat_unit s scale rows < s.horizon
    → ComesAgain s scale (repeat_unit s scale rows) rows) where
  module _ (s : SetContents) (scale : ℕ) (l : IsLawful s) (run : IsSchedulable s scale) where
    schedule_valid : IsValid s scale (s.horizon * scale) (s.horizon * scale) (schedule_of (plan_of s scale))
    schedule_valid =
        subst (λ (n : ℕ). IsValid s n (s.horizon * n) (s.horizon * n) (schedule_of (plan_of s scale))) (same s scale l run.is_scale run.fits)
        (valid s l (tree_of scale s) (is_tree s scale l run.is_scale run.fits))

    has_tree : HasTree (plan_of s scale)
    has_tree =
        let within = run.within in
        let e = same s scale l run.is_scale run.fits in
        record { lawful = l; tree = is_tree s scale l run.is_scale run.fits; scale_fits = omega (arith, within, e) }

    rows_valid : IsValid s scale (s.horizon * scale) (s.horizon * scale) (table_rows s scale)
    rows_valid =
        subst (λ (n : ℕ). IsValid s n (s.horizon * n) (s.horizon * n) (table_rows s scale)) (same s scale l run.is_scale run.fits)
        (merges (plan_of s scale) has_tree)

    table_sound : IsSoundTable s scale
    table_sound = record {
      valid = schedule_valid;
      whole = wholes (s.horizon * scale) (table_rows s scale) (mul-pos l.some_horizon run.is_scale.positive);
      again = again s scale (table_rows s scale) run.is_scale rows_valid;
    }

  truth_of : (what : SetText) (s : SetContents) (scale : ℕ) → IsLawful s → IsSchedulable s scale → HasRoom what s scale → IsSound what s scale
  truth_of rates s scale l run room = tt
  truth_of server_tree s scale l run room = is_tree s scale l run.is_scale run.fits
  truth_of (schedule_rows met) s scale l run room = schedule_valid s scale l run
  truth_of wrapped_rows s scale l run room = wraps s scale l run.is_scale run.fits
  truth_of c_table s scale l run room = table_sound s scale l run
  truth_of (repeating what) s scale l run room = (
    record { no_offset = room.0.no_offset; whole_periods = run.is_scale.divided },
    truth_of what (up_to scale s) scale (lawful_up_to s scale l run.is_scale.positive room.0.horizon_fits)
        (record { is_scale = run.is_scale; within = run.within; fits = run.fits }) room.1,
  )

  pub tells_truth : (what : SetText) → IsAlwaysSound what
  tells_truth what bytes s scale reads fits room =
      truth_of what s scale (lawful bytes s reads.read) (record { is_scale = reads.is_scale; within = reads.within; fits = fits }) room

module _ (truth : (what : SetText) → IsAlwaysSound what) (follows : FollowsTrees) where
  -- what was told is sound
  pub done_soundly : (o : Output) (status : Status) (old new : Streams) → IsDone o status old new → IsDoneSoundly o status old new
  done_soundly (of_set what) status old new done =
      let w = done.told.3 in
      let sound = truth what done.told.0 w.1.0 w.1.1 w.1.2 w.1.3 w.1.4 in
      record { told = (done.told.0, done.told.1, done.told.2, (w.0, (w.1.0, w.1.1, w.1.2, w.1.3, w.1.4, w.1.5, sound)), done.told.4) }
  done_soundly of_tree status old new done =
      let w = done.told.3 in
      let followed = follows done.told.0 w.1.0 (record { read = w.1.1; is_text = w.1.2.0 }) in
      record { told = (done.told.0, done.told.1, done.told.2, (w.0, (w.1.0, w.1.1, w.1.2, followed)), done.told.4) }
  done_soundly _ status old new done = done

  -- the same, where the status is known to be this one
  pub done_soundly_as : (o : Output) (status : Status) (old new : Streams) → status ≡ Done → IsDone o status old new → IsDoneSoundly o Done old new
  done_soundly_as o status old new is done = done_soundly o Done old new (subst (λ (x : Status). IsDone o x old new) is done)
