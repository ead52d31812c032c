-- The text of a plan's tree is read as that of a tree that runs as the plan's.
use Rattle.std.proofs.Common.{ℕ, ◌^◌, ◌≤◌, map, ap, arith, sym, ◌∙◌}
use Rattle.std.proofs.lemmas.List.{length-map}
use Rattle.sched_base.specs.Scale.{IsScale, Fits, rate_of}
use Rattle.sched_base.specs.Sets.{SetContents, IsLawful}
use Rattle.run_tree.specs.Compiled.{tree_of}
use Rattle.run_tree.specs.Tree.{Tree}
use Rattle.run_tree.specs.TreeOfSet.{IsTreeOf, idle_count}
use Rattle.run_tree.proofs.SetBoundaryLemmas.{set_leaves}
use Rattle.tree_laws.proofs.SetRates.{rates_fit}
use Rattle.tree_laws.proofs.SetTree.{set_tree, set_tree_scale}
use Rattle.tree_text_laws.proofs.SameSchedule.{schedule_same, rounds_count_same}
use Rattle.trace_format.specs.Conditions.{AreOnTime}
use Rattle.tree_check.specs.Written.{Written, written_of}
use Rattle.tree_check.specs.TextTree.{text_tree}
use Rattle.tree_check.proofs.WrittenFaultless.{written_faultless}
use Rattle.tree_check.proofs.TextLeaves.{text_is_tree_of}
use Rattle.tree_check.proofs.Again.{written_again}
use Rattle.tree_reader.specs.Reading.{reading}
use Rattle.tree_text_laws.specs.Again.{IsReadAgain}
use Rattle.tree_text_laws.proofs.AgainLemmas.{lines_again_read}
use Rattle.tree_text_laws.proofs.PlanLines.{text_is_lines}
use Rattle.tree_text_laws.proofs.LimitLemmas.{is_text, is_written, compiled_few}
use Rattle.tree_text_laws.proofs.SamePlans.{moved, same_renumbered}

pub read_again : (s : SetContents) (t : Tree) → IsLawful s → AreOnTime s.tasks → IsTreeOf s t → t.scale ≤ 2 ^ 94 → idle_count t ≤ 1024 →
    IsReadAgain (record { set = s; tree = t })
read_again s t lawful on_time is small few =
    let w : Written = written_of (record { set = s; tree = t }) in
    let written = is_written s t lawful is few small in
    let none = written_faultless s t lawful is in
    let tree = text_is_tree_of w written none in
    let again = written_again w written none in
    let other = same_renumbered s t (text_tree w) lawful is tree (sym again) in
    let leaves = set_leaves s.tasks lawful.each t is.tasks in
    record {
      read = ap reading (sym (text_is_lines s t is)) ∙ lines_again_read w (is_text s t lawful is few on_time small);
      is_text = record { tree = tree; again = again };
      rows = λ stop. schedule_same s.tasks (moved s t (text_tree w) lawful is tree (sym again)) t (text_tree w) is.tree other leaves stop;
      rounds_same = λ stop. rounds_count_same s.tasks (moved s t (text_tree w) lawful is tree (sym again)) t (text_tree w) is.tree other leaves stop;
    }

pub compiled_again : (s : SetContents) (scale : ℕ) → IsLawful s → AreOnTime s.tasks → IsScale s.tasks scale → scale ≤ 2 ^ 94 → Fits scale s →
    IsReadAgain (record { set = s; tree = tree_of scale s })
compiled_again s scale lawful on_time is small fits =
    let rates = map (rate_of scale) s.tasks in
    let same = set_tree_scale s scale lawful is fits in
    let few = compiled_few s.processors scale rates (rates_fit s scale lawful is fits) in
    let long = length-map s.tasks (rate_of scale) in
    let a = lawful.few_tasks in
    let b = lawful.few_processors in
    read_again s (tree_of scale s) lawful on_time (set_tree s scale lawful is fits) (omega (arith, small, same)) (omega (arith, few, long, a, b))
