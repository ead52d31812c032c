-- What `follow` tells of a tree text, and that it tells nothing of one that it refuses.
use Rattle.std.proofs.Common.{◌≡◌, ◌⊎◌, inl, inr, ℕ, ◌+◌, ◌*◌, ◌/◌, ◌<◌, List, Result, Ok, Err, Option, Some, None, refl, sym, ap, subst, arith, ◌∙◌}
use Rattle.std.specs.Io.KnownBytes.{Keeps}
use Rattle.sched_base.specs.Lanes.{lanes_of}
use Rattle.sched_base.specs.Sets.{SetContents, IsLawful}
use Rattle.sched_base.specs.Tables.{all_rows, row_limit}
use Rattle.sched_base.specs.Valid.{IsValid}
use Rattle.sched_base.specs.declared.rows.Row.{Row}
use Rattle.event_core.specs.Counts.{IsCountFault}
use Rattle.event_core.specs.declared.counts.CountFault.{CountFault}
use Rattle.event_core.specs.declared.counts.CountFault.TheVariants as count
use Rattle.run_tree.specs.Plans.{PlanContents, schedule_of, rounds_of}
use Rattle.run_tree.specs.Schedule.{schedule}
use Rattle.run_tree.specs.Tree.{Tree}
use Rattle.run_tree.specs.TreeOfSet.{IsTreeOf}
use Rattle.trace_format.specs.declared.versions.Version.TheVariants.{One}
use Rattle.merged_rows.specs.Merging.{merged_lanes}
use Rattle.merged_rows.proofs.PushLemmas.{all_merged}
use Rattle.merged_rounds.specs.Passes.{AreMergedOf}
use Rattle.trace_format.specs.Text.{trace_text}
use Rattle.tree_check.specs.Written.{Written}
use Rattle.tree_check.specs.Faults.{HasNoFault, IsFirstFault}
use Rattle.tree_check.specs.Refusals as trees
use Rattle.tree_check.specs.TextTree.{text_tree, IsTextOfTree}
use Rattle.tree_check.specs.declared.faults.TreeKind.{TreeKind}
use Rattle.tree_check.specs.declared.faults.TreeRefused.{TreeRefused}
use Rattle.tree_check.specs.declared.faults.TreeRefused.TheVariants as refused
use Rattle.tree_check.proofs.WrittenFaultless.{written_faultless}
use Rattle.tree_reader.specs.Reading.{reading}
use Rattle.tree_text_laws.proofs.FormLemmas.{set_read}
use Rattle.pure_commands.specs.declared.refusal.Refusal.{Refusal}
use Rattle.pure_commands.specs.declared.refusal.Refusal.TheVariants as why
use Rattle.exit_status.specs.declared.Status.{Status}
use Rattle.exit_status.specs.declared.Status.TheVariants.{Done, BadInput, BadTree, TooLong}
use Rattle.pure_commands.specs.Faults.{of_check_tree, of_count}
use Rattle.pure_commands.specs.Commands.{set_limit, of_tree, rows_of, schedule_text, Writes}
use Rattle.pure_commands.specs.Ends.{Streams, IsTold, StopsAs}
use Rattle.pure_commands.specs.Follow.{plan_told, TellsPlan, RefusesFollow, StopsAtPlan, FollowsTrees}
use Rattle.pure_commands.specs.Follow.{GaveTree, GaveNoTree, WrotePlan}
use Rattle.pure_commands.specs.Refusals.{status_of}

-- ---- a text is that of a tree, or has a fault

same_text : (bytes : List ℕ) (w v : Written) → reading bytes ≡ Ok w → reading bytes ≡ Ok v → w ≡ v
same_text bytes w v a b = let e : ◌≡◌ {A = Result Written ℕ} (Ok w) (Ok v) = sym a ∙ b in cc

not_both : (bytes : List ℕ) (w : Written) (line : ℕ) → reading bytes ≡ Ok w → reading bytes ≡ Err line → ⊥
not_both bytes w line a b = let e : ◌≡◌ {A = Result Written ℕ} (Ok w) (Err line) = sym a ∙ b in cc

-- the text of a tree has no fault
faultless : (w : Written) → IsLawful w.set → IsTextOfTree w → HasNoFault w
faultless w lawful is = subst HasNoFault is.again (written_faultless w.set (text_tree w) lawful is.tree)

no_fault_told : (bytes : List ℕ) (w v : Written) (line : ℕ) (kind : TreeKind) → reading bytes ≡ Ok w → IsTextOfTree w → reading bytes ≡ Ok v →
    IsFirstFault v line kind → ⊥
no_fault_told bytes w v line kind read is other first =
    let same = same_text bytes v w other read in
    let here : IsFirstFault w line kind = subst (λ (x : Written). IsFirstFault x line kind) same first in
    faultless w (set_read bytes w read).lawful is kind line here.0

-- why bytes are refused: they are no tree text, their text has a fault, or its schedule is too long
abbrev Why : List ℕ → Refusal → Type 0
Why bytes r =
    ((status_of r ≡ BadInput) × ((line : ℕ) × (reading bytes ≡ Err line)))
    ⊎ (((status_of r ≡ BadTree) × ((w : Written) × (line : ℕ) × (kind : TreeKind) × (reading bytes ≡ Ok w) × IsFirstFault w line kind))
    ⊎ ((status_of r ≡ TooLong) × ((w : Written) × (reading bytes ≡ Ok w) × IsTextOfTree w × (row_limit < rows_of (plan_told w)))))

why_refused : (bytes : List ℕ) (r : Refusal) → RefusesFollow bytes r → Why bytes r
why_refused bytes (why.BadLine line) x = inl (refl, (line, x))
why_refused bytes (why.BadTree line kind) x = inr (inl (refl, (x.0, line, kind, x.1, x.2)))
why_refused bytes (why.TooLong rows) x = inr (inr (refl, (x.0, x.1, x.2.0, x.2.1.0)))
why_refused bytes _ x = absurd x.2

-- nothing is told of bytes that are refused
pub followed_or_refused : (bytes text : List ℕ) (status : Status) (r : Refusal) → Writes of_tree bytes status text → RefusesFollow bytes r → ⊥
followed_or_refused bytes text status r writes refuses =
    let (w, read, tells) = writes.1 in
    go w read tells (why_refused bytes r refuses)
  where
    go : (w : Written) → reading bytes ≡ Ok w → TellsPlan w text → Why bytes r → ⊥
    go w read tells (inl bad) = not_both bytes w bad.1.0 read bad.1.1
    go w read tells (inr (inl fault)) = (let (v, line, kind, other, first) = fault.1 in no_fault_told bytes w v line kind read tells.0 other first)
    go w read tells (inr (inr long)) =
        let (v, other, is, over) = long.1 in
        let few = tells.1 in
        let here : row_limit < rows_of (plan_told w) = subst (λ (x : Written). row_limit < rows_of (plan_told x)) (same_text bytes v w other read) over in
        absurd (omega (arith, few, here))

-- bytes are refused with one status
pub one_follow_status : (bytes : List ℕ) (r q : Refusal) → RefusesFollow bytes r → RefusesFollow bytes q → status_of r ≡ status_of q
one_follow_status bytes r q a b = go (why_refused bytes r a) (why_refused bytes q b)
  where
    go : Why bytes r → Why bytes q → status_of r ≡ status_of q
    go (inl x) (inl y) = x.0 ∙ sym y.0
    go (inl x) (inr (inl y)) = absurd (not_both bytes y.1.0 x.1.0 y.1.3 x.1.1)
    go (inl x) (inr (inr y)) = absurd (not_both bytes y.1.0 x.1.0 y.1.1 x.1.1)
    go (inr (inl x)) (inl y) = absurd (not_both bytes x.1.0 y.1.0 x.1.3 y.1.1)
    go (inr (inl x)) (inr (inl y)) = x.0 ∙ sym y.0
    go (inr (inl x)) (inr (inr y)) = absurd (no_fault_told bytes y.1.0 x.1.0 x.1.1 x.1.2 y.1.1 y.1.2 x.1.3 x.1.4)
    go (inr (inr x)) (inl y) = absurd (not_both bytes x.1.0 y.1.0 x.1.1 y.1.1)
    go (inr (inr x)) (inr (inl y)) = absurd (no_fault_told bytes x.1.0 y.1.0 y.1.1 y.1.2 x.1.1 x.1.2 y.1.3 y.1.4)
    go (inr (inr x)) (inr (inr y)) = x.0 ∙ sym y.0

-- ---- the plan of a text

scale_is : (w : Written) → IsTextOfTree w → (text_tree w).scale ≡ w.scale
scale_is w is = ap (λ (x : Written). x.scale) is.again

-- its schedule has as many rows as are told
pub rows_are : (w : Written) (p : PlanContents) → p ≡ plan_told w → rounds_of p * p.tree.processors ≡ rows_of (plan_told w)
rows_are w p e = ap rows_of e

keeps_same : (o : Option (List ℕ)) → Keeps o o
keeps_same None = tt
keeps_same (Some bytes) = refl

-- a tree that is refused
pub refused_tree : (w : Written) (out : Option (List ℕ)) (faults : ℕ) (e : TreeRefused) → trees.IsRefused w e → StopsAtPlan out out faults faults w
    (of_check_tree e)
refused_tree w out faults (refused.Fault line kind) is = (is, keeps_same out)
refused_tree w out faults refused.NoMemory is = keeps_same out

-- a schedule that isn't counted
pub uncounted : (w : Written) (p : PlanContents) (out : Option (List ℕ)) (faults : ℕ) (e : CountFault) → p ≡ plan_told w → IsTextOfTree w →
    IsCountFault p e → StopsAtPlan out out faults faults w (of_count e)
uncounted w p out faults (count.TooLong rows) e is long =
    let many : row_limit < rows_of (plan_told w) = subst (λ n. row_limit < n) (rows_are w p e) long.0 in
    let processors : p.tree.processors ≡ w.set.processors = ap (λ (q : PlanContents). q.tree.processors) e ∙ is.tree.processors in
    ((is, (many, long.1 ∙ ap (λ n. (row_limit / n + 1) * n) processors)), keeps_same out)
uncounted w p out faults count.NoMemory e is long = keeps_same out

-- ---- what is followed is sound

pub follows_trees : ((s : SetContents) → IsLawful s → (t : Tree) → IsTreeOf s t → IsValid s t.scale (s.horizon * t.scale) (s.horizon * t.scale)
    (schedule s.tasks t (s.horizon * t.scale)))
    → FollowsTrees
follows_trees valid bytes w reads =
    let is = reads.is_text in
    record {
      tree = is.tree;
      valid = subst (λ n. IsValid w.set n (w.set.horizon * n) (w.set.horizon * n) (schedule_of (plan_told w))) (scale_is w is)
          (valid w.set (set_read bytes w reads.read).lawful (text_tree w) is.tree);
    }

-- the text of its merged rows, of a set and a scale that are those of the text
pub followed_is : (w : Written) (p : PlanContents) (s : SetContents) (n : ℕ) (lanes : List (List Row)) → s ≡ w.set → n ≡ p.tree.scale
    → p ≡ plan_told w → AreMergedOf p lanes → trace_text One s n (all_rows lanes) ≡ schedule_text One (plan_told w)
followed_is w p s n lanes set scale e merged =
    let own = lanes_of p.tree.processors (schedule_of p) in
    let same : s ≡ p.set = set ∙ sym (ap (λ (q : PlanContents). q.set) e) in
    ap (trace_text One s n) (ap all_rows merged ∙ all_merged own) ∙ (λ i. trace_text One (same i) (scale i) (merged_lanes own)) ∙ ap (schedule_text One) e

-- ---- of the bytes

-- the schedule of a text that was read was told
pub told_tree : (old new : Streams) (w : Written) → GaveTree old.left new.left set_limit w → WrotePlan old.out new.out w
    → IsTold set_limit (Writes of_tree) Done old new
told_tree old new w gave wrote =
    let (bytes, all, read) = gave.gave in
    let (text, tells, took) = wrote in
    record { told = (bytes, text, all, (refl, (w, read, tells)), took) }

-- why it wasn't
pub stopped_tree : (old new : Streams) (w : Written) (r : Refusal) → GaveTree old.left new.left set_limit w
    → StopsAtPlan old.out new.out old.out_faults new.out_faults w r → StopsAs set_limit (Writes of_tree) RefusesFollow old new r
stopped_tree old new w why.WriteFault gave stops =
    let (bytes, all, read) = gave.gave in
    let (text, tells, took, rose) = stops in
    (bytes, text, Done, all, (refl, (w, read, tells)), took, rose)
stopped_tree old new w why.NoMemory gave stops = stops
stopped_tree old new w (why.BadTree line kind) gave stops =
    let (bytes, all, read) = gave.gave in
    (bytes, all, (w, read, stops.0), stops.1)
stopped_tree old new w (why.TooLong rows) gave stops =
    let (bytes, all, read) = gave.gave in
    (bytes, all, (w, read, stops.0), stops.1)
stopped_tree old new w _ gave stops = absurd stops.0

-- why no text was read
pub unread_tree : (old new : Streams) (r : Refusal) → GaveNoTree old.left new.left old.read_faults new.read_faults set_limit r
    → Keeps old.out new.out → StopsAs set_limit (Writes of_tree) RefusesFollow old new r
unread_tree old new why.ReadFault none keeps = (none.0, none.1, keeps)
unread_tree old new why.NoMemory none keeps = keeps
unread_tree old new (why.InputTooLong count) none keeps = (none.0, none.1, keeps)
unread_tree old new (why.BadLine line) none keeps = let (bytes, all, bad) = none in (bytes, all, bad, keeps)
unread_tree old new _ none keeps = absurd none
