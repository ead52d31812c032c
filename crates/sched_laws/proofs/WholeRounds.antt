-- Each round has one row for each processor, in their order.
use Rattle.std.proofs.Common.{Bool, List, None, Option, Some, [], add-zero, ap, arith, get_or, inl, inr, length, refl, slice_get, subst, suc, sym}
use Rattle.std.proofs.Common.{true, zero, zero-add, ℕ, ◌+◌, ◌<◌, ◌^◌, ◌∙◌, ◌∷◌, ◌≡◌}
use Rattle.std.proofs.lemmas.Bool.{cases_lt}
use Rattle.std.specs.List.{AllByRecursion}
use Rattle.sched_base.specs.declared.rows.Leaf.{Leaf}
use Rattle.sched_base.specs.declared.rows.Leaf.TheVariants.{Task}
use Rattle.sched_base.specs.declared.rows.Row.{Row}
use Rattle.sched_base.specs.declared.rows.TaskId.{TaskId}
use Rattle.sched_base.specs.Sets.{IsLawful, SetContents}
use Rattle.sched_base.specs.Rows.{AllApart, is_of_task}
use Rattle.sched_base.specs.Tables.{IsRound}
use Rattle.sched_base.proofs.ListLemmas.{first_from, passing_increases, passing_on}
use Rattle.sched_base.proofs.RowLemmas.{AllByRecursion-get, is_of_task_at}
use Rattle.run_tree.specs.Tree.{IsTree, Tree}
use Rattle.run_tree.specs.Boundaries.{HaveBoundaries, set_boundary}
use Rattle.run_tree.specs.Rounds.{events_below, is_event}
use Rattle.run_tree.specs.Schedule.{onto_at, round_rows, rows_from, schedule}
use Rattle.run_tree.specs.TreeOfSet.{HoldsTasks, IsTreeOf}
use Rattle.run_tree.proofs.SetBoundaryLemmas.{set_leaves}
use Rattle.run_tree.proofs.ScheduleLemmas.{length-places, onto_is}
use Rattle.sched_laws.proofs.RoundRows.{round_is, row_of, schedule_all}
use Rattle.sched_laws.proofs.ValidRows.{round_once}
use Rattle.sched_base.specs.declared.sets.Task as declared

-- of rows that are apart, those at two places are
pub AllApart-get : (R : Row → Row → Type 0) (rows : List Row) (p q : ℕ) (r s : Row) → AllApart R rows → p < q → slice_get rows p ≡ Some r →
    slice_get rows q ≡ Some s → R r s
AllApart-get R [] p q r s a l e f = cc
AllApart-get R (x ∷ rows) zero zero r s a l e f = absurd (omega arith)
AllApart-get R (x ∷ rows) zero (suc q) r s a l e f =
    let same : x ≡ r = cc in
    subst (λ (y : Row). R y s) same (AllByRecursion-get (R x) rows q s a.0 f)
AllApart-get R (x ∷ rows) (suc p) zero r s a l e f = absurd (omega arith)
AllApart-get R (x ∷ rows) (suc p) (suc q) r s a l e f = AllApart-get R rows p q r s a.1 (omega arith) e f

module _ (tasks : List declared.Task) (t : Tree) where
  -- one row for each processor
  pub length-rows : (s e p : ℕ) (onto : List (Option ℕ)) → length (rows_from tasks t s e p onto) ≡ length onto
  length-rows s e p [] = refl
  length-rows s e p (o ∷ onto) = ap suc (length-rows s e (suc p) onto)

  -- as many as the tree has
  pub length-round : (s e : ℕ) → length (round_rows tasks t s e) ≡ t.processors
  length-round s e =
      ap length (round_is tasks t s e) ∙ length-rows s e 0 (onto_at (set_boundary tasks) t s)
      ∙ ap length (onto_is (set_boundary tasks) t s) ∙ length-places (set_boundary tasks) t (suc s)

  -- the row at place k
  pub rows_get : (s e p k : ℕ) (onto : List (Option ℕ)) (r : Row) → slice_get (rows_from tasks t s e p onto) k ≡ Some r → r ≡ row_of tasks t s e (p + k)
      (get_or onto k None)
  rows_get s e p k [] r at = cc
  rows_get s e p zero (o ∷ onto) r at =
      let same : row_of tasks t s e p o ≡ r = cc in
      sym same ∙ ap (λ q. row_of tasks t s e q o) (sym (add-zero p))
  rows_get s e p (suc k) (o ∷ onto) r at =
      rows_get s e (suc p) k onto r at ∙ ap (λ q. row_of tasks t s e q (get_or onto k None)) (omega arith)

  -- the row at place p of a round is that of processor p
  pub round_get : (s e p : ℕ) (r : Row) → slice_get (round_rows tasks t s e) p ≡ Some r → r ≡ row_of tasks t s e p
      (get_or (onto_at (set_boundary tasks) t s) p None)
  round_get s e p r at =
      rows_get s e 0 p (onto_at (set_boundary tasks) t s) r (sym (ap (λ rows. slice_get rows p) (round_is tasks t s e)) ∙ at)
      ∙ ap (λ q. row_of tasks t s e q (get_or (onto_at (set_boundary tasks) t s) p None)) (zero-add p)

module _ (tasks : List declared.Task) (t : Tree) (h : IsTree t) (leaves : HaveBoundaries (set_boundary tasks) t) (holds : HoldsTasks tasks t) where
  -- a task of one row of a round is in no later one
  pub once_before : (s e p q : ℕ) (r r' : Row) (task : TaskId) → p < q → slice_get (round_rows tasks t s e) p ≡ Some r → slice_get (round_rows tasks t s e)
      q ≡ Some r' → r.leaf ≡ Task task → r'.leaf ≡ Task task → ⊥
  once_before s e p q r r' task l at at' of of' =
      AllApart-get (λ x y. (j : ℕ) → is_of_task j x.leaf ≡ true → is_of_task j y.leaf ≡ true → ⊥) (round_rows tasks t s e) p q r r'
      (round_once tasks t h leaves holds s e) l at at'
      task.0 (is_of_task_at task.0 r.leaf of) (is_of_task_at task.0 r'.leaf of')

  -- the rows of a round are a whole round
  pub round_whole : (s e : ℕ) → s < e → e < 2 ^ 127 → IsRound s (round_rows tasks t s e)
  round_whole s e forward fits = record {
    own = λ p r at. ap (λ (x : Row). x.processor) (round_get tasks t s e p r at);
    starts = λ p r at. ap (λ (x : Row). x.start) (round_get tasks t s e p r at);
    forward = λ p r at.
        (let begin = ap (λ (x : Row). x.start) (round_get tasks t s e p r at) in
        let end = ap (λ (x : Row). x.end) (round_get tasks t s e p r at) in
        (omega (arith, begin, end, forward), omega (arith, end, fits)));
    ends = λ p q r r' at at'. ap (λ (x : Row). x.end) (round_get tasks t s e p r at) ∙ sym (ap (λ (x : Row). x.end) (round_get tasks t s e q r' at'));
    once = λ p q r r' task at at' of of'. elim (cases_lt p q) [
      | inl l ↦ absurd (once_before s e p q r r' task l at at' of of')
      | inr l ↦ elim (cases_lt q p) [
        | inl m ↦ absurd (once_before s e q p r' r task m at' at of' of)
        | inr m ↦ omega arith
      ]
    ];
  }

pub set_round : (s : SetContents) → IsLawful s → (t : Tree) → IsTreeOf s t → (start end : ℕ) → start < end → end < 2 ^ 127 →
    IsRound start (round_rows s.tasks t start end)
set_round s lawful t is start end forward fits = round_whole s.tasks t is.tree (set_leaves s.tasks lawful.each t is.tasks) is.tasks start end forward fits

-- every row of a schedule starts before it ends
pub set_forward : (s : SetContents) (t : Tree) (stop : ℕ) → AllByRecursion (λ r. r.start < r.end) (schedule s.tasks t stop)
set_forward s t stop = schedule_all s.tasks t stop (λ r. r.start < r.end) (λ start end p up top b. up)

-- ---- rounds follow one another

-- the first event is tick 0
pub event_first : (of_leaf : Leaf → ℕ → Bool) (t : Tree) (stop : ℕ) → 0 < stop → slice_get (events_below of_leaf t stop) 0 ≡ Some 0
unfolding is_event
event_first of_leaf t zero l = absurd (omega arith)
event_first of_leaf t (suc n) l = ap (λ events. slice_get events 0) (passing_on (is_event of_leaf t) 0 n refl)

pub event_next : (of_leaf : Leaf → ℕ → Bool) (t : Tree) (stop k : ℕ) → k + 1 < length (events_below of_leaf t stop) → get_or (events_below of_leaf t stop) k
    0 < get_or (events_below of_leaf t stop) (k + 1) 0
event_next of_leaf t stop k l =
    let next : suc k ≡ k + 1 = omega arith in
    let P : ℕ → Type 0 = λ j. j < length (events_below of_leaf t stop) → get_or (events_below of_leaf t stop) k 0 < get_or (events_below of_leaf t stop) j 0 in
    subst P next (passing_increases (is_event of_leaf t) stop 0 k) l

pub event_last : (of_leaf : Leaf → ℕ → Bool) (t : Tree) (stop k : ℕ) → k < length (events_below of_leaf t stop) → get_or (events_below of_leaf t stop) k
    0 < stop
event_last of_leaf t stop k l = let below = (first_from (is_event of_leaf t) stop 0 k l).0 in omega (arith, below)
