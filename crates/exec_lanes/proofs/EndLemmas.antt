-- The counts of posted rows, and those of faults once each lane's failure is noted.
use Rattle.std.proofs.Common.{◌≡◌, ◌≢◌, ◌⊎◌, ℕ, suc, ◌+◌, ◌<◌, ◌≤◌, true, false, List, [], ◌∷◌, get_or, set, Option, Some, None, length, refl, sym}
use Rattle.std.proofs.Common.{ap, ◌∙◌, subst, arith, inl, inr}
use Rattle.std.specs.Prelude.{slice_index, slice_set, IfNone}
use Rattle.std.specs.Option.{is_some}
use Rattle.std.proofs.lemmas.Bool.{cases_eq}
use Rattle.std.proofs.lemmas.List.{get_or_default, get_or-set_same, get_or-set_other}
use Rattle.sched_base.specs.declared.rows.Leaf.TheVariants.{Task}
use Rattle.sched_base.specs.declared.rows.TaskId.{TaskId}
use Rattle.sched_base.specs.declared.rows.Row.{Row}
use Rattle.exec_lanes.specs.declared.causes.Cause.{Cause}
use Rattle.exec_lanes.specs.declared.causes.Cause.TheVariants as cause
use Rattle.exec_lanes.specs.Lanes.{LaneContents, HasRisen, JobRose, IsCaused, AllServed, AllAt, NoneFailed, lane_in, no_lane}
use Rattle.exec_lanes.specs.Ends.{JobFailed, NoGateBefore, NoJobBefore, JobsRose, KeepsCounts, posted_by}

-- what holds of each lane before lane k, and of lane k, holds of each up to it
pub each_lane : (P : LaneContents → Type 0) (lanes : List LaneContents) (k : ℕ) (lane : LaneContents) → k < length lanes → lane ≡ get_or lanes k lane → P lane →
    ((p : ℕ) → p < k → P (lane_in lanes p)) → (p : ℕ) → p < k + 1 → P (lane_in lanes p)
each_lane P lanes k lane within is here before p below = elim (cases_eq p k) [
  | inl last ↦ subst (λ q. P (lane_in lanes q)) (sym last) (subst P (is ∙ get_or_default lanes k lane no_lane within) here)
  | inr other ↦ before p (omega (arith, below, other))
]

-- a test for something is false where there is nothing
pub none_of : {X : Type 0} (o : Option X) → is_some o ≡ false → o ≡ None
none_of None test = refl
none_of (Some x) test = absurd (let e : true ≡ false = test in cc)

-- and true where there is something
pub not_none : {X : Type 0} (o : Option X) → is_some o ≡ true → o ≢ None
not_none None test is = absurd (let e : false ≡ true = test in cc)
not_none (Some x) test is = cc

-- one lane's count more is noted
pub posted_more : (lanes : List LaneContents) (posted : List ℕ) (p n : ℕ) → p < length lanes → length posted ≡ length lanes →
    ((q : ℕ) → q < p → slice_index posted q ≡ (lane_in lanes q).seat.posted) → n ≡ (lane_in lanes p).seat.posted →
    (q : ℕ) → q < p + 1 → slice_index (set posted p n) q ≡ (lane_in lanes q).seat.posted
posted_more lanes posted p n within long before here q below = elim (cases_eq q p) [
  | inl same ↦ subst (λ k. slice_index (set posted p n) k ≡ (lane_in lanes k).seat.posted) (sym same) (get_or-set_same posted p n 0 (omega (
    arith,
    within,
    long,
  )) ∙ here)
  | inr other ↦ get_or-set_other posted p q n 0 other ∙ before q (omega (arith, below, other))
]

-- the noted counts, lane by lane
pub posted_are : (lanes : List LaneContents) (posted : List ℕ) → length posted ≡ length lanes →
    ((q : ℕ) → q < length lanes → slice_index posted q ≡ (lane_in lanes q).seat.posted) → posted ≡ posted_by lanes
posted_are [] [] long each = refl
posted_are [] (n ∷ posted) long each = absurd (omega (arith, long))
posted_are (lane ∷ lanes) [] long each = absurd (omega (arith, long))
posted_are (lane ∷ lanes) (n ∷ posted) long each =
    let first : n ≡ lane.seat.posted = each 0 (omega arith) in
    let rest = posted_are lanes posted (omega (arith, long)) (λ q within. each (suc q) (omega (arith, within))) in
    λ i. first i ∷ rest i

same_row : (r q : Row) (m n : ℕ) → Some (cause.Job r m) ≡ Some (cause.Job q n) → r ≡ q
same_row r q m n same = cc

same_task : (a b : TaskId) → Task a ≡ Task b → a ≡ b
same_task a b same = cc

gate_is_no_job : (r q : Row) (n : ℕ) → Some (cause.Gate r) ≡ Some (cause.Job q n) → ⊥
gate_is_no_job r q n same = cc

none_is_no_job : (q : Row) (n : ℕ) → None ≡ Some (cause.Job q n) → ⊥
none_is_no_job q n same = cc

pub keeps_none : (lanes : List LaneContents) (counts : List ℕ) → KeepsCounts lanes 0 counts counts
keeps_none lanes counts = record { later = λ t. omega arith; risen = λ p t r n below failed. absurd (omega (arith, below)); same = λ t none. refl }

module _ (lanes : List LaneContents) (k : ℕ) (within : k < length lanes) (before now next : List ℕ) (long : length now ≡ length before)
    (keeps : KeepsCounts lanes k before now) where
  -- no job failed on the next lane
  keeps_same : ((r : Row) (n : ℕ) → (lane_in lanes k).cause ≡ Some (cause.Job r n) → ⊥) → next ≡ now → KeepsCounts lanes (k + 1) before next
  keeps_same no_job same = subst (KeepsCounts lanes (k + 1) before) (sym same) (record {
    later = keeps.later;
    risen = λ p t r n below failed. elim (cases_eq p k) [
      | inl here ↦ absurd (no_job r n (ap (λ q. (lane_in lanes q).cause) (sym here) ∙ failed.cause))
      | inr other ↦ keeps.risen p t r n (omega (arith, below, other)) failed
    ];
    same = λ t none. keeps.same t (λ p r n below failed. none p r n (omega (arith, below)) failed);
  })

  -- a job failed on the next lane
  keeps_job : (r : Row) (n : ℕ) → (lane_in lanes k).cause ≡ Some (cause.Job r n) → (rose : JobRose before r n) → next ≡ slice_set now rose.task.0 n →
      KeepsCounts lanes (k + 1) before next
  keeps_job r n is rose written =
      let t0 = rose.task.0 in
      let here : slice_index next t0 ≡ n = ap (λ xs. slice_index xs t0) written ∙ get_or-set_same now t0 n 0 (let given = rose.given in
      omega (arith, given, long)) in
      let other : (t : ℕ) → t ≢ t0 → slice_index next t ≡ slice_index now t = λ t away. ap (λ xs. slice_index xs t) written ∙ get_or-set_other now t0 t n 0
      away in
      let here_risen : HasRisen (slice_index before t0) (slice_index next t0) = subst (HasRisen (slice_index before t0)) (sym here) rose.risen in
      let failed_here : JobFailed lanes k t0 r n = record { lane = within; cause = is; of_task = rose.of_task } in
      record {
        later = λ t. elim (cases_eq t t0) [
          | inl same ↦ subst (λ x. slice_index before x ≤ slice_index next x) (sym same) here_risen.later
          | inr away ↦ (let e = other t away in let l = keeps.later t in omega (arith, e, l))
        ];
        risen = λ p t q m below failed. elim (cases_eq t t0) [
          | inl same ↦ subst (λ x. HasRisen (slice_index before x) (slice_index next x)) (sym same) here_risen
          | inr away ↦ elim (cases_eq p k) [
            | inl last ↦ absurd (
                let row : r ≡ q = same_row r q n m (sym is ∙ ap (λ x. (lane_in lanes x).cause) (sym last) ∙ failed.cause) in
                let task = same_task rose.task (record { 0 = t }) (sym rose.of_task ∙ ap (λ (x : Row). x.leaf) row ∙ failed.of_task) in
                away (sym (ap (λ (x : TaskId). x.0) task))
                )
            | inr early ↦ subst (HasRisen (slice_index before t)) (sym (other t away)) (keeps.risen p t q m (omega (arith, below, early)) failed)
          ]
        ];
        same = λ t none. elim (cases_eq t t0) [
          | inl same ↦ absurd (none k r n (omega arith) (subst (λ x. JobFailed lanes k x r n) (sym same) failed_here))
          | inr away ↦ other t away ∙ keeps.same t (λ p q m below failed. none p q m (omega (arith, below)) failed)
        ];
      }

  keeps_cases : (o : Option Cause) → (lane_in lanes k).cause ≡ o → JobsRose before lanes → ((r : Row) (n : ℕ) (task : TaskId) → o ≡ Some (cause.Job r n) →
      r.leaf ≡ Task task → next ≡ slice_set now task.0 n)
      → (((r : Row) (n : ℕ) (task : TaskId) → o ≡ Some (cause.Job r n) → r.leaf ≡ Task task → ⊥) → next ≡ now) → KeepsCounts lanes (k + 1) before next
  keeps_cases None is rose job none = keeps_same (λ r n same. none_is_no_job r n (sym is ∙ same)) (none (λ r n task same leaf. none_is_no_job r n same))
  keeps_cases (Some (cause.Gate q)) is rose job none = keeps_same (λ r n same. gate_is_no_job q r n (sym is ∙ same))
      (none (λ r n task same leaf. gate_is_no_job q r n same))
  keeps_cases (Some (cause.Job q m)) is rose job none = let risen = rose k q m within is in keeps_job q m is risen (job q m risen.task refl risen.of_task)

  -- the next lane's failure is noted
  pub keeps_next : JobsRose before lanes → ((r : Row) (n : ℕ) (task : TaskId) → (lane_in lanes k).cause ≡ Some (cause.Job r n) → r.leaf ≡ Task task →
      next ≡ slice_set now task.0 n)
      → (((r : Row) (n : ℕ) (task : TaskId) → (lane_in lanes k).cause ≡ Some (cause.Job r n) → r.leaf ≡ Task task → ⊥) → next ≡ now) →
      KeepsCounts lanes (k + 1) before next
  keeps_next rose job none = keeps_cases (lane_in lanes k).cause refl rose job none

-- the task of a job that failed has a count
pub job_within : (counts : List ℕ) (lanes : List LaneContents) (k : ℕ) (r : Row) (n : ℕ) (task : TaskId) → JobsRose counts lanes → k < length lanes →
    (lane_in lanes k).cause ≡ Some (cause.Job r n) → r.leaf ≡ Task task → task.0 < length counts
job_within counts lanes k r n task rose within is leaf =
    let risen = rose k r n within is in
    let same = same_task risen.task task (sym risen.of_task ∙ leaf) in
    subst (λ (x : TaskId). x.0 < length counts) same risen.given

-- the jobs that failed on lanes that were served have counts that rose
pub jobs_rose : (rows : List (List Row)) (counts : List ℕ) (before now : List LaneContents) → length now ≡ length before → AllServed rows counts before now
    → JobsRose counts now
jobs_rose rows counts before now long served p r n within is =
    let lane = served p (omega (arith, within, long)) in
    let caused : IsCaused (Some (cause.Job r n)) (lane_in before p).faults (lane_in now p).faults counts = subst (λ o. IsCaused o (lane_in before p).faults
    (lane_in now p).faults counts) is lane.caused in
    caused.1

no_cause : (lanes : List LaneContents) (counts : List ℕ) → NoGateBefore lanes (length lanes) → NoJobBefore lanes (length lanes) → JobsRose counts lanes →
    (p : ℕ) → p < length lanes → (o : Option Cause) → (lane_in lanes p).cause ≡ o → o ≡ None
no_cause lanes counts no_gate no_job rose p within None is = refl
no_cause lanes counts no_gate no_job rose p within (Some (cause.Gate r)) is = absurd (no_gate p r within (within, is))
no_cause lanes counts no_gate no_job rose p within (Some (cause.Job r n)) is =
    let risen = rose p r n within is in
    absurd (no_job p risen.task.0 r n within (record { lane = within; cause = is; of_task = risen.of_task }))

-- where no gate and no job failed, nothing did
pub none_failed : (lanes : List LaneContents) (counts : List ℕ) → NoGateBefore lanes (length lanes) → NoJobBefore lanes (length lanes) →
    JobsRose counts lanes → NoneFailed lanes
none_failed lanes counts no_gate no_job rose p within = no_cause lanes counts no_gate no_job rose p within (lane_in lanes p).cause refl

pub if_none : {X A B : Type 0} (o : Option X) → (A → B) → IfNone o A → IfNone o B
if_none None f h = f h
if_none (Some x) f h = tt

-- where nothing failed, the passes went on until all was posted
pub all_at_end : (lanes : List LaneContents) (rounds : ℕ) → NoneFailed lanes → (NoneFailed lanes × AllAt rounds lanes) ⊎ ((p : ℕ) × (p < length lanes)
    × ((lane_in lanes p).cause ≢ None)) → AllAt rounds lanes
all_at_end lanes rounds none (inl done) = done.1
all_at_end lanes rounds none (inr some) = absurd (some.2 (none some.0 some.1))
