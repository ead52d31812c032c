-- How a run ends, as the crew shows it.
use Rattle.std.proofs.Common.{◌≡◌, ◌≢◌, inl, inr, ℕ, zero, suc, ◌+◌, ◌*◌, ◌-◌, ◌≤◌, ◌<◌, false, List, [], ◌∷◌, ◌++◌, Option, Some, None, Result, Ok, Err}
use Rattle.std.proofs.Common.{length, take, map, refl, sym, ◌∙◌, ap, subst, arith, append-nil, mul_comm}
use Rattle.std.specs.Prelude.{slice_get, slice_index, option_map, IfSome}
use Rattle.std.specs.List.{AllByRecursion}
use Rattle.std.proofs.lemmas.List.{get_or_past, get_or-map, length-map}
use Rattle.std.proofs.lemmas.Bool.{cases_Bool, eqb-true}
use Rattle.sched_base.specs.declared.rows.Leaf.{Leaf}
use Rattle.sched_base.specs.declared.rows.Leaf.TheVariants.{Task, Wait, Idle, Empty}
use Rattle.sched_base.specs.declared.rows.Row.{Row}
use Rattle.sched_base.specs.declared.rows.TaskId.{TaskId}
use Rattle.sched_base.specs.declared.sets.Task as declared
use Rattle.sched_base.specs.Counting.{bit}
use Rattle.sched_base.specs.Rows.{is_of_task}
use Rattle.sched_base.specs.Tables.{all_rows, lane_of, rounds_in, row_ticks, ticks_in, ticks_of, RowAt}
use Rattle.sched_edges.specs.Gates.{grown}
use Rattle.sched_base.proofs.RowLemmas.{AllByRecursion-append}
use Rattle.run_tree.specs.Plans.{PlanContents, IsPlan, rounds_of}
use Rattle.sched_base.specs.Tables.{row_limit}
use Rattle.sched_base.specs.Lanes.{NamesOneOf}
use Rattle.row_totals.specs.Sums.{totals_of}
use Rattle.plan_rounds.specs.PlanRows.{plan_rows}
use Rattle.exec_book.specs.Jobs.{Made}
use Rattle.plan_rounds.proofs.RoundLemmas.{plan_table, plan_count, plan_lanes, in_lane}
use Rattle.exec_lanes.specs.declared.answers.Executed.{Executed}
use Rattle.exec_lanes.specs.declared.answers.ExecFault.{ExecFault}
use Rattle.exec_lanes.specs.declared.answers.ExecFault.TheVariants as fault
use Rattle.exec_lanes.specs.declared.causes.Cause.{Cause}
use Rattle.exec_lanes.specs.declared.causes.Cause.TheVariants as cause
use Rattle.exec_lanes.specs.declared.kits.Kit.{Kit}
use Rattle.exec_lanes.specs.Kits.{KitAt, AreFilled}
use Rattle.exec_lanes.specs.Lanes.{LaneContents, HasRisen, FailsNext, IsOfTask, lane_in, no_lane, unposted}
use Rattle.exec_lanes.specs.Ends.{posted_by, GateFailed, JobFailed, NoGateBefore, NoJobBefore}
use Rattle.exec_workers.specs.Fronts.{IsDue, least_count}
use Rattle.exec_workers.specs.Runs.{CountsGate, Ran, RanWhole, Outcome, AreFresh}
use Rattle.exec_lanes.proofs.StageLemmas.{same_job}
use Rattle.exec_workers.proofs.HeadlineLemmas.{take_next}
use Rattle.exec_workers.proofs.WholeLemmas.{ticks_at_end, posted_at_end}
use Rattle.run_tool.specs.Executions.{GateSeen, JobSeen, Crew, gates_of, jobs_of, Holds, IsFreshCrew, AreBack, RanAll, RanPart, GateRose, GateKept}
use Rattle.run_tool.proofs.CrewMade.{crew}
use Rattle.run_tool.specs.Executions.{JobRose, ShowsFailed, next_leaf, GateStopped, JobStopped}
use Rattle.run_tool.proofs.CrewLemmas.{below_or, grown_none, same_shown, seen_gate, seen_job, gate_in_kit, kit_shown, job_in_place, place_shown, gates_ran_all}
use Rattle.run_tool.proofs.CrewLemmas.{back_after, back_kept}

-- ---- rows of tasks past the set

not_of : (tasks : List declared.Task) (i : ℕ) (leaf : Leaf) → NamesOneOf tasks leaf → length tasks ≤ i → is_of_task i leaf ≡ false
not_of tasks i (Task id) names past = elim (cases_Bool (is_of_task i (Task id))) [
  | inl on ↦ absurd (let same = eqb-true id.0 i on in omega (arith, same, names, past))
  | inr off ↦ off
]
not_of tasks i (Wait id) names past = refl
not_of tasks i (Idle number) names past = refl
not_of tasks i Empty names past = refl

no_row_ticks : (tasks : List declared.Task) (i : ℕ) (r : Row) → NamesOneOf tasks r.leaf → length tasks ≤ i → row_ticks i r ≡ 0
no_row_ticks tasks i r names past =
    let none : 0 * (r.end - r.start) ≡ 0 = omega arith in
    ap (λ b. bit b * (r.end - r.start)) (not_of tasks i r.leaf names past) ∙ none

no_ticks : (tasks : List declared.Task) (i : ℕ) (rows : List Row) → AllByRecursion (λ r. NamesOneOf tasks r.leaf) rows → length tasks ≤ i → ticks_in i rows ≡ 0
no_ticks tasks i [] all past = refl
no_ticks tasks i (r ∷ rows) all past =
    let here = no_row_ticks tasks i r all.0 past in
    let rest = no_ticks tasks i rows all.1 past in
    omega (arith, here, rest)

no_first_ticks : (tasks : List declared.Task) (i n : ℕ) (rows : List Row) → AllByRecursion (λ r. NamesOneOf tasks r.leaf) rows → length tasks ≤ i
    → ticks_in i (take n rows) ≡ 0
no_first_ticks tasks i zero rows all past = refl
no_first_ticks tasks i (suc n) [] all past = refl
no_first_ticks tasks i (suc n) (r ∷ rows) all past =
    let here = no_row_ticks tasks i r all.0 past in
    let rest = no_first_ticks tasks i n rows all.1 past in
    omega (arith, here, rest)

no_ticks_of : (tasks : List declared.Task) (i : ℕ) (lanes : List (List Row)) (counts : List ℕ)
    → AllByRecursion (λ rows. AllByRecursion (λ r. NamesOneOf tasks r.leaf) rows) lanes → length tasks ≤ i → ticks_of i lanes counts ≡ 0
no_ticks_of tasks i [] counts all past = refl
no_ticks_of tasks i (lane ∷ lanes) [] all past = refl
no_ticks_of tasks i (lane ∷ lanes) (n ∷ counts) all past =
    let here = no_first_ticks tasks i n lane all.0 past in
    let rest = no_ticks_of tasks i lanes counts all.1 past in
    omega (arith, here, rest)

-- what is so of the rows of each lane is so of all
all_in : (P : Row → Type 0) (lanes : List (List Row)) → AllByRecursion (AllByRecursion P) lanes → AllByRecursion P (all_rows lanes)
all_in P [] all = tt
all_in P (lane ∷ lanes) all = AllByRecursion-append P lane (all_rows lanes) all.0 (all_in P lanes all.1)

pub no_ticks_at_all : (tasks : List declared.Task) (i : ℕ) (lanes : List (List Row))
    → AllByRecursion (λ rows. AllByRecursion (λ r. NamesOneOf tasks r.leaf) rows) lanes → length tasks ≤ i → ticks_in i (all_rows lanes) ≡ 0
no_ticks_at_all tasks i lanes all past = no_ticks tasks i (all_rows lanes) (all_in (λ r. NamesOneOf tasks r.leaf) lanes all) past

-- ---- how many rows each gate ran

ran_in : LaneContents → ℕ
ran_in lane = lane.seat.posted + length (unposted lane.cause)

abbrev pub ran_by : List LaneContents → List ℕ
ran_by lanes = map (λ lane. lane.seat.posted + length (unposted lane.cause)) lanes

at_most_one : (o : Option Cause) → length (unposted o) ≤ 1
at_most_one None = omega arith
at_most_one (Some (cause.Gate r)) = omega arith
at_most_one (Some (cause.Job r n)) = omega arith

-- a lane that posted up to a limit ran no row past it, where one that failed posted less
within_by : (o : Option Cause) (posted limit : ℕ) → posted ≤ limit → (o ≢ None → posted < limit) → posted + length (unposted o) ≤ limit
within_by None posted limit below due = (let none : length (unposted None) ≡ 0 = refl in omega (arith, none, below))
within_by (Some c) posted limit below due =
    let less = due (λ e. (let bad : ◌≡◌ {A = Option Cause} (Some c) None = e in cc)) in
    let few = at_most_one (Some c) in
    omega (arith, less, few)

some_cause : (o : Option Cause) (c : Cause) → o ≡ Some c → o ≢ None
some_cause o c is none = let bad : ◌≡◌ {A = Option Cause} (Some c) None = sym is ∙ none in cc

beside_one : (posted n : ℕ) → n ≤ 1 → (posted ≤ posted + n) × (posted + n ≤ posted + 1)
beside_one posted n few = (omega arith, omega (arith, few))

beside_by : (lanes : List LaneContents) (q : ℕ)
    → (slice_index (posted_by lanes) q ≤ slice_index (ran_by lanes) q) × (slice_index (ran_by lanes) q ≤ slice_index (posted_by lanes) q + 1)
beside_by [] q = (omega arith, omega arith)
beside_by (lane ∷ lanes) zero = beside_one lane.seat.posted (length (unposted lane.cause)) (at_most_one lane.cause)
beside_by (lane ∷ lanes) (suc q) = beside_by lanes q

ran_at : (lanes : List LaneContents) (q : ℕ) → q < length lanes
    → slice_index (ran_by lanes) q ≡ (lane_in lanes q).seat.posted + length (unposted (lane_in lanes q).cause)
ran_at lanes q within = get_or-map (λ (l : LaneContents). l.seat.posted + length (unposted l.cause)) lanes q no_lane 0 within

ran_past : (lanes : List LaneContents) (q : ℕ) → length lanes ≤ q → slice_index (ran_by lanes) q ≡ 0
ran_past lanes q past =
    let many = length-map lanes (λ (l : LaneContents). l.seat.posted + length (unposted l.cause)) in
    get_or_past (ran_by lanes) q 0 (omega (arith, past, many))

run_first : (rows : List (List Row)) (q k : ℕ) (o : Option Cause) → FailsNext rows (record { lane = q; posted = k }) o
    → take k (lane_of rows q) ++ unposted o ≡ take (k + length (unposted o)) (lane_of rows q)
run_first rows q k None next = let same : k ≡ k + 0 = omega arith in append-nil (take k (lane_of rows q)) ∙ ap (λ n. take n (lane_of rows q)) same
run_first rows q k (Some (cause.Gate r)) next = let same : k ≡ k + 0 = omega arith in append-nil (take k (lane_of rows q))
    ∙ ap (λ n. take n (lane_of rows q)) same
run_first rows q k (Some (cause.Job r n)) next = take_next (lane_of rows q) k r next

kept_by : (o : Option Cause) (before now : ℕ) → CountsGate o before now → ((r : Row) → o ≡ Some (cause.Gate r) → ⊥) → now ≡ before
kept_by None before now e none = e
kept_by (Some (cause.Gate r)) before now e none = absurd (none r refl)
kept_by (Some (cause.Job r n)) before now e none = e

not_job : (o : Option Cause) → IsOfTask o → ((t : ℕ) (r : Row) (n : ℕ) → o ≡ Some (cause.Job r n) → r.leaf ≡ Task (record { 0 = t }) → ⊥)
    → length (unposted o) ≡ 0
not_job None of none = refl
not_job (Some (cause.Gate r)) of none = refl
not_job (Some (cause.Job r n)) of none = absurd (none of.0.0 r n refl of.1)

-- what a gate ran beside the posted rows is a row at which its task's job failed
out_job : (o : Option Cause) → IsOfTask o → 0 < length (unposted o)
    → (task : TaskId) × (r : Row) × (n : ℕ) × (o ≡ Some (cause.Job r n)) × (r.leaf ≡ Task task)
out_job None of some = absurd (let none : length (unposted None) ≡ 0 = refl in omega (arith, some, none))
out_job (Some (cause.Gate r)) of some = absurd (let none : length (unposted (Some (cause.Gate r))) ≡ 0 = refl in omega (arith, some, none))
out_job (Some (cause.Job r n)) of some = (of.0, r, n, refl, of.1)

pub same_seen : {X : Type 0} (o : Option (Option X)) (x y : X) → o ≡ Some (Some x) → o ≡ Some (Some y) → x ≡ y
same_seen o x y here there = let same : Some (Some x) ≡ Some (Some y) = sym here ∙ there in cc

-- ---- what a run may ask for

module _ {G J : Type 0} (ran : G → Option (List Row)) (gate_faults : G → ℕ) (id used job_faults : J → ℕ) (made : J → Made) (kits : List (Kit G))
    (places : List (Option J)) (ready : IsFreshCrew (crew (gates_of ran gate_faults kits) (jobs_of id used job_faults made places))) where
  pub kits_filled : (m : ℕ) → m ≤ 32 → AreFilled m kits
  kits_filled m few q within =
      let (g, at, none) = ready.gates q (omega (arith, few, within)) in
      let (gate, there, same) = gate_in_kit ran gate_faults kits q g at in
      (gate, there)

  pub kit_empty : (m : ℕ) → m ≤ 32 → (q : ℕ) (gate : G) → q < m → KitAt kits q gate → IfSome (ran gate) (λ list. list ≡ [])
  kit_empty m few q gate within there =
      let (g, at, none) = ready.gates q (omega (arith, few, within)) in
      let same : g ≡ seen_gate ran gate_faults gate =
      same_seen (slice_get (gates_of ran gate_faults kits) q) g (seen_gate ran gate_faults gate) at (kit_shown ran gate_faults kits q gate there) in
      subst (λ (x : GateSeen). IfSome x.ran (λ rows. rows ≡ [])) same none

  pub jobs_fresh : (n : ℕ) → n ≤ 256 → AreFresh id used n places
  jobs_fresh n few t within =
      let (j, at, own, none) = ready.jobs t (omega (arith, few, within)) in
      let (job, there, same) = job_in_place id used job_faults made places t j at in
      (job, there, ap (λ (x : JobSeen). x.id) same ∙ own, ap (λ (x : JobSeen). x.used) same ∙ none)

-- the rows of a plan, by its number of rounds
pub few_rows : (p : PlanContents) → IsPlan p → (rows : List (List Row)) → rows ≡ plan_rows p → (n : ℕ) → n ≡ rounds_of p
    → n * p.tree.processors ≤ row_limit → length rows * rounds_in rows ≤ row_limit
few_rows p h rows is n rounds few =
    let lanes : length rows ≡ p.tree.processors = ap (λ (xs : List (List Row)). length xs) is ∙ plan_lanes p h in
    let count : rounds_in rows ≡ n = ap rounds_in is ∙ plan_count p h ∙ sym rounds in
    let product : length rows * rounds_in rows ≡ n * p.tree.processors = (λ i. lanes i * count i) ∙ mul_comm p.tree.processors n in
    subst (λ x. x ≤ row_limit) (sym product) few

-- ---- a run that ended with these lanes

module _ {G J : Type 0} (ran : G → Option (List Row)) (gate_faults : G → ℕ) (id used : J → ℕ) (made : J → Made) (job_faults : J → ℕ)
    (p : PlanContents) (window : ℕ) (h : IsPlan p)
    (kits kits' : List (Kit G)) (places places' : List (Option J)) (filled : AreFilled p.tree.processors kits)
    (fresh : AreFresh id used (length p.set.tasks) places)
    (names : AllByRecursion (λ rows. AllByRecursion (λ x. NamesOneOf p.set.tasks x.leaf) rows) (plan_rows p)) where
  abbrev before : Crew
  before = crew (gates_of ran gate_faults kits) (jobs_of id used job_faults made places)

  abbrev after : Crew
  after = crew (gates_of ran gate_faults kits') (jobs_of id used job_faults made places')

  module _ (lanes : List LaneContents) (r : Ran ran gate_faults id used made job_faults p window kits kits' places places' lanes) where
    inside : (q : ℕ) → q < p.tree.processors → q < length lanes
    inside q within = let width = r.width in omega (arith, within, width)

    -- a job after the run
    job_now : (i : ℕ) (j : JobSeen) → Holds (jobs_of id used job_faults made places) i j
        → (k : JobSeen) × Holds (jobs_of id used job_faults made places') i k × (k.id ≡ j.id)
        × (k.used ≡ j.used + ticks_of i (plan_rows p) (posted_by lanes)) × (((q : ℕ) (x : Row) (n : ℕ) → JobFailed lanes q i x n → ⊥) → k.faults ≡ j.faults)
        × (k.made ≡ j.made)
    job_now i j at =
        let (job, there, same) = job_in_place id used job_faults made places i j at in
        elim (below_or i (length p.set.tasks)) [
          | inl within ↦
              let (now, back, jr) = r.jobs i job within there in
              let start = fresh i within in
              let unused : used job ≡ 0 = subst (λ (x : J). used x ≡ 0) (same_job places i start.0 job start.1 there) start.3 in
              let begun : j.used ≡ 0 = sym (ap (λ (x : JobSeen). x.used) same) ∙ unused in
              let worked = jr.worked in (
                seen_job id used job_faults made now,
                place_shown id used job_faults made places' i now back,
                jr.own
                    ∙ ap (λ (x : JobSeen). x.id) same,
                omega (arith, worked, begun),
                λ none. jr.same none ∙ ap (λ (x : JobSeen). x.faults) same,
                jr.made_of ∙ ap (λ (x : JobSeen). x.made) same,
              )
          | inr past ↦
              let none = no_ticks_of p.set.tasks i (plan_rows p) (posted_by lanes) names past in (
                j,
                subst (λ (x : JobSeen). Holds (jobs_of id used job_faults made places') i x) same
                    (place_shown id used job_faults made places' i job (r.other_jobs i past ∙ there)),
                refl,
                omega (arith, none),
                λ unfailed. refl,
                refl,
              )
        ]

    -- a gate after the run
    gate_now : (q : ℕ) (g : GateSeen) → Holds (gates_of ran gate_faults kits) q g
        → (k : GateSeen) × Holds (gates_of ran gate_faults kits') q k
        × (k.ran ≡ grown g.ran (take (slice_index (ran_by lanes) q) (lane_of (plan_rows p) q))) × (((x : Row) → GateFailed lanes q x → ⊥) → k.faults ≡ g.faults)
    gate_now q g at =
        let (gate, there, same) = gate_in_kit ran gate_faults kits q g at in
        elim (below_or q p.tree.processors) [
          | inl within ↦
              let (now, back, gr) = r.gates q gate within there in
              let lane = lane_in lanes q in
              let next = subst (λ n. FailsNext (plan_rows p) (record { lane = n; posted = lane.seat.posted }) lane.cause) gr.own gr.next in
              let rows =
              run_first (plan_rows p) q lane.seat.posted lane.cause next
              ∙ ap (λ n. take n (lane_of (plan_rows p) q)) (sym (ran_at lanes q (inside q within))) in (
                seen_gate ran gate_faults now,
                kit_shown ran gate_faults kits' q now back,
                gr.list ∙ (λ i. grown (ap (λ (x : GateSeen). x.ran) same i) (rows i)),
                λ none. kept_by lane.cause (gate_faults gate) (gate_faults now) gr.count (λ x is. none x (inside q within, is))
                    ∙ ap (λ (x : GateSeen). x.faults) same,
              )
          | inr past ↦
              let width = r.width in
              let nothing = ran_past lanes q (omega (arith, width, past)) in (
                g,
                subst (λ (x : GateSeen). Holds (gates_of ran gate_faults kits') q x) same
                    (kit_shown ran gate_faults kits' q gate (r.other_kits q past ∙ there)),
                sym
                    (ap (λ n. grown g.ran (take n (lane_of (plan_rows p) q))) nothing ∙ grown_none g.ran),
                λ unfailed. refl,
              )
        ]

    -- a gate of a lane that didn't fail at its gate
    gate_kept : (q : ℕ) → ((x : Row) → GateFailed lanes q x → ⊥) → GateKept before after q
    gate_kept q none g k at back =
        let (now, there, list, kept) = gate_now q g at in
        ap (λ (x : GateSeen). x.faults) (same_seen (slice_get (gates_of ran gate_faults kits') q) k now back there) ∙ kept none

    lane_row : (q : ℕ) → q < p.tree.processors → FailsNext (plan_rows p) (record { lane = q; posted = (lane_in lanes q).seat.posted }) (lane_in lanes q).cause
    lane_row q within =
        let (gate, there) = filled q within in
        let (now, back, gr) = r.gates q gate within there in
        subst (λ n. FailsNext (plan_rows p) (record { lane = n; posted = (lane_in lanes q).seat.posted }) (lane_in lanes q).cause) gr.own gr.next

    lane_task : (q : ℕ) → q < p.tree.processors → IsOfTask (lane_in lanes q).cause
    lane_task q within =
        let (gate, there) = filled q within in
        let (now, back, gr) = r.gates q gate within there in
        gr.of_task

    named : (q k : ℕ) (x : Row) → RowAt (plan_rows p) q k x → NamesOneOf p.set.tasks x.leaf
    named q k x at = in_lane (λ y. NamesOneOf p.set.tasks y.leaf) (plan_rows p) q k x names at

    module _ (q t n : ℕ) (x : Row) (failed : JobFailed lanes q t x n) where
      job_lane : q < p.tree.processors
      job_lane = let width = r.width in let within = failed.lane in omega (arith, width, within)

      job_row : RowAt (plan_rows p) q (lane_in lanes q).seat.posted x
      job_row = subst (λ c. FailsNext (plan_rows p) (record { lane = q; posted = (lane_in lanes q).seat.posted }) c) failed.cause (lane_row q job_lane)

      pub job_names : NamesOneOf p.set.tasks x.leaf
      job_names = named q (lane_in lanes q).seat.posted x job_row

      job_rose : JobRose before after t
      job_rose =
          let within : t < length p.set.tasks = subst (λ (l : Leaf). NamesOneOf p.set.tasks l) failed.of_task job_names in
          let start = fresh t within in
          let (now, back, jr) = r.jobs t start.0 within start.1 in
          let risen = jr.risen q x n failed in (
            seen_job id used job_faults made start.0,
            seen_job id used job_faults made now,
            place_shown id used job_faults made places t start.0 start.1,
            place_shown id used job_faults made places' t now back,
            risen.rose,
          )

      job_posted : slice_index (posted_by lanes) q ≡ (lane_in lanes q).seat.posted
      job_posted = posted_at_end lanes q failed.lane

      job_ran : slice_index (ran_by lanes) q ≡ (lane_in lanes q).seat.posted + 1
      job_ran = ran_at lanes q failed.lane ∙ ap (λ (c : Option Cause). (lane_in lanes q).seat.posted + length (unposted c)) failed.cause

      job_out : slice_index (posted_by lanes) q < slice_index (ran_by lanes) q
      job_out = let posted = job_posted in let run = job_ran in omega (arith, posted, run)

      job_leaf : next_leaf p (posted_by lanes) q ≡ Some (Task (record { 0 = t }))
      job_leaf =
          ap (λ (k : ℕ). option_map (λ (y : Row). y.leaf) (slice_get (lane_of (plan_rows p) q) k)) job_posted
          ∙ ap (λ (o : Option Row). option_map (λ (y : Row). y.leaf) o) job_row
          ∙ ap Some failed.of_task

    -- a row that ran and isn't posted is one at which its task's job failed
    out_failed : (q : ℕ) → slice_index (posted_by lanes) q < slice_index (ran_by lanes) q → ShowsFailed before after (next_leaf p (posted_by lanes) q)
    out_failed q out =
        elim (below_or q (length lanes)) [
          | inl here ↦
              let width = r.width in
              let within : q < p.tree.processors = omega (arith, width, here) in
              let posted : slice_index (posted_by lanes) q ≡ (lane_in lanes q).seat.posted = posted_at_end lanes q here in
              let all = ran_at lanes q here in
              let some : 0 < length (unposted (lane_in lanes q).cause) = omega (arith, out, posted, all) in
              let (task, x, n, is, of) = out_job (lane_in lanes q).cause (lane_task q within) some in
              let failed : JobFailed lanes q task.0 x n = record { lane = here; cause = is; of_task = of } in
              subst (λ (o : Option Leaf). ShowsFailed before after o) (sym (job_leaf q task.0 n x failed)) (job_rose q task.0 n x failed)
          | inr past ↦ absurd (let none = ran_past lanes q past in omega (arith, out, none))
        ]

    -- a job of whose task no such row ran didn't fail
    job_kept : (i : ℕ)
        → ((q : ℕ) → slice_index (posted_by lanes) q < slice_index (ran_by lanes) q → next_leaf p (posted_by lanes) q ≡ Some (Task (record { 0 = i })) → ⊥)
        → (j k : JobSeen) → Holds before.jobs i j → Holds after.jobs i k → k.faults ≡ j.faults
    job_kept i none j k at back =
        let (now, there, own, worked, kept, programmed) = job_now i j at in
        ap (λ (x : JobSeen). x.faults) (same_seen (slice_get (jobs_of id used job_faults made places') i) k now back there)
        ∙ kept (λ q x n failed. none q (job_out q i n x failed) (job_leaf q i n x failed))

    -- no gate ran a row past the window
    ran_within : (q : ℕ) → slice_index (ran_by lanes) q ≤ least_count (posted_by lanes) + window
    ran_within q = elim (below_or q (length lanes)) [
      | inl here ↦
          let posted = posted_at_end lanes q here in
          let all = ran_at lanes q here in
          let below : (lane_in lanes q).seat.posted ≤ least_count (posted_by lanes) + window = (let w = r.within q in omega (arith, w, posted)) in
          let due : (lane_in lanes q).cause ≢ None → (lane_in lanes q).seat.posted < least_count (posted_by lanes) + window =
          λ failed. (let w = (r.due q here failed).within in omega (arith, w, posted)) in
          let so = within_by (lane_in lanes q).cause (lane_in lanes q).seat.posted (least_count (posted_by lanes) + window) below due in
          omega (arith, so, all)
      | inr past ↦ (let none = ran_past lanes q past in omega (arith, none))
    ]

    -- what was posted, and what was run
    part : RanPart p window before after (posted_by lanes) (ran_by lanes)
    part = record {
      width = (let many = length-map lanes (λ (l : LaneContents). l.seat.posted) in let width = r.width in omega (arith, many, width));
      beside = beside_by lanes;
      gates = λ q g at. let (k, back, list, kept) = gate_now q g at in (k, back, list);
      jobs = λ i j at. let (k, back, own, worked, kept, programmed) = job_now i j at in (k, back, worked, programmed);
      failed = out_failed;
      kept = job_kept;
      front = r.front;
      within = ran_within;
      others = λ q past. same_shown ran gate_faults kits kits' q (r.other_kits q past);
    }

    module _ (q : ℕ) (x : Row) (failed : GateFailed lanes q x) where
      gate_lane : q < p.tree.processors
      gate_lane = let width = r.width in let within = failed.0 in omega (arith, width, within)

      gate_row : RowAt (plan_rows p) q (lane_in lanes q).seat.posted x
      gate_row = subst (λ c. FailsNext (plan_rows p) (record { lane = q; posted = (lane_in lanes q).seat.posted }) c) failed.1 (lane_row q gate_lane)

      pub gate_names : NamesOneOf p.set.tasks x.leaf
      gate_names = named q (lane_in lanes q).seat.posted x gate_row

      pub gate_below : x.processor < p.tree.processors
      gate_below = subst (λ n. n < p.tree.processors) (sym ((plan_table p h).own q (lane_in lanes q).seat.posted x gate_row)) gate_lane

      gate_rose : GateRose before after q
      gate_rose =
          let (gate, there) = filled q gate_lane in
          let (now, back, gr) = r.gates q gate gate_lane there in
          let risen : HasRisen (gate_faults gate) (gate_faults now) =
          subst (λ (c : Option Cause). CountsGate c (gate_faults gate) (gate_faults now)) failed.1 gr.count in (
            seen_gate ran gate_faults gate,
            seen_gate ran gate_faults now,
            kit_shown ran gate_faults kits q gate there,
            kit_shown ran gate_faults kits' q now back,
            risen.rose,
          )

      pub gate_stopped : NoGateBefore lanes q → GateStopped p window before after x
      gate_stopped lowest =
          let own : x.processor ≡ q = (plan_table p h).own q (lane_in lanes q).seat.posted x gate_row in
          let none : (lane_in lanes q).seat.posted + 0 ≡ (lane_in lanes q).seat.posted = omega arith in
          let run : slice_index (ran_by lanes) q ≡ (lane_in lanes q).seat.posted =
          ran_at lanes q failed.0 ∙ ap (λ (c : Option Cause). (lane_in lanes q).seat.posted + length (unposted c)) failed.1 ∙ none in
          let at : RowAt (plan_rows p) q (slice_index (ran_by lanes) q) x = subst (λ k. RowAt (plan_rows p) q k x) (sym run) gate_row in
          record {
            rose = subst (λ n. GateRose before after n) (sym own) gate_rose;
            lowest = λ n below. gate_kept n (λ y other. lowest n y (omega (arith, own, below)) other);
            at = (
              posted_by lanes,
              ran_by lanes,
              part,
              subst (λ n. RowAt (plan_rows p) n (slice_index (ran_by lanes) n) x) (sym own) at,
              subst (λ n. slice_index (posted_by lanes) n ≡ slice_index (ran_by lanes) n) (sym own) (posted_at_end lanes q failed.0 ∙ sym run),
              subst (λ n. IsDue (plan_rows p) window (posted_by lanes) n) (sym own)
                  (r.due q failed.0 (some_cause (lane_in lanes q).cause (cause.Gate x) failed.1)),
            );
          }

    module _ (q t n : ℕ) (x : Row) (failed : JobFailed lanes q t x n) where
      pub job_stopped : NoGateBefore lanes (length lanes) → NoJobBefore lanes q → JobStopped p window before after x
      job_stopped no_gate lowest =
          let row = job_row q t n x failed in
          let own : x.processor ≡ q = (plan_table p h).own q (lane_in lanes q).seat.posted x row in
          let posted = job_posted q t n x failed in
          let run = job_ran q t n x failed in
          let at : RowAt (plan_rows p) q (slice_index (posted_by lanes) q) x = subst (λ k. RowAt (plan_rows p) q k x) (sym posted) row in
          let one : slice_index (ran_by lanes) q ≡ slice_index (posted_by lanes) q + 1 = omega (arith, posted, run) in
          record {
            task = (record { 0 = t }, failed.of_task, job_rose q t n x failed);
            gates = λ m. gate_kept m (λ y other. no_gate m y other.0 other);
            at = (
              posted_by lanes,
              ran_by lanes,
              part,
              subst (λ m. RowAt (plan_rows p) m (slice_index (posted_by lanes) m) x) (sym own) at,
              subst (λ m. slice_index (ran_by lanes) m ≡ slice_index (posted_by lanes) m + 1) (sym own) one,
              λ m below.
                  let lane = job_lane q t n x failed in
                  let within : m < p.tree.processors = omega (arith, own, below, lane) in
                  let first : slice_index (posted_by lanes) m ≡ (lane_in lanes m).seat.posted = posted_at_end lanes m (inside m within) in
                  let all = ran_at lanes m (inside m within) in
                  let none =
                  not_job (lane_in lanes m).cause (lane_task m within)
                  (λ u y k is of. lowest m u y k (omega (arith, own, below)) (record { lane = inside m within; cause = is; of_task = of })) in
                  omega (arith, first, all, none),
              subst (λ m. IsDue (plan_rows p) window (posted_by lanes) m) (sym own)
                  (r.due q failed.lane (some_cause (lane_in lanes q).cause (cause.Job x n) failed.cause)),
            );
          }

    -- nothing failed, and all was posted
    pub ran_to_end : (e : Executed) → RanWhole p lanes e → RanAll p before after
    ran_to_end e all = record {
      gates = gates_ran_all ran gate_faults id used made job_faults p window kits kits' places places' lanes r h all.none_failed all.all_posted;
      jobs = λ i j at.
          let (k, back, own, worked, kept, programmed) = job_now i j at in
          let same =
          kept (λ q x n failed. absurd (let bad : ◌≡◌ {A = Option Cause} None (Some (cause.Job x n)) = sym (all.none_failed q failed.lane)
          ∙ failed.cause in cc)) in
          let ticks = worked ∙ ap (λ n. j.used + n) (ticks_at_end p h lanes r.width all.all_posted i) in
          back ∙ (λ d. Some (Some (record { id = own d; used = ticks d; faults = same d; made = programmed d })));
      valid = all.valid;
    }

-- ---- by what a run answers

module _ {G J : Type 0} (ran : G → Option (List Row)) (gate_faults : G → ℕ) (id used : J → ℕ) (made : J → Made) (job_faults : J → ℕ)
    (p : PlanContents) (window : ℕ) (kits kits' : List (Kit G)) (places places' : List (Option J)) where
  -- whatever is answered, all are back
  pub back_by : (result : Result Executed ExecFault) → Outcome ran gate_faults id used made job_faults p window kits kits' places places' result
      → AreBack (crew (gates_of ran gate_faults kits) (jobs_of id used job_faults made places))
      (crew (gates_of ran gate_faults kits') (jobs_of id used job_faults made places'))
  back_by (Ok e) o = back_after ran gate_faults id used made job_faults p window kits kits' places places' o.0 o.1
  back_by (Err (fault.Gate q x n)) o = back_after ran gate_faults id used made job_faults p window kits kits' places places' o.0 o.1
  back_by (Err (fault.Job t q x n)) o = back_after ran gate_faults id used made job_faults p window kits kits' places places' o.0 o.1
  back_by (Err fault.NoMemory) o = back_kept ran gate_faults id used made job_faults kits kits' places places' o

  module _ (h : IsPlan p) (ready : IsFreshCrew (crew (gates_of ran gate_faults kits) (jobs_of id used job_faults made places)))
      (names : AllByRecursion (λ rows. AllByRecursion (λ x. NamesOneOf p.set.tasks x.leaf) rows) (plan_rows p))
      (result : Result Executed ExecFault) (o : Outcome ran gate_faults id used made job_faults p window kits kits' places places' result) where
    filled : AreFilled p.tree.processors kits
    filled = kits_filled ran gate_faults id used job_faults made kits places ready p.tree.processors h.sized.few_processors

    fresh : AreFresh id used (length p.set.tasks) places
    fresh = jobs_fresh ran gate_faults id used job_faults made kits places ready (length p.set.tasks) h.lawful.few_tasks

    abbrev old : Crew
    old = crew (gates_of ran gate_faults kits) (jobs_of id used job_faults made places)

    abbrev new : Crew
    new = crew (gates_of ran gate_faults kits') (jobs_of id used job_faults made places')

    pub all_by : (e : Executed) → result ≡ Ok e → RanAll p old new
    all_by e is =
        let here : Outcome ran gate_faults id used made job_faults p window kits kits' places places' (Ok e) =
        subst (λ x. Outcome ran gate_faults id used made job_faults p window kits kits' places places' x) is o in
        ran_to_end ran gate_faults id used made job_faults p window h kits kits' places places' filled fresh names here.0 here.1 e here.2

    pub rows_by : (e : Executed) → result ≡ Ok e → e.table.lanes ≡ plan_rows p
    rows_by e is =
        let here : Outcome ran gate_faults id used made job_faults p window kits kits' places places' (Ok e) =
        subst (λ x. Outcome ran gate_faults id used made job_faults p window kits kits' places places' x) is o in
        here.2.table

    pub totals_by : (e : Executed) → result ≡ Ok e → e.totals.ticks ≡ totals_of (length p.set.tasks) (plan_rows p)
    totals_by e is =
        let here : Outcome ran gate_faults id used made job_faults p window kits kits' places places' (Ok e) =
        subst (λ x. Outcome ran gate_faults id used made job_faults p window kits kits' places places' x) is o in
        here.2.totals

    pub left_by : result ≡ Err fault.NoMemory → (kits' ≡ kits) × (places' ≡ places)
    left_by is = subst (λ x. Outcome ran gate_faults id used made job_faults p window kits kits' places places' x) is o

    module _ (q : ℕ) (x : Row) (n : ℕ) (is : result ≡ Err (fault.Gate q x n)) where
      at_gate : Outcome ran gate_faults id used made job_faults p window kits kits' places places' (Err (fault.Gate q x n))
      at_gate = subst (λ y. Outcome ran gate_faults id used made job_faults p window kits kits' places places' y) is o

      pub gate_by : GateStopped p window old new x
      gate_by =
          let here =
          at_gate in gate_stopped ran gate_faults id used made job_faults p window h kits kits' places places' filled fresh names here.0 here.1 q x here.2.0
          here.2.1

      pub gate_named : NamesOneOf p.set.tasks x.leaf
      gate_named =
          let here = at_gate in gate_names ran gate_faults id used made job_faults p window h kits kits' places places' filled fresh names here.0 here.1 q x
          here.2.0

    module _ (t q : ℕ) (x : Row) (n : ℕ) (is : result ≡ Err (fault.Job t q x n)) where
      at_job : Outcome ran gate_faults id used made job_faults p window kits kits' places places' (Err (fault.Job t q x n))
      at_job = subst (λ y. Outcome ran gate_faults id used made job_faults p window kits kits' places places' y) is o

      pub job_by : JobStopped p window old new x
      job_by =
          let here =
          at_job in job_stopped ran gate_faults id used made job_faults p window h kits kits' places places' filled fresh names
          here.0 here.1 q t here.2.1.0 x here.2.1.1 here.2.0 here.2.2

      pub job_named : NamesOneOf p.set.tasks x.leaf
      job_named =
          let here =
          at_job in job_names ran gate_faults id used made job_faults p window h kits kits' places places' filled fresh names here.0 here.1 q t here.2.1.0 x
          here.2.1.1
