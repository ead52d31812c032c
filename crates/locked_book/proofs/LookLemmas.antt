-- What a look at a seat gives.
use Rattle.std.proofs.Common.{◌≡◌, inl, inr, ℕ, ◌+◌, ◌-◌, ◌<◌, ◌^◌, true, false, List, Option, Some, None, length, refl, sym, ap, ◌∙◌, subst, arith}
use Rattle.std.specs.Prelude.{slice_index}
use Rattle.std.proofs.lemmas.List.{get_or-set_same, length-set}
use Rattle.std.proofs.lemmas.Option.{slice_get-get_or}
use Rattle.std.proofs.lemmas.Bool.{eq-eqb}
use Rattle.sched_base.specs.declared.rows.Leaf.{Leaf}
use Rattle.sched_base.specs.declared.rows.Leaf.TheVariants.{Task, Wait, Idle, Empty}
use Rattle.sched_base.specs.declared.rows.TaskId.{TaskId}
use Rattle.sched_base.specs.declared.rows.Row.{Row}
use Rattle.sched_base.specs.Rows.{is_of_task}
use Rattle.sched_base.specs.Tables.{RowAt, ticks_before}
use Rattle.sched_base.proofs.TickLemmas.{ticks_before-fits}
use Rattle.sched_edges.specs.Jobs.{FaultsAre}
use Rattle.run_tree.specs.Plans.{PlanContents, IsPlan}
use Rattle.unit_ledger.specs.Seats.{Seat}
use Rattle.book_machine.specs.declared.machine.LaneState.{LaneState}
use Rattle.book_machine.specs.declared.events.Event.TheVariants.{Post}
use Rattle.book_machine.specs.Machine.{State, IsOut, WaitsFor, after, at_start, lane_at, posted_at}
use Rattle.book_machine.specs.Reached.{OutRow}
use Rattle.book_machine.proofs.Lanes.{out_within}
use Rattle.book_machine.proofs.PostedTicks.{ticks_of-out}
use Rattle.exec_book.specs.declared.looks.Look.{Look}
use Rattle.exec_book.specs.declared.looks.Look.TheVariants.{Ready, NotYet, Done, Halted}
use Rattle.exec_book.specs.declared.looks.Next.{Next}
use Rattle.exec_book.specs.declared.looks.Next.TheVariants as next
use Rattle.plan_rounds.specs.PlanRows.{plan_rows}
use Rattle.plan_rounds.specs.Parts.{posted_ticks}
use Rattle.exec_book.specs.Jobs.{Made, IsJobOf, IsTasksJob, WasAt}
use Rattle.plan_rounds.specs.Parts.{processor}
use Rattle.exec_book.specs.Books.{BookContents}
use Rattle.exec_book.specs.Looks.{Hands, LookMeans, SaysNext}
use Rattle.plan_rounds.proofs.RoundLemmas.{names_task, plan_table}
use Rattle.exec_book.proofs.JobLemmas.{IsJobOf-by}
use Rattle.locked_book.specs.Found.{IsOutWith, StandsAt}
use Rattle.locked_book.specs.Promises.{HasWorked, IsNext, IsNextRow, TakeGives, GivesRow}
use Rattle.locked_book.proofs.FoundLemmas.{same_out_row}

-- a lane that is waited for is one of the machine's
waited_within : (rows : List (List Row)) (window : ℕ) (s : State) (p q : ℕ) → WaitsFor rows window s p q → q < length s.lanes
waited_within rows window s p q (inl (_, lowest)) = lowest.lane
waited_within rows window s p q (inr (_, (_, _, earlier))) = earlier.lane

module _ {J : Type 0} (id used : J → ℕ) (made : J → Made) (faults : J → ℕ) (all_made : List Made) (seat : Seat) (counts : List ℕ) (old new : BookContents J)
  where
    -- a row that is handed out is the seat's next one
    next_row : IsPlan old.plan → posted_at old.state seat.lane ≡ seat.posted → length counts ≡ length old.plan.set.tasks → (old.state.halted ≡ false →
        FaultsAre faults old.jobs.places counts)
        → (row : Row) (job : Option J) → Hands id used made all_made old new seat.lane row job → IsNext id used made faults all_made old.plan seat counts
        row job
    next_row lawful count many told row job hands =
        let rows = plan_rows old.plan in
        let at : RowAt rows seat.lane seat.posted row = subst (λ k. RowAt rows seat.lane k row) count hands.legal.is_next in
        record {
          at = at;
          own = subst (λ k. IsJobOf id used made all_made (λ t. ticks_before t k rows) row.leaf job) count hands.ready;
          as_given = λ task j is there.
              let t = task.0 in
              let named : is_of_task t row.leaf ≡ true = ap (is_of_task t) is ∙ eq-eqb t t refl in
              let within : t < length counts = omega (arith, many, names_task old.plan lawful seat.lane seat.posted t row at named) in
              let was : WasAt old.jobs.places (Task task) job = subst (λ l. WasAt old.jobs.places l job) is hands.own in
              let same : Some was.0 ≡ Some j = sym was.1 ∙ there in
              let same' : was.0 ≡ j = cc in
              ap faults (sym same') ∙ told hands.legal.running t (slice_index counts t) was.0 was.2 (slice_get-get_or counts t 0 within);
        }

    -- what a take on the seat's lane says is what a look gives
    pub gives : (look : Look J) → IsPlan old.plan → length old.state.lanes ≡ old.plan.tree.processors → posted_at old.state seat.lane ≡ seat.posted →
        length counts ≡ length old.plan.set.tasks → (old.state.halted ≡ false → FaultsAre faults old.jobs.places counts)
        → LookMeans id used made all_made old new seat.lane look → TakeGives id used made faults all_made old.plan seat counts look
    gives (Ready row job) lawful lanes count many told says = next_row lawful count many told row job says
    gives (NotYet lane posted) lawful lanes count many told says =
        let behind = says.behind in
        (subst (λ n. lane < n) lanes (waited_within (plan_rows old.plan) old.window old.state seat.lane lane says.reason), omega (arith, behind, count))
    gives Done lawful lanes count many told says = sym count ∙ says.1
    gives Halted lawful lanes count many told says = tt

module _ {J : Type 0} (id used : J → ℕ) (made : J → Made) (all_made : List Made) (seat : Seat) (old new : BookContents J) where
  -- what a worker's take on the seat's lane says is what it gets
  pub gives_row : (look : Next J) → posted_at old.state seat.lane ≡ seat.posted → SaysNext id used made all_made old new seat.lane look →
      GivesRow id used made all_made old.plan seat look
  gives_row (next.Ready row job) count hands =
      let rows = plan_rows old.plan in
      record {
        at = subst (λ k. RowAt rows seat.lane k row) count hands.legal.is_next;
        own = subst (λ k. IsJobOf id used made all_made (λ t. ticks_before t k rows) row.leaf job) count hands.ready;
      }
  gives_row next.Waits count says = tt
  gives_row next.Done count says = sym count ∙ says.1
  gives_row next.Halted count says = tt

-- the row that was out on a lane is posted
pub record IsPosted (old new : State) (p : ℕ) : Type 0 where
  pub within : p < length new.lanes
  pub free : (lane_at new.lanes p).out ≡ false
  pub count : posted_at new p ≡ posted_at old p + 1

pub posted : (old new : State) (p : ℕ) → IsOut old p → new ≡ after old (Post (processor p)) → IsPosted old new p
posted old new p out is =
    let lane : LaneState = record { posted = posted_at old p + 1; out = false } in
    let within : p < length old.lanes = out_within old.lanes p out in
    let there = get_or-set_same old.lanes p lane at_start within in
    subst (λ s. IsPosted old s p) (sym is) (record {
      within = rw length-set within;
      free = ap (λ (l : LaneState). l.out) there;
      count = ap (λ (l : LaneState). l.posted) there;
    })

-- what a take says after a post on the lane is what a look at the seat gives, which counts one more
pub gives_after_post : {J : Type 0} (id used : J → ℕ) (made : J → Made) (all_made : List Made) (p : PlanContents) (seat now : Seat) (lane : ℕ) (old : State)
    (book new : BookContents J) (look : Next J) → book.plan ≡ p → lane ≡ seat.lane → posted_at old seat.lane ≡ seat.posted →
    now ≡ record seat { posted = seat.posted + 1 } → IsPosted old book.state lane → SaysNext id used made all_made book new lane look →
    GivesRow id used made all_made p now look
gives_after_post id used made all_made p seat now lane old book new look plan own count later post says =
    let same : now.lane ≡ lane = ap (λ (s : Seat). s.lane) later ∙ sym own in
    let counts : posted_at old lane + 1 ≡ now.posted = ap (λ k. posted_at old k + 1) own ∙ ap (λ n. n + 1) count ∙ ap (λ (s : Seat). s.posted) (sym later) in
    subst (λ q. GivesRow id used made all_made q now look) plan
    (gives_row id used made all_made now book new look (ap (λ k. posted_at book.state k) same ∙ post.count ∙ counts)
    (subst (λ k. SaysNext id used made all_made book new k look) (sym same) says))

-- the job that goes with the row that is out has worked that row's ticks
job_of_out : {J : Type 0} (id used : J → ℕ) (made : J → Made) (all_made : List Made) (rows : List (List Row)) (s : State) (lane p ticks : ℕ) (row : Row)
    (o : Option J) → p ≡ lane → OutRow rows s lane row → ticks ≡ row.end - row.start →
    IsJobOf id used made all_made (λ t. posted_ticks rows s t + ticks) row.leaf o → (r : Row) → OutRow rows s p r →
    IsJobOf id used made all_made (λ t. posted_ticks rows s t + (r.end - r.start)) r.leaf o
job_of_out id used made all_made rows s lane p ticks row o own out long job r there =
    subst (λ (q : Row). IsJobOf id used made all_made (λ t. posted_ticks rows s t + (q.end - q.start)) q.leaf o)
    (same_out_row rows s lane row r out (subst (λ k. OutRow rows s k r) own there))
    (subst (λ n. IsJobOf id used made all_made (λ t. posted_ticks rows s t + n) row.leaf o) long job)

-- what is known where the row is out on the seat's lane, and the job is that of the row
module _ {J : Type 0} (id used : J → ℕ) (made : J → Made) (all_made : List Made) (p : PlanContents) (b : BookContents J) (seat : Seat) (row : Row)
    (job : Option J)
    (ticks lane : ℕ) (found : IsOutWith id used made all_made p b seat row job ticks) (own : lane ≡ seat.lane)
  where
    pub out_on : IsOut b.state lane
    out_on = subst (λ n. IsOut b.state n) (sym own) found.found.out.0

    pub seat_of : seat ≡ record { lane = lane; posted = posted_at b.state lane }
    seat_of = let count : seat.posted ≡ posted_at b.state lane = sym found.found.count ∙ ap (λ n. posted_at b.state n) (sym own) in
        λ i. record { lane = sym own i; posted = count i }

    -- the job may go back, which has worked the ticks of the row
    pub worked_job : ticks ≡ row.end - row.start → (r : Row) → OutRow (plan_rows b.plan) b.state lane r →
        IsJobOf id used made all_made (λ t. posted_ticks (plan_rows b.plan) b.state t + (r.end - r.start)) r.leaf job
    worked_job long = job_of_out id used made all_made (plan_rows b.plan) b.state seat.lane lane ticks row job own found.found.out long found.own

    -- the job may go back, which has worked no tick
    pub unworked_job : ticks ≡ 0 → (r : Row) → OutRow (plan_rows b.plan) b.state lane r →
        IsJobOf id used made all_made (λ t. posted_ticks (plan_rows b.plan) b.state t) r.leaf job
    unworked_job none r there =
        subst (λ (q : Row). IsJobOf id used made all_made (λ t. posted_ticks (plan_rows b.plan) b.state t) q.leaf job)
        (same_out_row (plan_rows b.plan) b.state seat.lane row r found.found.out (subst (λ n. OutRow (plan_rows b.plan) b.state n r) own there))
        (IsJobOf-by id used made all_made (λ t. posted_ticks (plan_rows b.plan) b.state t + ticks) (λ t. posted_ticks (plan_rows b.plan) b.state t) row.leaf
        job (λ t is. omega (arith, none)) found.own)

-- a job goes with a row of a task alone
pub task_of_job : {J : Type 0} (id used : J → ℕ) (made : J → Made) (all_made : List Made) (ticks : ℕ → ℕ) (leaf : Leaf) (o : Option J) (job : J) →
    IsJobOf id used made all_made ticks leaf o → o ≡ Some job
    → (task : TaskId) × (leaf ≡ Task task) × IsTasksJob id used made all_made task.0 (ticks task.0) job
task_of_job id used made all_made ticks (Task task) o job own there =
    let same : Some own.0 ≡ Some job = sym own.1 ∙ there in
    let same' : own.0 ≡ job = cc in
    (task, refl, subst (IsTasksJob id used made all_made task.0 (ticks task.0)) same' own.2)
task_of_job id used made all_made ticks (Wait task) o job own there = absurd (let e : None ≡ Some job = sym own ∙ there in cc)
task_of_job id used made all_made ticks (Idle number) o job own there = absurd (let e : None ≡ Some job = sym own ∙ there in cc)
task_of_job id used made all_made ticks Empty o job own there = absurd (let e : None ≡ Some job = sym own ∙ there in cc)

-- the job of the next row may work for its ticks
pub job_may_work : {J : Type 0} (id used : J → ℕ) (made : J → Made) (all_made : List Made) (p : PlanContents) → IsPlan p → (seat : Seat) (row : Row)
    (o : Option J) → IsNextRow id used made all_made p seat row o → (job : J) → o ≡ Some job → used job + (row.end - row.start) < 2 ^ 127
job_may_work id used made all_made p lawful seat row o next job there =
    let own = task_of_job id used made all_made _ row.leaf o job next.own there in
    let worked = own.2.worked in
    let fits = ticks_before-fits (plan_rows p) (plan_table p lawful) own.0.0 seat.lane seat.posted row next.at in
    omega (arith, worked, fits)

-- the row that was taken at the seat is out where a row is, and its job may go back, which has worked it
pub busy_job : {J : Type 0} (id used : J → ℕ) (made : J → Made) (all_made : List Made) (p : PlanContents) (b : BookContents J) (seat : Seat) (row : Row)
    (o : Option J) (lane : ℕ)
    → StandsAt p b seat true → HasWorked id used made all_made p seat row o → lane ≡ seat.lane → (r : Row) → OutRow (plan_rows b.plan) b.state lane r
    → IsJobOf id used made all_made (λ t. posted_ticks (plan_rows b.plan) b.state t + (r.end - r.start)) r.leaf o
busy_job id used made all_made p b seat row o lane busy worked own r there =
    let rows = plan_rows b.plan in
    let out : OutRow rows b.state seat.lane r = subst (λ q. OutRow rows b.state q r) own there in
    let at : RowAt rows seat.lane seat.posted row = subst (λ x. RowAt (plan_rows x) seat.lane seat.posted row) (sym busy.plan) worked.at in
    let here : RowAt rows seat.lane seat.posted r = subst (λ k. RowAt rows seat.lane k r) busy.count out.1 in
    let e : Some row ≡ Some r = sym at ∙ here in
    let same : row ≡ r = cc in
    let job : IsJobOf id used made all_made (λ t. ticks_before t seat.posted rows + (r.end - r.start)) r.leaf o =
    subst (λ (x : Row). IsJobOf id used made all_made (λ t. ticks_before t seat.posted rows + (x.end - x.start)) x.leaf o) same
    (subst (λ x. IsJobOf id used made all_made (λ t. ticks_before t seat.posted (plan_rows x) + (row.end - row.start)) row.leaf o) (sym busy.plan)
    worked.own) in
    IsJobOf-by id used made all_made (λ t. ticks_before t seat.posted rows + (r.end - r.start)) (λ t. posted_ticks rows b.state t + (r.end - r.start)) r.leaf o
    (λ t is. let ticks = ticks_of-out rows b.window b.state (plan_table b.plan busy.lawful) busy.reached t seat.lane r out is in
    ap (λ n. n + (r.end - r.start)) (sym (ticks ∙ ap (λ k. ticks_before t k rows) busy.count))) job

-- the job that goes with a row has worked these ticks more
pub job_worked : {J : Type 0} (id used : J → ℕ) (made : J → Made) (all_made : List Made) (ticks : ℕ → ℕ) (more : ℕ) (leaf : Leaf) (old new : Option J) →
    (old ≡ None → new ≡ None)
    → ((j : J) → old ≡ Some j → (k : J) × (new ≡ Some k) × (id k ≡ id j)) → ((k : J) → new ≡ Some k → (j : J) × (old ≡ Some j) × (made k ≡ made j))
    → ((j k : J) → old ≡ Some j → new ≡ Some k → used k ≡ used j + more)
    → IsJobOf id used made all_made ticks leaf old → IsJobOf id used made all_made (λ t. ticks t + more) leaf new
job_worked id used made all_made ticks more (Task task) old new none kept same worked own =
    let (job, is, h) = own in
    let (now, there, name) = kept job is in
    let (was, before, made_of) = same now there in
    let e : Some was ≡ Some job = sym before ∙ is in
    let same_job : was ≡ job = cc in
    (now, there, record { own = name ∙ h.own; worked = worked job now is there ∙ ap (λ n. n + more) h.worked; agrees = made_of ∙ ap made same_job ∙ h.agrees })
job_worked id used made all_made ticks more (Wait task) old new none kept same worked own = none own
job_worked id used made all_made ticks more (Idle number) old new none kept same worked own = none own
job_worked id used made all_made ticks more Empty old new none kept same worked own = none own
