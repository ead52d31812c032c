use Rattle.unit_ledger.specs.Seats.{seats_at_start}
use Rattle.run_tree.specs.Tree.{Tree}
use Rattle.exec_lanes.proofs.ErrorLemmas.{no_answer, each_error}
use Rattle.std.proofs.Common.{◌≡◌, ℕ, ◌<◌, ◌≤◌, inl, inr, length, ap, ◌∙◌, arith, refl, subst, sym}
use Rattle.std.specs.Prelude.{slice_get}
use Rattle.sched_base.specs.Sets.{SetContents}
use Rattle.sched_edges.specs.Jobs.{JobAt, JobPlaces}
use Rattle.run_tree.specs.Plans.{PlanContents}
use Rattle.plan_rounds.proofs.RoundLemmas.{below_or}
use Rattle.exec_workers.proofs.WholeLemmas.{same_places}
use Rattle.exec_workers.proofs.opening.open_book.Goals as goal
use Rattle.exec_workers.proofs.opening.open_book.Goals.{After-count-n}

module _ (g : _) (c : After-count-n g) where
  tasks : c.count-n.result ≡ length c.args.plan.now.set.tasks
  tasks = c.count-n.ensures.value ∙ ap (λ (s : SetContents). length s.tasks) c.set.ensures.value

  job_of : (t : ℕ) → t < c.count-n.result → (job : g.row.J.Denot) × JobAt c.args.jobs.now.places t job
  job_of t below = let job = c.requires.jobs t (subst (λ k. t < k) tasks below) in (job.0, job.1)

pub lift_jobs-requires-clause-there : goal.lift_jobs-requires-clause-there
lift_jobs-requires-clause-there g c = job_of g (goal.at.lift_jobs-requires-clause-there g c).After-count-n

pub new-requires-clause-jobs : goal.new-requires-clause-jobs
new-requires-clause-jobs g c = λ t within.
    let n = tasks g (goal.at.new-requires-clause-jobs g c).After-count-n in
    let same = ap (λ (p : PlanContents). length p.set.tasks) c.in_ok-copy.ensures in
    let inside : t < length c.args.plan.now.set.tasks = subst (λ k. t < k) same within in
    let job = c.requires.jobs t inside in (
      job.0,
      c.lift_jobs.ensures.out t (subst (λ k. t < k) (sym n) inside) ∙ job.1,
      record { own = job.2; worked = job.3; agrees = c.requires.made t job.0 inside job.1 },
    )

pub lay_jobs-requires-clause-there : goal.lay_jobs-requires-clause-there
lay_jobs-requires-clause-there g c = λ t below.
    let job = job_of g (goal.at.lay_jobs-requires-clause-there g c).After-count-n t below in
    let same = ap (λ (jobs : JobPlaces g.row.J.Denot). jobs.places) c.in-Err.ensures.back in
    (job.0, ap (λ places. slice_get places t) same ∙ c.lift_jobs.ensures.out t below ∙ job.1)

pub returns-in-Ok-clause-opened : goal.returns-in-Ok-clause-opened
returns-in-Ok-clause-opened g c =
    let n = tasks g (goal.at.returns-in-Ok-clause-opened g c).After-count-n in
    record {
      at_start = c.in_ok-side.ensures.seats ∙ ap seats_at_start (c.processors.ensures.value ∙ ap (λ (t : Tree). t.processors) c.tree.ensures.value);
      lent = λ t within. c.lift_jobs.ensures.jobs t (subst (λ k. t < k) (sym n) within);
      others = λ t past. c.lift_jobs.ensures.other_jobs t (subst (λ k. k ≤ t) (sym n) past);
    }

pub returns-in-Err-clause-kept : goal.returns-in-Err-clause-kept
returns-in-Err-clause-kept g c =
    let same = ap (λ (jobs : JobPlaces g.row.J.Denot). jobs.places) c.in-Err.ensures.back in
    same_places c.lay_jobs.new.jobs.places c.args.jobs.now.places (c.lay_jobs.ensures.all ∙ c.lift_jobs.ensures.all) (λ t. elim (below_or t c.count-n.result) [
      | inl below ↦ c.lay_jobs.ensures.jobs t below ∙ ap (λ places. slice_get places t) same ∙ c.lift_jobs.ensures.out t below
      | inr past ↦ c.lay_jobs.ensures.other_jobs t past ∙ c.lift_jobs.ensures.other_jobs t past
    ])

pub returns-in_err-out-clause-opened : goal.returns-in_err-out-clause-opened
returns-in_err-out-clause-opened g c = no_answer _ _ c.from_residual-in_err-out.ensures.0

pub returns-in_err-out-clause-kept : goal.returns-in_err-out-clause-kept
returns-in_err-out-clause-kept g c = each_error _ _ (λ _. refl)

pub returns-in_err-side-clause-opened : goal.returns-in_err-side-clause-opened
returns-in_err-side-clause-opened g c = no_answer _ _ c.from_residual-in_err-side.ensures.0

pub returns-in_err-side-clause-kept : goal.returns-in_err-side-clause-kept
returns-in_err-side-clause-kept g c = each_error _ _ (λ _. refl)

pub returns-in_err-copy-clause-opened : goal.returns-in_err-copy-clause-opened
returns-in_err-copy-clause-opened g c = no_answer _ _ c.from_residual.ensures.0

pub returns-in_err-copy-clause-kept : goal.returns-in_err-copy-clause-kept
returns-in_err-copy-clause-kept g c = each_error _ _ (λ _. refl)

pub open-requires-clause-name : goal.open-requires-clause-name
open-requires-clause-name g c = c.requires.name

pub open-requires-clause-parts : goal.open-requires-clause-parts
open-requires-clause-parts g c = c.requires.parts

pub new-requires-clause-compiled : goal.new-requires-clause-compiled
new-requires-clause-compiled g c = rw c.in_ok-copy.ensures c.requires.executable.compiled

pub new-requires-clause-set : goal.new-requires-clause-set
new-requires-clause-set g c = rw c.in_ok-copy.ensures c.requires.set

pub new-requires-clause-rounds : goal.new-requires-clause-rounds
new-requires-clause-rounds g c = rw c.in_ok-copy.ensures c.requires.executable.rounds

pub new-requires-clause-few : goal.new-requires-clause-few
new-requires-clause-few g c = rw c.in_ok-copy.ensures c.requires.executable.few

pub new-requires-clause-some_window : goal.new-requires-clause-some_window
new-requires-clause-some_window g c = c.requires.executable.some_window

pub new-requires-clause-small_window : goal.new-requires-clause-small_window
new-requires-clause-small_window g c = c.requires.executable.small_window

pub lay_jobs-requires-clause-empty : goal.lay_jobs-requires-clause-empty
lay_jobs-requires-clause-empty g c = λ t below. c.lift_jobs.ensures.jobs t below

pub open-requires-clause-a_part_each : goal.open-requires-clause-a_part_each
open-requires-clause-a_part_each g c = c.requires.a_part_each ∙ sym (c.processors.ensures.value ∙ ap (λ (t : Tree). t.processors) c.tree.ensures.value)

pub lift_jobs-requires-clause-none : goal.lift_jobs-requires-clause-none
lift_jobs-requires-clause-none g c = c.in_ok-out.ensures.none

pub lift_jobs-requires-clause-room : goal.lift_jobs-requires-clause-room
lift_jobs-requires-clause-room g c = let room = c.in_ok-out.ensures.room in omega (arith, room)

pub new-requires-clause-side : goal.new-requires-clause-side
new-requires-clause-side g c = c.in_ok-side.ensures.book

pub open-requires-clause-some : goal.open-requires-clause-some
open-requires-clause-some g c =
    let m = c.processors.ensures.value ∙ ap (λ (t : Tree). t.processors) c.tree.ensures.value in
    let some = c.set.ensures.lawful.sized.some_processors in
    omega (arith, m, some)

pub open-requires-clause-few : goal.open-requires-clause-few
open-requires-clause-few g c =
    let m = c.processors.ensures.value ∙ ap (λ (t : Tree). t.processors) c.tree.ensures.value in
    let few = c.set.ensures.lawful.sized.few_processors in
    omega (arith, m, few)

pub same-out : goal.same-out
same-out g c = refl
