use Rattle.std.proofs.Common.{◌≡◌, ◌∙◌, ◌*◌, get_or, length, sym, refl, ap, subst, arith}
use Rattle.std.proofs.lemmas.Result.{IfOk-from_err}
use Rattle.sched_base.specs.Sets.{IsFree}
use Rattle.task_gen.specs.Drill.{name_of_number}
use Rattle.task_gen.proofs.DrillLemmas.{HasDrawn-none, HasDrawn-added, HasDrawn-left, HasDrawn-all, are_chosen, light, next_is_free, period_is}
use Rattle.task_gen.proofs.DrillLemmas.{room_for, same_task}
use Rattle.task_gen.proofs.NameLemmas.{name_lawful}
use Rattle.task_gen.proofs.drill.make.Goals as goal
use Rattle.task_gen.proofs.drill.make.Goals.{then-load-weight-le-ROOM+in_ok-add, else-load-weight-le-ROOM}

pub loop-j-init : goal.loop-j-init
loop-j-init c = HasDrawn-none c.args.words.now c.start-set.result c.start-set.ensures.processors c.start-set.ensures.horizon c.start-set.ensures.tasks

pub add-requires-clause-free : goal.add-requires-clause-free
add-requires-clause-free c =
    let is : c.as_slice.result.now ≡ name_of_number (length c.loop-j.set.tasks) = c.as_slice.ensures.bytes ∙ c.name_of.ensures ∙ ap name_of_number
    c.count.ensures.value in
    subst (λ name. IsFree name c.loop-j.set.tasks) (sym is) (next_is_free c.loop-j.set.tasks c.loop-j.invariant.drawn)

pub loop-j-preserved : goal.loop-j-preserved
loop-j-preserved c =
    elim c.if-load-weight-le-ROOM.branch [
      | then-load-weight-le-ROOM+in_ok-add w ↦
          let name = w.as_slice.ensures.bytes ∙ w.name_of.ensures ∙ ap name_of_number w.count.ensures.value in
          let same = same_task c.args.words.now c.loop-j.j c.loop-j.set.tasks w.as_slice.result.now _ _ name c.work_by-work.ensures
          c.period_by-period.ensures in
          rw (w.set-is, w.load-is, w.in_ok-add.ensures.ok) (HasDrawn-added c.args.words.now c.loop-j.j c.loop-j.set c.loop-j.load _ (omega arith)
          c.loop-j.invariant same w.if-load-weight-le-ROOM.true)
      | else-load-weight-le-ROOM w ↦
          let same = same_task c.args.words.now c.loop-j.j c.loop-j.set.tasks (name_of_number (length c.loop-j.set.tasks)) _ _ refl c.work_by-work.ensures
          c.period_by-period.ensures in
          rw (w.set-is, w.load-is) (HasDrawn-left c.args.words.now c.loop-j.j c.loop-j.set c.loop-j.load _ (omega arith) c.loop-j.invariant same
          w.if-load-weight-le-ROOM.false)
    ]

pub returns : goal.returns
returns c = HasDrawn-all c.args.words.now c.loop-j.j c.loop-j.set c.loop-j.load (omega arith) c.loop-j.invariant

pub overflow_mul-j : goal.overflow_mul-j
overflow_mul-j c =
    let on = c.loop-j-test.true in
    omega (arith, on)

pub offset_bounds-words-j : goal.offset_bounds-words-j
offset_bounds-words-j c =
    let on = c.loop-j-test.true in
    omega (arith, on)

pub overflow_mul-j-in-loop-j : goal.overflow_mul-j-in-loop-j
overflow_mul-j-in-loop-j c =
    let on = c.loop-j-test.true in
    omega (arith, on)

pub overflow_add-j : goal.overflow_add-j
overflow_add-j c =
    let on = c.loop-j-test.true in
    omega (arith, on)

pub offset_bounds-words-j-in-loop-j : goal.offset_bounds-words-j-in-loop-j
offset_bounds-words-j-in-loop-j c =
    let on = c.loop-j-test.true in
    omega (arith, on)

pub bounds-words-j : goal.bounds-words-j
bounds-words-j c =
    let on = c.loop-j-test.true in
    omega (arith, on, c.requires)

pub bounds-words-j-in-loop-j : goal.bounds-words-j-in-loop-j
bounds-words-j-in-loop-j c =
    let on = c.loop-j-test.true in
    omega (arith, on, c.requires)

pub work_by-work-requires-clause-some : goal.work_by-work-requires-clause-some
work_by-work-requires-clause-some c = rw c.period_by-period.ensures (period_is _).some

pub work_by-work-requires-clause-fits : goal.work_by-work-requires-clause-fits
work_by-work-requires-clause-fits c =
    let small = (period_is (get_or c.args.words.now (2 * c.loop-j.j) 0)).small in
    let is = c.period_by-period.ensures in
    omega (arith, small, is)

pub overflow_mul-weight : goal.overflow_mul-weight
overflow_mul-weight c =
    let h = are_chosen _ _ c.work_by-work.result c.period_by-period.result c.work_by-work.ensures c.period_by-period.ensures in
    let fits = h.work_fits in
    let small = h.small_period in
    omega (arith, fits, small)

pub nonzero_div-weight : goal.nonzero_div-weight
nonzero_div-weight c = (are_chosen _ _ c.work_by-work.result c.period_by-period.result c.work_by-work.ensures c.period_by-period.ensures).some_period

pub overflow_add-load : goal.overflow_add-load
overflow_add-load c =
    let most = light _ _ (are_chosen _ _ c.work_by-work.result c.period_by-period.result c.work_by-work.ensures c.period_by-period.ensures) in
    let load = c.loop-j.invariant.weight in
    let within = c.loop-j.invariant.drawn.within in
    omega (arith, most, load, within)

pub add-requires-clause-room : goal.add-requires-clause-room
add-requires-clause-room c = room_for c.loop-j.set.tasks c.loop-j.invariant.drawn

pub add-requires-clause-lawful : goal.add-requires-clause-lawful
add-requires-clause-lawful c =
    let is : c.as_slice.result.now ≡ name_of_number (length c.loop-j.set.tasks) = c.as_slice.ensures.bytes ∙ c.name_of.ensures ∙ ap name_of_number
    c.count.ensures.value in
    let few = room_for c.loop-j.set.tasks c.loop-j.invariant.drawn in
    rw is (name_lawful (length c.loop-j.set.tasks) (omega (arith, few)))

pub add-requires-clause-some_work : goal.add-requires-clause-some_work
add-requires-clause-some_work c = (are_chosen _ _ c.work_by-work.result c.period_by-period.result c.work_by-work.ensures c.period_by-period.ensures).some_work

pub add-requires-clause-work_fits : goal.add-requires-clause-work_fits
add-requires-clause-work_fits c = (are_chosen _ _ c.work_by-work.result c.period_by-period.result c.work_by-work.ensures c.period_by-period.ensures).work_fits

pub add-requires-clause-period_fits : goal.add-requires-clause-period_fits
add-requires-clause-period_fits c = let small = (are_chosen _ _ c.work_by-work.result c.period_by-period.result c.work_by-work.ensures
    c.period_by-period.ensures).small_period in omega (arith, small)

pub returns-in_err-add : goal.returns-in_err-add
returns-in_err-add c = IfOk-from_err _ _ c.from_residual.ensures.0

pub overflow_add-load-then-load-weight-le-ROOM : goal.overflow_add-load-then-load-weight-le-ROOM
overflow_add-load-then-load-weight-le-ROOM c = let within = c.if-load-weight-le-ROOM.true in omega (arith, within)
