use Rattle.std.proofs.lemmas.Result.{IfOk-from_err}
use Rattle.std.proofs.Common.{◌≡◌, ◌*◌, ◌∙◌, ap, arith, replicate}
use Rattle.run_tree.specs.Tree.{Tree}
use Rattle.run_tree.specs.Plans.{rounds_of}
use Rattle.book_machine.specs.Machine.{start}
use Rattle.exec_book.proofs.book.Parts.new.Goals as goal

pub new-requires-clause-count : goal.new-requires-clause-count
new-requires-clause-count c = c.requires.rounds

pub returns : goal.returns
returns c =
    let plan = c.args.plan.now in
    let lanes : c.processors-lanes.result ≡ plan.tree.processors = c.processors-lanes.ensures.value ∙ ap (λ (t : Tree). t.processors) c.tree.ensures.value in
    let rows : c.args.rounds * c.from.result ≡ rounds_of plan * plan.tree.processors = ap (λ n. n * c.from.result) c.requires.rounds
    ∙ ap (λ n. rounds_of plan * n) (c.from.ensures ∙ lanes) in
    let capacity = c.in_ok-with_room.ensures.room in
    record {
      rounds = c.in_ok-new.ensures.rounds;
      none = rw (← c.requires.rounds) c.in_ok-new.ensures.none;
      state = c.in_ok-new-2.ensures ∙ ap start lanes;
      log = c.in_ok-with_room.ensures.none;
      room = omega (arith, rows, capacity);
      unused = c.in_ok-no_notes.ensures ∙ ap (λ n. replicate n 0) lanes;
    }

pub returns-in_err-new : goal.returns-in_err-new
returns-in_err-new c = IfOk-from_err _ _ c.from_residual.ensures.0

pub returns-in_err-with_room : goal.returns-in_err-with_room
returns-in_err-with_room c = IfOk-from_err _ _ c.from_residual-in_err-with_room.ensures.0

pub returns-in_err-no_notes : goal.returns-in_err-no_notes
returns-in_err-no_notes c = IfOk-from_err _ _ c.from_residual-in_err-no_notes.ensures.0

pub returns-in_err-new-2 : goal.returns-in_err-new-2
returns-in_err-new-2 c = IfOk-from_err _ _ c.from_residual-in_err-new-2.ensures.0

pub overflow_mul-events : goal.overflow_mul-events
overflow_mul-events c =
    let m = ap (λ n. c.args.rounds * n) (c.from.ensures ∙ c.processors-lanes.ensures.value ∙ ap (λ (t : Tree). t.processors) c.tree.ensures.value) in
    let few = c.requires.few in
    omega (arith, m, few)

pub overflow_mul-events-2 : goal.overflow_mul-events-2
overflow_mul-events-2 c =
    let m = ap (λ n. c.args.rounds * n) (c.from.ensures ∙ c.processors-lanes.ensures.value ∙ ap (λ (t : Tree). t.processors) c.tree.ensures.value) in
    let few = c.requires.few in
    omega (arith, m, few)

pub new-requires-2-clause-some : goal.new-requires-2-clause-some
new-requires-2-clause-some c =
    let m = c.processors-lanes.ensures.value ∙ ap (λ (t : Tree). t.processors) c.tree.ensures.value in
    let some = c.tree.ensures.lawful.sized.some_processors in
    omega (arith, m, some)

pub new-requires-2-clause-few : goal.new-requires-2-clause-few
new-requires-2-clause-few c =
    let m = c.processors-lanes.ensures.value ∙ ap (λ (t : Tree). t.processors) c.tree.ensures.value in
    let few = c.tree.ensures.lawful.sized.few_processors in
    omega (arith, m, few)
