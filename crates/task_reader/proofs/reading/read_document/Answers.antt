use Rattle.std.proofs.Common.{◌≡◌, Some, None, refl, ap, sym, ◌∙◌, rules}
use Rattle.toml.specs.View.{table_view}
use Rattle.task_reader.specs.Tree.{tasks_of}
use Rattle.task_reader.specs.Written.{written_tasks}
use Rattle.task_reader.specs.Limits.{too_many}
use Rattle.task_reader.specs.Reading.{top_refusals, task_refusals, refusal_of, answer_of}
use Rattle.task_reader.proofs.RefusalLemmas.{first, refusal_of-known, lawful_without}
use Rattle.task_reader.proofs.reading.read_document.Goals as goal
use Rattle.task_reader.proofs.Parts.{unknown}

pub returns-in-Some-top_refusal : goal.returns-in-Some-top_refusal
returns-in-Some-top_refusal c = λ wanted.
    let top = table_view c.args.top.now in
    let known : unknown top ≡ None = sym c.in_ok-refusal.ensures ∙ c.in_default.is in
    let is : first (top_refusals top) ≡ Some c.in-Some-top_refusal.refusal = sym c.top_refusal.ensures ∙ c.in-Some-top_refusal.is in
    let first_is : refusal_of top ≡ Some c.in-Some-top_refusal.refusal = refusal_of-known top known ∙ rw is refl in
    sym (ap (answer_of top) first_is)

pub returns-in-Some-too_many : goal.returns-in-Some-too_many
returns-in-Some-too_many c = λ wanted.
    let top = table_view c.args.top.now in
    let known : unknown top ≡ None = sym c.in_ok-refusal.ensures ∙ c.in_default.is in
    let above : first (top_refusals top) ≡ None = sym c.top_refusal.ensures ∙ c.in_default-top_refusal.is in
    let is : too_many (written_tasks (tasks_of top)) ≡ Some c.in-Some-too_many.refusal =
    ap (λ tasks. too_many (written_tasks tasks)) (sym c.tasks_of.ensures) ∙ sym c.too_many.ensures.value ∙ c.in-Some-too_many.is in
    let first_is : refusal_of top ≡ Some c.in-Some-too_many.refusal = refusal_of-known top known ∙ rw (above, is) refl in
    sym (ap (answer_of top) first_is)

pub returns-in-Some-task_refusal : goal.returns-in-Some-task_refusal
returns-in-Some-task_refusal c = λ wanted.
    let top = table_view c.args.top.now in
    let known : unknown top ≡ None = sym c.in_ok-refusal.ensures ∙ c.in_default.is in
    let above : first (top_refusals top) ≡ None = sym c.top_refusal.ensures ∙ c.in_default-top_refusal.is in
    let few : too_many (written_tasks (tasks_of top)) ≡ None =
    ap (λ tasks. too_many (written_tasks tasks)) (sym c.tasks_of.ensures) ∙ sym c.too_many.ensures.value ∙ c.in_default-too_many.is in
    let is : first (task_refusals (written_tasks (tasks_of top))) ≡ Some c.in-Some-task_refusal.refusal = search rules in
    let first_is : refusal_of top ≡ Some c.in-Some-task_refusal.refusal = refusal_of-known top known ∙ rw (above, few, is) refl in
    sym (ap (answer_of top) first_is)

pub set_of-requires-clause-lawful : goal.set_of-requires-clause-lawful
set_of-requires-clause-lawful c =
    let top = table_view c.args.top.now in
    let above : first (top_refusals top) ≡ None = sym c.top_refusal.ensures ∙ c.in_default-top_refusal.is in
    let few : too_many (written_tasks (tasks_of top)) ≡ None =
    ap (λ tasks. too_many (written_tasks tasks)) (sym c.tasks_of.ensures) ∙ sym c.too_many.ensures.value ∙ c.in_default-too_many.is in
    let within : first (task_refusals (written_tasks (tasks_of top))) ≡ None = search rules in
    lawful_without top above few within
