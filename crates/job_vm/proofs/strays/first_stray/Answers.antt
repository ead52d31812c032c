use Rattle.std.proofs.Common.{rules, ◌∙◌, ap, sym, drop, add-one}
use Rattle.std.specs.List.{find}
use Rattle.job_vm.proofs.SearchLemmas.{is_stray, find_on, stray_here, stray_none}
use Rattle.job_vm.proofs.strays.first_stray.Goals as goal

pub returns-then-not-names_task : goal.returns-then-not-names_task
returns-then-not-names_task c =
    let is = rw c.programs-program-items.ensures at c.program-item.is in
    let within = rw c.programs-program-items.ensures at c.loop-program-test.true in
    stray_here c.args.set.now.tasks c.args.text.now.programs c.loop-program.program-index c.line.result c.program-item.result
    c.loop-program.invariant within is (search rules) c.line.ensures

pub returns : goal.returns
returns c =
    let past = rw c.programs-program-items.ensures at c.loop-program-test.false in
    stray_none c.args.set.now.tasks c.args.text.now.programs c.loop-program.program-index c.loop-program.invariant past

pub loop-program-preserved : goal.loop-program-preserved
loop-program-preserved c =
    let programs = c.args.text.now.programs in
    let stray = is_stray c.args.set.now.tasks in
    let is = rw c.programs-program-items.ensures at c.program-item.is in
    let within = rw c.programs-program-items.ensures at c.loop-program-test.true in
    c.loop-program.invariant ∙ find_on stray programs c.loop-program.program-index c.program-item.result within is (search rules)
    ∙ ap (λ n. find stray (drop n programs)) (sym (add-one c.loop-program.program-index))
