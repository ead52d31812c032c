use Rattle.std.proofs.Common.{◌≡◌, length, sym, subst, rules}
use Rattle.sched_base.specs.Sets.{SetContents}
use Rattle.sched_base.specs.Scale.{IsScale}
use Rattle.run_compile.specs.declared.faults.CompileFault.{CompileFault}
use Rattle.run_compile.specs.Answers.{IsRefused}
use Rattle.run_tool.proofs.DrillLemmas.{IsSmall, small_by, drawn_is, plan_is, few_rows, no_pass}
use Rattle.run_tool.proofs.drill.drawn_plan.Goals as goal

pub unreachable-requires : goal.unreachable-requires
unreachable-requires c =
    let whole : length c.words_of-words.result ≡ 128 = search rules in
    let small : IsSmall c.in_ok-set.set =
    subst IsSmall (sym c.in_ok-set.ensures)
    (small_by c.words_of-words.result whole c.drill_law.ensures.lawful c.drill_law.ensures.fits c.drill_law.ensures.small) in
    no_pass c.in_ok-set.set c.in-Err-ScaleTooLarge.field-0-0 small
    (subst (λ (f : CompileFault). IsRefused c.in_ok-set.set f) c.in-Err-ScaleTooLarge.field-0-is c.in-Err-ScaleTooLarge.ensures.refused)

pub returns-in-Ok-clause-plan : goal.returns-in-Ok-clause-plan
returns-in-Ok-clause-plan c =
    plan_is c.args.number c.in_ok-set.set c.in-Ok.plan
    (drawn_is c.args.number c.words_of-words.result c.in_ok-set.set c.words_of-words.ensures c.in_ok-set.ensures) c.in-Ok.ensures.set c.in-Ok.ensures.tree

pub returns-in-Ok-clause-scale : goal.returns-in-Ok-clause-scale
returns-in-Ok-clause-scale c =
    subst (λ (s : SetContents). IsScale s.tasks c.in-Ok.plan.tree.scale)
    (drawn_is c.args.number c.words_of-words.result c.in_ok-set.set c.words_of-words.ensures c.in_ok-set.ensures) c.in-Ok.ensures.scale.is

pub returns-in-Ok-clause-few : goal.returns-in-Ok-clause-few
returns-in-Ok-clause-few c =
    let whole : length c.words_of-words.result ≡ 128 = search rules in
    let small : IsSmall c.in_ok-set.set =
    subst IsSmall (sym c.in_ok-set.ensures)
    (small_by c.words_of-words.result whole c.drill_law.ensures.lawful c.drill_law.ensures.fits c.drill_law.ensures.small) in
    few_rows c.args.number c.in_ok-set.set c.in-Ok.plan
    (drawn_is c.args.number c.words_of-words.result c.in_ok-set.set c.words_of-words.ensures c.in_ok-set.ensures) small
    c.in-Ok.ensures.set c.know_lawful.ensures.lawful
