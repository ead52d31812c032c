use Rattle.std.proofs.Common.{◌∙◌, Some, ap, subst, sym}
use Rattle.std.specs.Prelude.{option_map}
use Rattle.std.proofs.lemmas.List.{take_all}
use Rattle.std.proofs.lemmas.Option.{slice_get-get_or}
use Rattle.sched_base.specs.declared.sets.Task as declared
use Rattle.sched_base.specs.Sets.{IsFree}
use Rattle.sched_base.proofs.sets.place_of.Goals as goal

pub returns-then-is_same_text-clause-found : goal.returns-then-is_same_text-clause-found
returns-then-is_same_text-clause-found c =
    let task = c.index-tasks-i.result in
    let same = sym c.as_slice.ensures.bytes ∙ c.is_same_text.ensures.0 c.if-is_same_text.true in (
      c.loop-i-test.true,
      ap (option_map (λ (t : declared.Task). t.name)) (slice_get-get_or c.args.tasks.now c.loop-i.i task c.loop-i-test.true)
          ∙ ap Some (ap (λ (t : declared.Task). t.name) (sym c.index-tasks-i.is) ∙ same),
    )

pub returns-clause-absent : goal.returns-clause-absent
returns-clause-absent c = subst (IsFree c.args.name.now) (take_all c.loop-i.i c.args.tasks.now c.loop-i-test.false) c.loop-i.invariant
