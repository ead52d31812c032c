use Rattle.std.proofs.Common.{ℕ, refl, ap, ◌∙◌, arith, length}
use denote.Param.Object.{read_made}
use Rattle.run_tree.specs.Tree.{Tree}
use Rattle.sched_base.specs.Sets.{SetContents}
use Rattle.own_crew.proofs.CrewLemmas.{length_more, fresh_more}
use Rattle.own_crew.proofs.execute_plan.OwnLists.{own-1, at-1-1}
use Rattle.own_crew.proofs.execute_plan.Goals as goal

pub loop-id-preserved : goal.loop-id-preserved
loop-id-preserved g c =
    let inv = c.loop-id.invariant in
    record {
      room = let room = c.add.ensures.room in let before = inv.room in omega (arith, room, before);
      long = length_more c.loop-id.id _ _ _ inv.long c.add.ensures.places;
      fresh = fresh_more _ _ c.loop-id.id _ _ _ inv.long inv.fresh c.add.ensures.places
          (read_made own-1 (own-1.entry at-1-1) at-1-1 refl ℕ (λ e x. e.1.id x) _ _ _ c.into_dyn_box.ensures.1 ∙ ap (λ j. j.id) (c.in_ok-new.ensures.ok
          ∙ c.new.ensures))
          (read_made own-1 (own-1.entry at-1-1) at-1-1 refl ℕ (λ e x. e.1.used x) _ _ _ c.into_dyn_box.ensures.1 ∙ ap (λ j. j.used) (c.in_ok-new.ensures.ok
          ∙ c.new.ensures));
    }

pub execute-requires-clause-kits : goal.execute-requires-clause-kits
execute-requires-clause-kits g c = λ _ _ p below.
    let many = c.processors.ensures.value ∙ ap (λ (t : Tree). t.processors) c.tree.ensures.value in
    c.in_ok-kits.ensures p (omega (arith, below, many))

pub execute-requires-clause-jobs : goal.execute-requires-clause-jobs
execute-requires-clause-jobs g c = λ _ _ t below.
    let all = c.count-tasks.ensures.value ∙ ap (λ (s : SetContents). length s.tasks) c.set.ensures.value in
    let past = c.loop-id-test.false in
    c.loop-id.invariant.fresh t (omega (arith, below, all, past))
