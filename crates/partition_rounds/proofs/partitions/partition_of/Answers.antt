use Rattle.std.proofs.Common.{◌≡◌, ◌+◌, ◌∙◌, List, [], ◌∷◌, ◌++◌, length, arith, refl, sym, ap, subst}
use Rattle.std.proofs.lemmas.Iterator.Adapters.{YieldsList-from_vec}
use Rattle.std.proofs.lemmas.Iterator.Consumers.{YieldsList-end, YieldsList-turn}
use Rattle.std.proofs.lemmas.List.{length_push}
use Rattle.std.proofs.lemmas.Option.{slice_get_read}
use Rattle.own_plans.specs.OwnPlans.{AreOwnPlansOf, IsOwnPlanOf}
use Rattle.partition_rounds.specs.declared.own_rounds.OwnRounds.{OwnRounds}
use Rattle.partition_rounds.specs.OwnRounds.{IsOwnRoundsOf}
use Rattle.partition_rounds.proofs.PartitionLemmas.{AreFirst, first_partition, one_lane}
use Rattle.partition_laws.proofs.OwnPlaces.{as_many}
use Rattle.partition_rounds.proofs.partitions.partition_of.Goals as goal

pub overflow_cast-q : goal.overflow_cast-q
overflow_cast-q c =
    let plan = c.args.plan.now in
    let w = c.know_lawful.ensures.lawful in
    let owns = c.in-Some.plans.items in
    let are : AreOwnPlansOf plan owns = rw c.in-Some.is at c.in_ok-plans.ensures in
    let turn = YieldsList-turn (YieldsList-from_vec owns (cc) (cc)) c.loop-own.yielded c.loop-own.own-iterator c.loop-own.yielded_by c.next.result
    c.next.new.self c.in-Some-own.own c.in-Some-own.is c.next.ensures.steps in
    let low = turn.0 in
    let few = w.sized.few_processors in
    let many = are.many in
    let all = as_many plan w are.partitioned in
    let long = c.loop-own.invariant.long in
    omega (arith, low, few, many, all, long)

pub own_rounds-requires : goal.own_rounds-requires
own_rounds-requires c =
    let plan = c.args.plan.now in
    let owns = c.in-Some.plans.items in
    let are : AreOwnPlansOf plan owns = rw c.in-Some.is at c.in_ok-plans.ensures in
    let turn = YieldsList-turn (YieldsList-from_vec owns (cc) (cc)) c.loop-own.yielded c.loop-own.own-iterator c.loop-own.yielded_by c.next.result
    c.next.new.self c.in-Some-own.own c.in-Some-own.is c.next.ensures.steps in
    let here : IsOwnPlanOf plan (length c.loop-own.yielded) c.in-Some-own.own =
    are.each (length c.loop-own.yielded) c.in-Some-own.own (slice_get_read owns (length owns) (length c.loop-own.yielded) c.in-Some-own.own refl turn.0
    turn.1) in
    let at : length c.loop-own.yielded ≡ c.len-q.result = (let e = c.len-q.ensures in let n = c.loop-own.lanes.ok in let long = c.loop-own.invariant.long in
    omega arith) in
    record { own = subst (λ n. IsOwnPlanOf plan n c.in-Some-own.own) at here }

pub loop-own-preserved : goal.loop-own-preserved
loop-own-preserved c =
    let plan = c.args.plan.now in
    let lanes = c.loop-own.lanes.items in
    let rounds = c.in_ok-rounds.rounds in
    let more : c.push.new.self.items ≡ lanes ++ rounds ∷ [] = c.in_ok-push.ensures.items in
    let long = c.loop-own.invariant.long in
    let at : c.len-q.result ≡ length lanes = omega arith in
    let belongs : IsOwnRoundsOf plan (length lanes) rounds = subst (λ n. IsOwnRoundsOf plan n rounds) at c.in_ok-rounds.ensures.belongs in
    record {
      can = tt;
      finite = tt;
      long = ap (λ (xs : List OwnRounds). length xs) more ∙ length_push lanes rounds ∙ ap (λ n. n + 1) long
          ∙ sym (length_push c.loop-own.yielded c.in-Some-own.own);
      first = subst (AreFirst plan) (sym more) (one_lane plan lanes rounds c.loop-own.invariant.first belongs c.know_lawful-in-loop-own.ensures.lawful
          c.in_ok-rounds.ensures.first);
    }

pub returns-then-some-2-clause-belongs : goal.returns-then-some-2-clause-belongs
returns-then-some-2-clause-belongs c =
    let plan = c.args.plan.now in
    let owns = c.in-Some.plans.items in
    let are : AreOwnPlansOf plan owns = rw c.in-Some.is at c.in_ok-plans.ensures in
    let all = YieldsList-end (YieldsList-from_vec owns (cc) (cc)) c.loop-own.yielded c.loop-own.own-iterator c.loop-own.yielded_by c.next.result
    c.next.new.self c.in-None.is c.next.ensures.steps in
    first_partition plan c.know_lawful.ensures.lawful (record { lanes = c.loop-own.lanes; tick = 0 }) are.partitioned c.requires.on_time refl
    (c.loop-own.invariant.long ∙ all.1 ∙ are.many) c.loop-own.invariant.first
