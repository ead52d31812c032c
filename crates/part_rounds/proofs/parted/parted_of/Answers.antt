use Rattle.std.proofs.Common.{◌≡◌, ◌<◌, ◌+◌, ◌∙◌, List, [], ◌∷◌, ◌++◌, length, refl, sym, ap, subst}
use Rattle.std.proofs.lemmas.Iterator.Adapters.{YieldsList-from_vec}
use Rattle.std.proofs.lemmas.Iterator.Consumers.{YieldsList-end, YieldsList-turn}
use Rattle.std.proofs.lemmas.List.{length_push}
use Rattle.std.proofs.lemmas.Option.{slice_get_read}
use Rattle.run_tree.specs.Schedule.{packs_at}
use Rattle.run_tree.specs.Tree.{Tree}
use Rattle.event_core.proofs.FirstLevel.{some_level}
use Rattle.merged_rounds.specs.Replays.{packs_of}
use Rattle.part_plans.specs.declared.parts.PartPlan.{PartPlan}
use Rattle.part_plans.specs.PartPlans.{ArePartPlansOf}
use Rattle.part_rounds.specs.declared.sources.PartRounds.{PartRounds}
use Rattle.part_rounds.proofs.PartedLemmas.{AreFirst, each_same, first_parted, one_part}
use Rattle.part_rounds.proofs.parted.parted_of.Goals as goal

pub part_rounds-requires : goal.part_rounds-requires
part_rounds-requires c =
    let plan = c.args.plan.now in
    let owns = c.in-Some.found.parts.items in
    let are : ArePartPlansOf plan c.in-Some.found = rw c.in-Some.is at c.in_ok-found.ensures in
    let turn = YieldsList-turn (YieldsList-from_vec owns (cc) (cc)) c.loop-own.yielded c.loop-own.own-iterator c.loop-own.yielded_by c.next.result
    c.next.new.self c.in-Some-own.own c.in-Some-own.is c.next.ensures.steps in
    record {
      part = are.each (length c.loop-own.yielded) c.in-Some-own.own (slice_get_read owns (length owns) (length c.loop-own.yielded) c.in-Some-own.own
          refl turn.0 turn.1);
    }

pub loop-own-preserved : goal.loop-own-preserved
loop-own-preserved c =
    let plan = c.args.plan.now in
    let sources = c.loop-own.sources.items in
    let yielded = c.loop-own.yielded in
    let own = c.in-Some-own.own in
    let rounds = c.in_ok-rounds.rounds in
    let more : c.push.new.self.items ≡ sources ++ rounds ∷ [] = c.in_ok-push.ensures.items in
    let long = c.loop-own.invariant.long in
    let is = c.in_ok-rounds.ensures in
    record {
      can = tt;
      finite = tt;
      long = ap (λ (xs : List PartRounds). length xs) more ∙ length_push sources rounds ∙ ap (λ n. n + 1) long ∙ sym (length_push yielded own);
      first = subst (AreFirst plan (yielded ++ own ∷ [])) (sym more) (one_part plan yielded own sources rounds c.loop-own.invariant.first long is.belongs
          c.know_lawful-in-loop-own.ensures.lawful is.first is.part);
    }

pub packs-requires : goal.packs-requires
packs-requires c =
    let plan = c.args.plan.now in
    let w = c.know_lawful.ensures.lawful in
    subst (λ (t : Tree). 0 < t.levels) (sym c.tree.ensures.value) (some_level plan.tree w.tree.tree w.sized.some_processors)

pub returns-clause-belongs : goal.returns-clause-belongs
returns-clause-belongs c =
    let plan = c.args.plan.now in
    let found = c.in-Some.found in
    let owns = found.parts.items in
    let sources = c.loop-own.sources in
    let shows = c.in_ok-vec.field-0 in
    let are : ArePartPlansOf plan found = rw c.in-Some.is at c.in_ok-found.ensures in
    let given = c.into_iter-own-iterator.ensures.into_iter_gives in
    let all = YieldsList-end (YieldsList-from_vec owns given.0 (given.1 ∙ found.parts.ok.0)) c.loop-own.yielded c.loop-own.own-iterator
    c.loop-own.yielded_by c.next.result c.next.new.self c.in-None.is c.next.ensures.steps in
    let same : c.loop-own.yielded ≡ owns = sym (each_same c.loop-own.yielded) ∙ all.0 in
    let first = subst (λ (ps : List PartPlan). AreFirst plan ps sources.items) same c.loop-own.invariant.first in
    let packs : length shows.items ≡ packs_of plan = sym shows.ok.0 ∙ c.in_ok-vec.ensures.len ∙ c.packs.ensures ∙ ap (λ (t : Tree). length (packs_at t 0))
    c.tree.ensures.value in
    first_parted plan found are (record {
      parts = sources;
      part = found.part;
      like = found.like;
      placed = c.in_ok-none_placed.field-0;
      shows = shows;
      tick = 0;
    })
    c.requires.on_time refl (c.loop-own.invariant.long ∙ all.1) refl refl first packs c.in_ok-none_placed.ensures
