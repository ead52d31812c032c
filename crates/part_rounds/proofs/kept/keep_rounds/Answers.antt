use Rattle.std.proofs.Common.{ap, arith, length, ◌∙◌, ◌≡◌, ◌++◌, ◌∷◌, [], ◌*◌}
use Rattle.merged_rounds.specs.Laps.{round_start}
use Rattle.part_rounds.specs.declared.kept.KeptRounds.{KeptRounds}
use Rattle.part_rounds.proofs.KeptParts.{more_end, none_kept, one_more, round_above, tick_fits}
use Rattle.part_rounds.proofs.kept.keep_rounds.Goals as goal

pub overflow_mul-now : goal.overflow_mul-now
overflow_mul-now c =
    let part = c.args.part.now in
    let most = tick_fits c.args.plan.now c.know_lawful.ensures.lawful part c.requires.part c.run_part.new.core.tick c.run_part.ensures.belongs.at.early in
    let now = ap (λ n. n * part.factor) c.now-in-rounds.ensures.value in
    omega (arith, most, now)

pub rounds-preserved : goal.rounds-preserved
rounds-preserved c =
    let part = c.args.part.now in
    let kept = c.rounds.kept in
    let next : KeptRounds = record { ends = c.push.new.self; shows = c.extend_from_slice.new.self } in
    let start = c.rounds.core.tick * part.factor in
    let end = c.run_part.new.core.tick * part.factor in
    let shows = c.run_part.new.shows in
    let ends_are : c.push.new.self.items ≡ kept.ends.items ++ end ∷ [] = c.in_ok-push.ensures.items ∙ ap (λ n. kept.ends.items ++ n * part.factor ∷ [])
    c.now-in-rounds.ensures.value in
    let shows_are : c.extend_from_slice.new.self.items ≡ kept.shows.items ++ shows = c.in_ok-extend_from_slice.ensures.items in
    record {
      belongs = c.run_part.ensures.belongs;
      kept = one_more part kept next start end shows c.rounds.invariant.kept c.rounds.invariant.end c.run_part.ensures.round ends_are shows_are;
      end = more_end part kept next start end shows c.rounds.invariant.kept c.rounds.invariant.end c.run_part.ensures.round ends_are shows_are;
      long = c.run_part.ensures.round.long;
    }

pub rounds-smaller : goal.rounds-smaller
rounds-smaller c =
    let now = c.now.ensures.value in
    let on = c.rounds-test.true in
    let most = c.requires.until in
    let above = round_above c.args.part.now c.requires.part.part.some c.rounds.core.tick c.run_part.new.core.tick c.run_part.new.shows
    c.run_part.ensures.round in
    omega (arith, now, on, most, above)

pub rounds-init : goal.rounds-init
rounds-init c = record {
  belongs = c.requires.belongs;
  kept = none_kept c.args.part.now c.no_kept-kept.result c.no_kept-kept.ensures.ends c.no_kept-kept.ensures.shows;
  end =
      let none = ap (λ es. round_start 0 es (length es)) c.no_kept-kept.ensures.ends in
      let first = ap (λ n. n * c.args.part.now.factor) c.requires.first in
      omega (arith, none, first);
  long = c.requires.long;
}
