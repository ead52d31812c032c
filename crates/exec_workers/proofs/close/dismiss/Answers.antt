use Rattle.std.proofs.Common.{◌≡◌, ◌∙◌, arith, ap}
use Rattle.std.specs.Prelude.{slice_index, sum}
use Rattle.book_machine.proofs.PostedTicks.{counts_of-at}
use Rattle.exec_workers.proofs.CloseLemmas.{home_by_counts, front_by_counts, within_by_counts}
use Rattle.exec_workers.proofs.close.dismiss.Goals as goal

pub dismiss-requires-clause-none_out : goal.dismiss-requires-clause-none_out
dismiss-requires-clause-none_out g c = c.requires.whole.none_out

pub dismiss-requires-clause-open : goal.dismiss-requires-clause-open
dismiss-requires-clause-open g c = c.requires.whole.undismissed

pub returns-clause-closes : goal.returns-clause-closes
returns-clause-closes g c =
    let whole = c.requires.whole in
    record {
      number = c.dismiss.ensures.posts ∙ ap sum whole.counts;
      jobs = rw c.dismiss.ensures.jobs (home_by_counts _ _ _ _ _ _ c.args.held.now.state _ _ whole.plan whole.counts c.dismiss.ensures.home);
      told = rw c.dismiss.ensures.jobs c.requires.told;
      first = rw (← whole.plan) c.dismiss.ensures.first;
      held = λ p.
          let lanes = c.args.held.now.state.lanes in
          let count = counts_of-at lanes p in
          let same : slice_index _ p ≡ slice_index c.args.posted.now p = ap (λ counts. slice_index counts p) whole.counts in
          let least = c.dismiss.ensures.posted p in
          omega (arith, count, same, least);
      front = front_by_counts _ _ _ _ c.args.held.now.state _ whole.plan whole.counts c.log-front.ensures.follows;
    }

pub returns-clause-within : goal.returns-clause-within
returns-clause-within g c = within_by_counts _ _ _ c.args.held.now.state _ c.requires.whole.counts c.log-front.ensures.follows
