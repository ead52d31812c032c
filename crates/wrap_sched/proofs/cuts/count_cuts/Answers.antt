use Rattle.std.proofs.Common.{ap, arith, filter, length, ◌-◌, ◌≡◌}
use Rattle.std.specs.List.{range_with_len}
use Rattle.wrap_sched.specs.Wrapped.{is_cut}
use Rattle.wrap_sched.proofs.ShareLemmas.{cut_at_zero}
use Rattle.wrap_sched.proofs.StepLemmas.{filter_next}
use Rattle.wrap_sched.proofs.cuts.count_cuts.Goals as goal

pub walk-preserved : goal.walk-preserved
walk-preserved c =
    let next = c.next_cut-q.ensures in
    let above = next.above in
    let few = c.walk.invariant.few in
    let more = ap length (filter_next (is_cut c.args.scale c.args.rates.now) c.args.scale c.walk.q c.next_cut-q.result
    (c.walk.invariant.at c.walk-test.true) next) in
    let all = c.walk.invariant.all in
    record {
      at = next.at;
      within = next.within;
      few = omega (arith, above, few);
      all = omega (arith, more, all);
    }

pub walk-init : goal.walk-init
walk-init c = record {
  at = λ l. cut_at_zero c.args.scale c.args.rates.now;
  within = omega arith;
  few = omega arith;
  all = (
      let whole : c.args.scale - 0 ≡ c.args.scale = omega arith in
      let same = ap (λ n. length (filter (is_cut c.args.scale c.args.rates.now) (range_with_len 0 n))) whole in
      omega (arith, same)
      );
}

pub overflow_add-count : goal.overflow_add-count
overflow_add-count c =
    let few = c.walk.invariant.few in
    let on = c.walk-test.true in
    omega (arith, few, on, c.requires.scale_fits)

pub walk-smaller : goal.walk-smaller
walk-smaller c =
    let above = c.next_cut-q.ensures.above in
    let within = c.next_cut-q.ensures.within in
    omega (arith, above, within)

pub returns : goal.returns
returns c =
    let off = c.walk-test.false in
    let none : c.args.scale - c.walk.q ≡ 0 = omega (arith, off) in
    let rest = ap (λ n. length (filter (is_cut c.args.scale c.args.rates.now) (range_with_len c.walk.q n))) none in
    let all = c.walk.invariant.all in
    omega (arith, rest, all)

pub next_cut-q-requires-clause-within : goal.next_cut-q-requires-clause-within
next_cut-q-requires-clause-within c = c.requires.within

pub next_cut-q-requires-clause-scale_fits : goal.next_cut-q-requires-clause-scale_fits
next_cut-q-requires-clause-scale_fits c = c.requires.scale_fits

pub next_cut-q-requires-clause-early : goal.next_cut-q-requires-clause-early
next_cut-q-requires-clause-early c = c.walk-test.true
