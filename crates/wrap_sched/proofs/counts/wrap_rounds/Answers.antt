use Rattle.std.proofs.Common.{ap, arith, length, subst, ℕ, ◌+◌, ◌*◌, ◌/◌, ◌<◌, ◌∙◌, ◌≤◌}
use Rattle.std.proofs.lemmas.Result.{IfOk-from_err, err_from_is_err_and}
use Rattle.sched_base.specs.Tables.{row_limit}
use Rattle.wrap_sched.specs.Steps.{cuts, points}
use Rattle.wrap_sched.specs.Wrapped.{wrapped_rounds}
use Rattle.wrap_sched.proofs.CountLemmas.{past_limit, within_limit, wrapped_rounds_are}
use Rattle.wrap_sched.proofs.counts.wrap_rounds.Goals as goal

pub returns-in-Some-clause-count : goal.returns-in-Some-clause-count
returns-in-Some-clause-count c =
    let s = c.args.set.now in
    let m_is = c.from-processors.ensures ∙ c.processors.ensures.value in
    let same = c.count_cuts-each.ensures ∙ ap (λ ns. length (cuts c.args.scale ns)) (c.deref.ensures.value ∙ c.in-Ok.ensures.value) in
    let all = wrapped_rounds_are s c.args.scale c.processors.ensures.lawful c.requires.scale in
    let each = ap (λ n. n * length (points s)) same in
    let (count, most) = c.in-Some.ensures.count in
    let P : ℕ → Type 0 = λ m. c.in-Some.count ≤ row_limit / m in
    (omega (arith, all, each, count), within_limit row_limit s.processors c.in-Some.count (subst P m_is most))

pub returns-clause-fault : goal.returns-clause-fault
returns-clause-fault c =
    let s = c.args.set.now in
    let m_is = c.from-processors.ensures ∙ c.processors.ensures.value in
    let same = c.count_cuts-each.ensures ∙ ap (λ ns. length (cuts c.args.scale ns)) (c.deref.ensures.value ∙ c.in-Ok.ensures.value) in
    let all = wrapped_rounds_are s c.args.scale c.processors.ensures.lawful c.requires.scale in
    let each = ap (λ n. n * length (points s)) same in
    let past = c.in-None.ensures.past in
    let some = c.processors.ensures.lawful.some_processors in
    let P : ℕ → Type 0 = λ m. row_limit / m < wrapped_rounds c.args.scale s in (
      past_limit row_limit s.processors (wrapped_rounds c.args.scale s) some (subst P m_is (omega (arith, all, each, past))),
      ap (λ m. (row_limit / m + 1) * m) m_is,
    )

pub rates_of-requires-clause-scale : goal.rates_of-requires-clause-scale
rates_of-requires-clause-scale c = c.requires.scale

pub rates_of-requires-clause-scale_fits : goal.rates_of-requires-clause-scale_fits
rates_of-requires-clause-scale_fits c = c.requires.scale_fits

pub count_cuts-each-requires-clause-within : goal.count_cuts-each-requires-clause-within
count_cuts-each-requires-clause-within c = rw c.deref.ensures.value c.in-Ok.ensures.within

pub count_cuts-each-requires-clause-scale_fits : goal.count_cuts-each-requires-clause-scale_fits
count_cuts-each-requires-clause-scale_fits c = c.requires.scale_fits

pub count_cuts-each-requires-clause-some_scale : goal.count_cuts-each-requires-clause-some_scale
count_cuts-each-requires-clause-some_scale c = c.requires.scale.positive
