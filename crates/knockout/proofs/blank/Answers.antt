use Rattle.std.proofs.Common.{arith, length, replicate, subst, sym, List, ◌+◌, ◌∙◌, ◌≡◌}
use Rattle.std.proofs.lemmas.Result.{IfOk-from_err}
use Rattle.knockout.specs.declared.keys.Key.{Key}
use Rattle.knockout.specs.Knockouts.{ends_of, HasLeaves, never}
use Rattle.knockout.proofs.KnockoutLemmas.{back}
use Rattle.std.proofs.Common.{◌≡◌, ◌+◌, length, replicate, List}
use Rattle.knockout.specs.Knockouts.{HasLeaves, ends_of, never}
use Rattle.knockout.proofs.blank.Goals as goal

pub overflow_mul-count : goal.overflow_mul-count
overflow_mul-count c = let few = c.requires.few in omega (arith, few)

pub returns-in_err-keys : goal.returns-in_err-keys
returns-in_err-keys c = IfOk-from_err c.from_residual.result _ c.from_residual.ensures.0

pub number-requires-clause-count : goal.number-requires-clause-count
number-requires-clause-count c =
    let long = c.deref_mut.ensures.len in
    let all = c.in_ok-keys.ensures.len in
    omega (arith, long, all)

pub number-requires-clause-few : goal.number-requires-clause-few
number-requires-clause-few c = c.requires.few

pub returns : goal.returns
returns c =
    let long = c.deref_mut.ensures.len in
    let all = c.in_ok-keys.ensures.len in
    let count = c.args.count in
    subst (λ (es : List Key). (length es ≡ count + count) × HasLeaves count es × (ends_of count es ≡ replicate count never))
    (sym (back c.in_ok-keys.keys c.deref_mut.result.now c.number.new.keys c.deref_mut.ensures.value c.number.auto.keys)) (
      c.number.auto.keys
          ∙ omega (arith, long, all),
      c.number.ensures.leaves,
      c.number.ensures.ends,
    )
