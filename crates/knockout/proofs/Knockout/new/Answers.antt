use Rattle.std.proofs.Common.{ap, length, subst, sym, List, ◌∙◌}
use Rattle.std.proofs.lemmas.Result.{IfOk-from_err}
use Rattle.knockout.specs.declared.keys.Key.{Key}
use Rattle.knockout.specs.Knockouts.{ends_of, HasLeaves, IsKnockout}
use Rattle.knockout.proofs.KnockoutLemmas.{back}
use Rattle.std.proofs.Common.{length, List}
use Rattle.knockout.specs.Knockouts.{IsKnockout, HasLeaves, ends_of}
use Rattle.knockout.proofs.Knockout.new.Goals as goal

pub returns-in_err-keys : goal.returns-in_err-keys
returns-in_err-keys c = IfOk-from_err c.from_residual.result _ c.from_residual.ensures.0

pub play_all-requires-clause-some : goal.play_all-requires-clause-some
play_all-requires-clause-some c = c.requires.some

pub play_all-requires-clause-count : goal.play_all-requires-clause-count
play_all-requires-clause-count c = ap (λ (es : List Key). length es) c.deref_mut.ensures.value ∙ c.in_ok-keys.ensures.0

pub play_all-requires-clause-leaves : goal.play_all-requires-clause-leaves
play_all-requires-clause-leaves c = subst (λ (es : List Key). HasLeaves c.args.count es) (sym c.deref_mut.ensures.value) c.in_ok-keys.ensures.1

pub invariant_of-result : goal.invariant_of-result
invariant_of-result c = subst (λ (es : List Key). IsKnockout c.args.count es) (sym (back c.in_ok-keys.keys c.deref_mut.result.now c.play_all.new.keys
    c.deref_mut.ensures.value c.play_all.auto.keys)) c.play_all.ensures.knockout

pub returns : goal.returns
returns c = ap (ends_of c.args.count) (back c.in_ok-keys.keys c.deref_mut.result.now c.play_all.new.keys c.deref_mut.ensures.value c.play_all.auto.keys)
    ∙ c.play_all.ensures.ends
    ∙ ap (ends_of c.args.count) c.deref_mut.ensures.value ∙ c.in_ok-keys.ensures.2
