use Rattle.std.proofs.Common.{ap, length, subst, sym, List, ℕ, ◌<◌, ◌∙◌}
use Rattle.std.proofs.Math.ListN.{set}
use Rattle.knockout.specs.declared.keys.Key.{Key}
use Rattle.knockout.specs.Knockouts.{IsKnockout, ends_of}
use Rattle.knockout.proofs.KnockoutLemmas.{back, ends_long}
use Rattle.std.proofs.Common.{ℕ, ◌<◌, length, List}
use Rattle.knockout.specs.Knockouts.{IsKnockout, ends_of}
use Rattle.knockout.proofs.Knockout.set.Goals as goal

pub put-requires-clause-knockout : goal.put-requires-clause-knockout
put-requires-clause-knockout c = subst (λ (es : List Key). IsKnockout c.self.inside.count es) (sym c.deref_mut.ensures.value) c.self.invariant

pub put-requires-clause-within : goal.put-requires-clause-within
put-requires-clause-within c = subst (λ n. c.args.index < n) (ap (λ (ends : List ℕ). length ends) (sym c.self.view_is) ∙ ends_long c.self.inside.count
    c.self.inside.keys.items c.self.invariant.long) c.requires.index

pub invariant_of-self : goal.invariant_of-self
invariant_of-self c = subst (λ (es : List Key). IsKnockout c.self.inside.count es) (sym (back c.self.inside.keys c.deref_mut.result.now c.put.new.keys
    c.deref_mut.ensures.value c.put.auto.keys)) c.put.ensures.knockout

pub returns : goal.returns
returns c = ap (ends_of c.self.inside.count) (back c.self.inside.keys c.deref_mut.result.now c.put.new.keys c.deref_mut.ensures.value c.put.auto.keys)
    ∙ c.put.ensures.ends
    ∙ ap (λ (ends : List ℕ). set ends c.args.index c.args.end) (ap (ends_of c.self.inside.count) c.deref_mut.ensures.value ∙ c.self.view_is)
