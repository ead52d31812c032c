use Rattle.std.proofs.Common.{ap, subst, sym, List, ℕ, ◌∙◌}
use Rattle.knockout.specs.declared.keys.Key.{Key}
use Rattle.knockout.specs.Knockouts.{IsFirst, IsKnockout, ends_of}
use Rattle.std.proofs.Common.{ℕ, List}
use Rattle.knockout.specs.Knockouts.{IsFirst, IsKnockout, ends_of}
use Rattle.knockout.proofs.Knockout.first.Goals as goal

pub winner-requires : goal.winner-requires
winner-requires c = subst (λ (es : List Key). IsKnockout c.self.inside.count es) (sym c.deref.ensures.value) c.self.invariant

pub returns : goal.returns
returns c = subst (λ (ends : List ℕ). IsFirst ends c.winner.result) (ap (ends_of c.self.inside.count) c.deref.ensures.value ∙ c.self.view_is) c.winner.ensures
