use Rattle.std.proofs.Common.{ℕ, ◌+◌, ◌<◌, ◌^◌, Bool, List, length, ap, ap₂, subst, subst₂, sym, ◌∙◌}
use Rattle.std.proofs.Math.ListN.{set}
use Rattle.server_budget.specs.Dues.{DueContents, remains_by, AreAhead}
use Rattle.server_budget.proofs.SpendLemmas.{written}
use Rattle.server_budget.proofs.dues.Dues.give.Goals as goal

pub give_at-requires-clause-ahead : goal.give_at-requires-clause-ahead
give_at-requires-clause-ahead c =
    subst₂ (λ (rs : List Bool) (ms : List ℕ). AreAhead c.self.inside.tick rs ms) (sym c.deref.ensures.value) (sym c.deref_mut.ensures.value) c.self.invariant

pub give_at-requires-clause-node : goal.give_at-requires-clause-node
give_at-requires-clause-node c = subst (λ (rs : List Bool). c.args.n.0 < length rs) (sym (c.deref.ensures.value ∙ ap (λ (d : DueContents). d.runs)
    c.self.view_is)) c.requires.node

pub give_at-requires-clause-fits : goal.give_at-requires-clause-fits
give_at-requires-clause-fits c = subst (λ (d : DueContents). d.tick + c.args.due < 2 ^ 128) (sym c.self.view_is) c.requires.fits

pub invariant_of-self : goal.invariant_of-self
invariant_of-self c =
    let marks = written c.self.inside.marks c.give_at.new.marks (c.give_at.auto.marks ∙ ap (λ (xs : List ℕ). length xs) c.deref_mut.ensures.value) in
    subst₂ (λ (rs : List Bool) (ms : List ℕ). AreAhead c.self.inside.tick rs ms) c.deref.ensures.value (sym marks) c.give_at.ensures.ahead

pub returns-clause-tick : goal.returns-clause-tick
returns-clause-tick c = ap (λ (d : DueContents). d.tick) c.self.view_is

pub returns-clause-remains : goal.returns-clause-remains
returns-clause-remains c =
    let marks = written c.self.inside.marks c.give_at.new.marks (c.give_at.auto.marks ∙ ap (λ (xs : List ℕ). length xs) c.deref_mut.ensures.value) in
    ap₂ (λ (rs : List Bool) (ms : List ℕ). remains_by c.self.inside.tick rs ms) (sym c.deref.ensures.value) marks ∙ c.give_at.ensures.remains
    ∙ ap (λ (ys : List ℕ). set ys c.args.n.0 c.args.due) (ap₂ (λ (rs : List Bool) (ms : List ℕ). remains_by c.self.inside.tick rs ms)
    c.deref.ensures.value c.deref_mut.ensures.value ∙ ap (λ (d : DueContents). d.remains) c.self.view_is)

pub returns-clause-runs : goal.returns-clause-runs
returns-clause-runs c = ap (λ (d : DueContents). d.runs) c.self.view_is
