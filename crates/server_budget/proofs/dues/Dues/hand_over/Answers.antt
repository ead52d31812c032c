use Rattle.std.proofs.Common.{◌≡◌, ℕ, ◌+◌, ◌<◌, ◌^◌, Bool, true, false, List, length, get_or, ap, ap₂, subst, subst₂, sym, ◌∙◌}
use Rattle.std.proofs.Math.ListN.{set}
use Rattle.server_budget.specs.Dues.{DueContents, remains_by, AreAhead}
use Rattle.server_budget.proofs.SpendLemmas.{written}
use Rattle.server_budget.proofs.dues.Dues.hand_over.Goals as goal

pub hand_over_at-requires-clause-ahead : goal.hand_over_at-requires-clause-ahead
hand_over_at-requires-clause-ahead c =
    subst₂ (λ (rs : List Bool) (ms : List ℕ). AreAhead c.self.inside.tick rs ms) (sym c.deref_mut-2.ensures.value) (sym c.deref_mut.ensures.value)
    c.self.invariant

pub hand_over_at-requires-clause-before : goal.hand_over_at-requires-clause-before
hand_over_at-requires-clause-before c = subst (λ (rs : List Bool). c.args.before.0 < length rs) (sym (c.deref_mut-2.ensures.value
    ∙ ap (λ (d : DueContents). d.runs) c.self.view_is)) c.requires.before

pub hand_over_at-requires-clause-after : goal.hand_over_at-requires-clause-after
hand_over_at-requires-clause-after c = subst (λ (rs : List Bool). c.args.after.0 < length rs) (sym (c.deref_mut-2.ensures.value
    ∙ ap (λ (d : DueContents). d.runs) c.self.view_is)) c.requires.after

pub hand_over_at-requires-clause-runs : goal.hand_over_at-requires-clause-runs
hand_over_at-requires-clause-runs c = subst (λ (rs : List Bool). get_or rs c.args.before.0 false ≡ true) (sym (c.deref_mut-2.ensures.value
    ∙ ap (λ (d : DueContents). d.runs) c.self.view_is)) c.requires.runs

pub hand_over_at-requires-clause-rests : goal.hand_over_at-requires-clause-rests
hand_over_at-requires-clause-rests c = subst (λ (rs : List Bool). get_or rs c.args.after.0 false ≡ false) (sym (c.deref_mut-2.ensures.value
    ∙ ap (λ (d : DueContents). d.runs) c.self.view_is)) c.requires.rests

pub hand_over_at-requires-clause-fits : goal.hand_over_at-requires-clause-fits
hand_over_at-requires-clause-fits c =
    let fits = subst (λ (d : DueContents). d.tick + get_or d.remains c.args.after.0 0 < 2 ^ 128) (sym c.self.view_is) c.requires.fits in
    subst₂ (λ (rs : List Bool) (ms : List ℕ). c.self.inside.tick + get_or (remains_by c.self.inside.tick rs ms) c.args.after.0 0 < 2 ^ 128)
    (sym c.deref_mut-2.ensures.value) (sym c.deref_mut.ensures.value) fits

pub invariant_of-self : goal.invariant_of-self
invariant_of-self c =
    let marks = written c.self.inside.marks c.hand_over_at.new.marks (c.hand_over_at.auto.marks ∙ ap (λ (xs : List ℕ). length xs) c.deref_mut.ensures.value) in
    let runs = written c.self.inside.runs c.hand_over_at.new.runs (c.hand_over_at.auto.runs ∙ ap (λ (xs : List Bool). length xs) c.deref_mut-2.ensures.value) in
    subst₂ (λ (rs : List Bool) (ms : List ℕ). AreAhead c.self.inside.tick rs ms) (sym runs) (sym marks) c.hand_over_at.ensures.ahead

pub returns-clause-tick : goal.returns-clause-tick
returns-clause-tick c = ap (λ (d : DueContents). d.tick) c.self.view_is

pub returns-clause-remains : goal.returns-clause-remains
returns-clause-remains c =
    let marks = written c.self.inside.marks c.hand_over_at.new.marks (c.hand_over_at.auto.marks ∙ ap (λ (xs : List ℕ). length xs) c.deref_mut.ensures.value) in
    let runs = written c.self.inside.runs c.hand_over_at.new.runs (c.hand_over_at.auto.runs ∙ ap (λ (xs : List Bool). length xs) c.deref_mut-2.ensures.value) in
    ap₂ (λ (rs : List Bool) (ms : List ℕ). remains_by c.self.inside.tick rs ms) runs marks ∙ c.hand_over_at.ensures.remains
    ∙ ap₂ (λ (rs : List Bool) (ms : List ℕ). remains_by c.self.inside.tick rs ms) c.deref_mut-2.ensures.value c.deref_mut.ensures.value
    ∙ ap (λ (d : DueContents). d.remains) c.self.view_is

pub returns-clause-runs : goal.returns-clause-runs
returns-clause-runs c =
    let runs = written c.self.inside.runs c.hand_over_at.new.runs (c.hand_over_at.auto.runs ∙ ap (λ (xs : List Bool). length xs) c.deref_mut-2.ensures.value) in
    runs ∙ c.hand_over_at.ensures.runs ∙ ap (λ (rs : List Bool). set (set rs c.args.before.0 false) c.args.after.0 true) (c.deref_mut-2.ensures.value
    ∙ ap (λ (d : DueContents). d.runs) c.self.view_is)

pub returns-clause-dry : goal.returns-clause-dry
returns-clause-dry c =
    c.hand_over_at.ensures.dry
    ∙ ap₂ (λ (rs : List Bool) (ms : List ℕ). c.self.inside.tick + get_or (remains_by c.self.inside.tick rs ms) c.args.after.0 0) c.deref_mut-2.ensures.value
    c.deref_mut.ensures.value
    ∙ ap (λ (d : DueContents). d.tick + get_or d.remains c.args.after.0 0) c.self.view_is
