use Rattle.std.proofs.Common.{refl, subst, sym}
use Rattle.book_steps.specs.declared.source.Repeating.{Repeating}
use Rattle.book_steps.specs.declared.source.Stage.{Stage}
use Rattle.book_steps.specs.Sources.{IsRepeating, IsStage}
use Rattle.book_steps.proofs.source.Source.again.Goals as goal

pub wrapped-next-requires-clause-again : goal.wrapped-next-requires-clause-again
wrapped-next-requires-clause-again c =
    let p = c.args.plan.now in
    let s = c.self.inside in
    let source = rw (← c.self.view_is) at c.requires.source in
    rw (c.deref.ensures.value, c.deref-in-Some.ensures.value)
    (subst (λ (stage : Stage). IsStage p s.core.tick s.tick s.ends.items s.shown.items stage) c.in-Some.ensures.some source.stage)

pub wrapped-next-requires-clause-early : goal.wrapped-next-requires-clause-early
wrapped-next-requires-clause-early c = rw (← c.self.view_is) at c.requires.early

pub repeat-row-requires-clause-again : goal.repeat-row-requires-clause-again
repeat-row-requires-clause-again c =
    let again = rw (c.deref.ensures.value, c.deref-in-Some.ensures.value) at c.wrapped-next.ensures.again in
    rw (c.deref-in-Some-2.ensures.value, c.deref-in-Some-3.ensures.value) again

pub repeat-row-requires-clause-within : goal.repeat-row-requires-clause-within
repeat-row-requires-clause-within c =
    let within = rw c.deref.ensures.value at c.wrapped-next.ensures.within in
    rw c.deref-in-Some-2.ensures.value within

pub repeat-row-requires-clause-early : goal.repeat-row-requires-clause-early
repeat-row-requires-clause-early c = rw (← c.self.view_is) at c.requires.early

pub same-self : goal.same-self
same-self c = refl

pub returns-in-Some-clause-source : goal.returns-in-Some-clause-source
returns-in-Some-clause-source c =
    let p = c.args.plan.now in
    let s = c.self.inside in
    let source = rw (← c.self.view_is) at c.requires.source in
    let again = rw (c.deref-in-Some-2.ensures.value, c.deref-in-Some-3.ensures.value) at c.repeat-row.ensures.again in
    record {
      core = source.core;
      stage = subst (λ (r : Repeating). IsRepeating p c.repeat-row.result.end s.ends.items s.shown.items r) (sym c.behind.ensures) again;
    }

pub returns-in-Some-clause-round : goal.returns-in-Some-clause-round
returns-in-Some-clause-round c = rw (← c.self.view_is) c.repeat-row.ensures.round

pub returns-in-Some-clause-row : goal.returns-in-Some-clause-row
returns-in-Some-clause-row c = rw (← c.self.view_is) c.repeat-row.ensures.row

pub returns-in-None-clause-none : goal.returns-in-None-clause-none
returns-in-None-clause-none c = refl

pub returns-in-None-clause-computes : goal.returns-in-None-clause-computes
returns-in-None-clause-computes c = rw (← c.self.view_is) c.in-None.ensures.none
