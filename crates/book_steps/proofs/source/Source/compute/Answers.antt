use Rattle.std.proofs.Common.{◌<◌, ◌∙◌, ℕ, ap, ap₂, subst, sym}
use Rattle.run_tree.specs.Plans.{stop_of}
use Rattle.event_core.specs.Rounds.{IsRoundUpTo, rows_of_round}
use Rattle.book_steps.specs.Sources.{IsStage}
use Rattle.book_steps.proofs.SourceLemmas.{stage_stands}
use Rattle.book_steps.proofs.source.Source.compute.Goals as goal

pub advance-requires-clause-belongs : goal.advance-requires-clause-belongs
advance-requires-clause-belongs c = let source = rw (← c.self.view_is) at c.requires.source in source.core

pub advance-requires-clause-early : goal.advance-requires-clause-early
advance-requires-clause-early c =
    let p = c.args.plan.now in
    let s = c.self.inside in
    let source = rw (← c.self.view_is) at c.requires.source in
    let computes = rw (← c.self.view_is) at c.requires.computes in
    let early = rw (← c.self.view_is) at c.requires.early in
    subst (λ (n : ℕ). n < stop_of p) (sym (stage_stands p s.core.tick s.tick s.ends.items s.shown.items s.stage computes source.stage)) early

pub advance-requires-clause-rows : goal.advance-requires-clause-rows
advance-requires-clause-rows c = c.requires.rows

pub keep-self-inside-requires-clause-belongs : goal.keep-self-inside-requires-clause-belongs
keep-self-inside-requires-clause-belongs c = c.advance.ensures.belongs

pub keep-self-inside-requires-clause-round : goal.keep-self-inside-requires-clause-round
keep-self-inside-requires-clause-round c =
    let p = c.args.plan.now in
    let s = c.self.inside in
    let source = rw (← c.self.view_is) at c.requires.source in
    let computes = rw (← c.self.view_is) at c.requires.computes in
    subst (λ (n : ℕ). IsRoundUpTo p n c.advance.new.self.tick) (stage_stands p s.core.tick s.tick s.ends.items s.shown.items s.stage computes source.stage)
    c.advance.ensures.round

pub keep-self-inside-requires-clause-rows : goal.keep-self-inside-requires-clause-rows
keep-self-inside-requires-clause-rows c =
    let p = c.args.plan.now in
    let s = c.self.inside in
    let source = rw (← c.self.view_is) at c.requires.source in
    let computes = rw (← c.self.view_is) at c.requires.computes in
    let stands = stage_stands p s.core.tick s.tick s.ends.items s.shown.items s.stage computes source.stage in
    c.advance.ensures.rows ∙ ap (λ (n : ℕ). rows_of_round p n c.advance.new.self.tick) stands

pub keep-self-inside-requires-clause-stage : goal.keep-self-inside-requires-clause-stage
keep-self-inside-requires-clause-stage c =
    let source = rw (← c.self.view_is) at c.requires.source in
    (c.self.inside.core.tick, source.stage)

pub returns-clause-source : goal.returns-clause-source
returns-clause-source c =
    let k = c.keep-self-inside in
    let core = c.advance.new.self in
    record {
      core = c.advance.ensures.belongs;
      stage = subst (λ (n : ℕ). IsStage c.args.plan.now core.tick n k.new.ends.items k.new.shown.items k.result) (sym c.now-self-inside.ensures.value)
          k.ensures;
    }

pub returns-clause-round : goal.returns-clause-round
returns-clause-round c =
    let p = c.args.plan.now in
    let s = c.self.inside in
    let source = rw (← c.self.view_is) at c.requires.source in
    let computes = rw (← c.self.view_is) at c.requires.computes in
    rw (← c.self.view_is)
    (subst (λ (n : ℕ). IsRoundUpTo p s.tick n) (sym c.now-self-inside.ensures.value)
    (subst (λ (n : ℕ). IsRoundUpTo p n c.advance.new.self.tick) (stage_stands p s.core.tick s.tick s.ends.items s.shown.items s.stage computes source.stage)
    c.advance.ensures.round))

pub returns-clause-rows : goal.returns-clause-rows
returns-clause-rows c =
    let p = c.args.plan.now in
    let s = c.self.inside in
    let source = rw (← c.self.view_is) at c.requires.source in
    let computes = rw (← c.self.view_is) at c.requires.computes in
    let stands = stage_stands p s.core.tick s.tick s.ends.items s.shown.items s.stage computes source.stage in
    rw (← c.self.view_is) (c.advance.ensures.rows ∙ ap₂ (λ (m n : ℕ). rows_of_round p m n) stands (sym c.now-self-inside.ensures.value))
