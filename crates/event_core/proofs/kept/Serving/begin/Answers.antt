use Rattle.std.proofs.Common.{ap, length, get_or, refl, subst, subst₂, sym, ◌∙◌, ◌<◌, ℕ, List, Bool, []}
use Rattle.run_tree.specs.Tree.{IsMember, home, place}
use Rattle.event_core.specs.Serving.{ServingContents, AreBegun}
use Rattle.event_core.proofs.KeptLemmas.{back, back_long}
use Rattle.event_core.proofs.kept.Serving.begin.Goals as goal

pub begin_all-requires-clause-ready : goal.begin_all-requires-clause-ready
begin_all-requires-clause-ready c =
    ap (λ (xs : List (List ℕ)). length xs) (c.deref_mut.ensures.value ∙ ap (λ (s : ServingContents). s.ready) c.self.view_is) ∙ c.requires.long.ready

pub begin_all-requires-clause-stale : goal.begin_all-requires-clause-stale
begin_all-requires-clause-stale c =
    ap (λ (s : ServingContents). length s.stale) c.self.view_is ∙ c.requires.long.stale

pub begin_all-requires-clause-places : goal.begin_all-requires-clause-places
begin_all-requires-clause-places c =
    subst (λ (ready : List (List ℕ)). (x : ℕ) → IsMember c.args.plan.now.tree x → place c.args.plan.now.tree x < length
    (get_or ready (home c.args.plan.now.tree x) []))
    (sym (c.deref_mut.ensures.value ∙ ap (λ (s : ServingContents). s.ready) c.self.view_is)) c.requires.places

pub returns-clause-begun : goal.returns-clause-begun
returns-clause-begun c =
    let Q : List (List ℕ) → List Bool → List (List ℕ) → List Bool → Type 0 =
    λ ready stale ready' stale'. AreBegun c.args.plan.now.tree c.args.calendar.now.begins c.args.calendar.now.ends c.args.calendar.now.begun
    c.args.dues.now.remains ready stale c.begin_all.new.dues.remains ready' stale' (length c.args.calendar.now.begun) in
    subst₂ (λ ready stale. Q c.args.self.now.ready c.args.self.now.stale ready stale) (sym (back c.self.inside.ready _ _ c.deref_mut.ensures.value
    c.begin_all.auto.ready)) refl
    (subst₂ (λ ready stale. Q ready stale c.begin_all.new.ready c.begin_all.new.stale) (c.deref_mut.ensures.value ∙ ap (λ (s : ServingContents). s.ready)
    c.self.view_is) (ap (λ (s : ServingContents). s.stale) c.self.view_is) c.begin_all.ensures.begun)

pub returns-clause-long : goal.returns-clause-long
returns-clause-long c = record {
  dues = ap (λ (xs : List Bool). length xs) c.begin_all.ensures.runs ∙ c.requires.long.dues;
  ready = back_long c.self.inside.ready _ _ c.deref_mut.ensures.value c.begin_all.auto.ready ∙ ap (λ (s : ServingContents). length s.ready) c.self.view_is
      ∙ c.requires.long.ready;
  serves = ap (λ (s : ServingContents). length s.serves) c.self.view_is ∙ c.requires.long.serves;
  stale = c.begin_all.ensures.begun.as_many ∙ ap (λ (s : ServingContents). length s.stale) c.self.view_is ∙ c.requires.long.stale;
  runs = ap (λ (s : ServingContents). length s.runs) c.self.view_is ∙ c.requires.long.runs;
}

pub returns-clause-serves : goal.returns-clause-serves
returns-clause-serves c = ap (λ (s : ServingContents). s.serves) c.self.view_is

pub returns-clause-dry : goal.returns-clause-dry
returns-clause-dry c = ap (λ (s : ServingContents). s.dry) c.self.view_is

pub returns-clause-runs : goal.returns-clause-runs
returns-clause-runs c = ap (λ (s : ServingContents). s.runs) c.self.view_is

pub returns-clause-tick : goal.returns-clause-tick
returns-clause-tick c = c.begin_all.ensures.tick

pub returns-clause-dues : goal.returns-clause-dues
returns-clause-dues c = c.begin_all.ensures.runs
