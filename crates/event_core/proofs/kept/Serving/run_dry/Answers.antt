use Rattle.std.proofs.Common.{List, Option, ap, length, refl, subst₂, sym, ◌∙◌, ℕ}
use Rattle.run_tree.specs.Tree.{Tree}
use Rattle.event_core.specs.Serving.{ServingContents, IsServing, IsDrying}
use Rattle.event_core.proofs.KeptLemmas.{back, back_long, same_lists}
use Rattle.event_core.proofs.kept.Serving.run_dry.Goals as goal

pub run_dry-requires-clause-ready : goal.run_dry-requires-clause-ready
run_dry-requires-clause-ready c =
    ap (λ (xs : List (List ℕ)). length xs) (c.deref_mut.ensures.value ∙ ap (λ (s : ServingContents). s.ready) c.self.view_is) ∙ c.requires.long.ready
    ∙ ap (λ (t : Tree). length t.nodes) (sym c.tree.ensures.value)

pub run_dry-requires-clause-serves : goal.run_dry-requires-clause-serves
run_dry-requires-clause-serves c =
    ap (λ (xs : List (Option ℕ)). length xs) (c.deref.ensures.value ∙ ap (λ (s : ServingContents). s.serves) c.self.view_is) ∙ c.requires.long.serves
    ∙ ap (λ (t : Tree). length t.nodes) (sym c.tree.ensures.value)

pub run_dry-requires-clause-stale : goal.run_dry-requires-clause-stale
run_dry-requires-clause-stale c =
    ap (λ (s : ServingContents). length s.stale) c.self.view_is ∙ c.requires.long.stale ∙ ap (λ (t : Tree). length t.nodes) (sym c.tree.ensures.value)

pub run_dry-requires-clause-drying : goal.run_dry-requires-clause-drying
run_dry-requires-clause-drying c =
    subst₂ (λ (t : Tree) (s : ServingContents). IsDrying t c.args.dues.now c.args.ends.now s (λ (q : ℕ). ⊥)) (sym c.tree.ensures.value)
    (sym (same_lists _ _ _ _ _ _ _ _ _ _ c.deref_mut.ensures.value c.deref.ensures.value refl refl c.deref-2.ensures.value ∙ c.self.view_is)) c.requires.drying

pub returns-clause-serving : goal.returns-clause-serving
returns-clause-serving c =
    subst₂ (λ (t : Tree) (s : ServingContents). IsServing t c.args.dues.now c.args.ends.now s) c.tree.ensures.value
    (same_lists _ _ _ _ _ _ _ _ _ _ (sym (back c.self.inside.ready _ _ c.deref_mut.ensures.value c.run_dry.auto.ready)) c.deref.ensures.value refl
    refl c.deref-2.ensures.value) c.run_dry.ensures.serving

pub returns-clause-long : goal.returns-clause-long
returns-clause-long c = record {
  dues = c.requires.long.dues;
  ready = back_long c.self.inside.ready _ _ c.deref_mut.ensures.value c.run_dry.auto.ready ∙ ap (λ (s : ServingContents). length s.ready) c.self.view_is
      ∙ c.requires.long.ready;
  serves = ap (λ (s : ServingContents). length s.serves) c.self.view_is ∙ c.requires.long.serves;
  stale = c.run_dry.ensures.long ∙ ap (λ (s : ServingContents). length s.stale) c.self.view_is ∙ c.requires.long.stale;
  runs = ap (λ (s : ServingContents). length s.runs) c.self.view_is ∙ c.requires.long.runs;
}

pub returns-clause-serves : goal.returns-clause-serves
returns-clause-serves c = ap (λ (s : ServingContents). s.serves) c.self.view_is

pub returns-clause-runs : goal.returns-clause-runs
returns-clause-runs c = ap (λ (s : ServingContents). s.runs) c.self.view_is
