use Rattle.std.proofs.Common.{ap, false, get_or, length, refl, subst, subst₂, sym, ◌∙◌, ◌<◌, ◌≡◌, ℕ, List, Option, Bool}
use Rattle.run_tree.specs.Tree.{Tree}
use Rattle.run_tree.specs.Runs.{runs_now}
use Rattle.run_tree.specs.Schedule.{packs_at}
use Rattle.cpu_assign.specs.Changed.{AreChanged}
use Rattle.tree_select.specs.Marked.{AreFreshFrom}
use Rattle.tree_select.specs.Masks.{AreMasksOf}
use Rattle.event_core.specs.Serving.{ServingContents, AreFitting, AreLong, AreSeen, AreSettledFrom, IsServing}
use Rattle.event_core.specs.Steps.{packs_by}
use Rattle.event_core.proofs.KeptLemmas.{back, back_long, same_lists}
use Rattle.event_core.proofs.kept.Serving.select.Goals as goal

pub serve_all-requires-clause-long : goal.serve_all-requires-clause-long
serve_all-requires-clause-long c =
    subst₂ (λ (t : Tree) (s : ServingContents). AreLong t c.args.dues.now s) (sym c.tree.ensures.value)
    (sym (same_lists _ _ _ _ _ _ _ _ _ _ c.deref.ensures.value c.deref_mut.ensures.value refl refl c.deref_mut-2.ensures.value ∙ c.self.view_is))
    c.requires.long

pub serve_all-requires-clause-masks : goal.serve_all-requires-clause-masks
serve_all-requires-clause-masks c = subst (λ (t : Tree). AreMasksOf t c.args.masks.now) (sym c.tree.ensures.value) c.requires.masks

pub serve_all-requires-clause-fits : goal.serve_all-requires-clause-fits
serve_all-requires-clause-fits c = subst (λ (t : Tree). AreFitting t c.args.dues.now) (sym c.tree.ensures.value) c.requires.fits

pub serve_all-requires-clause-serving : goal.serve_all-requires-clause-serving
serve_all-requires-clause-serving c =
    subst₂ (λ (t : Tree) (s : ServingContents). IsServing t c.args.dues.now c.args.ends.now s) (sym c.tree.ensures.value)
    (sym (same_lists _ _ _ _ _ _ _ _ _ _ c.deref.ensures.value c.deref_mut.ensures.value refl refl c.deref_mut-2.ensures.value ∙ c.self.view_is))
    c.requires.serving

pub serve_all-requires-clause-last : goal.serve_all-requires-clause-last
serve_all-requires-clause-last c = c.requires.last ∙ ap (λ (t : Tree). length (packs_at t 0)) (sym c.tree.ensures.value)

pub serve_all-requires-clause-settled : goal.serve_all-requires-clause-settled
serve_all-requires-clause-settled c =
    subst (λ (t : Tree). AreSettledFrom t c.args.places.now.onto c.self.inside.stale c.deref_mut-2.result.now 0) (sym c.tree.ensures.value)
    (subst₂ (λ (stale runs : List Bool). AreSettledFrom c.args.plan.now.tree c.args.places.now.onto stale runs 0)
    (sym (ap (λ (s : ServingContents). s.stale) c.self.view_is)) (sym (c.deref_mut-2.ensures.value ∙ ap (λ (s : ServingContents). s.runs) c.self.view_is))
    c.requires.settled)

pub serve_all-requires-clause-room : goal.serve_all-requires-clause-room
serve_all-requires-clause-room c = c.requires.room ∙ ap (λ (t : Tree). length (packs_at t 0)) (sym c.tree.ensures.value)

pub returns-clause-long : goal.returns-clause-long
returns-clause-long c = record {
  dues = c.serve_all.ensures.nodes ∙ c.requires.long.dues;
  ready = ap (λ (s : ServingContents). length s.ready) c.self.view_is ∙ c.requires.long.ready;
  serves = back_long c.self.inside.serves _ _ c.deref_mut.ensures.value c.serve_all.auto.serves ∙ ap (λ (s : ServingContents). length s.serves)
      c.self.view_is ∙ c.requires.long.serves;
  stale = c.serve_all.ensures.long ∙ ap (λ (s : ServingContents). length s.stale) c.self.view_is ∙ c.requires.long.stale;
  runs = back_long c.self.inside.runs _ _ c.deref_mut-2.ensures.value c.serve_all.auto.runs ∙ ap (λ (s : ServingContents). length s.runs) c.self.view_is
      ∙ c.requires.long.runs;
}

pub returns-clause-serving : goal.returns-clause-serving
returns-clause-serving c =
    subst₂ (λ (t : Tree) (s : ServingContents). IsServing t c.serve_all.new.dues c.args.ends.now s) c.tree.ensures.value
    (same_lists _ _ _ _ _ _ _ _ _ _ c.deref.ensures.value (sym (back c.self.inside.serves _ _ c.deref_mut.ensures.value c.serve_all.auto.serves)) refl
    refl (sym (back c.self.inside.runs _ _ c.deref_mut-2.ensures.value c.serve_all.auto.runs))) c.serve_all.ensures.serving

pub returns-clause-fresh : goal.returns-clause-fresh
returns-clause-fresh c =
    subst (λ (t : Tree). AreFreshFrom t c.serve_all.new.stale 0) c.tree.ensures.value c.serve_all.ensures.fresh

pub returns-clause-selected : goal.returns-clause-selected
returns-clause-selected c =
    subst₂ (λ (t : Tree) (runs : List Bool). (n : ℕ) → n < length t.nodes → get_or runs n false ≡ runs_now t (λ x. get_or c.args.dues.now.remains x 0)
    (λ x. get_or c.args.ends.now x 0) n) c.tree.ensures.value
    (sym (back c.self.inside.runs _ _ c.deref_mut-2.ensures.value c.serve_all.auto.runs)) c.serve_all.ensures.selected

pub returns-clause-changed : goal.returns-clause-changed
returns-clause-changed c =
    subst₂ (λ (t : Tree) (runs : List Bool). AreChanged (packs_by t runs) c.args.places.now.onto c.serve_all.new.changes) c.tree.ensures.value
    (sym (back c.self.inside.runs _ _ c.deref_mut-2.ensures.value c.serve_all.auto.runs)) c.serve_all.ensures.changed

pub returns-clause-seen : goal.returns-clause-seen
returns-clause-seen c =
    subst (λ (after : List (Option ℕ)). AreSeen c.args.plan.now.tree c.args.self.now.serves after c.serve_all.new.changes)
    (sym (back c.self.inside.serves _ _ c.deref_mut.ensures.value c.serve_all.auto.serves))
    (subst₂ (λ (t : Tree) (before : List (Option ℕ)). AreSeen t before c.serve_all.new.serves c.serve_all.new.changes) c.tree.ensures.value
    (c.deref_mut.ensures.value ∙ ap (λ (s : ServingContents). s.serves) c.self.view_is) c.serve_all.ensures.seen)
