use Rattle.std.proofs.Common.{ap, false, true, length, get_or, refl, subst, subst₂, sym, ◌∙◌, ◌<◌, ℕ, List, Option, None, Bool, []}
use Rattle.std.proofs.lemmas.List.{length-replicate}
use Rattle.std.specs.List.{range_with_len}
use Rattle.run_tree.specs.Tree.{IsMember, home, place}
use Rattle.event_core.specs.Serving.{ServingContents, lists, AreBegun, IsServing}
use Rattle.event_core.proofs.FirstLemmas.{blank_places, first_filled, first_marked, first_serving}
use Rattle.event_core.proofs.KeptLemmas.{back, back_long, same_lists}
use Rattle.event_core.proofs.kept.Serving.begin_first.Goals as goal

pub begin_first-requires-clause-nodes : goal.begin_first-requires-clause-nodes
begin_first-requires-clause-nodes c = ap (λ (xs : List Bool). length xs) c.requires.dues ∙ length-replicate (length c.args.plan.now.tree.nodes) false

pub begin_first-requires-clause-remains : goal.begin_first-requires-clause-remains
begin_first-requires-clause-remains c = ap (λ (xs : List ℕ). length xs) c.requires.remains ∙ length-replicate (length c.args.plan.now.tree.nodes) 0

pub begin_first-requires-clause-ready : goal.begin_first-requires-clause-ready
begin_first-requires-clause-ready c = ap (λ (xs : List (List ℕ)). length xs) (c.deref_mut.ensures.value ∙ ap (λ (s : ServingContents). s.ready)
    c.self.view_is) ∙ c.requires.blank.ready_long

pub begin_first-requires-clause-stale : goal.begin_first-requires-clause-stale
begin_first-requires-clause-stale c =
    ap (λ (xs : List Bool). length xs) (ap (λ (s : ServingContents). s.stale) c.self.view_is ∙ c.requires.blank.stale) ∙ length-replicate
    (length c.args.plan.now.tree.nodes) true

pub begin_first-requires-clause-places : goal.begin_first-requires-clause-places
begin_first-requires-clause-places c =
    subst (λ (ready : List (List ℕ)). (x : ℕ) → IsMember c.args.plan.now.tree x → place c.args.plan.now.tree x < length
    (get_or ready (home c.args.plan.now.tree x) []))
    (sym (c.deref_mut.ensures.value ∙ ap (λ (s : ServingContents). s.ready) c.self.view_is)) (blank_places c.args.plan.now.tree c.requires.plan.tree.tree
    c.args.self.now c.requires.blank)

pub returns-clause-filled : goal.returns-clause-filled
returns-clause-filled c =
    let p = c.args.plan.now in
    let s = c.args.self.now in
    let s' = lists c.begin_first.new.ready s.serves s.dry c.begin_first.new.stale s.runs in
    let Begun : List (List ℕ) → List Bool → Type 0 = λ ready stale.
    AreBegun p.tree c.args.calendar.now.begins c.args.calendar.now.ends (range_with_len 0 (length p.tree.nodes)) c.args.dues.now.remains ready stale
    c.begin_first.new.dues.remains c.begin_first.new.ready c.begin_first.new.stale (length p.tree.nodes) in
    let a = subst₂ Begun (c.deref_mut.ensures.value ∙ ap (λ (k : ServingContents). k.ready) c.self.view_is) (ap (λ (k : ServingContents). k.stale)
    c.self.view_is) c.begin_first.ensures.begun in
    first_filled p c.requires.plan s s' c.requires.blank c.args.dues.now c.begin_first.new.dues c.requires.remains c.requires.dues c.args.calendar.now
    c.requires.calendar (c.begin_first.ensures.tick ∙ sym c.requires.first) c.begin_first.ensures.runs refl refl refl a

pub returns-clause-serving : goal.returns-clause-serving
returns-clause-serving c =
    let p = c.args.plan.now in
    let s = c.args.self.now in
    let s' = lists c.begin_first.new.ready s.serves s.dry c.begin_first.new.stale s.runs in
    let Begun : List (List ℕ) → List Bool → Type 0 = λ ready stale.
    AreBegun p.tree c.args.calendar.now.begins c.args.calendar.now.ends (range_with_len 0 (length p.tree.nodes)) c.args.dues.now.remains ready stale
    c.begin_first.new.dues.remains c.begin_first.new.ready c.begin_first.new.stale (length p.tree.nodes) in
    let a = subst₂ Begun (c.deref_mut.ensures.value ∙ ap (λ (k : ServingContents). k.ready) c.self.view_is) (ap (λ (k : ServingContents). k.stale)
    c.self.view_is) c.begin_first.ensures.begun in
    subst (λ (k : ServingContents). IsServing p.tree c.begin_first.new.dues c.args.calendar.now.ends k)
    (same_lists _ _ _ _ _ _ _ _ _ _ (sym (back c.self.inside.ready _ _ c.deref_mut.ensures.value c.begin_first.auto.ready))
    (sym (ap (λ (k : ServingContents). k.serves) c.self.view_is)) (sym (ap (λ (k : ServingContents). k.dry) c.self.view_is))
    refl (sym (ap (λ (k : ServingContents). k.runs) c.self.view_is)))
    (first_serving p c.requires.plan s s' c.requires.blank c.args.dues.now c.begin_first.new.dues c.requires.remains c.requires.dues c.args.calendar.now
    c.requires.calendar (c.begin_first.ensures.tick ∙ sym c.requires.first) c.begin_first.ensures.runs refl refl refl a)

pub returns-clause-marked : goal.returns-clause-marked
returns-clause-marked c =
    let p = c.args.plan.now in
    let s = c.args.self.now in
    let s' = lists c.begin_first.new.ready s.serves s.dry c.begin_first.new.stale s.runs in
    let Begun : List (List ℕ) → List Bool → Type 0 = λ ready stale.
    AreBegun p.tree c.args.calendar.now.begins c.args.calendar.now.ends (range_with_len 0 (length p.tree.nodes)) c.args.dues.now.remains ready stale
    c.begin_first.new.dues.remains c.begin_first.new.ready c.begin_first.new.stale (length p.tree.nodes) in
    let a = subst₂ Begun (c.deref_mut.ensures.value ∙ ap (λ (k : ServingContents). k.ready) c.self.view_is) (ap (λ (k : ServingContents). k.stale)
    c.self.view_is) c.begin_first.ensures.begun in
    first_marked p c.requires.plan s s' c.requires.blank c.args.dues.now c.begin_first.new.dues c.requires.remains c.requires.dues c.args.calendar.now
    c.requires.calendar (c.begin_first.ensures.tick ∙ sym c.requires.first) c.begin_first.ensures.runs refl refl refl a

pub returns-clause-nodes : goal.returns-clause-nodes
returns-clause-nodes c = c.begin_first.ensures.begun.same ∙ ap (λ (xs : List ℕ). length xs) c.requires.remains ∙ length-replicate
    (length c.args.plan.now.tree.nodes) 0

pub returns-clause-long : goal.returns-clause-long
returns-clause-long c = record {
  dues = ap (λ (xs : List Bool). length xs) (c.begin_first.ensures.runs ∙ c.requires.dues) ∙ length-replicate (length c.args.plan.now.tree.nodes) false;
  ready = back_long c.self.inside.ready _ _ c.deref_mut.ensures.value c.begin_first.auto.ready ∙ ap (λ (s : ServingContents). length s.ready) c.self.view_is
      ∙ c.requires.blank.ready_long;
  serves = ap (λ (s : ServingContents). length s.serves) c.self.view_is ∙ ap (λ (xs : List (Option ℕ)). length xs) c.requires.blank.serves
      ∙ length-replicate (length c.args.plan.now.tree.nodes) None;
  stale = c.begin_first.ensures.begun.as_many ∙ ap (λ (s : ServingContents). length s.stale) c.self.view_is
      ∙ ap (λ (xs : List Bool). length xs) c.requires.blank.stale ∙ length-replicate (length c.args.plan.now.tree.nodes) true;
  runs = ap (λ (s : ServingContents). length s.runs) c.self.view_is ∙ c.requires.blank.runs_long;
}
