use Rattle.std.proofs.Common.{ap, arith, get_or, inl, inr, length, refl, subst, sym, ℕ, List, Some, ◌<◌, ◌≡◌, ◌∙◌}
use Rattle.std.proofs.lemmas.Bool.{cases_eq}
use Rattle.std.proofs.lemmas.Grind.{get_or_default_zero}
use Rattle.tree_select.specs.declared.masks.Group.{Group}
use Rattle.tree_select.specs.Masks.{group_at, IsFirstIn, IsOf, Masks}
use Rattle.tree_select.proofs.PlaceLemmas.{found_within, next_found, none_marked}
use Rattle.tree_select.proofs.masks.LevelMasks.next.Goals as goal

pub loop-g-init : goal.loop-g-init
loop-g-init c = c.requires.before

pub returns-in-Some-clause-some : goal.returns-in-Some-clause-some
returns-in-Some-clause-some c =
    let t = c.args.tree.now in
    let m = c.args.self.now in
    let groups : c.deref.result.now ≡ m.groups = c.deref.ensures.value ∙ ap (λ (x : Masks). x.groups) c.self.view_is in
    let low = c.requires.group in
    let up = c.loop-g.auto.g in
    let most = c.loop-g-test.true in
    let first : IsFirstIn (group_at m.groups c.loop-g.g) c.args.stale.now (Some c.in-Some.pack) = subst (λ (gs : List Group). IsFirstIn
    (group_at gs c.loop-g.g) c.args.stale.now (Some c.in-Some.pack)) groups c.in-Some.ensures in
    let places : c.self.inside.places.items ≡ m.places = ap (λ (x : Masks). x.places) c.self.view_is in
    let within : c.in-Some.pack.0 < length m.places = found_within t c.requires.tree m c.requires.masks c.args.level c.requires.level c.args.span
    c.requires.span c.args.stale.now c.loop-g.g (omega (arith, low, up)) most c.loop-g.invariant c.in-Some.pack first in
    let place : c.index.result.now ≡ get_or m.places c.in-Some.pack.0 0 =
    c.index.ensures ∙ get_or_default_zero c.self.inside.places.items c.in-Some.pack.0 c.index.result.now (let same = ap (λ (xs : List ℕ). length xs) places
    in omega (arith, within, same)) ∙ ap (λ (xs : List ℕ). get_or xs c.in-Some.pack.0 0) places in
    next_found t c.requires.tree m c.requires.masks c.args.level c.requires.level c.args.span c.requires.span c.args.stale.now c.loop-g.g
    (omega (arith, low, up)) most c.loop-g.invariant c.in-Some.pack first c.args.from _ refl place refl c.requires.fresh

pub loop-g-preserved : goal.loop-g-preserved
loop-g-preserved c = λ g p low m of.
    let groups : c.deref.result.now ≡ c.args.self.now.groups = c.deref.ensures.value ∙ ap (λ (x : Masks). x.groups) c.self.view_is in
    elim (cases_eq g c.loop-g.g) [
      | inl same ↦ c.in_default.ensures p (subst (λ (gs : List Group). IsOf (group_at gs c.loop-g.g) p) (sym groups)
          (subst (λ (x : ℕ). IsOf (group_at c.args.self.now.groups x) p) same of))
      | inr ne ↦ c.loop-g.invariant g p low (omega (arith, m, ne)) of
    ]

pub returns-clause-none : goal.returns-clause-none
returns-clause-none c = λ none k b.
    let off = c.loop-g-test.false in
    none_marked c.args.tree.now c.requires.tree c.args.self.now c.requires.masks c.args.level c.requires.level c.args.span c.requires.span c.args.stale.now
    (λ g p low m of. c.loop-g.invariant g p low (omega (arith, m, off)) of) k b
