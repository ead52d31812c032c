use Rattle.std.proofs.Common.{ap, arith, get_or, length, subst, sym, ℕ, List, ◌≡◌, ◌+◌, ◌∙◌}
use Rattle.std.proofs.lemmas.List.{length-replicate}
use Rattle.tree_select.specs.Masks.{ArePlacesOf}
use Rattle.tree_select.proofs.MarkWords.{written}
use Rattle.tree_select.proofs.PlaceLemmas.{places_more}
use Rattle.tree_select.proofs.masks.places_of.Goals as goal

pub loop-level-init : goal.loop-level-init
loop-level-init c = record {
  long = ap (λ (xs : List ℕ). length xs) c.in_ok-places.ensures ∙ length-replicate c.nodes.result 0 ∙ c.nodes.ensures.value;
  each = λ l i m b. absurd (omega (arith, m));
}

pub loop-level-preserved : goal.loop-level-preserved
loop-level-preserved c =
    let t = c.args.tree.now in
    let was = c.loop-level.places in
    let places = c.place_level.new.places in
    let value = c.deref_mut.ensures.value in
    let long : length places ≡ length was.items = c.place_level.auto.places ∙ ap (λ (xs : List ℕ). length xs) value in
    subst (λ (xs : List ℕ). ArePlacesOf t xs (c.loop-level.level + 1)) (sym (written was c.deref_mut.result.now places value c.place_level.auto.places))
    (places_more t c.nodes.ensures.lawful.tree c.loop-level.level was.items places long c.place_level.ensures.own
    (λ n ne. c.place_level.ensures.others n ne ∙ ap (λ (xs : List ℕ). get_or xs n 0) value) c.loop-level.invariant)

pub returns : goal.returns
returns c =
    let many = c.levels-level-end.ensures.value in
    let off = c.loop-level-test.false in
    let most = c.loop-level.auto.level-end in
    subst (λ (n : ℕ). ArePlacesOf c.args.tree.now c.loop-level.places.items n) (omega (arith, many, off, most)) c.loop-level.invariant
