use Rattle.std.proofs.Common.{◌≡◌, ◌∙◌, ◌<◌, ℕ, List, true, false, ap, get_or, inl, inr, length, rules, subst, sym}
use Rattle.run_tree.specs.Tree.{Tree, leaf}
use Rattle.run_tree.specs.TreeOfSet.{is_idle}
use Rattle.merged_rounds.proofs.standings.Standing.is_again.Goals as goal

pub returns : goal.returns
returns c = λ on.
    let held : c.is_same.result ≡ true = search rules in
    let same = subst (λ (t : Tree). (x : ℕ) → x < length t.nodes → is_idle (leaf t x) ≡ false → get_or c.deref-2.result.now x 0 ≡ get_or c.deref.result.now
    x 0) c.tree.ensures.value (c.is_left_again.ensures on) in
    record {
      places = sym c.places.ensures ∙ c.is_same.ensures held ∙ c.requires.is.places;
      left = elim c.requires.is.left [
        | inl on_time ↦ inl on_time
        | inr before ↦ elim c.in_ok-left.ensures [
          | inl on_time ↦ inl on_time
          | inr now ↦ inr (λ x member off.
              sym (now x member) ∙ ap (λ (xs : List ℕ). get_or xs x 0) (sym c.deref-2.ensures.value) ∙ same x member.0 off
              ∙ ap (λ (xs : List ℕ). get_or xs x 0) c.deref.ensures.value ∙ before x member)
        ]
      ];
    }
