use Rattle.std.proofs.Common.{◌≡◌, ℕ, ◌<◌, length, true, get_or, inl, inr, ap, arith, subst, sym, ◌∙◌}
use Rattle.std.proofs.lemmas.Bool.{both_ways, cases_lt}
use Rattle.run_tree.specs.Tree.{leaf, numbers}
use Rattle.run_tree.specs.TreeOfSet.{is_idle}
use Rattle.merged_rounds.proofs.ApartLemmas.{number_at}
use Rattle.merged_rounds.proofs.apart.first_idle.Goals as goal

pub is_idle-requires : goal.is_idle-requires
is_idle-requires c =
    let l = c.loop-k-test.true in
    subst (λ (n : ℕ). n < length c.args.tree.now.nodes) (number_at c.args.members.now c.loop-k.k _ l) (c.requires.members c.loop-k.k l)

pub loop-k-preserved : goal.loop-k-preserved
loop-k-preserved c = λ k low l on. elim (cases_lt k c.loop-k.k) [
  | inl less ↦ c.loop-k.invariant k low less on
  | inr most ↦
      (let same : k ≡ c.loop-k.k = omega (arith, l, most) in
      let at = number_at c.args.members.now c.loop-k.k (record { 0 = 0 }) c.loop-k-test.true in
      let idle : is_idle (leaf c.args.tree.now (get_or c.args.members.now c.loop-k.k (record { 0 = 0 })).0) ≡ true =
      sym (ap (λ n. is_idle (leaf c.args.tree.now n)) (ap (λ i. get_or (numbers c.args.members.now) i 0) same ∙ at)) ∙ on in
      absurd (both_ways c.is_idle.result c.if-is_idle.false (c.is_idle.ensures ∙ idle)))
]
