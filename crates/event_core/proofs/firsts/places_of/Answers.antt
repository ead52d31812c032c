use Rattle.std.proofs.Common.{ap₂, subst, subst₂, ◌<◌, ◌+◌, ◌-◌}
use Rattle.run_tree.specs.Tree.{member, place}
use Rattle.std.proofs.Common.{ap, arith, length, sym, ℕ, List, ◌∙◌}
use Rattle.std.proofs.lemmas.List.{length-map}
use Rattle.sched_base.specs.declared.rows.NodeId.{NodeId}
use Rattle.run_tree.specs.Tree.{Tree, members}
use Rattle.event_core.proofs.FirstLemmas.{last_place}
use Rattle.event_core.proofs.firsts.places_of.Goals as goal

pub overflow_sub-count : goal.overflow_sub-count
overflow_sub-count c =
    let (some, its, last) = last_place c.args.plan.now c.requires.plan c.args.p.0 c.requires.pack in
    let count = sym (length-map c.members-count.result.now (λ (n : NodeId). n.0)) ∙ ap (λ (xs : List ℕ). length xs) c.members-count.ensures
    ∙ ap (λ (t : Tree). length (members t c.args.p.0)) c.tree.ensures.value in
    omega (arith, some, count)

pub member-last-requires-clause-member : goal.member-last-requires-clause-member
member-last-requires-clause-member c =
    let (some, its, last) = last_place c.args.plan.now c.requires.plan c.args.p.0 c.requires.pack in
    let count = sym (length-map c.members-count.result.now (λ (n : NodeId). n.0)) ∙ ap (λ (xs : List ℕ). length xs) c.members-count.ensures
    ∙ ap (λ (t : Tree). length (members t c.args.p.0)) c.tree.ensures.value in
    let all = ap (λ (t : Tree). length (members t c.args.p.0)) c.tree-2.ensures.value in
    omega (arith, some, count, all)

pub members-count-requires : goal.members-count-requires
members-count-requires c = subst (λ (t : Tree). c.args.p.0 < length t.nodes) (sym c.tree.ensures.value) c.requires.pack.0

pub member-last-requires-clause-node : goal.member-last-requires-clause-node
member-last-requires-clause-node c = subst (λ (t : Tree). c.args.p.0 < length t.nodes) (sym c.tree-2.ensures.value) c.requires.pack.0

pub place-requires : goal.place-requires
place-requires c =
    let (some, its, last) = last_place c.args.plan.now c.requires.plan c.args.p.0 c.requires.pack in
    let count = sym (length-map c.members-count.result.now (λ (n : NodeId). n.0)) ∙ ap (λ (xs : List ℕ). length xs) c.members-count.ensures
    ∙ ap (λ (t : Tree). length (members t c.args.p.0)) c.tree.ensures.value in
    let is = c.member-last.ensures ∙ ap₂ (λ (t : Tree) (n : ℕ). member t c.args.p.0 (n - 1)) c.tree-2.ensures.value count in
    subst₂ (λ (t : Tree) (x : ℕ). x < length t.nodes) (sym c.tree-3.ensures.value) (sym is) its.0

pub overflow_cast-result : goal.overflow_cast-result
overflow_cast-result c = let fits = c.place.type_inv in omega (arith, fits)

pub overflow_add-result : goal.overflow_add-result
overflow_add-result c = let fits = c.place.type_inv in omega (arith, fits)

pub returns-clause-value : goal.returns-clause-value
returns-clause-value c =
    let (some, its, last) = last_place c.args.plan.now c.requires.plan c.args.p.0 c.requires.pack in
    let count = sym (length-map c.members-count.result.now (λ (n : NodeId). n.0)) ∙ ap (λ (xs : List ℕ). length xs) c.members-count.ensures
    ∙ ap (λ (t : Tree). length (members t c.args.p.0)) c.tree.ensures.value in
    let is = c.member-last.ensures ∙ ap₂ (λ (t : Tree) (n : ℕ). member t c.args.p.0 (n - 1)) c.tree-2.ensures.value count in
    ap (λ n. n + 1) (c.place.ensures ∙ ap₂ (λ (t : Tree) (x : ℕ). place t x) c.tree-3.ensures.value is) ∙ last

pub returns-clause-some : goal.returns-clause-some
returns-clause-some c = omega arith

pub returns-clause-few : goal.returns-clause-few
returns-clause-few c = let fits = c.place.type_inv in omega (arith, fits)
