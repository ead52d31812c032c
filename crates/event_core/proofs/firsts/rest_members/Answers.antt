use Rattle.std.proofs.Common.{◌≡◌, ◌≢◌, ◌<◌, ◌∙◌, Bool, true, false, not, length, refl, ap, arith, subst, sym, below_more, get_or-set_other, get_or-set_same}
use Rattle.run_tree.specs.Tree.{Tree, is_pack, kind_at}
use Rattle.event_core.proofs.firsts.rest_members.Goals as goal

not_not : (b : Bool) → not (not b) ≡ b
not_not true = refl
not_not false = refl

pub loop-x-init : goal.loop-x-init
loop-x-init c = λ y below. absurd (omega (arith, below))

pub is_member-requires : goal.is_member-requires
is_member-requires c = subst (λ (t : Tree). c.loop-x.x < length t.nodes) (sym c.tree.ensures.value) (subst (λ n. c.loop-x.x < n) c.node_count-x-end.ensures
    c.loop-x-test.true)

pub overflow_cast-runs : goal.overflow_cast-runs
overflow_cast-runs c = let fits = c.node_count-x-end.type_inv in let below = c.loop-x-test.true in omega (arith, fits, below)

pub bounds-runs-x : goal.bounds-runs-x
bounds-runs-x c = let kept = c.loop-x.auto.runs in let long = c.requires in let n = c.node_count-x-end.ensures in let below = c.loop-x-test.true in
    omega (arith, kept, long, n, below)

pub loop-x-preserved : goal.loop-x-preserved
loop-x-preserved c =
    let x = c.loop-x.x in
    let is = ap not (c.is_member.ensures ∙ ap (λ (t : Tree). not (is_pack (kind_at t x))) c.tree.ensures.value)
    ∙ not_not (is_pack (kind_at c.args.plan.now.tree x)) in
    below_more _ _
    (λ y below. let other : y ≢ x = omega (arith, below) in rw get_or-set_other (c.loop-x.invariant y below))
    (let inside : x < length c.loop-x.runs =
    (let kept = c.loop-x.auto.runs in let long = c.requires in let n = c.node_count-x-end.ensures in let below = c.loop-x-test.true in
    omega (arith, kept, long, n, below)) in
    rw get_or-set_same is)

pub returns : goal.returns
returns c = λ x within. c.loop-x.invariant x (let past = c.loop-x-test.false in let n = c.node_count-x-end.ensures in omega (arith, within, past, n))
