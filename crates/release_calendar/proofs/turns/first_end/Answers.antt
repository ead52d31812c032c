use Rattle.std.proofs.Common.{◌+◌, ◌<◌, length, ap, sym, ◌∙◌, subst, arith, inl, ℕ, ◌≡◌}
use Rattle.run_tree.specs.Tree.{Tree}
use Rattle.release_calendar.specs.Calendars.{IsFirstEnd}
use Rattle.release_calendar.proofs.FirstLemmas.{first_next, first_kept}
use Rattle.release_calendar.proofs.turns.first_end.Goals as goal
use Rattle.release_calendar.proofs.turns.first_end.Goals.{then-is_leaf, else-is_leaf}

pub loop-x-preserved : goal.loop-x-preserved
loop-x-preserved c =
    let t = c.args.plan.now.tree in
    let ends = c.args.ends.now in
    let x = c.loop-x.x in
    elim c.if-is_leaf.branch [
      | then-is_leaf w ↦
          (let within : x < length t.nodes = omega (
            arith,
            c.loop-x-test.true,
            c.nodes-x-end.ensures.value,
            ap (λ (u : Tree). length u.nodes)
                c.tree.ensures.value,
          ) in
          subst (λ d. IsFirstEnd t ends (x + 1) d) (sym (w.first-is ∙ w.min-first.ensures)) (first_next t ends x c.loop-x.first within
          (sym c.is_leaf.ensures ∙ w.if-is_leaf.true) c.loop-x.invariant))
      | else-is_leaf w ↦ subst (λ d. IsFirstEnd t ends (x + 1) d) (sym w.first-is) (first_kept t ends x c.loop-x.first (sym c.is_leaf.ensures
          ∙ w.if-is_leaf.false) c.loop-x.invariant)
    ]

pub loop-x-init : goal.loop-x-init
loop-x-init c = let e = c.from-first.ensures in record { below = omega (arith, e); all = λ x l i. absurd (omega (arith, l)); one = inl e }

pub bounds-ends-x : goal.bounds-ends-x
bounds-ends-x c = let same = ap (λ (t : Tree). length t.nodes) c.tree.ensures.value in let count = c.nodes-x-end.ensures.value in
    let on = c.loop-x-test.true in let long = c.requires in omega (arith, same, count, on, long)

pub overflow_cast-result : goal.overflow_cast-result
overflow_cast-result c = let most = c.loop-x.invariant.below in omega (arith, most)

pub returns : goal.returns
returns c = let same = ap (λ (t : Tree). length t.nodes) c.tree.ensures.value in let count = c.nodes-x-end.ensures.value in let past = c.loop-x-test.false
    in let most = c.loop-x.auto.x-end in let all : c.loop-x.x ≡ length c.args.plan.now.tree.nodes = omega (arith, same, count, past, most) in
    subst (λ (n : ℕ). IsFirstEnd c.args.plan.now.tree c.args.ends.now n c.loop-x.first) all c.loop-x.invariant
