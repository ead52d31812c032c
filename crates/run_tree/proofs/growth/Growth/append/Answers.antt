use Rattle.std.proofs.Common.{ℕ, Vec, Global, ◌++◌, ◌<◌, List, ap, length, subst, sym, arith, ◌∙◌}
use Rattle.std.proofs.lemmas.Result.{IfOk-from_err, MatchResult-from_err}
use Rattle.run_tree.specs.Tree.{Node}
use Rattle.run_tree.specs.Growth.{Growth, IsPrimalBelow, node_in, with_duals}
use Rattle.run_tree.proofs.growth.Growth.append.Goals as goal

pub returns-in_err-reserve-clause-nodes : goal.returns-in_err-reserve-clause-nodes
returns-in_err-reserve-clause-nodes c = IfOk-from_err _ _ c.from_residual.ensures.0

pub returns-in_err-reserve-clause-packs : goal.returns-in_err-reserve-clause-packs
returns-in_err-reserve-clause-packs c = IfOk-from_err _ _ c.from_residual.ensures.0

pub returns-in_err-reserve-clause-earlier : goal.returns-in_err-reserve-clause-earlier
returns-in_err-reserve-clause-earlier c = IfOk-from_err _ _ c.from_residual.ensures.0

pub returns-in_err-append-clause-nodes : goal.returns-in_err-append-clause-nodes
returns-in_err-append-clause-nodes c = IfOk-from_err _ _ c.from_residual-in_err-append.ensures.0

pub returns-in_err-append-clause-packs : goal.returns-in_err-append-clause-packs
returns-in_err-append-clause-packs c = IfOk-from_err _ _ c.from_residual-in_err-append.ensures.0

pub returns-in_err-append-clause-earlier : goal.returns-in_err-append-clause-earlier
returns-in_err-append-clause-earlier c = IfOk-from_err _ _ c.from_residual-in_err-append.ensures.0

pub returns-in_err-reserve-clause-err : goal.returns-in_err-reserve-clause-err
returns-in_err-reserve-clause-err c = MatchResult-from_err _ _ _ c.from_residual.ensures.0
    (λ _. ap (λ (nodes : List Node). let g : Growth = record { nodes = nodes; packs = c.self.inside.packs.items } in g) c.in_err-reserve.ensures.items
    ∙ c.self.view_is)

pub overflow_cast-number : goal.overflow_cast-number
overflow_cast-number c =
    let seen = c.len-number.ensures in
    let kept = c.in_ok-reserve.ensures.len in
    let long = c.self.inside.nodes.ok.0 in
    let same = ap (λ (g : Growth). length g.nodes) c.self.view_is in
    let fit = c.requires.numbers_fit in
    omega (arith, seen, kept, long, same, fit)

pub mark_duals-requires-clause-primals : goal.mark_duals-requires-clause-primals
mark_duals-requires-clause-primals c =
    let level = c.deref.ensures.value ∙ ap (λ (g : Growth). g.nodes) c.level.view_is in
    let long = ap length c.in_ok-reserve.ensures.items ∙ ap (λ (g : Growth). length g.nodes) c.self.view_is in
    λ i l. subst (λ (xs : List Node). IsPrimalBelow (length c.reserve.new.self.items) (node_in xs i).kind) (sym level)
    (subst (λ n. IsPrimalBelow n (node_in c.args.level.nodes i).kind) (sym long) (c.requires.primals i (subst (λ (xs : List Node). i < length xs) level l)))

pub mark_duals-requires-clause-numbers_fit : goal.mark_duals-requires-clause-numbers_fit
mark_duals-requires-clause-numbers_fit c =
    let level = ap length (c.deref.ensures.value ∙ ap (λ (g : Growth). g.nodes) c.level.view_is) in
    let number = c.len-number.ensures ∙ c.in_ok-reserve.ensures.len ∙ c.self.inside.nodes.ok.0 ∙ ap (λ (g : Growth). length g.nodes) c.self.view_is in
    let fit = c.requires.numbers_fit in
    omega (arith, level, number, fit)

pub returns-clause-nodes : goal.returns-clause-nodes
returns-clause-nodes c =
    let level = c.deref.ensures.value ∙ ap (λ (g : Growth). g.nodes) c.level.view_is in
    let number = c.len-number.ensures ∙ c.in_ok-reserve.ensures.len ∙ c.self.inside.nodes.ok.0 ∙ ap (λ (g : Growth). length g.nodes) c.self.view_is in
    let old = c.in_ok-reserve.ensures.items ∙ ap (λ (g : Growth). g.nodes) c.self.view_is in
    c.in_ok-append.ensures.items
    ∙ ap (λ (xs : List Node). c.mark_duals.new.nodes.items ++ xs) (ap (λ (g : Growth). g.nodes) c.level.view_is)
    ∙ ap (λ (xs : List Node). xs ++ c.args.level.nodes) (c.mark_duals.ensures.nodes ∙ ap (λ (xs : List Node). with_duals c.len-number.result xs
    c.reserve.new.self.items) level
    ∙ ap (λ (n : ℕ). with_duals n c.args.level.nodes c.reserve.new.self.items) number ∙ ap (with_duals (length c.args.self.now.nodes) c.args.level.nodes) old)

pub returns-in_err-append-clause-err : goal.returns-in_err-append-clause-err
returns-in_err-append-clause-err c =
    let full = c.in_err-append.ensures.full in
    let room = c.in_ok-reserve.ensures.ok in
    let count = c.len.ensures in
    let long = c.mark_duals.ensures.length in
    let same = c.mark_duals.ensures.capacity in
    absurd (omega (arith, full, room, count, long, same))

pub returns-clause-packs : goal.returns-clause-packs
returns-clause-packs c = ap (λ (v : Vec ℕ Global). v.items) c.replace.ensures.after ∙ ap (λ (g : Growth). g.packs) c.level.view_is

pub returns-clause-earlier : goal.returns-clause-earlier
returns-clause-earlier c = ap (λ (v : Vec ℕ Global). v.items) c.replace.ensures.value ∙ ap (λ (g : Growth). g.packs) c.self.view_is
