use Rattle.std.proofs.Common.{◌+◌, ◌++◌, ◌∷◌, [], ap, arith, refl, ◌∙◌}
use Rattle.std.proofs.lemmas.Result.{IfOk-from_err, MatchResult-from_err}
use Rattle.run_tree.proofs.Grown.{pack_opened}
use Rattle.run_tree.proofs.growth.open.Goals as goal

pub returns-in_err-reserve-clause-nodes : goal.returns-in_err-reserve-clause-nodes
returns-in_err-reserve-clause-nodes c = IfOk-from_err _ _ c.from_residual.ensures.0

pub returns-in_err-reserve-clause-packs : goal.returns-in_err-reserve-clause-packs
returns-in_err-reserve-clause-packs c = IfOk-from_err _ _ c.from_residual.ensures.0

pub returns-in_err-reserve-clause-err : goal.returns-in_err-reserve-clause-err
returns-in_err-reserve-clause-err c = MatchResult-from_err _ _ _ c.from_residual.ensures.0 (λ _. (c.in_err-reserve.ensures.items, refl))

pub returns-in_err-pack-clause-nodes : goal.returns-in_err-pack-clause-nodes
returns-in_err-pack-clause-nodes c = IfOk-from_err _ _ c.from_residual-in_err-pack.ensures.0

pub returns-in_err-pack-clause-packs : goal.returns-in_err-pack-clause-packs
returns-in_err-pack-clause-packs c = IfOk-from_err _ _ c.from_residual-in_err-pack.ensures.0

pub returns-in_err-reserve-2-clause-nodes : goal.returns-in_err-reserve-2-clause-nodes
returns-in_err-reserve-2-clause-nodes c = IfOk-from_err _ _ c.from_residual-in_err-reserve-2.ensures.0

pub returns-in_err-reserve-2-clause-packs : goal.returns-in_err-reserve-2-clause-packs
returns-in_err-reserve-2-clause-packs c = IfOk-from_err _ _ c.from_residual-in_err-reserve-2.ensures.0

pub returns-in_err-reserve-2-clause-err : goal.returns-in_err-reserve-2-clause-err
returns-in_err-reserve-2-clause-err c = MatchResult-from_err _ _ _ c.from_residual-in_err-reserve-2.ensures.0 (λ _. (
  c.in_ok-reserve.ensures.items,
  c.in_err-reserve-2.ensures.items,
))

pub returns-in_err-pack-clause-err : goal.returns-in_err-pack-clause-err
returns-in_err-pack-clause-err c = MatchResult-from_err _ _ _ c.from_residual-in_err-pack.ensures.0 (λ _. (
  c.in_ok-reserve.ensures.items,
  c.in_ok-reserve-2.ensures.items,
))

pub overflow_cast-number : goal.overflow_cast-number
overflow_cast-number c = let seen = c.len.ensures in let kept = c.in_ok-reserve.ensures.len in let long = c.args.nodes.now.ok.0 in let fit = c.requires in
    omega (arith, seen, kept, long, fit)

pub overflow_add-number : goal.overflow_add-number
overflow_add-number c = let seen = c.len.ensures in let kept = c.in_ok-reserve.ensures.len in let long = c.args.nodes.now.ok.0 in let fit = c.requires in
    omega (arith, seen, kept, long, fit)

pub overflow_add-number-2 : goal.overflow_add-number-2
overflow_add-number-2 c = let seen = c.len.ensures in let kept = c.in_ok-reserve.ensures.len in let long = c.args.nodes.now.ok.0 in let fit = c.requires in
    omega (arith, seen, kept, long, fit)

pub push_reserved-requires : goal.push_reserved-requires
push_reserved-requires c = let room = c.in_ok-reserve-2.ensures.ok in omega (arith, room)

pub push_reserved-requires-2 : goal.push_reserved-requires-2
push_reserved-requires-2 c = let room = c.in_ok-reserve.ensures.ok in omega (arith, room)

pub push_reserved-requires-3 : goal.push_reserved-requires-3
push_reserved-requires-3 c = let room = c.in_ok-reserve.ensures.ok in let long = c.push_reserved-2.ensures.len in let same =
    c.push_reserved-2.ensures.capacity in omega (arith, room, long, same)

pub returns-clause-nodes : goal.returns-clause-nodes
returns-clause-nodes c =
    let number = ap (λ n. c.args.base + n) (c.len.ensures ∙ c.in_ok-reserve.ensures.len ∙ c.args.nodes.now.ok.0) in
    pack_opened c.args.base c.args.level c.args.next.rate _ c.args.next.kind c.args.nodes.now.items _ _ _ _ _ c.in_ok-reserve.ensures.items number
    c.in_ok-pack.ensures c.member.ensures
    c.push_reserved-2.ensures.items c.push_reserved-3.ensures.items

pub returns-clause-packs : goal.returns-clause-packs
returns-clause-packs c =
    let number = ap (λ n. c.args.base + n) (c.len.ensures ∙ c.in_ok-reserve.ensures.len ∙ c.args.nodes.now.ok.0) in
    c.push_reserved.ensures.items ∙ ap (λ xs. xs ++ (c.args.base + c.len.result) ∷ []) c.in_ok-reserve-2.ensures.items
    ∙ ap (λ n. c.args.packs.now.items ++ n ∷ []) number
