use Rattle.std.proofs.Common.{◌+◌, ◌<◌, ap, arith, length, set, subst, sym, ◌∙◌}
use Rattle.std.proofs.lemmas.List.{length-map, set-get_or}
use Rattle.std.proofs.lemmas.Result.{IfOk-from_err, MatchResult-from_err}
use Rattle.sched_base.specs.declared.rows.NodeId.{NodeId}
use Rattle.run_tree.specs.Tree.{Node}
use Rattle.run_tree.specs.Growth.{node_in}
use Rattle.run_tree.proofs.Grown.{member_joined}
use Rattle.run_tree.proofs.NodeReads.{read_node}
use Rattle.run_tree.proofs.growth.join.Goals as goal

pub returns-in_err-reserve-clause-ok : goal.returns-in_err-reserve-clause-ok
returns-in_err-reserve-clause-ok c = IfOk-from_err _ _ c.from_residual.ensures.0

pub returns-in_err-reserve-clause-err : goal.returns-in_err-reserve-clause-err
returns-in_err-reserve-clause-err c = MatchResult-from_err _ _ _ c.from_residual.ensures.0 (λ _. c.in_err-reserve.ensures.items)

pub returns-in_err-join-clause-ok : goal.returns-in_err-join-clause-ok
returns-in_err-join-clause-ok c = IfOk-from_err _ _ c.from_residual-in_err-join.ensures.0

pub overflow_cast-number : goal.overflow_cast-number
overflow_cast-number c = let seen = c.len.ensures in let kept = c.in_ok-reserve.ensures.len in let long = c.args.nodes.now.ok.0 in
    let fit = c.requires.numbers_fit in omega (arith, seen, kept, long, fit)

pub overflow_add-number : goal.overflow_add-number
overflow_add-number c = let seen = c.len.ensures in let kept = c.in_ok-reserve.ensures.len in let long = c.args.nodes.now.ok.0 in
    let fit = c.requires.numbers_fit in omega (arith, seen, kept, long, fit)

pub index_mut-pack-requires : goal.index_mut-pack-requires
index_mut-pack-requires c = let kept = c.in_ok-reserve.ensures.len in let long = c.args.nodes.now.ok.0 in let pack = c.requires.pack in
    omega (arith, kept, long, pack)

pub join-requires : goal.join-requires
join-requires c =
    let old = c.args.nodes.now.items in
    let within : c.args.place < length c.reserve.new.self.items = subst (λ xs. c.args.place < length xs) (sym c.in_ok-reserve.ensures.items) c.requires.pack in
    let pack = read_node _ c.args.place _ within c.index_mut-pack.ensures.value ∙ ap (λ xs. node_in xs c.args.place) c.in_ok-reserve.ensures.items in
    subst (λ (n : Node). n.rate + c.args.next.rate < 340282366920938463463374607431768211456) (sym pack) c.requires.rate_fits

pub overflow_cast-members : goal.overflow_cast-members
overflow_cast-members c =
    let within : c.args.place < length c.reserve.new.self.items = subst (λ xs. c.args.place < length xs) (sym c.in_ok-reserve.ensures.items) c.requires.pack in
    let pack = read_node _ c.args.place _ within c.index_mut-pack.ensures.value ∙ ap (λ xs. node_in xs c.args.place) c.in_ok-reserve.ensures.items in
    let count = sym (length-map c.members.result.now (λ (n : NodeId). n.0)) ∙ ap length c.members.ensures ∙ ap (λ (n : Node). length n.members) pack in
    let fit = c.requires.members_fit in
    omega (arith, count, fit)

pub returns-in_err-join-clause-err : goal.returns-in_err-join-clause-err
returns-in_err-join-clause-err c = MatchResult-from_err _ _ _ c.from_residual-in_err-join.ensures.0
    (λ _. ap (set c.reserve.new.self.items c.args.place) (c.in_err-join.ensures.err ∙ c.index_mut-pack.ensures.value) ∙ set-get_or c.reserve.new.self.items
    c.args.place _ ∙ c.in_ok-reserve.ensures.items)

pub overflow_cast-head : goal.overflow_cast-head
overflow_cast-head c = let fit = c.requires.numbers_fit in let pack = c.requires.pack in omega (arith, fit, pack)

pub overflow_add-head : goal.overflow_add-head
overflow_add-head c = let fit = c.requires.numbers_fit in let pack = c.requires.pack in omega (arith, fit, pack)

pub push_reserved-requires : goal.push_reserved-requires
push_reserved-requires c = let room = c.in_ok-reserve.ensures.ok in omega (arith, room)

pub returns-clause-ok : goal.returns-clause-ok
returns-clause-ok c =
    let within : c.args.place < length c.reserve.new.self.items = subst (λ xs. c.args.place < length xs) (sym c.in_ok-reserve.ensures.items) c.requires.pack in
    let pack = read_node _ c.args.place _ within c.index_mut-pack.ensures.value ∙ ap (λ xs. node_in xs c.args.place) c.in_ok-reserve.ensures.items in
    let number = ap (λ n. c.args.base + n) (c.len.ensures ∙ c.in_ok-reserve.ensures.len ∙ c.args.nodes.now.ok.0) in
    member_joined c.args.base c.args.place c.args.next.rate _ _ c.args.next.kind c.args.nodes.now.items _ _ _ _ _ c.in_ok-reserve.ensures.items pack number
    (sym (length-map c.members.result.now (λ (n : NodeId). n.0)) ∙ ap length c.members.ensures) c.in_ok-join.ensures.ok c.member.ensures
    c.push_reserved.ensures.items
