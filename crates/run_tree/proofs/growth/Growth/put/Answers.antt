use Rattle.std.proofs.Common.{ap, ap₂, length, List, ℕ, ◌∙◌, OnOk, Result, Ok, Err, arith}
use Rattle.std.proofs.lemmas.Result.{on_ok_weaker, on_err_weaker}
use Rattle.run_tree.specs.Tree.{Node}
use Rattle.run_tree.specs.Growth.{Growth, grown}
use Rattle.run_tree.proofs.Grown.{old_pack, put_old_is, put_new_is}
use Rattle.run_tree.proofs.growth.Growth.put.Goals as goal

pub returns-then-b-len-clause-ok : goal.returns-then-b-len-clause-ok
returns-then-b-len-clause-ok c =
    let g : Growth = record { nodes = c.self.inside.nodes.items; packs = c.self.inside.packs.items } in
    on_ok_weaker c.join.result (λ made. put_old_is c.args.base c.args.level c.args.next.kind c.args.next.rate c.args.b c.index.result.now g
    c.join.new.nodes.items (omega arith) c.index.ensures made
    ∙ ap (grown c.args.base c.args.level c.args.next.kind c.args.next.rate c.args.b) c.self.view_is) c.join.ensures.ok

both : {T E : Type 0} (P Q : Type 0) (r : Result T E) → OnOk r P → OnOk r Q → OnOk r (P × Q)
both P Q (Ok x) p q = (p, q)
both P Q (Err e) p q = tt

pub returns-else-b-len-clause-ok : goal.returns-else-b-len-clause-ok
returns-else-b-len-clause-ok c =
    let g : Growth = record { nodes = c.self.inside.nodes.items; packs = c.self.inside.packs.items } in
    on_ok_weaker c.open.result (λ made. put_new_is c.args.base c.args.level c.args.next.kind c.args.next.rate c.args.b g c.open.new.nodes.items
    c.open.new.packs.items (omega arith) made.0 made.1
    ∙ ap (grown c.args.base c.args.level c.args.next.kind c.args.next.rate c.args.b) c.self.view_is) (both _ _ c.open.result c.open.ensures.nodes
    c.open.ensures.packs)

pub overflow_sub-place : goal.overflow_sub-place
overflow_sub-place c =
    let g : Growth = record { nodes = c.self.inside.nodes.items; packs = c.self.inside.packs.items } in
    let old = old_pack c.args.base c.args.next.rate c.args.b c.index.result.now g c.args.self.now c.self.view_is (omega arith) c.index.ensures
    c.requires.packs c.requires.rate_fits c.requires.members_fit in
    old.from

pub join-requires-clause-pack : goal.join-requires-clause-pack
join-requires-clause-pack c =
    let g : Growth = record { nodes = c.self.inside.nodes.items; packs = c.self.inside.packs.items } in
    let old = old_pack c.args.base c.args.next.rate c.args.b c.index.result.now g c.args.self.now c.self.view_is (omega arith) c.index.ensures
    c.requires.packs c.requires.rate_fits c.requires.members_fit in
    old.within

pub join-requires-clause-rate_fits : goal.join-requires-clause-rate_fits
join-requires-clause-rate_fits c =
    let g : Growth = record { nodes = c.self.inside.nodes.items; packs = c.self.inside.packs.items } in
    let old = old_pack c.args.base c.args.next.rate c.args.b c.index.result.now g c.args.self.now c.self.view_is (omega arith) c.index.ensures
    c.requires.packs c.requires.rate_fits c.requires.members_fit in
    old.rate_fits

pub join-requires-clause-members_fit : goal.join-requires-clause-members_fit
join-requires-clause-members_fit c =
    let g : Growth = record { nodes = c.self.inside.nodes.items; packs = c.self.inside.packs.items } in
    let old = old_pack c.args.base c.args.next.rate c.args.b c.index.result.now g c.args.self.now c.self.view_is (omega arith) c.index.ensures
    c.requires.packs c.requires.rate_fits c.requires.members_fit in
    old.members_fit

pub join-requires-clause-numbers_fit : goal.join-requires-clause-numbers_fit
join-requires-clause-numbers_fit c = let long = ap (λ (g : Growth). length g.nodes) c.self.view_is in let fit = c.requires.numbers_fit in
    omega (arith, long, fit)

pub open-requires : goal.open-requires
open-requires c = let long = ap (λ (g : Growth). length g.nodes) c.self.view_is in let fit = c.requires.numbers_fit in omega (arith, long, fit)

pub returns-then-b-len-clause-err : goal.returns-then-b-len-clause-err
returns-then-b-len-clause-err c =
    let made : List Node → Growth = λ (nodes : List Node). record { nodes = nodes; packs = c.self.inside.packs.items } in
    on_err_weaker c.join.result (λ same. ap made same ∙ c.self.view_is) c.join.ensures.err

pub returns-else-b-len-clause-err : goal.returns-else-b-len-clause-err
returns-else-b-len-clause-err c =
    let made : List Node → List ℕ → Growth = λ (nodes : List Node) (packs : List ℕ). record { nodes = nodes; packs = packs } in
    on_err_weaker c.open.result (λ same. ap₂ made same.0 same.1 ∙ c.self.view_is) c.open.ensures.err

pub index-requires : goal.index-requires
index-requires c = let test = c.if-b-len.true in let seen = c.len.ensures in omega (arith, test, seen)
