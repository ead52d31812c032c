use Rattle.std.proofs.Common.{◌≡◌, ◌∙◌, map, get_or, ap, subst, List, ℕ, OnOk, refl, length, arith}
use Rattle.run_tree.specs.Making.{Making, lifted}
use Rattle.run_tree.specs.Maker.{IsMaker, packs_named}
use Rattle.run_tree.proofs.MakerLemmas.{named_have}
use Rattle.std.proofs.lemmas.Result.{IfOk-from_err, MatchResult-from_err}
use Rattle.run_tree.proofs.maker.TreeMaker.lift_order.Goals as goal

pub raise-requires-clause-few : goal.raise-requires-clause-few
raise-requires-clause-few c =
    let named : c.deref.result.now ≡ packs_named c.args.self.now c.args.order.now = c.deref.ensures.value ∙ c.in_ok-packs.ensures
    ∙ ap (λ ps. map (λ i. get_or ps i 0) c.args.order.now) c.packs.ensures ∙ ap (λ (m : Making). packs_named m c.args.order.now) c.self.view_is in
    (named_have c.self.inside.lower.items c.args.self.now c.args.order.now c.deref.result.now (subst (IsMaker c.self.inside.lower.items) c.self.view_is
    c.self.invariant) c.requires.order named).few

pub raise-requires-clause-packs : goal.raise-requires-clause-packs
raise-requires-clause-packs c =
    let named : c.deref.result.now ≡ packs_named c.args.self.now c.args.order.now = c.deref.ensures.value ∙ c.in_ok-packs.ensures
    ∙ ap (λ ps. map (λ i. get_or ps i 0) c.args.order.now) c.packs.ensures ∙ ap (λ (m : Making). packs_named m c.args.order.now) c.self.view_is in
    (named_have c.self.inside.lower.items c.args.self.now c.args.order.now c.deref.result.now (subst (IsMaker c.self.inside.lower.items) c.self.view_is
    c.self.invariant) c.requires.order named).nodes

pub raise-requires-clause-rates : goal.raise-requires-clause-rates
raise-requires-clause-rates c =
    let named : c.deref.result.now ≡ packs_named c.args.self.now c.args.order.now = c.deref.ensures.value ∙ c.in_ok-packs.ensures
    ∙ ap (λ ps. map (λ i. get_or ps i 0) c.args.order.now) c.packs.ensures ∙ ap (λ (m : Making). packs_named m c.args.order.now) c.self.view_is in
    (named_have c.self.inside.lower.items c.args.self.now c.args.order.now c.deref.result.now (subst (IsMaker c.self.inside.lower.items) c.self.view_is
    c.self.invariant) c.requires.order named).rates

pub returns-in_err-packs-clause-ok : goal.returns-in_err-packs-clause-ok
returns-in_err-packs-clause-ok c = IfOk-from_err _ _ c.from_residual.ensures.0

pub returns-in_err-packs-clause-err : goal.returns-in_err-packs-clause-err
returns-in_err-packs-clause-err c = MatchResult-from_err _ _ _ c.from_residual.ensures.0 (λ _. refl)

pub raise-requires-clause-few_levels : goal.raise-requires-clause-few_levels
raise-requires-clause-few_levels c = c.requires.few_levels

pub named_of-requires : goal.named_of-requires
named_of-requires c = λ k l. (let b = (c.requires.order.lower k l).0 in let long = ap length c.packs.ensures in let last =
    ap (λ (m : Making). length m.last) c.self.view_is in omega (arith, b, long, last))

pub returns-clause-ok : goal.returns-clause-ok
returns-clause-ok c =
    let named : c.deref.result.now ≡ packs_named c.args.self.now c.args.order.now = c.deref.ensures.value ∙ c.in_ok-packs.ensures
    ∙ ap (λ ps. map (λ i. get_or ps i 0) c.args.order.now) c.packs.ensures ∙ ap (λ (m : Making). packs_named m c.args.order.now) c.self.view_is in
    subst (λ (ps : List ℕ). OnOk c.raise.result (c.raise.new.self ≡ lifted ps c.args.homes.now c.args.self.now)) named c.raise.ensures.ok

pub returns-clause-err : goal.returns-clause-err
returns-clause-err c = c.raise.ensures.err
