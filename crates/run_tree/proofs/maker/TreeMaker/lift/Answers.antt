use Rattle.std.proofs.Common.{◌≡◌, ◌∙◌, filter, nat_lt, length, get_or, ap, ap₂, subst, arith, sym, List, ℕ, OnOk, refl}
use Rattle.run_tree.specs.Making.{lifted, lower_packs}
use Rattle.run_tree.specs.Growth.{node_in}
use Rattle.run_tree.specs.Maker.{IsMaker}
use Rattle.run_tree.proofs.MakerLemmas.{last_in, lower_have}
use Rattle.std.proofs.lemmas.Result.{IfOk-from_err, MatchResult-from_err}
use Rattle.run_tree.proofs.maker.TreeMaker.lift.Goals as goal

pub lower_of-requires : goal.lower_of-requires
lower_of-requires c = λ i l.
    let r = last_in c.self.inside.lower.items _ c.self.invariant.levels i (omega (arith, l, ap length c.packs.ensures)) in
    omega (arith, r, ap length c.nodes.ensures, ap (λ xs. get_or xs i 0) c.packs.ensures)

pub raise-requires-clause-few : goal.raise-requires-clause-few
raise-requires-clause-few c =
    let found : c.deref.result.now ≡ lower_packs c.args.self.now = c.deref.ensures.value ∙ c.in_ok-packs.ensures
    ∙ ap₂ (λ ns ps. filter (λ p. nat_lt (node_in ns p).rate c.self.inside.scale) ps) c.nodes.ensures c.packs.ensures ∙ ap lower_packs c.self.view_is in
    (lower_have c.self.inside.lower.items c.args.self.now c.deref.result.now (subst (IsMaker c.self.inside.lower.items) c.self.view_is c.self.invariant)
    found).few

pub raise-requires-clause-packs : goal.raise-requires-clause-packs
raise-requires-clause-packs c =
    let found : c.deref.result.now ≡ lower_packs c.args.self.now = c.deref.ensures.value ∙ c.in_ok-packs.ensures
    ∙ ap₂ (λ ns ps. filter (λ p. nat_lt (node_in ns p).rate c.self.inside.scale) ps) c.nodes.ensures c.packs.ensures ∙ ap lower_packs c.self.view_is in
    (lower_have c.self.inside.lower.items c.args.self.now c.deref.result.now (subst (IsMaker c.self.inside.lower.items) c.self.view_is c.self.invariant)
    found).nodes

pub raise-requires-clause-rates : goal.raise-requires-clause-rates
raise-requires-clause-rates c =
    let found : c.deref.result.now ≡ lower_packs c.args.self.now = c.deref.ensures.value ∙ c.in_ok-packs.ensures
    ∙ ap₂ (λ ns ps. filter (λ p. nat_lt (node_in ns p).rate c.self.inside.scale) ps) c.nodes.ensures c.packs.ensures ∙ ap lower_packs c.self.view_is in
    (lower_have c.self.inside.lower.items c.args.self.now c.deref.result.now (subst (IsMaker c.self.inside.lower.items) c.self.view_is c.self.invariant)
    found).rates

pub returns-in_err-packs-clause-ok : goal.returns-in_err-packs-clause-ok
returns-in_err-packs-clause-ok c = IfOk-from_err _ _ c.from_residual.ensures.0

pub returns-in_err-packs-clause-err : goal.returns-in_err-packs-clause-err
returns-in_err-packs-clause-err c = MatchResult-from_err _ _ _ c.from_residual.ensures.0 (λ _. refl)

pub raise-requires-clause-few_levels : goal.raise-requires-clause-few_levels
raise-requires-clause-few_levels c = c.requires.few_levels

pub raise-requires-clause-homes : goal.raise-requires-clause-homes
raise-requires-clause-homes c = let found : c.deref.result.now ≡ lower_packs c.args.self.now = c.deref.ensures.value ∙ c.in_ok-packs.ensures
    ∙ ap₂ (λ ns ps. filter (λ p. nat_lt (node_in ns p).rate c.self.inside.scale) ps) c.nodes.ensures c.packs.ensures ∙ ap lower_packs c.self.view_is in
    c.requires.homes ∙ ap length (sym found)

pub returns-clause-ok : goal.returns-clause-ok
returns-clause-ok c =
    let found : c.deref.result.now ≡ lower_packs c.args.self.now = c.deref.ensures.value ∙ c.in_ok-packs.ensures
    ∙ ap₂ (λ ns ps. filter (λ p. nat_lt (node_in ns p).rate c.self.inside.scale) ps) c.nodes.ensures c.packs.ensures ∙ ap lower_packs c.self.view_is in
    subst (λ (ps : List ℕ). OnOk c.raise.result (c.raise.new.self ≡ lifted ps c.args.homes.now c.args.self.now)) found c.raise.ensures.ok

pub returns-clause-err : goal.returns-clause-err
returns-clause-err c = c.raise.ensures.err

pub same-self : goal.same-self
same-self c = refl
