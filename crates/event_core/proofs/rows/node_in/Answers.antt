use Rattle.std.proofs.Common.{sym, ap, subst, length, ◌<◌, ◌≡◌, ◌∙◌, ℕ, Option, None, Some}
use Rattle.sched_base.specs.Candidates.{is_at}
use Rattle.sched_base.specs.declared.rows.NodeId.{NodeId}
use Rattle.run_tree.specs.Tree.{leaf, members}
use Rattle.event_core.proofs.KeptLemmas.{leaf_none, leaf_one}
use Rattle.event_core.proofs.rows.node_in.Goals as goal

pub returns-in-None-clause-none : goal.returns-in-None-clause-none
returns-in-None-clause-none c = λ _.
    sym (leaf_none c.args.plan.now.tree c.args.serving.now.runs (members c.args.plan.now.tree c.args.pack.0)
    (λ k l. c.requires.serving.at c.args.pack.0 k c.requires.pack l ∙ ap (λ (o : Option ℕ). is_at o k) (sym c.served.ensures ∙ c.in-None.is)))

pub returns-in-Some-clause-some : goal.returns-in-Some-clause-some
returns-in-Some-clause-some c = λ n e.
    let serves = sym c.served.ensures ∙ c.in-Some.is in
    let e' : Some c.member_of.result ≡ Some n = e in
    let same : c.member_of.result ≡ n = cc in
    sym (leaf_one c.args.plan.now.tree c.args.serving.now.runs (members c.args.plan.now.tree c.args.pack.0) c.in-Some.k (c.requires.serving.within
    c.args.pack.0 c.in-Some.k c.requires.pack serves)
    (λ k l. c.requires.serving.at c.args.pack.0 k c.requires.pack l ∙ ap (λ (o : Option ℕ). is_at o k) serves))
    ∙ ap (leaf c.args.plan.now.tree) (sym c.member_of.ensures.value) ∙ ap (λ (x : NodeId). leaf c.args.plan.now.tree x.0) same

pub served-requires : goal.served-requires
served-requires c = subst (λ n. c.args.pack.0 < n) (sym c.requires.serves) c.requires.pack.0

pub member_of-requires-clause-plan : goal.member_of-requires-clause-plan
member_of-requires-clause-plan c = c.requires.plan

pub member_of-requires-clause-pack : goal.member_of-requires-clause-pack
member_of-requires-clause-pack c = c.requires.pack

pub member_of-requires-clause-member : goal.member_of-requires-clause-member
member_of-requires-clause-member c = c.requires.serving.within c.args.pack.0 c.in-Some.k c.requires.pack (sym c.served.ensures ∙ c.in-Some.is)

pub returns-in-None-clause-some : goal.returns-in-None-clause-some
returns-in-None-clause-some c = λ n e. absurd (let e' : None ≡ Some n = e in cc)

pub returns-in-None-clause-within : goal.returns-in-None-clause-within
returns-in-None-clause-within c = λ n e. absurd (let e' : None ≡ Some n = e in cc)

pub returns-in-Some-clause-none : goal.returns-in-Some-clause-none
returns-in-Some-clause-none c = λ e. absurd (let e' : Some c.member_of.result ≡ None = e in cc)

pub returns-in-Some-clause-within : goal.returns-in-Some-clause-within
returns-in-Some-clause-within c = λ n e.
    let e' : Some c.member_of.result ≡ Some n = e in
    let same : c.member_of.result ≡ n = cc in
    subst (λ (x : NodeId). x.0 < length c.args.plan.now.tree.nodes) same c.member_of.ensures.within
