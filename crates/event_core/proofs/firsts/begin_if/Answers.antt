use Rattle.std.proofs.Common.{arith, length, refl, subst, ◌<◌}
use Rattle.std.proofs.Common.{sym, ap, not, ◌∙◌}
use Rattle.run_tree.specs.Tree.{Tree, is_pack, kind_at}
use Rattle.event_core.proofs.FirstLemmas.{member_is}
use Rattle.event_core.proofs.firsts.begin_if.Goals as goal

pub begin_one-requires-clause-member : goal.begin_one-requires-clause-member
begin_one-requires-clause-member c = member_is c.args.plan.now.tree c.args.n.0 c.requires.node
    (sym (c.is_member.ensures ∙ ap (λ (t : Tree). not (is_pack (kind_at t c.args.n.0))) c.tree.ensures.value) ∙ c.if-is_member.true)

pub begin_one-requires-clause-place : goal.begin_one-requires-clause-place
begin_one-requires-clause-place c = c.requires.place (member_is c.args.plan.now.tree c.args.n.0 c.requires.node
    (sym (c.is_member.ensures ∙ ap (λ (t : Tree). not (is_pack (kind_at t c.args.n.0))) c.tree.ensures.value) ∙ c.if-is_member.true))

pub begin_one-requires-clause-plan : goal.begin_one-requires-clause-plan
begin_one-requires-clause-plan c = c.requires.plan

pub begin_one-requires-clause-calendar : goal.begin_one-requires-clause-calendar
begin_one-requires-clause-calendar c = c.requires.calendar

pub begin_one-requires-clause-nodes : goal.begin_one-requires-clause-nodes
begin_one-requires-clause-nodes c = c.requires.nodes

pub begin_one-requires-clause-ready : goal.begin_one-requires-clause-ready
begin_one-requires-clause-ready c = c.requires.ready

pub begin_one-requires-clause-stale : goal.begin_one-requires-clause-stale
begin_one-requires-clause-stale c = c.requires.stale

pub is_member-requires : goal.is_member-requires
is_member-requires c = subst (λ (t : Tree). c.args.n.0 < length t.nodes) (sym c.tree.ensures.value) c.requires.node

pub begin_one-requires-clause-early : goal.begin_one-requires-clause-early
begin_one-requires-clause-early c = let first = c.requires.first in omega (arith, first)

pub returns-then-is_member-clause-tick : goal.returns-then-is_member-clause-tick
returns-then-is_member-clause-tick c = c.begin_one.ensures.tick ∙ c.requires.first

pub returns-then-is_member-clause-runs : goal.returns-then-is_member-clause-runs
returns-then-is_member-clause-runs c = c.begin_one.ensures.runs

pub returns-then-is_member-clause-remains : goal.returns-then-is_member-clause-remains
returns-then-is_member-clause-remains c = λ _. c.begin_one.ensures.remains

pub returns-then-is_member-clause-ready : goal.returns-then-is_member-clause-ready
returns-then-is_member-clause-ready c = λ _. c.begin_one.ensures.ready

pub returns-then-is_member-clause-stale : goal.returns-then-is_member-clause-stale
returns-then-is_member-clause-stale c = λ _. c.begin_one.ensures.stale

pub returns-else-is_member-clause-tick : goal.returns-else-is_member-clause-tick
returns-else-is_member-clause-tick c = c.requires.first

pub returns-else-is_member-clause-runs : goal.returns-else-is_member-clause-runs
returns-else-is_member-clause-runs c = refl

pub returns-else-is_member-clause-pack : goal.returns-else-is_member-clause-pack
returns-else-is_member-clause-pack c = λ _. (refl, refl, refl)
