use Rattle.std.proofs.Common.{◌≡◌, ◌<◌, ◌++◌, ◌∙◌, codes, decimal, length, get_or, ap, sym, subst, arith, le_refl, le_trans}
use Rattle.std.proofs.lemmas.List.{get_or_default}
use Rattle.sched_base.specs.declared.rows.NodeId.{NodeId}
use Rattle.sched_edges.proofs.Wrote.{wrote_part}
use Rattle.run_tree.specs.Tree.{IsMember, members}
use Rattle.run_tree.proofs.NodeReads.{length-members, member_at}
use Rattle.sched_edges.proofs.CauseLemmas.{cause_cut, cause_then}
use Rattle.tree_text.proofs.PieceLemmas.{added_none, pack_start, pack_next, pack_cut, pack_done}
use Rattle.tree_text.proofs.packs.write_pack.Goals as goal

pub loop-member-init : goal.loop-member-init
loop-member-init g c =
    let told = rw c.tree.ensures.value at c.rate.ensures.value in
    let line : c.start_of_pack-line.result ≡ pack_start c.args.plan.now c.args.pack.0 = c.start_of_pack-line.ensures ∙ ap (λ r. codes "pack " ++ decimal r)
    told in
    (rw line (added_none _ (pack_start c.args.plan.now c.args.pack.0)), le_refl _)

pub spaced_word-word-requires : goal.spaced_word-word-requires
spaced_word-word-requires g c =
    let tree = c.args.plan.now.tree in
    let ids = c.members-member-items.result.now in
    let all = rw c.tree-2.ensures.value at c.members-member-items.ensures in
    let count = length-members tree c.args.pack.0 ids all in
    let within : c.loop-member.member-index < length (members tree c.args.pack.0) = omega (arith, count, c.loop-member-test.true) in
    let standing = c.tree-2.ensures.lawful.tree.tree.members_are c.args.pack.0 c.loop-member.member-index c.requires within in
    subst (IsMember tree) (sym (member_at tree c.args.pack.0 c.loop-member.member-index ids all)) standing.0

pub returns-in_err-add-clause-wrote : goal.returns-in_err-add-clause-wrote
returns-in_err-add-clause-wrote g c =
    let all = rw c.tree-2.ensures.value at c.members-member-items.ensures in
    wrote_part _ _ _ _ c.from_residual.ensures.0
    (pack_cut c.args.plan.now c.args.pack.0 c.members-member-items.result.now all c.loop-member.member-index _ _ _ c.loop-member.line
    c.loop-member.invariant.0 c.in_err-add.ensures.err)

pub loop-member-preserved : goal.loop-member-preserved
loop-member-preserved g c =
    let ids = c.members-member-items.result.now in
    let none : NodeId = record { 0 = 0 } in
    let x : NodeId = get_or ids c.loop-member.member-index none in
    let all = rw c.tree-2.ensures.value at c.members-member-items.ensures in
    let at = get_or_default ids c.loop-member.member-index none x c.loop-member-test.true in
    let added = rw (c.as_slice.ensures.bytes, c.spaced_word-word.ensures) at c.in_ok-add.ensures.ok in
    let before = c.loop-member.invariant.1 in
    let later = c.add.ensures.cause.later in (
      pack_next c.args.plan.now c.args.pack.0 ids all c.loop-member.member-index x _ _ _ c.loop-member.line c.add.new.line c.loop-member-test.true at
          c.loop-member.invariant.0 added,
      omega (arith, before, later),
    )

pub returns-in_err-add-2-clause-wrote : goal.returns-in_err-add-2-clause-wrote
returns-in_err-add-2-clause-wrote g c =
    let all = rw c.tree-2.ensures.value at c.members-member-items.ensures in
    wrote_part _ _ _ _ c.from_residual-in_err-add-2.ensures.0
    (pack_cut c.args.plan.now c.args.pack.0 c.members-member-items.result.now all c.loop-member.member-index _ _ _ c.loop-member.line
    c.loop-member.invariant.0 c.in_err-add-2.ensures.err)

pub returns-clause-wrote : goal.returns-clause-wrote
returns-clause-wrote g c =
    let all = rw c.tree-2.ensures.value at c.members-member-items.ensures in
    let wrote = rw c.as_slice-2.ensures.bytes at c.write_all.ensures.wrote in
    pack_done c.args.plan.now c.args.pack.0 c.members-member-items.result.now all c.loop-member.member-index _ _ _ _ c.loop-member.line c.add-2.new.line _
    c.loop-member-test.false c.loop-member.invariant.0 c.in_ok-add-2.ensures.ok wrote

pub returns-in_err-add-clause-cause : goal.returns-in_err-add-clause-cause
returns-in_err-add-clause-cause g c = cause_cut _ _ _ _ _ c.loop-member.invariant.1 c.in_err-add.ensures.cause

pub returns-in_err-add-2-clause-cause : goal.returns-in_err-add-2-clause-cause
returns-in_err-add-2-clause-cause g c = cause_cut _ _ _ _ _ c.loop-member.invariant.1 c.in_err-add-2.ensures.cause

pub returns-clause-cause : goal.returns-clause-cause
returns-clause-cause g c = cause_then _ _ _ _ (le_trans c.loop-member.invariant.1 c.add-2.ensures.cause.later) c.write_all.ensures.cause
