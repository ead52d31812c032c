use Rattle.std.proofs.Common.{◌<◌, length, sym, get_or, arith}
use Rattle.std.proofs.lemmas.Option.{slice_get-get_or}
use Rattle.sched_base.proofs.LaneLemmas.{with_leaves-none, get_or-with_leaves, with_leaves-more}
use Rattle.sched_base.proofs.columns.push_leaves.Goals as goal

pub loop-p-init : goal.loop-p-init
loop-p-init c = sym (with_leaves-none c.args.lanes.now)

pub push-requires : goal.push-requires
push-requires c =
    let lane = c.index-lanes-p.result in
    let within : c.loop-p.p < length c.args.lanes.now = omega (arith, c.requires.whole) in
    rw (c.loop-p.invariant, get_or-with_leaves c.args.lanes.now c.args.rows.now c.loop-p.p lane within) (c.requires.room c.loop-p.p (get_or c.args.lanes.now
    c.loop-p.p lane) (slice_get-get_or c.args.lanes.now c.loop-p.p lane within))

pub loop-p-preserved : goal.loop-p-preserved
loop-p-preserved c =
    let lane = c.index-lanes-p.result in
    let within : c.loop-p.p < length c.args.lanes.now = omega (arith, c.requires.whole) in
    rw (c.push.ensures, c.loop-p.invariant, get_or-with_leaves c.args.lanes.now c.args.rows.now c.loop-p.p lane within) (with_leaves-more c.args.lanes.now
    c.args.rows.now c.loop-p.p lane _ within c.loop-p-test.true)
