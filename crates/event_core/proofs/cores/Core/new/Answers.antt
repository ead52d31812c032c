use Rattle.std.proofs.Common.{arith}
use Rattle.event_core.specs.States.{contents}
use Rattle.event_core.proofs.OneRound.{last_long}
use Rattle.event_core.proofs.cores.Core.new.Goals as goal

pub invariant_of-result : goal.invariant_of-result
invariant_of-result c =
    let p = c.args.plan.now in
    let h = c.know_lawful.ensures.lawful in
    let first = c.in_ok-state.ensures.0 in
    let at = c.in_ok-state.ensures.1.at in
    let room = c.in_ok-changes.ensures.room in
    let packs = c.pack_count.ensures in
    let last = last_long p h (contents c.in_ok-state.state) at in
    (omega (arith, room, packs, last), omega (arith, first))
