use Rattle.std.proofs.Common.{◌≡◌, ◌∙◌, List, ℕ, length, replicate, subst, sym}
use Rattle.sched_base.specs.Tables.{all_rows}
use Rattle.table_text.specs.Given.{HaveRoomFor}
use Rattle.table_text.proofs.GivenLemmas.{room_of_zeros}
use Rattle.table_text.proofs.given.given_each.Goals as goal

pub add_lanes-requires-clause-room : goal.add_lanes-requires-clause-room
add_lanes-requires-clause-room c =
    let tasks = c.args.tasks.now in
    let rows = all_rows c.args.rows.now.lanes in
    let zeros : c.deref_mut.result.now ≡ replicate (length tasks) 0 = c.deref_mut.ensures.value ∙ c.in_ok-sums.ensures in
    subst (λ (sums : List ℕ). HaveRoomFor c.args.look tasks rows sums) (sym zeros)
    (room_of_zeros c.args.look tasks c.requires.small (length tasks) rows c.requires.few)
