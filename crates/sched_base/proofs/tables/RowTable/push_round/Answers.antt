use Rattle.std.proofs.Common.{◌≡◌, ◌∙◌, ap, sym, subst, length}
use Rattle.sched_base.specs.Tables.{Table, IsRound, end_of, lanes_held, with_round}
use Rattle.sched_base.proofs.LaneLemmas.{length-with_leaves, HaveRoom-with_leaves, written_back}
use Rattle.sched_base.proofs.ColumnLemmas.{length-lanes_held, lanes_held-with_round, AreFilled-with_leaves, ends_room}
use Rattle.sched_base.proofs.TableLemmas.{IsTable-with_round}
use Rattle.sched_base.proofs.tables.RowTable.push_round.Goals as goal

pub invariant_of-self : goal.invariant_of-self
invariant_of-self c =
    let held = c.self.inside.ends in
    let lanes = c.self.inside.lanes.items in
    let rows = c.args.rows.now in
    let whole : length rows ≡ length (lanes_held 0 held.ends lanes) = subst (λ (t : Table). length rows ≡ length t.lanes) (sym c.self.view_is)
    c.requires.whole in
    let each : length rows ≡ length lanes = whole ∙ length-lanes_held 0 held.ends lanes in
    let round : IsRound (end_of (lanes_held 0 held.ends lanes)) rows = subst (λ (t : Table). IsRound (end_of t.lanes) rows) (sym c.self.view_is)
    c.requires.round in
    rw (
      written_back lanes c.as_mut_slice.result.now c.push_leaves.new.lanes rows c.self.inside.lanes.len c.as_mut_slice.ensures.value
          c.as_mut_slice.ensures.len c.push_leaves.auto.lanes c.push_leaves.ensures,
      c.push.ensures,
    ) (record {
      few = rw length-with_leaves c.self.invariant.few;
      filled = AreFilled-with_leaves held lanes rows each c.self.invariant.filled;
      table = rw (lanes_held-with_round held lanes rows each c.self.invariant.filled round) (IsTable-with_round (lanes_held 0 held.ends lanes) rows
          c.self.invariant.table whole round);
      reserved = HaveRoom-with_leaves c.self.inside.room lanes rows c.self.invariant.reserved;
      ends_reserved = ends_room c.self.inside.room held rows c.self.invariant.ends_reserved;
    })

pub push_leaves-requires-clause-whole : goal.push_leaves-requires-clause-whole
push_leaves-requires-clause-whole c =
    let held = c.self.inside.ends in
    let lanes = c.self.inside.lanes.items in
    c.requires.whole ∙ ap (λ (t : Table). length t.lanes) (sym c.self.view_is) ∙ length-lanes_held 0 held.ends lanes
    ∙ ap length (sym c.as_mut_slice.ensures.value)

pub returns-clause-lanes : goal.returns-clause-lanes
returns-clause-lanes c =
    let held = c.self.inside.ends in
    let lanes = c.self.inside.lanes.items in
    let rows = c.args.rows.now in
    let whole : length rows ≡ length (lanes_held 0 held.ends lanes) = subst (λ (t : Table). length rows ≡ length t.lanes) (sym c.self.view_is)
    c.requires.whole in
    let each : length rows ≡ length lanes = whole ∙ length-lanes_held 0 held.ends lanes in
    let round : IsRound (end_of (lanes_held 0 held.ends lanes)) rows = subst (λ (t : Table). IsRound (end_of t.lanes) rows) (sym c.self.view_is)
    c.requires.round in
    rw (
      written_back lanes c.as_mut_slice.result.now c.push_leaves.new.lanes rows c.self.inside.lanes.len c.as_mut_slice.ensures.value
          c.as_mut_slice.ensures.len c.push_leaves.auto.lanes c.push_leaves.ensures,
      c.push.ensures,
    )
    (lanes_held-with_round held lanes rows each c.self.invariant.filled round ∙ ap (λ (t : Table). with_round t.lanes rows) c.self.view_is)
