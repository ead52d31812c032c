use Rattle.std.proofs.Common.{◌≡◌, length, arith, subst, sym}
use Rattle.row_totals.specs.Sums.{Adds, AreForward, HaveRoomFor, NamesAmong}
use Rattle.merged_rows.proofs.ColumnLemmas.{seen_lane, seen_many}
use Rattle.merged_rows.proofs.merging.MergedRows.add_lane.Goals as goal

pub index-requires : goal.index-requires
index-requires c =
    let lanes = c.self.inside.lanes in
    let many : length c.args.self.now.lanes ≡ length lanes.items = seen_many c.args.self.now c.self.inside.end lanes.items c.self.view_is in
    let ok = lanes.ok.0 in
    let here = c.requires.processor in
    omega (arith, many, ok, here)

pub add_to-requires-clause-names : goal.add_to-requires-clause-names
add_to-requires-clause-names c =
    subst (NamesAmong (length c.args.sums.now)) (seen_lane c.args.self.now c.self.inside.end c.self.inside.lanes.items c.args.p c.index.result.now
    c.self.view_is c.requires.processor c.index.ensures)
    c.requires.names

pub add_to-requires-clause-forward : goal.add_to-requires-clause-forward
add_to-requires-clause-forward c =
    subst AreForward (seen_lane c.args.self.now c.self.inside.end c.self.inside.lanes.items c.args.p c.index.result.now c.self.view_is c.requires.processor
    c.index.ensures) c.requires.forward

pub add_to-requires-clause-room : goal.add_to-requires-clause-room
add_to-requires-clause-room c =
    subst (λ rows. HaveRoomFor rows c.args.sums.now)
    (seen_lane c.args.self.now c.self.inside.end c.self.inside.lanes.items c.args.p c.index.result.now c.self.view_is c.requires.processor c.index.ensures)
    c.requires.room

pub returns : goal.returns
returns c =
    subst (λ rows. Adds rows c.args.sums.now c.add_to.new.sums)
    (sym (seen_lane c.args.self.now c.self.inside.end c.self.inside.lanes.items c.args.p c.index.result.now c.self.view_is c.requires.processor
    c.index.ensures)) c.add_to.ensures
