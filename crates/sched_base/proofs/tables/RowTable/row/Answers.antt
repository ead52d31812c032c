use Rattle.std.proofs.Common.{◌≡◌, ◌<◌, ◌∙◌, ℕ, List, Some, ap, arith, get_or, length, refl, sym}
use Rattle.std.specs.List.{slice_get}
use Rattle.std.proofs.lemmas.Option.{slice_get-get_or}
use Rattle.sched_base.specs.declared.rows.Row.{Row}
use Rattle.sched_base.specs.Tables.{Table, LaneHeld, lane_of}
use Rattle.sched_base.proofs.ColumnLemmas.{within_lanes, within_ends, row_is_held}
use Rattle.sched_base.proofs.tables.RowTable.row.Goals as goal

pub start-requires : goal.start-requires
start-requires c = within_ends c.self.inside.ends.ends c.self.inside.lanes.items c.args.self.now.lanes (ap (λ (t : Table). t.lanes) c.self.view_is) c.args.k
    c.self.invariant.filled c.requires.round

pub at-requires : goal.at-requires
at-requires c = within_ends c.self.inside.ends.ends c.self.inside.lanes.items c.args.self.now.lanes (ap (λ (t : Table). t.lanes) c.self.view_is) c.args.k
    c.self.invariant.filled c.requires.round

pub index-requires : goal.index-requires
index-requires c =
    let lanes = c.self.inside.lanes in
    let here = within_lanes c.self.inside.ends.ends lanes.items c.args.self.now.lanes (ap (λ (t : Table). t.lanes) c.self.view_is) c.args.p
    c.requires.processor in
    let ok = lanes.ok.0 in
    omega (arith, here, ok)

-- what was read at its place stands there
there : (lanes : List LaneHeld) (p : ℕ) (lane : LaneHeld) → p < length lanes → lane ≡ get_or lanes p lane → slice_get lanes p ≡ Some lane
there lanes p lane within is = slice_get-get_or lanes p lane within ∙ ap Some (sym is)

pub at-requires-2 : goal.at-requires-2
at-requires-2 c =
    let ends = c.self.inside.ends.ends in
    let lanes = c.self.inside.lanes.items in
    let are = ap (λ (t : Table). t.lanes) c.self.view_is in
    let here = within_lanes ends lanes c.args.self.now.lanes are c.args.p c.requires.processor in
    let round = within_ends ends lanes c.args.self.now.lanes are c.args.k c.self.invariant.filled c.requires.round in
    let long = c.self.invariant.filled c.args.p c.index.result.now (there lanes c.args.p c.index.result.now here c.index.ensures) in
    omega (arith, round, long)

pub returns-clause-value : goal.returns-clause-value
returns-clause-value c =
    let ends = c.self.inside.ends.ends in
    let lanes = c.self.inside.lanes.items in
    let are = ap (λ (t : Table). t.lanes) c.self.view_is in
    let here = within_lanes ends lanes c.args.self.now.lanes are c.args.p c.requires.processor in
    let row : Row = record { processor = c.args.p; leaf = c.at-2.result; start = c.start.result; end = c.at.result } in
    ap (λ ls. slice_get (lane_of ls c.args.p) c.args.k) (sym are)
    ∙ row_is_held ends lanes c.args.p c.args.k c.index.result.now row (there lanes c.args.p c.index.result.now here c.index.ensures) refl c.start.ensures
    c.at.ensures c.at-2.ensures
