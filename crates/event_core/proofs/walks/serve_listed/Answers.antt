use Rattle.std.proofs.Common.{ap, false, get_or, not, Bool, ◌&&◌, ◌∙◌, arith, inl, inr}
use Rattle.cpu_assign.specs.Changed.{with_pack}
use Rattle.event_core.proofs.walks.serve_listed.Goals as goal

pub serve_pack-is_other-requires-clause-long : goal.serve_pack-is_other-requires-clause-long
serve_pack-is_other-requires-clause-long c = c.requires.long

pub serve_pack-is_other-requires-clause-fits : goal.serve_pack-is_other-requires-clause-fits
serve_pack-is_other-requires-clause-fits c = c.requires.fits

pub serve_pack-is_other-requires-clause-serving : goal.serve_pack-is_other-requires-clause-serving
serve_pack-is_other-requires-clause-serving c = c.requires.serving

pub returns-clause-tick : goal.returns-clause-tick
returns-clause-tick c = c.serve_pack-is_other.ensures.tick

pub returns-clause-remains : goal.returns-clause-remains
returns-clause-remains c = c.serve_pack-is_other.ensures.remains

pub returns-clause-nodes : goal.returns-clause-nodes
returns-clause-nodes c = c.serve_pack-is_other.ensures.nodes

pub returns-clause-serving : goal.returns-clause-serving
returns-clause-serving c = c.serve_pack-is_other.ensures.serving

pub returns-clause-own : goal.returns-clause-own
returns-clause-own c = c.serve_pack-is_other.ensures.own

pub returns-clause-unchanged : goal.returns-clause-unchanged
returns-clause-unchanged c = c.serve_pack-is_other.ensures.unchanged

pub returns-clause-marks : goal.returns-clause-marks
returns-clause-marks c = c.serve_pack-is_other.ensures.marks

pub returns-clause-others : goal.returns-clause-others
returns-clause-others c = c.serve_pack-is_other.ensures.others

pub returns-clause-seen : goal.returns-clause-seen
returns-clause-seen c = elim c.list_if.ensures.seen [
  | inl more ↦ inl more
  | inr (same, is, still) ↦ inr (same, c.serve_pack-is_other.ensures.same is, still ∙ c.holds.ensures)
]

pub list_if-requires-clause-seen : goal.list_if-requires-clause-seen
list_if-requires-clause-seen c = c.requires.seen

pub returns-clause-stopped : goal.returns-clause-stopped
returns-clause-stopped c =
    c.list_if.ensures.stopped ∙ ap (λ (held : Bool). with_pack c.args.changes.now.stopped c.args.i (not (get_or c.serve_pack-is_other.new.runs c.args.p.0
    false) && held)) c.holds.ensures

pub returns-clause-begun : goal.returns-clause-begun
returns-clause-begun c =
    c.list_if.ensures.begun ∙ ap (λ (held : Bool). with_pack c.args.changes.now.begun c.args.i (get_or c.serve_pack-is_other.new.runs c.args.p.0 false &&
    not held)) c.holds.ensures

pub serve_pack-is_other-requires-clause-tree : goal.serve_pack-is_other-requires-clause-tree
serve_pack-is_other-requires-clause-tree c = c.requires.tree

pub serve_pack-is_other-requires-clause-pack : goal.serve_pack-is_other-requires-clause-pack
serve_pack-is_other-requires-clause-pack c = c.requires.pack

pub holds-requires : goal.holds-requires
holds-requires c = c.requires.held

pub list_if-requires-clause-stopped : goal.list_if-requires-clause-stopped
list_if-requires-clause-stopped c = c.requires.stopped

pub list_if-requires-clause-begun : goal.list_if-requires-clause-begun
list_if-requires-clause-begun c = c.requires.begun

pub bounds-runs-p : goal.bounds-runs-p
bounds-runs-p c = let b = c.requires.pack.0 in let kept = c.serve_pack-is_other.auto.runs in let long = c.requires.long.runs in omega (arith, b, kept, long)

pub returns-clause-room : goal.returns-clause-room
returns-clause-room c = c.list_if.ensures.room
