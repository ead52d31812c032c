use Rattle.std.proofs.Common.{arith, ap, get_or-set_other, length, refl, List, subst, sym, ℕ, ◌∙◌}
use Rattle.std.proofs.Math.ListN.{set}
use Rattle.edf_pick.specs.Ready.{AreReady}
use Rattle.tree_select.specs.Selected.{candidates}
use Rattle.event_core.specs.Serving.{lists}
use Rattle.event_core.proofs.WalkLemmas.{ready_long, serving_step}
use Rattle.event_core.proofs.walks.serve_pack.Goals as goal

pub serve-next-requires-clause-ready : goal.serve-next-requires-clause-ready
serve-next-requires-clause-ready c =
    ap (λ (xs : List ℕ). length xs) c.ready_at.ensures ∙ ready_long c.args.tree.now c.args.dues.now.remains c.args.ends.now c.args.p.0 _
    (c.requires.serving.picks c.args.p.0 c.requires.pack)

pub serve-next-requires-clause-before : goal.serve-next-requires-clause-before
serve-next-requires-clause-before c = λ j e. c.requires.serving.within c.args.p.0 j c.requires.pack e

pub serve-next-requires-clause-was : goal.serve-next-requires-clause-was
serve-next-requires-clause-was c = λ j l. c.requires.serving.at c.args.p.0 j c.requires.pack l

pub serve-next-requires-clause-agree : goal.serve-next-requires-clause-agree
serve-next-requires-clause-agree c = c.requires.serving.agree

pub serve-next-requires-clause-led : goal.serve-next-requires-clause-led
serve-next-requires-clause-led c = c.requires.serving.led

pub returns-clause-serving : goal.returns-clause-serving
returns-clause-serving c =
    let b = c.requires.pack.0 in
    let long = c.requires.long.serves in
    serving_step c.args.tree.now c.args.dues.now c.serve-next.new.dues c.args.ends.now (lists c.args.ready.now c.args.serves.now c.args.dry.now
    c.args.stale.now c.args.runs.now) (lists c.args.ready.now _ _ c.serve-next.new.stale c.serve-next.new.runs) c.args.p.0 c.serve-next.result.place
    c.requires.pack (omega (arith, b, long)) c.serve-next.ensures.tick c.serve-next.ensures.remains refl refl (c.set.ensures
    ∙ ap (λ (n : ℕ). set c.args.dry.now c.args.p.0 n) c.serve-next.ensures.dry)
    c.serve-next.ensures.within c.serve-next.ensures.now c.serve-next.ensures.others c.serve-next.ensures.agree c.serve-next.ensures.rest
    c.serve-next.ensures.unmarked c.serve-next.ensures.led
    (c.serve-next.ensures.served c.args.ends.now (subst (λ (xs : List ℕ). AreReady (candidates c.args.tree.now c.args.dues.now.remains c.args.ends.now
    c.args.p.0) xs) (sym c.ready_at.ensures) (c.requires.serving.picks c.args.p.0 c.requires.pack)) c.requires.serving.served) c.requires.serving

pub returns-clause-unchanged : goal.returns-clause-unchanged
returns-clause-unchanged c = record { unmarked = c.serve-next.ensures.unmarked; unchanged = c.serve-next.ensures.unchanged; long = c.serve-next.ensures.long }

pub returns-clause-others : goal.returns-clause-others
returns-clause-others c = λ q ne. rw get_or-set_other refl

pub returns-clause-tick : goal.returns-clause-tick
returns-clause-tick c = c.serve-next.ensures.tick

pub returns-clause-remains : goal.returns-clause-remains
returns-clause-remains c = c.serve-next.ensures.remains

pub returns-clause-nodes : goal.returns-clause-nodes
returns-clause-nodes c = c.serve-next.ensures.nodes

pub returns-clause-own : goal.returns-clause-own
returns-clause-own c = c.serve-next.ensures.own

pub returns-clause-marks : goal.returns-clause-marks
returns-clause-marks c = c.serve-next.ensures.marks

pub slice_copy_out-was : goal.slice_copy_out-was
slice_copy_out-was c = let b = c.requires.pack.0 in let long = c.requires.long.serves in omega (arith, b, long)

pub ready_at-requires : goal.ready_at-requires
ready_at-requires c = let b = c.requires.pack.0 in let long = c.requires.long.ready in omega (arith, b, long)

pub serve-next-requires-clause-tree : goal.serve-next-requires-clause-tree
serve-next-requires-clause-tree c = c.requires.tree

pub serve-next-requires-clause-pack : goal.serve-next-requires-clause-pack
serve-next-requires-clause-pack c = c.requires.pack

pub serve-next-requires-clause-nodes : goal.serve-next-requires-clause-nodes
serve-next-requires-clause-nodes c = c.requires.long.dues

pub serve-next-requires-clause-stale : goal.serve-next-requires-clause-stale
serve-next-requires-clause-stale c = c.requires.long.stale

pub serve-next-requires-clause-runs : goal.serve-next-requires-clause-runs
serve-next-requires-clause-runs c = c.requires.long.runs

pub serve-next-requires-clause-fits : goal.serve-next-requires-clause-fits
serve-next-requires-clause-fits c = c.requires.fits

pub bounds-serves-p : goal.bounds-serves-p
bounds-serves-p c = let b = c.requires.pack.0 in let long = c.requires.long.serves in omega (arith, b, long)

pub set-requires : goal.set-requires
set-requires c = let b = c.requires.pack.0 in let long = c.requires.serving.ticks.long in omega (arith, b, long)

pub serve-next-requires-clause-leaves : goal.serve-next-requires-clause-leaves
serve-next-requires-clause-leaves c = c.requires.leaves
