use Rattle.std.proofs.Common.{ap, arith, get_or, sym, ℕ, List, Option, None, ◌∙◌}
use Rattle.sched_base.specs.declared.rows.Row.{Row}
use Rattle.event_core.specs.States.{contents}
use Rattle.event_core.specs.Steps.{leaf_shown}
use Rattle.event_core.proofs.OneRound.{onto_long}
use Rattle.event_core.proofs.RowsGone.{pack_within, row_gone}
use Rattle.event_core.proofs.cores.node_gone.Goals as goal

pub pack_on-requires : goal.pack_on-requires
pack_on-requires c =
    let long = onto_long c.args.plan.now c.requires.plan (contents c.args.state.now) c.requires.core.at in
    let l = c.requires.processor in
    omega (arith, long, l)

pub node_on-requires-clause-serving : goal.node_on-requires-clause-serving
node_on-requires-clause-serving c = record { within = c.requires.core.serving.within; at = c.requires.core.serving.at }

pub node_on-requires-clause-pack : goal.node_on-requires-clause-pack
node_on-requires-clause-pack c = λ i at.
    let shown = c.requires.core.shown c.args.start c.requires.round in
    pack_within c.args.plan.now c.requires.plan c.args.start c.args.q i c.requires.processor (ap (λ (os : List (Option ℕ)). get_or os c.args.q None)
    (sym shown.onto) ∙ sym c.pack_on.ensures ∙ at)

pub returns-clause-none : goal.returns-clause-none
returns-clause-none c = λ none e.
    let p = c.args.plan.now in
    let s = c.args.state.now in
    let shown = c.requires.core.shown c.args.start c.requires.round in
    ap (λ (r : Row). r.leaf) (row_gone p c.requires.plan c.args.start s.serving.runs shown.says s.places.onto shown.onto s.dues.tick c.args.q
    c.requires.processor none)
    ∙ ap (leaf_shown p s.serving.runs c.args.start) (sym c.pack_on.ensures) ∙ c.node_on.ensures.none c.args.start e

pub returns-clause-some : goal.returns-clause-some
returns-clause-some c = λ n none e.
    let p = c.args.plan.now in
    let s = c.args.state.now in
    let shown = c.requires.core.shown c.args.start c.requires.round in
    ap (λ (r : Row). r.leaf) (row_gone p c.requires.plan c.args.start s.serving.runs shown.says s.places.onto shown.onto s.dues.tick c.args.q
    c.requires.processor none)
    ∙ ap (leaf_shown p s.serving.runs c.args.start) (sym c.pack_on.ensures) ∙ c.node_on.ensures.some n c.args.start e
