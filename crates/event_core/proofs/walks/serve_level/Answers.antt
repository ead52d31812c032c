use Rattle.std.proofs.Common.{arith, refl, le_refl, length, ◌∙◌}
use Rattle.run_tree.specs.Schedule.{packs_at}
use Rattle.tree_select.proofs.MarkedLemmas.{fresh_none, fresh_step, fresh_all}
use Rattle.event_core.proofs.SettledPacks.{fresh_skip, settled_above}
use Rattle.event_core.proofs.SeenLemmas.{above_first}
use Rattle.event_core.proofs.WalkLemmas.{fitting_still, fresh_below, pack_level, unmarked_still}
use Rattle.event_core.proofs.walks.serve_level.Goals as goal

pub packs-count-requires : goal.packs-count-requires
packs-count-requires c = c.requires.level

pub span-span-requires-clause-masks : goal.span-span-requires-clause-masks
span-span-requires-clause-masks c = c.requires.masks

pub span-span-requires-clause-level : goal.span-span-requires-clause-level
span-span-requires-clause-level c = c.requires.level

pub marked-init : goal.marked-init
marked-init c = record {
  tick = refl;
  remains = refl;
  nodes = refl;
  long = refl;
  serving = c.requires.serving;
  fresh = fresh_none c.args.tree.now c.requires.tree c.args.stale.now c.args.level c.requires.above;
  settled = λ onto s. s;
  within = omega arith;
  first = λ k l. refl;
  group = le_refl c.span-span.result.from;
  before = λ g p low up of. absurd (omega (arith, low, up));
}

pub next-requires-clause-tree : goal.next-requires-clause-tree
next-requires-clause-tree c = c.requires.tree

pub next-requires-clause-masks : goal.next-requires-clause-masks
next-requires-clause-masks c = c.requires.masks

pub next-requires-clause-level : goal.next-requires-clause-level
next-requires-clause-level c = c.requires.level

pub next-requires-clause-span : goal.next-requires-clause-span
next-requires-clause-span c = c.span-span.ensures

pub next-requires-clause-group : goal.next-requires-clause-group
next-requires-clause-group c = c.marked.invariant.group

pub next-requires-clause-stale : goal.next-requires-clause-stale
next-requires-clause-stale c = c.marked.invariant.long ∙ c.requires.long.stale

pub next-requires-clause-before : goal.next-requires-clause-before
next-requires-clause-before c = c.marked.invariant.before

pub next-requires-clause-fresh : goal.next-requires-clause-fresh
next-requires-clause-fresh c = fresh_below c.args.tree.now c.requires.tree c.marked.stale c.args.level c.marked.from c.marked.invariant.within
    c.marked.invariant.fresh

pub serve_pack-requires-clause-tree : goal.serve_pack-requires-clause-tree
serve_pack-requires-clause-tree c = c.requires.tree

pub serve_pack-requires-clause-pack : goal.serve_pack-requires-clause-pack
serve_pack-requires-clause-pack c = c.in-Some.ensures.some.pack

pub serve_pack-requires-clause-long : goal.serve_pack-requires-clause-long
serve_pack-requires-clause-long c = record {
  dues = c.marked.invariant.nodes ∙ c.requires.long.dues;
  ready = c.requires.long.ready;
  serves = c.marked.auto.serves ∙ c.requires.long.serves;
  stale = c.marked.invariant.long ∙ c.requires.long.stale;
  runs = c.marked.auto.runs ∙ c.requires.long.runs;
}

pub serve_pack-requires-clause-fits : goal.serve_pack-requires-clause-fits
serve_pack-requires-clause-fits c = fitting_still c.args.tree.now c.args.dues.now c.marked.dues c.marked.invariant.tick c.marked.invariant.remains
    c.requires.fits

pub serve_pack-requires-clause-serving : goal.serve_pack-requires-clause-serving
serve_pack-requires-clause-serving c = c.marked.invariant.serving

pub marked-preserved : goal.marked-preserved
marked-preserved c =
    let t = c.args.tree.now in
    let h = c.requires.tree in
    let l = c.args.level in
    let was = c.marked.invariant in
    let next = c.in-Some.next in
    let found = c.in-Some.ensures.some in
    let place = found.place in
    let stale = c.serve_pack.new.stale in
    let over = fresh_skip t c.marked.stale l c.marked.from next.place was.fresh (λ k low up. found.skipped k up) in
    record {
      tick = c.serve_pack.ensures.tick ∙ was.tick;
      remains = c.serve_pack.ensures.remains ∙ was.remains;
      nodes = c.serve_pack.ensures.nodes ∙ was.nodes;
      long = c.serve_pack.ensures.unchanged.long ∙ was.long;
      serving = c.serve_pack.ensures.serving;
      fresh = fresh_step t h c.marked.stale stale l next.place next.pack.0 place found.at over c.serve_pack.ensures.own c.serve_pack.ensures.marks;
      settled = λ onto s. settled_above t h onto c.marked.stale c.marked.runs stale c.serve_pack.new.runs next.pack.0 c.serve_pack.ensures.unchanged l
          next.place c.requires.above_first place found.at (was.settled onto s);
      within = omega (arith, place);
      first = λ k b. c.serve_pack.ensures.others _ (above_first t h l next.place next.pack.0 c.requires.above_first place found.at k b) ∙ was.first k b;
      group = found.group;
      before = unmarked_still t c.args.masks.now.groups l c.span-span.result c.span-span.ensures c.marked.stale stale next.pack.0 next.group
          (pack_level t h l next.place next.pack.0 place found.at) found.in_span
          c.serve_pack.ensures.own c.serve_pack.ensures.marks found.before;
    }

pub overflow_add-from : goal.overflow_add-from
overflow_add-from c = let n = c.packs-count.ensures in let few = c.packs-count.type_inv in let place = c.in-Some.ensures.some.place in
    omega (arith, n, few, place)

pub marked-smaller : goal.marked-smaller
marked-smaller c = let after = c.in-Some.ensures.some.after in let place = c.in-Some.ensures.some.place in omega (arith, after, place)

pub returns-clause-tick : goal.returns-clause-tick
returns-clause-tick c = c.marked.invariant.tick

pub returns-clause-remains : goal.returns-clause-remains
returns-clause-remains c = c.marked.invariant.remains

pub returns-clause-nodes : goal.returns-clause-nodes
returns-clause-nodes c = c.marked.invariant.nodes

pub returns-clause-long : goal.returns-clause-long
returns-clause-long c = c.marked.invariant.long

pub returns-clause-serving : goal.returns-clause-serving
returns-clause-serving c = c.marked.invariant.serving

pub returns-clause-fresh : goal.returns-clause-fresh
returns-clause-fresh c =
    let t = c.args.tree.now in
    fresh_all t c.requires.tree c.marked.stale c.args.level (length (packs_at t c.args.level)) refl
    (fresh_skip t c.marked.stale c.args.level c.marked.from (length (packs_at t c.args.level)) c.marked.invariant.fresh
    (λ k low up. c.in_default.ensures.none refl k up))

pub returns-clause-settled : goal.returns-clause-settled
returns-clause-settled c = c.marked.invariant.settled

pub returns-clause-first : goal.returns-clause-first
returns-clause-first c = c.marked.invariant.first
