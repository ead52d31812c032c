use Rattle.std.proofs.Common.{arith, ap, le_refl, le_of_lt, refl, sym, length, get_or, false, not, ℕ, List, [], ◌∷◌, Bool, ◌<◌, ◌≤◌, ◌≡◌, ◌∙◌, ◌&&◌, inl, inr}
use Rattle.std.proofs.lemmas.List.{length-append}
use Rattle.sched_base.specs.Places.{is_held}
use Rattle.run_tree.specs.Schedule.{packs_at}
use Rattle.run_tree.proofs.TreeLemmas.{first_is_pack}
use Rattle.tree_select.proofs.MarkedLemmas.{fresh_none, fresh_step, fresh_all}
use Rattle.event_core.specs.Serving.{first_runs}
use Rattle.event_core.proofs.SettledPacks.{begins_skip, changed_are, few_pass, fresh_skip, listed_step, settled_rest, settled_skip, stops_skip}
use Rattle.event_core.proofs.SeenLemmas.{none_begins, none_stops, seen_none, seen_same, seen_step}
use Rattle.event_core.proofs.WalkLemmas.{fitting_still, fresh_below, pack_level, unmarked_still}
use Rattle.event_core.proofs.walks.serve_first_level.Goals as goal

pub packs-count-requires : goal.packs-count-requires
packs-count-requires c = c.requires.levels

pub span-span-requires-clause-masks : goal.span-span-requires-clause-masks
span-span-requires-clause-masks c = c.requires.masks

pub span-span-requires-clause-level : goal.span-span-requires-clause-level
span-span-requires-clause-level c = c.requires.levels

pub marked-init : goal.marked-init
marked-init c = record {
  tick = refl;
  remains = refl;
  nodes = refl;
  long = refl;
  serving = c.requires.serving;
  fresh = fresh_none c.args.tree.now c.requires.tree c.args.stale.now 0 c.requires.above;
  settled = c.requires.settled;
  room = c.clear.ensures.room;
  stopped = c.clear.ensures.stopped;
  begun = c.clear.ensures.begun;
  within = omega arith;
  seen = seen_none c.args.tree.now c.args.serves.now c.clear.new.self c.clear.ensures.seen c.clear.ensures.stopped c.clear.ensures.begun;
  few = (let none = ap (λ (xs : List ℕ). length xs) c.clear.ensures.seen in omega (arith, none));
  group = le_refl c.span-span.result.from;
  before = λ g p low up of. absurd (omega (arith, low, up));
}

pub next-requires-clause-tree : goal.next-requires-clause-tree
next-requires-clause-tree c = c.requires.tree

pub next-requires-clause-masks : goal.next-requires-clause-masks
next-requires-clause-masks c = c.requires.masks

pub next-requires-clause-level : goal.next-requires-clause-level
next-requires-clause-level c = c.requires.levels

pub next-requires-clause-span : goal.next-requires-clause-span
next-requires-clause-span c = c.span-span.ensures

pub next-requires-clause-group : goal.next-requires-clause-group
next-requires-clause-group c = c.marked.invariant.group

pub next-requires-clause-stale : goal.next-requires-clause-stale
next-requires-clause-stale c = c.marked.invariant.long ∙ c.requires.long.stale

pub next-requires-clause-before : goal.next-requires-clause-before
next-requires-clause-before c = c.marked.invariant.before

pub next-requires-clause-fresh : goal.next-requires-clause-fresh
next-requires-clause-fresh c = fresh_below c.args.tree.now c.requires.tree c.marked.stale 0 c.marked.from c.marked.invariant.within c.marked.invariant.fresh

pub serve_listed-requires-clause-tree : goal.serve_listed-requires-clause-tree
serve_listed-requires-clause-tree c = c.requires.tree

pub serve_listed-requires-clause-pack : goal.serve_listed-requires-clause-pack
serve_listed-requires-clause-pack c = c.in-Some.ensures.some.pack

pub serve_listed-requires-clause-first : goal.serve_listed-requires-clause-first
serve_listed-requires-clause-first c = pack_level c.args.tree.now c.requires.tree 0 c.in-Some.next.place c.in-Some.next.pack.0 c.in-Some.ensures.some.place
    c.in-Some.ensures.some.at

pub serve_listed-requires-clause-held : goal.serve_listed-requires-clause-held
serve_listed-requires-clause-held c = let place = c.in-Some.ensures.some.place in let last = c.requires.last in omega (arith, place, last)

pub serve_listed-requires-clause-long : goal.serve_listed-requires-clause-long
serve_listed-requires-clause-long c = record {
  dues = c.marked.invariant.nodes ∙ c.requires.long.dues;
  ready = c.requires.long.ready;
  serves = c.marked.auto.serves ∙ c.requires.long.serves;
  stale = c.marked.invariant.long ∙ c.requires.long.stale;
  runs = c.marked.auto.runs ∙ c.requires.long.runs;
}

pub serve_listed-requires-clause-fits : goal.serve_listed-requires-clause-fits
serve_listed-requires-clause-fits c = fitting_still c.args.tree.now c.args.dues.now c.marked.dues c.marked.invariant.tick c.marked.invariant.remains
    c.requires.fits

pub serve_listed-requires-clause-serving : goal.serve_listed-requires-clause-serving
serve_listed-requires-clause-serving c = c.marked.invariant.serving

pub serve_listed-requires-clause-seen : goal.serve_listed-requires-clause-seen
serve_listed-requires-clause-seen c =
    let place = c.in-Some.ensures.some.place in
    let after = c.in-Some.ensures.some.after in
    let room = c.requires.room in
    let kept = c.marked.invariant.room in
    let few = c.marked.invariant.few in
    omega (arith, place, after, room, kept, few)

pub serve_listed-requires-clause-stopped : goal.serve_listed-requires-clause-stopped
serve_listed-requires-clause-stopped c =
    let place = c.in-Some.ensures.some.place in
    let after = c.in-Some.ensures.some.after in
    let room = c.requires.room in
    let kept = c.marked.invariant.room in
    let few = few_pass (λ i. not (first_runs c.args.tree.now c.marked.runs i) && is_held c.args.places.now.onto i) c.marked.from 0 in
    let long = ap (λ (xs : List ℕ). length xs) c.marked.invariant.stopped in
    omega (arith, place, after, room, kept, few, long)

pub serve_listed-requires-clause-begun : goal.serve_listed-requires-clause-begun
serve_listed-requires-clause-begun c =
    let place = c.in-Some.ensures.some.place in
    let after = c.in-Some.ensures.some.after in
    let room = c.requires.room in
    let kept = c.marked.invariant.room in
    let few = few_pass (λ i. first_runs c.args.tree.now c.marked.runs i && not (is_held c.args.places.now.onto i)) c.marked.from 0 in
    let long = ap (λ (xs : List ℕ). length xs) c.marked.invariant.begun in
    omega (arith, place, after, room, kept, few, long)

pub overflow_add-from : goal.overflow_add-from
overflow_add-from c = let n = c.packs-count.ensures in let few = c.packs-count.type_inv in let place = c.in-Some.ensures.some.place in
    omega (arith, n, few, place)

pub marked-preserved : goal.marked-preserved
marked-preserved c =
    let t = c.args.tree.now in
    let h = c.requires.tree in
    let onto = c.args.places.now.onto in
    let was = c.marked.invariant in
    let found = c.in-Some.ensures.some in
    let p = c.in-Some.next.pack.0 in
    let i = c.in-Some.next.place in
    let l = found.place in
    let at = found.at in
    let within : i ≤ length (packs_at t 0) = le_of_lt l in
    let passed : (k : ℕ) → c.marked.from ≤ k → k < i → get_or c.marked.stale (get_or (packs_at t 0) k 0) false ≡ false = (λ k low up. found.skipped k up) in
    let over = fresh_skip t c.marked.stale 0 c.marked.from i was.fresh passed in
    let settled_there = settled_skip t onto c.marked.stale c.marked.runs c.marked.from i found.after within passed was.settled in
    let stopped_there = stops_skip t onto c.marked.stale c.marked.runs c.marked.from i found.after within passed was.settled c.marked.changes.stopped
    was.stopped in
    let begun_there = begins_skip t onto c.marked.stale c.marked.runs c.marked.from i found.after within passed was.settled c.marked.changes.begun was.begun in
    let stale = c.serve_listed.new.stale in
    let runs = c.serve_listed.new.runs in
    let fresh = fresh_step t h c.marked.stale stale 0 i p l at over c.serve_listed.ensures.own c.serve_listed.ensures.marks in
    let same : (k : ℕ) → k < i → first_runs t runs k ≡ first_runs t c.marked.runs k =
    (λ k m. let is_pack = first_is_pack t h k (omega (arith, m, l)) in c.serve_listed.ensures.unchanged.unchanged (get_or (packs_at t 0) k 0) is_pack
    (fresh (get_or (packs_at t 0) k 0) is_pack (inr (k, omega (arith, m), refl)))) in
    let here : first_runs t runs i ≡ get_or runs p false = ap (λ q. get_or runs q false) (sym at) in
    let few = was.few in
    let after = found.after in
    record {
      tick = c.serve_listed.ensures.tick ∙ was.tick;
      remains = c.serve_listed.ensures.remains ∙ was.remains;
      nodes = c.serve_listed.ensures.nodes ∙ was.nodes;
      long = c.serve_listed.ensures.unchanged.long ∙ was.long;
      serving = c.serve_listed.ensures.serving;
      fresh = fresh;
      settled = settled_rest t h onto c.marked.stale c.marked.runs stale runs p i l at c.serve_listed.ensures.unchanged settled_there;
      room = c.serve_listed.ensures.room ∙ was.room;
      stopped = listed_step (λ k. not (first_runs t c.marked.runs k) && is_held onto k) (λ k. not (first_runs t runs k) && is_held onto k)
          c.marked.changes.stopped c.serve_listed.new.changes.stopped i _
          (λ k m. ap (λ (r : Bool). not r && is_held onto k) (same k m)) (ap (λ (r : Bool). not r && is_held onto i) here) stopped_there
          c.serve_listed.ensures.stopped;
      begun = listed_step (λ k. first_runs t c.marked.runs k && not (is_held onto k)) (λ k. first_runs t runs k && not (is_held onto k))
          c.marked.changes.begun c.serve_listed.new.changes.begun i _
          (λ k m. ap (λ (r : Bool). r && not (is_held onto k)) (same k m)) (ap (λ (r : Bool). r && not (is_held onto i)) here) begun_there
          c.serve_listed.ensures.begun;
      within = omega (arith, l);
      seen = elim c.serve_listed.ensures.seen [
        | inl more ↦ seen_step t c.args.serves.now c.marked.serves c.serve_listed.new.serves c.marked.changes c.serve_listed.new.changes p i l at _ _
            c.serve_listed.ensures.others more c.serve_listed.ensures.stopped c.serve_listed.ensures.begun was.seen
        | inr (none, own, still) ↦ seen_same t c.args.serves.now c.marked.serves c.serve_listed.new.serves c.marked.changes c.serve_listed.new.changes p i _
            _ c.serve_listed.ensures.others own none
            (none_stops _ _ still) (none_begins _ _ still) c.serve_listed.ensures.stopped c.serve_listed.ensures.begun was.seen
      ];
      few = elim c.serve_listed.ensures.seen [
        | inl more ↦ (let m = ap (λ (xs : List ℕ). length xs) more in let long = length-append c.marked.changes.seen (i ∷ []) in omega (
          arith,
          few,
          m,
          long,
          after,
        ))
        | inr (none, own, still) ↦ (let m = ap (λ (xs : List ℕ). length xs) none in omega (arith, few, m, after))
      ];
      group = found.group;
      before = unmarked_still t c.args.masks.now.groups 0 c.span-span.result c.span-span.ensures c.marked.stale stale p c.in-Some.next.group
          (pack_level t h 0 i p l at) found.in_span
          c.serve_listed.ensures.own c.serve_listed.ensures.marks found.before;
    }

pub marked-smaller : goal.marked-smaller
marked-smaller c = let after = c.in-Some.ensures.some.after in let place = c.in-Some.ensures.some.place in omega (arith, after, place)

pub returns-clause-tick : goal.returns-clause-tick
returns-clause-tick c = c.marked.invariant.tick

pub returns-clause-remains : goal.returns-clause-remains
returns-clause-remains c = c.marked.invariant.remains

pub returns-clause-nodes : goal.returns-clause-nodes
returns-clause-nodes c = c.marked.invariant.nodes

pub returns-clause-long : goal.returns-clause-long
returns-clause-long c = c.marked.invariant.long

pub returns-clause-serving : goal.returns-clause-serving
returns-clause-serving c = c.marked.invariant.serving

pub returns-clause-fresh : goal.returns-clause-fresh
returns-clause-fresh c =
    let t = c.args.tree.now in
    fresh_all t c.requires.tree c.marked.stale 0 (length (packs_at t 0)) refl (fresh_skip t c.marked.stale 0 c.marked.from (length (packs_at t 0))
    c.marked.invariant.fresh (λ k low up. c.in_default.ensures.none refl k up))

pub returns-clause-changed : goal.returns-clause-changed
returns-clause-changed c =
    let t = c.args.tree.now in
    let onto = c.args.places.now.onto in
    let was = c.marked.invariant in
    let all = length (packs_at t 0) in
    let passed : (k : ℕ) → c.marked.from ≤ k → k < all → get_or c.marked.stale (get_or (packs_at t 0) k 0) false ≡ false =
    (λ k low up. c.in_default.ensures.none refl k up) in
    changed_are t onto c.marked.runs c.marked.changes all refl
    (stops_skip t onto c.marked.stale c.marked.runs c.marked.from all was.within (le_refl all) passed was.settled c.marked.changes.stopped was.stopped)
    (begins_skip t onto c.marked.stale c.marked.runs c.marked.from all was.within (le_refl all) passed was.settled c.marked.changes.begun was.begun)

pub returns-clause-seen : goal.returns-clause-seen
returns-clause-seen c = c.marked.invariant.seen

pub returns-clause-room : goal.returns-clause-room
returns-clause-room c = c.marked.invariant.room
