use Rattle.std.proofs.Common.{◌≡◌, ◌<◌, ◌+◌, ◌∙◌, ◌++◌, ◌∷◌, ℕ, List, [], get_or, length, map, take, ap, sym, subst, arith, add-one}
use Rattle.std.proofs.lemmas.List.{append_assoc, append-nil, length-append, length-map, length-take}
use Rattle.std.proofs.lemmas.Option.{slice_get-get_or}
use Rattle.sched_base.specs.declared.rows.Leaf.TheVariants.{Task}
use Rattle.sched_base.specs.declared.rows.Row.{Row}
use Rattle.circular_buffer.specs.Buffer.{Buffer, buffer}
use Rattle.book_steps.specs.declared.ring.PendingRow.{PendingRow}
use Rattle.book_steps.specs.Pending.{pending}
use Rattle.book_steps.proofs.HeldRounds.{map-take_all, map-take_more}
use Rattle.book_steps.proofs.pending.push_each.Goals as goal

abbrev blank : Row
blank = record { processor = 0; leaf = Task (record { 0 = 0 }); start = 0; end = 0 }

length_pushed : (old : List PendingRow) (given : List ℕ) (rows : List Row) (k : ℕ) → k < length rows → length (old ++ map (pending given) (take k rows))
    < length old + length rows
length_pushed old given rows k low =
    let long = length-append old (map (pending given) (take k rows)) in
    let part = length-map (take k rows) (pending given) in
    let taken = length-take k rows in
    omega (arith, long, part, taken, low)

pub loop-q-init : goal.loop-q-init
loop-q-init c = ap (λ items. buffer items c.args.held.now.capacity) (sym (append-nil c.args.held.now.items))

pub push-requires : goal.push-requires
push-requires c =
    let old = c.args.held.now in
    subst (λ (b : Buffer PendingRow). length b.items < b.capacity) (sym c.loop-q.invariant)
    (let here = length_pushed old.items c.args.given.now c.args.rows.now c.loop-q.q c.loop-q-test.true in let room = c.requires in omega (arith, here, room))

pub loop-q-preserved : goal.loop-q-preserved
loop-q-preserved c =
    let old = c.args.held.now in
    let given = c.args.given.now in
    let rows = c.args.rows.now in
    let q = c.loop-q.q in
    let row : Row = get_or rows q blank in
    let before : ℕ = c.given_to.result in
    rw add-one (
    c.push.ensures
    ∙ ap (λ (b : Buffer PendingRow). buffer (b.items ++ record { row = row; before = before } ∷ []) b.capacity) c.loop-q.invariant
    ∙ ap (λ n. buffer ((old.items ++ map (pending given) (take q rows)) ++ record { row = row; before = n } ∷ []) old.capacity) c.given_to.ensures
    ∙ ap (λ items. buffer items old.capacity) (append_assoc old.items (map (pending given) (take q rows)) (pending given row ∷ []))
    ∙ ap (λ items. buffer (old.items ++ items) old.capacity) (map-take_more (pending given) rows q row (slice_get-get_or rows q blank c.loop-q-test.true)))

pub returns : goal.returns
returns c =
    let old = c.args.held.now in
    let end : c.loop-q.q ≡ length c.args.rows.now = let most = c.loop-q.auto.q-end in let past = c.loop-q-test.false in omega (arith, most, past) in
    c.loop-q.invariant ∙ ap (λ items. buffer (old.items ++ items) old.capacity) (map-take_all (pending c.args.given.now) c.args.rows.now c.loop-q.q end)
