use Rattle.std.proofs.Common.{◌∙◌, ◌≡◌, ℕ, ◌<◌, Bool, List, false, true, refl, ap, arith, length, get_or, sym}
use Rattle.tree_select.specs.declared.marks.Marks.TheInside.{Inside}
use Rattle.tree_select.specs.Marks.{is_marked, marks_by}
use Rattle.tree_select.proofs.MarkWords.{length-marks, mark_at}
use Rattle.tree_select.proofs.marks.Marks.first_of.Goals as goal

pub first_bit-requires-clause-word : goal.first_bit-requires-clause-word
first_bit-requires-clause-word c =
    let many = length-marks c.self.inside.words.items c.self.inside.count in
    let long = ap (λ (xs : List Bool). length xs) c.self.view_is in
    let room = c.self.invariant in
    let same = ap (λ (xs : List ℕ). length xs) c.deref.ensures.value in
    let within = c.requires.word in
    omega (arith, many, long, room, same, within)

pub first_bit-requires-clause-few : goal.first_bit-requires-clause-few
first_bit-requires-clause-few c =
    let many = length-marks c.self.inside.words.items c.self.inside.count in
    let long = ap (λ (xs : List Bool). length xs) c.self.view_is in
    let within = c.requires.word in
    omega (arith, many, long, within)

-- what the list says of a node that the mask shows
listed : (inside : Inside) (stale : List Bool) (words : List ℕ) (k : ℕ) (on : Bool) → marks_by inside.words.items inside.count ≡ stale →
    words ≡ inside.words.items → k < length stale → is_marked words k ≡ on → get_or stale k false ≡ on
listed inside stale words k on view is l e =
    let many = length-marks inside.words.items inside.count in
    let long = ap (λ (xs : List Bool). length xs) view in
    ap (λ (xs : List Bool). get_or xs k false) (sym view) ∙ mark_at inside.words.items inside.count k (omega (arith, many, long, l))
    ∙ ap (λ (ws : List ℕ). is_marked ws k) (sym is) ∙ e

pub returns-in-None-clause-none : goal.returns-in-None-clause-none
returns-in-None-clause-none c = λ none k shown.
    listed c.self.inside c.args.self.now c.deref.result.now k false c.self.view_is c.deref.ensures.value (c.requires.within k shown) (c.in-None.ensures.none
    k refl shown)

pub returns-in-Some-clause-marked : goal.returns-in-Some-clause-marked
returns-in-Some-clause-marked c =
    listed c.self.inside c.args.self.now c.deref.result.now c.in-Some.n true c.self.view_is c.deref.ensures.value (c.requires.within c.in-Some.n
    c.in-Some.ensures.shown) c.in-Some.ensures.marked

pub returns-in-Some-clause-lowest : goal.returns-in-Some-clause-lowest
returns-in-Some-clause-lowest c = λ k shown before.
    listed c.self.inside c.args.self.now c.deref.result.now k false c.self.view_is c.deref.ensures.value (c.requires.within k shown)
    (c.in-Some.ensures.lowest c.in-Some.n k refl shown before)
