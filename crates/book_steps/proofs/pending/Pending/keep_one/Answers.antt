use Rattle.std.proofs.Common.{◌≡◌, ◌+◌, ◌∷◌, ℕ, List, [], ap, arith, length, refl}
use Rattle.book_steps.proofs.PendingLemmas.{AreCounted-none, AreNoted-leaf, AreNoted-none, can_add}
use Rattle.book_steps.proofs.pending.Pending.keep_one.Goals as goal

pub note-requires : goal.note-requires
note-requires c = λ task is.
    let noted = rw (← c.self.view_is) at c.requires.noted in
    let low = noted 0 c.args.row task refl is in
    omega (arith, low)

pub add_ticks-requires-clause-forward : goal.add_ticks-requires-clause-forward
add_ticks-requires-clause-forward c = c.requires.fits.forward 0 c.args.row refl

pub add_ticks-requires-clause-task : goal.add_ticks-requires-clause-task
add_ticks-requires-clause-task c = λ task is.
    let given = c.self.inside.given.items in
    let fits = rw (← c.self.view_is) at c.requires.fits in
    (can_add given (c.args.row ∷ []) fits 0 given (AreCounted-none given) c.args.row refl task is).0

pub add_ticks-requires-clause-fits : goal.add_ticks-requires-clause-fits
add_ticks-requires-clause-fits c = λ task is.
    let given = c.self.inside.given.items in
    let fits = rw (← c.self.view_is) at c.requires.fits in
    (can_add given (c.args.row ∷ []) fits 0 given (AreCounted-none given) c.args.row refl task is).1

pub returns-clause-last : goal.returns-clause-last
returns-clause-last c =
    let s = c.self.inside in
    let tasks = length s.given.items in
    let noted = rw (← c.self.view_is) at c.requires.noted in
    let many : c.len.result ≡ tasks = (
    let all = c.len.ensures in
    let long = c.as_slice.ensures.len in
    let value = ap (λ (ts : List ℕ). length ts) c.as_slice.ensures.value in
    omega (arith, all, long, value)
    ) in
    rw (← c.self.view_is) (rw (c.note.ensures, many) (AreNoted-leaf tasks (s.computed + 1) s.last.items (c.args.row ∷ []) 0 s.last.items
    (AreNoted-none tasks (s.computed + 1) s.last.items) c.args.row refl c.args.row.leaf refl (λ task is. noted 0 c.args.row task refl is)))
