use Rattle.std.proofs.Common.{◌∙◌, arith}
use Rattle.book_machine.proofs.Lanes.{out_within}
use Rattle.exec_book.proofs.book.Book.handed.Goals as goal

pub handed-requires : goal.handed-requires
handed-requires g c =
    let kept = rw c.in-Some.is at c.self.invariant.jobs in
    let many = kept.lanes in
    let out = rw (← c.self.view_is) at c.requires.2 in
    let within = out_within c.self.inside.state.lanes c.args.p out.0 in
    omega (arith, many, within)

pub returns : goal.returns
returns g c =
    let kept = rw c.in-Some.is at c.self.invariant.jobs in
    rw (← c.self.view_is) (λ r t out on. c.handed.ensures ∙ kept.handed t c.args.p (r, out, on))
