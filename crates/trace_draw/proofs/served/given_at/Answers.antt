use Rattle.std.proofs.Common.{ap, arith}
use Rattle.std.proofs.Math.ListN.{drop_of_length-le}
use Rattle.trace_draw.specs.Served.{given_at}
use Rattle.trace_draw.proofs.served.given_at.Goals as goal

pub returns : goal.returns
returns c =
    let none = ap (λ l. given_at c.args.rows.now l c.args.from c.args.to) (drop_of_length-le c.args.places.now c.loop-place-test.false) in
    omega (arith, none, c.loop-place.invariant.0, c.loop-place.invariant.1)
