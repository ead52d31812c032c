use Rattle.std.proofs.Common.{ap, arith, ◌∙◌, None}
use Rattle.std.specs.Prelude.{slice_get}
use Rattle.tests_executions.proofs.WorkedJobs.{get-set_other, seat_at}
use Rattle.tests_executions.proofs.books.all_seats.Goals as goal

pub loop-p-init : goal.loop-p-init
loop-p-init g c = λ q low high. ap (λ xs. slice_get xs q) c.requires ∙ seat_at c.args.processors q high

pub lift-requires : goal.lift-requires
lift-requires g c = (record { lane = c.loop-p.p; posted = 0 }, c.loop-p.invariant c.loop-p.p (omega arith) (omega arith))

pub loop-p-preserved : goal.loop-p-preserved
loop-p-preserved g c = λ q low high.
    ap (λ xs. slice_get xs q) c.lift.ensures.rest ∙ get-set_other c.loop-p.seats c.loop-p.p q None (λ same. omega (arith, same, low)) ∙ c.loop-p.invariant q
    (omega (arith, low)) high
