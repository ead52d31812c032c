use Rattle.std.proofs.Common.{◌+◌, ◌*◌, ◌/◌, ◌≡◌, arith}
use Rattle.trace_writer.proofs.digits.pairs_of.Goals as goal

pub overflow_mul-result-2 : goal.overflow_mul-result-2
overflow_mul-result-2 c =
    let first = c.requires.first in
    let second = c.requires.second in
    let hundreds : c.hundreds_of.result ≡ c.args.first / 100 + c.args.second / 100 * 4294967296 =
    c.hundreds_of.ensures c.args.first c.args.second first second (omega arith) in
    omega (arith, hundreds, first, second)

pub overflow_sub-result : goal.overflow_sub-result
overflow_sub-result c =
    let first = c.requires.first in
    let second = c.requires.second in
    let hundreds : c.hundreds_of.result ≡ c.args.first / 100 + c.args.second / 100 * 4294967296 =
    c.hundreds_of.ensures c.args.first c.args.second first second (omega arith) in
    omega (arith, hundreds, first, second)
