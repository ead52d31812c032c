use Rattle.std.proofs.Common.{◌/◌, ◌%◌, ◌≡◌, arith}
use Rattle.trace_writer.specs.Digits.{side_by_side}
use Rattle.trace_writer.proofs.digits.word_of_eight.Goals as goal

pub overflow_mul-result-2 : goal.overflow_mul-result-2
overflow_mul-result-2 c =
    let a = c.args.low / 10000 in
    let b = c.args.low % 10000 in
    let low = c.requires in
    let tens : c.tens_of.result ≡ side_by_side (a / 100 / 10) (a % 100 / 10) (b / 100 / 10) (b % 100 / 10) =
    c.tens_of.ensures (a / 100) (a % 100) (b / 100) (b % 100) (omega (arith, low)) (omega arith) (omega arith) (omega arith) c.pairs_of-pairs.ensures in
    omega (arith, tens, low)

pub overflow_sub-result : goal.overflow_sub-result
overflow_sub-result c =
    let a = c.args.low / 10000 in
    let b = c.args.low % 10000 in
    let low = c.requires in
    let pairs = c.pairs_of-pairs.ensures in
    let tens : c.tens_of.result ≡ side_by_side (a / 100 / 10) (a % 100 / 10) (b / 100 / 10) (b % 100 / 10) =
    c.tens_of.ensures (a / 100) (a % 100) (b / 100) (b % 100) (omega (arith, low)) (omega arith) (omega arith) (omega arith) c.pairs_of-pairs.ensures in
    omega (arith, pairs, tens, low)

pub returns : goal.returns
returns c =
    let a = c.args.low / 10000 in
    let b = c.args.low % 10000 in
    let low = c.requires in
    let pairs = c.pairs_of-pairs.ensures in
    let tens : c.tens_of.result ≡ side_by_side (a / 100 / 10) (a % 100 / 10) (b / 100 / 10) (b % 100 / 10) =
    c.tens_of.ensures (a / 100) (a % 100) (b / 100) (b % 100) (omega (arith, low)) (omega arith) (omega arith) (omega arith) c.pairs_of-pairs.ensures in
    omega (arith, pairs, tens, low)
