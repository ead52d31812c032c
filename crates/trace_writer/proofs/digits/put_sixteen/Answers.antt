use Rattle.std.proofs.Common.{◌+◌, ◌≡◌, ◌∙◌, take, ap, arith}
use Rattle.trace_writer.proofs.DigitLemmas.{two_eights}
use Rattle.trace_writer.proofs.digits.put_sixteen.Goals as goal

pub returns : goal.returns
returns c =
    let e : c.args.at + 16 ≡ c.args.at + 8 + 8 = omega arith in
    record {
      text = ap (λ n. take n c.put_eight-2.new.bytes) e ∙ two_eights c.args.low _ _ _ c.put_eight.ensures.text c.put_eight-2.ensures.text;
    }
