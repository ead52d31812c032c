use Rattle.std.proofs.Common.{◌∙◌, arith, sym}
use Rattle.std.proofs.lemmas.Fmt.{length-decimal-le}
use Rattle.trace_writer.proofs.HeldLemmas.{front_some}
use Rattle.trace_writer.proofs.pens.put_front.Goals as goal

pub returns : goal.returns
returns c =
    let short = length-decimal-le 16 c.args.number (omega arith) c.requires.few (omega arith) in
    let end = c.put_short.ensures.end in
    record {
      few = omega (arith, short, end);
      digits = c.put_short.ensures.text ∙ sym (front_some c.args.number (omega (arith, c.if-number-eq0.false)));
    }
