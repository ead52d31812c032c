use Rattle.std.proofs.Common.{◌≤◌, ◌∙◌, length, arith}
use Rattle.std.proofs.lemmas.Fmt.{length-decimal-le}
use Rattle.trace_writer.proofs.HeldLemmas.{front_and_last, front_stays}
use Rattle.trace_writer.proofs.pens.put_last.Goals as goal

pub returns-then-front-eq0-clause-few : goal.returns-then-front-eq0-clause-few
returns-then-front-eq0-clause-few c =
    let short = length-decimal-le 8 c.args.low (omega arith) c.requires.low (omega arith) in
    let end = c.put_few.ensures.end in
    omega (arith, short, end)

pub returns-clause-front : goal.returns-clause-front
returns-clause-front c =
    let few = c.requires.front.few in
    let room = c.requires.room in
    let within : c.args.front.len ≤ length c.args.text.now = omega (arith, few, room) in
    record {
      few = few;
      digits = front_stays c.args.front.len c.args.text.now c.put_eight.new.bytes _ within c.put_eight.ensures.text ∙ c.requires.front.digits;
    }

pub returns-clause-text : goal.returns-clause-text
returns-clause-text c =
    front_and_last c.args.front.number c.args.low c.args.front.len c.args.text.now c.put_eight.new.bytes (omega (arith, c.if-front-eq0.false)) (omega arith)
    c.requires.low c.requires.front.digits c.put_eight.ensures.text
