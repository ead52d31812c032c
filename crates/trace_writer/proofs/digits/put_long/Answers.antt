use Rattle.std.proofs.Common.{◌/◌, ◌^◌, arith}
use Rattle.std.proofs.lemmas.Fmt.{length-decimal-le}
use Rattle.trace_writer.proofs.DigitLemmas.{sixteen_length, sixteen_parts, then_written}
use Rattle.trace_writer.proofs.digits.put_long.Goals as goal

pub put_sixteen-requires-clause-room : goal.put_sixteen-requires-clause-room
put_sixteen-requires-clause-room c =
    let short = length-decimal-le 4 (c.args.number / 10 ^ 16) (omega arith) (omega arith) (omega arith) in
    let room = c.requires.room in
    let end = c.put_few-end.ensures.end in
    omega (arith, short, room, end)

pub returns-clause-end : goal.returns-clause-end
returns-clause-end c =
    let long = sixteen_length c.args.number c.requires.long (omega arith) in
    let end = c.put_few-end.ensures.end in
    omega (arith, long, end)

pub returns-clause-text : goal.returns-clause-text
returns-clause-text c = then_written _ _ _ _ _ _ (sixteen_parts c.args.number c.requires.long (omega arith)) c.put_few-end.ensures.text
    c.put_sixteen.ensures.text
