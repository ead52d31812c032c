use Rattle.std.proofs.Common.{◌≤◌, length, arith}
use Rattle.trace_writer.proofs.HeldLemmas.{front_again, front_length}
use Rattle.trace_writer.proofs.pens.turn_front.Goals as goal

pub overflow_sub-front : goal.overflow_sub-front
overflow_sub-front c =
    let few = c.requires.front.few in
    let room = c.requires.room in
    let within : c.args.front.len ≤ length c.args.text.now = omega (arith, few, room) in
    let all = front_length c.args.front.number c.args.front.len c.args.text.now c.if-front-ge-EIGHT.true (omega arith) within c.requires.front.digits in
    omega (arith, all)

pub returns-then-number-front-2-clause-front : goal.returns-then-number-front-2-clause-front
returns-then-number-front-2-clause-front c =
    let few = c.requires.front.few in
    let room = c.requires.room in
    let within : c.args.front.len ≤ length c.args.text.now = omega (arith, few, room) in
    record {
      few = few;
      digits = front_again c.args.front.number c.args.number c.args.front.len c.args.text.now c.put_eight.new.bytes c.if-front-ge-EIGHT.true (omega arith)
          (omega arith) within
          c.requires.front.digits c.if-number-front-2.true c.put_eight.ensures.text;
    }
