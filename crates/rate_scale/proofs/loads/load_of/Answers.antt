use Rattle.std.proofs.Common.{arith}
use Rattle.std.proofs.lemmas.Result.{IfOk-from_err, err_from_is_err_and}
use Rattle.rate_scale.specs.Loads.{HasScale}
use Rattle.rate_scale.proofs.loads.load_of.Goals as goal

pub returns-in_err-scale-clause-load : goal.returns-in_err-scale-clause-load
returns-in_err-scale-clause-load c = IfOk-from_err c.from_residual.result _ c.from_residual.ensures.0

pub returns-in_err-scale-clause-refused : goal.returns-in_err-scale-clause-refused
returns-in_err-scale-clause-refused c =
    let why = err_from_is_err_and c.from_residual.result c.from_residual.ensures.1 in
    rw (why.1, why.2) c.in_err-scale.ensures.first

pub returns-in_err-scale-clause-small : goal.returns-in_err-scale-clause-small
returns-in_err-scale-clause-small c =
    let why = err_from_is_err_and c.from_residual.result c.from_residual.ensures.1 in
    rw (why.1, why.2) tt

pub returns-then-total-room-clause-refused : goal.returns-then-total-room-clause-refused
returns-then-total-room-clause-refused c =
    let has : HasScale c.args.set.now c.in_ok-scale.scale = record { is = c.in_ok-scale.ensures.scale; within = c.in_ok-scale.ensures.within } in
    record { some_scale = (c.in_ok-scale.scale, has, c.total-total.ensures.value, c.room-room.ensures.value); over = omega (arith, c.if-total-room.true) }

pub returns-then-total-room-clause-small : goal.returns-then-total-room-clause-small
returns-then-total-room-clause-small c =
    let total = c.total-total.ensures.within in
    let room = c.room-room.ensures.within in
    let fits = c.in_ok-scale.ensures.within in
    (omega (arith, total, fits), omega (arith, room))

pub returns-clause-load : goal.returns-clause-load
returns-clause-load c =
    let total = c.total-total.ensures.value in
    let room = c.room-room.ensures.value in
    record {
      scale = record { is = c.in_ok-scale.ensures.scale; within = c.in_ok-scale.ensures.within };
      total = total;
      room = room;
      fits = omega (arith, total, room, c.if-total-room.false);
    }
