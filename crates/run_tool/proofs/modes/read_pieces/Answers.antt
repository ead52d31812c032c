use Rattle.std.proofs.Common.{◌≡◌, ℕ, ◌+◌, ◌-◌, ◌<◌, ◌≤◌, length, length-drop, length-take, take, drop, ap, sym, subst, arith}
use Rattle.std.proofs.lemmas.Result.{IfOk-from_err}
use Rattle.mode_switch.proofs.RunLemmas.{told_fault}
use Rattle.run_tool.proofs.ModeEndLemmas.{piece_within, AreRead, none_read, one_more_read, piece_refused, all_read, some_read}
use Rattle.run_tool.proofs.modes.read_pieces.Goals as goal

pub loop-j-init : goal.loop-j-init
loop-j-init c = record { read = subst (AreRead c.args.bytes.now 0) (sym c.requires.none) (none_read c.args.bytes.now) }

pub piece-start-requires : goal.piece-start-requires
piece-start-requires c = subst (λ (n : ℕ). c.loop-j.j < n) c.count-j-end.ensures c.loop-j-test.true

pub bytes_in-requires-clause-order : goal.bytes_in-requires-clause-order
bytes_in-requires-clause-order c =
    let span = piece_within c.args.bytes.now c.args.pieces.now c.loop-j.j c.piece-start.result c.requires.within c.piece-start.ensures in
    span.order

pub bytes_in-requires-clause-within : goal.bytes_in-requires-clause-within
bytes_in-requires-clause-within c =
    let span = piece_within c.args.bytes.now c.args.pieces.now c.loop-j.j c.piece-start.result c.requires.within c.piece-start.ensures in
    span.end

pub read_piece-requires : goal.read_piece-requires
read_piece-requires c =
    let (start, end) = c.piece-start.result in
    let is : length c.bytes_in.result.now ≡ length (take (end - start) (drop start c.args.bytes.now)) = ap length c.bytes_in.ensures in
    omega (arith, is, length-take (end - start) (drop start c.args.bytes.now), length-drop start c.args.bytes.now, c.requires.few)

pub returns-in_err-set-clause-read : goal.returns-in_err-set-clause-read
returns-in_err-set-clause-read c = IfOk-from_err _ _ c.from_residual.ensures.0

pub returns-in_err-set-clause-some : goal.returns-in_err-set-clause-some
returns-in_err-set-clause-some c = IfOk-from_err _ _ c.from_residual.ensures.0

pub returns-in_err-set-clause-refused : goal.returns-in_err-set-clause-refused
returns-in_err-set-clause-refused c =
    told_fault _ _ _ c.from_residual.ensures.1
    (piece_refused c.args.bytes.now c.args.pieces.now c.requires.each c.loop-j.j c.piece-start.result c.bytes_in.result.now c.loop-j.sets.items
    c.in_err-set.field-0.0 c.piece-start.ensures c.bytes_in.ensures c.loop-j.invariant.read c.in_err-set.ensures.refused)

pub returns-in_err-push-clause-read : goal.returns-in_err-push-clause-read
returns-in_err-push-clause-read c = IfOk-from_err _ _ c.from_residual-in_err-push.ensures.0

pub returns-in_err-push-clause-some : goal.returns-in_err-push-clause-some
returns-in_err-push-clause-some c = IfOk-from_err _ _ c.from_residual-in_err-push.ensures.0

pub returns-in_err-push-clause-refused : goal.returns-in_err-push-clause-refused
returns-in_err-push-clause-refused c = told_fault _ _ _ c.from_residual-in_err-push.ensures.1 tt

pub loop-j-preserved : goal.loop-j-preserved
loop-j-preserved c = record {
  read = subst (AreRead c.args.bytes.now (c.loop-j.j + 1)) (sym c.in_ok-push.ensures.items)
      (one_more_read c.args.bytes.now c.args.pieces.now c.requires.each c.loop-j.j c.piece-start.result c.bytes_in.result.now c.loop-j.sets.items
      c.in_ok-set.set c.piece-start.ensures c.bytes_in.ensures c.loop-j.invariant.read c.in_ok-set.ensures.read);
}

pub returns-clause-read : goal.returns-clause-read
returns-clause-read c =
    all_read c.args.bytes.now c.args.pieces.now c.requires.each c.loop-j.j c.loop-j.sets.items
    (subst (λ (n : ℕ). n ≤ c.loop-j.j) c.count-j-end.ensures c.loop-j-test.false) c.loop-j.invariant.read

pub returns-clause-some : goal.returns-clause-some
returns-clause-some c =
    some_read c.args.bytes.now c.loop-j.sets.items _ (c.pieces_law.ensures.count c.args.bytes.now)
    (all_read c.args.bytes.now c.args.pieces.now c.requires.each c.loop-j.j c.loop-j.sets.items
    (subst (λ (n : ℕ). n ≤ c.loop-j.j) c.count-j-end.ensures c.loop-j-test.false) c.loop-j.invariant.read)
