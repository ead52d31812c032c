use Rattle.std.proofs.Common.{arith}
use Rattle.sched_base.proofs.TableLemmas.{row_within}
use Rattle.book_machine.proofs.search.waits_for.Goals as goal

pub returns-then-stands_in-clause-some : goal.returns-then-stands_in-clause-some
returns-then-stands_in-clause-some c = record {
  lane = let all = c.processors-q-end.ensures.value in let before = c.loop-q-test.true in let same = c.requires.lanes in omega (arith, all, before, same);
  other = c.if-q-p.true;
  unposted = c.stands_in.ensures.some c.if-stands_in.true;
  lowest = c.loop-q.invariant;
}

pub returns-clause-none : goal.returns-clause-none
returns-clause-none c = λ q other j r below at is.
    let inside = (row_within c.args.table.now.lanes c.processors-q-end.ensures.lawful q j r at).0 in
    let all = c.processors-q-end.ensures.value in
    let end = c.loop-q-test.false in
    c.loop-q.invariant q (omega (arith, inside, all, end)) other j r below at is
