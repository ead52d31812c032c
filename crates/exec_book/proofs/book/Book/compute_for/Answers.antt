use Rattle.std.proofs.Common.{◌≡◌, ◌∙◌, true, false, inl, inr, refl, sym, arith}
use Rattle.sched_base.specs.Tables.{rounds_in}
use Rattle.book_machine.specs.Machine.{posted_at}
use Rattle.plan_rounds.proofs.RoundLemmas.{below_or}
use Rattle.exec_book.proofs.book.Book.compute_for.Goals as goal

pub wants_round-requires-clause-lane : goal.wants_round-requires-clause-lane
wants_round-requires-clause-lane g c = c.requires.lane

pub wants_round-requires-clause-open : goal.wants_round-requires-clause-open
wants_round-requires-clause-open g c = c.requires.open

pub compute_next-requires-clause-left : goal.compute_next-requires-clause-left
compute_next-requires-clause-left g c =
    let past = (c.wants_round.ensures.wants.0 c.if-wants_round.true).1 in
    let left = c.requires.left in
    omega (arith, past, left)

pub compute_next-requires-clause-in_window : goal.compute_next-requires-clause-in_window
compute_next-requires-clause-in_window g c =
    let wants = c.wants_round.ensures.wants.0 c.if-wants_round.true in
    let inside = wants.0 in
    let past = wants.1 in
    omega (arith, inside, past)

pub compute_next-requires-clause-open : goal.compute_next-requires-clause-open
compute_next-requires-clause-open g c = c.requires.open

pub returns-then-wants_round-clause-book : goal.returns-then-wants_round-clause-book
returns-then-wants_round-clause-book g c = c.compute_next.ensures.book

pub returns-then-wants_round-clause-rounds : goal.returns-then-wants_round-clause-rounds
returns-then-wants_round-clause-rounds g c =
    let wants = c.wants_round.ensures.wants.0 c.if-wants_round.true in
    record {
      wanted = λ _. c.compute_next.ensures.one_more;
      unwanted = λ other. absurd (other (record { running = c.requires.running; left = c.requires.left; in_window = wants.0; not_held = wants.1 }));
    }

pub returns-then-wants_round-clause-held : goal.returns-then-wants_round-clause-held
returns-then-wants_round-clause-held g c = λ _.
    let more = c.compute_next.ensures.one_more in
    let held = c.wants_round.ensures.held in
    omega (arith, more, held)

pub returns-else-wants_round-clause-book : goal.returns-else-wants_round-clause-book
returns-else-wants_round-clause-book g c = refl

pub returns-else-wants_round-clause-rounds : goal.returns-else-wants_round-clause-rounds
returns-else-wants_round-clause-rounds g c = record {
  wanted = λ wants. absurd (let e : true ≡ false = sym (c.wants_round.ensures.wants.1 (wants.in_window, wants.not_held)) ∙ c.if-wants_round.false in cc);
  unwanted = λ _. refl;
}

pub returns-else-wants_round-clause-held : goal.returns-else-wants_round-clause-held
returns-else-wants_round-clause-held g c = λ inside. elim (below_or (posted_at c.args.self.now.state c.args.p) (rounds_in c.args.self.now.table.lanes)) [
  | inl below ↦ below
  | inr past ↦ absurd (let e : true ≡ false = sym (c.wants_round.ensures.wants.1 (inside, past)) ∙ c.if-wants_round.false in cc)
]
