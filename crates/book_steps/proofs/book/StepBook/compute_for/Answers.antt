use Rattle.std.proofs.Common.{◌≡◌, ◌∙◌, true, false, inl, inr, refl, sym, arith}
use Rattle.sched_base.specs.Tables.{rounds_in}
use Rattle.book_machine.specs.Machine.{posted_at}
use Rattle.plan_rounds.proofs.RoundLemmas.{below_or}
use Rattle.book_steps.proofs.book.StepBook.compute_for.Goals as goal

pub compute_next-requires-clause-left : goal.compute_next-requires-clause-left
compute_next-requires-clause-left c =
    let past = (c.wants_round.ensures.wants.0 c.if-not-wants_round.false).1 in
    let left = c.requires.left in
    omega (arith, past, left)

pub compute_next-requires-clause-in_window : goal.compute_next-requires-clause-in_window
compute_next-requires-clause-in_window c =
    let wants = c.wants_round.ensures.wants.0 c.if-not-wants_round.false in
    let inside = wants.0 in
    let past = wants.1 in
    omega (arith, inside, past)

pub compute_next-requires-clause-counted : goal.compute_next-requires-clause-counted
compute_next-requires-clause-counted c = λ full. let e : true ≡ false = sym (c.is_full.ensures.1 full) ∙ c.if-is_full.false in absurd (cc)

pub returns-clause-book : goal.returns-clause-book
returns-clause-book c = c.compute_next.ensures.book

pub returns-clause-held : goal.returns-clause-held
returns-clause-held c = λ _ _.
    let more = c.compute_next.ensures.one_more in
    let held = c.wants_round.ensures.held in
    omega (arith, more, held)

pub returns-clause-full : goal.returns-clause-full
returns-clause-full c = λ e. absurd (let is : true ≡ false = e in cc)

pub returns-then-not-wants_round-clause-book : goal.returns-then-not-wants_round-clause-book
returns-then-not-wants_round-clause-book c = refl

pub returns-then-not-wants_round-clause-held : goal.returns-then-not-wants_round-clause-held
returns-then-not-wants_round-clause-held c = λ _ inside. elim (below_or (posted_at c.args.self.now.state c.args.p) (rounds_in c.args.self.now.table.lanes)) [
  | inl below ↦ below
  | inr past ↦ absurd (let e : true ≡ false = sym (c.wants_round.ensures.wants.1 (inside, past)) ∙ c.if-not-wants_round.true in cc)
]

pub returns-then-not-wants_round-clause-full : goal.returns-then-not-wants_round-clause-full
returns-then-not-wants_round-clause-full c = λ e. absurd (let is : true ≡ false = e in cc)

pub returns-then-is_full-clause-book : goal.returns-then-is_full-clause-book
returns-then-is_full-clause-book c = refl

pub returns-then-is_full-clause-held : goal.returns-then-is_full-clause-held
returns-then-is_full-clause-held c = λ e. absurd (let is : false ≡ true = e in cc)

pub returns-then-is_full-clause-full : goal.returns-then-is_full-clause-full
returns-then-is_full-clause-full c = λ _. (c.is_full.ensures.0 c.if-is_full.true, refl)
