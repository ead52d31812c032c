use Rattle.std.proofs.Common.{arith, rules, ap, sym, ◌∙◌, true, false, List, ℕ, Some, ◌≡◌, ◌≢◌, ◌≤◌, ◌<◌, ◌+◌}
use borrow.Author.Count.{below_more}
use Rattle.sched_base.specs.declared.rows.Row.{Row}
use Rattle.sched_base.specs.declared.rows.Leaf.{Leaf}
use Rattle.sched_base.specs.Tables.{RowAt}
use Rattle.book_machine.proofs.search.stands_in.Goals as goal

pub loop-round-init : goal.loop-round-init
loop-round-init c = λ j r from below at is. omega (arith, from, below)

pub returns-clause-none : goal.returns-clause-none
returns-clause-none c = λ _ j r from below at is. c.loop-round.invariant j r from (let end = c.loop-round-test.false in omega (arith, below, end)) at is

pub row-requires-clause-processor : goal.row-requires-clause-processor
row-requires-clause-processor c = c.requires.lane

pub row-requires-clause-round : goal.row-requires-clause-round
row-requires-clause-round c = let most = c.requires.rounds in let below = c.loop-round-test.true in omega (arith, most, below)

pub returns-then-eq-clause-none : goal.returns-then-eq-clause-none
returns-then-eq-clause-none c = λ e. absurd (let is : true ≡ false = e in cc)

pub returns-clause-some : goal.returns-clause-some
returns-clause-some c = λ e. absurd (let is : false ≡ true = e in cc)

-- what holds of each earlier round and of this one
no_more : (lanes : List (List Row)) (q from round : ℕ) (leaf : Leaf) → ((r : Row) → RowAt lanes q round r → r.leaf ≢ leaf) → ((j : ℕ) (r : Row) → from ≤ j →
    j < round → RowAt lanes q j r → r.leaf ≢ leaf) →
    (j : ℕ) (r : Row) → from ≤ j → j < round + 1 → RowAt lanes q j r → r.leaf ≢ leaf
no_more lanes q from round leaf here before j r low within at =
    below_more (λ k. (row : Row) → from ≤ k → RowAt lanes q k row → row.leaf ≢ leaf) round (λ k less row above there. before k row above less there)
    (λ row above there. here row there) j within r low at

-- there is one row in its place
one_row : (lanes : List (List Row)) (q round : ℕ) (row r : Row) → RowAt lanes q round row → RowAt lanes q round r → row ≡ r
one_row lanes q round row r first second = let same : Some row ≡ Some r = sym first ∙ second in cc

pub loop-round-preserved : goal.loop-round-preserved
loop-round-preserved c =
    no_more c.args.table.now.lanes c.args.q c.args.from c.loop-round.round c.args.leaf (λ r at is. (
    let own : c.row.result ≡ r = one_row c.args.table.now.lanes c.args.q c.loop-round.round c.row.result r c.row.ensures.value at in
    let same : c.row.result.leaf ≡ c.args.leaf = ap (λ (x : Row). x.leaf) own ∙ is in
    search rules
    )) c.loop-round.invariant

pub returns-then-eq-clause-some : goal.returns-then-eq-clause-some
returns-then-eq-clause-some c =
    let same : c.row.result.leaf ≡ c.args.leaf = search rules in
    λ _. (c.loop-round.round, c.row.result, c.loop-round.auto.round, c.loop-round-test.true, c.row.ensures.value, same)
