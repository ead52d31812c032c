use Rattle.std.proofs.Common.{◌*◌, arith, inl, inr}
use Rattle.std.proofs.lemmas.Bool.{cases_lt}
use Rattle.event_core.proofs.ticks.next_narrow.Goals as goal

pub returns-then-at-used-clause-skipped : goal.returns-then-at-used-clause-skipped
returns-then-at-used-clause-skipped c = λ k l low high e. elim (cases_lt k (c.early.block * 8)) [
  | inl before ↦ c.early.invariant.2 k l low before e
  | inr after ↦
      (let near = c.next_in_block-at.ensures.near c.if-at-used.true in
      c.next_in_block-at.ensures.skipped k l low (omega (arith, after)) (omega (arith, high, near)) high e)
]
