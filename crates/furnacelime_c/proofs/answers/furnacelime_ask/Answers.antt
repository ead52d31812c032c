use Rattle.std.proofs.Common.{rules}
use Rattle.furnacelime_c.proofs.answers.furnacelime_ask.Goals as goal

pub returns-in-Ok-clause-given : goal.returns-in-Ok-clause-given
returns-in-Ok-clause-given c = λ kept. (
  c.in-Some.reading,
  c.call-answer.result,
  search rules,
  search rules,
  record { told = c.call-answer.ensures.told; answered = c.call-answer.ensures.answered },
  search rules,
  search rules,
)
