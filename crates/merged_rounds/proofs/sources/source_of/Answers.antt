use Rattle.std.proofs.Common.{sym}
use Rattle.merged_rounds.proofs.sources.source_of.Goals as goal

pub returns-clause-belongs : goal.returns-clause-belongs
returns-clause-belongs c = record {
  computed = λ off. record { belongs = c.requires.belongs; tick = sym c.now-tick.ensures.value };
  again = λ on. cc;
}
