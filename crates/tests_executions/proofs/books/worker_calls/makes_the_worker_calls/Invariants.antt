use Rattle.std.proofs.Common.{[]}
use Rattle.tests_executions.proofs.books.worker_calls.makes_the_worker_calls.Given as goal

abbrev pub ghosts-play-Q-Ledger : goal.ghosts-play-Q-Ledger
ghosts-play-Q-Ledger g a = record { name = a.blank.name; parts = a.blank.parts }

abbrev pub ghosts-play-Q-PostLedger : goal.ghosts-play-Q-PostLedger
ghosts-play-Q-PostLedger g a = record { made = []; set = a.plan.now.set }
