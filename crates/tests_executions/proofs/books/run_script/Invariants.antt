use Rattle.std.proofs.Common.{[]}
use Rattle.tests_executions.proofs.books.run_script.Given as goal

abbrev pub ghosts-run-Q-Ledger : goal.ghosts-run-Q-Ledger
ghosts-run-Q-Ledger g a = record { name = a.blank.name; parts = a.blank.parts }

abbrev pub ghosts-run-Q-PostLedger : goal.ghosts-run-Q-PostLedger
ghosts-run-Q-PostLedger g a = record { made = []; set = a.plan.now.set }
