use Rattle.std.proofs.Common.{[]}
use Rattle.tests_executions.proofs.books.ledgers.closes_with_all_posts.Given as goal

abbrev pub ghosts-five_posts-Q-Ledger : goal.ghosts-five_posts-Q-Ledger
ghosts-five_posts-Q-Ledger g a = record { name = a.blank.name; parts = a.blank.parts }

abbrev pub ghosts-five_posts-Q-PostLedger : goal.ghosts-five_posts-Q-PostLedger
ghosts-five_posts-Q-PostLedger g a = record { made = []; set = record { processors = 0; horizon = 0; tasks = [] } }
