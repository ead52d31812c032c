use Rattle.cpu_assign.proofs.changes.leave.Goals as goal

pub bounds-onto-p : goal.bounds-onto-p
bounds-onto-p c = c.requires c.in-Some.p c.in-Some.is

pub returns-else-eq-clause-others : goal.returns-else-eq-clause-others
returns-else-eq-clause-others c = λ p j e ne. e

pub returns-else-eq-clause-was : goal.returns-else-eq-clause-was
returns-else-eq-clause-was c = λ p j e. e

pub returns-else-eq-clause-none : goal.returns-else-eq-clause-none
returns-else-eq-clause-none c = λ p e. e

pub returns-in_default-clause-others : goal.returns-in_default-clause-others
returns-in_default-clause-others c = λ p j e ne. e

pub returns-in_default-clause-was : goal.returns-in_default-clause-was
returns-in_default-clause-was c = λ p j e. e

pub returns-in_default-clause-none : goal.returns-in_default-clause-none
returns-in_default-clause-none c = λ p e. e
