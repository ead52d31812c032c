use Rattle.locked_book.proofs.workplace.Workplace.agree.Goals as goal

pub returns-then-is_of_plan : goal.returns-then-is_of_plan
returns-then-is_of_plan g c = c.is_of_plan.ensures.agreed c.if-is_of_plan.true
