use Rattle.exec_book.proofs.book.Book.faults_are.Goals as goal

pub returns : goal.returns
returns g c = rw (← c.self.view_is) (rw c.in-Some.is c.faults_are.ensures)
