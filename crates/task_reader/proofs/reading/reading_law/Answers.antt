use Rattle.task_reader.proofs.Accepts.{read_utf8, read_accepts}
use Rattle.task_reader.proofs.Refuses.{writes_reading}
use Rattle.task_reader.proofs.reading.reading_law.Goals as goal

pub returns-clause-text : goal.returns-clause-text
returns-clause-text c = read_utf8

pub returns-clause-read : goal.returns-clause-read
returns-clause-read c bytes s h = let (top, tree, accepts) = read_accepts bytes s h in (top, tree, accepts.writes)

pub returns-clause-lawful : goal.returns-clause-lawful
returns-clause-lawful c bytes s h = let (top, tree, accepts) = read_accepts bytes s h in accepts.lawful

pub returns-clause-written : goal.returns-clause-written
returns-clause-written c = writes_reading
