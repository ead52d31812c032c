use Rattle.trace_writer.proofs.body.write_head.Goals as goal

pub returns-clause-cause : goal.returns-clause-cause
returns-clause-cause g c = c.write_lines.ensures.cause
