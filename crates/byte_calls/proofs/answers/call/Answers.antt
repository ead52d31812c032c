use Rattle.std.proofs.Common.{rules}
use Rattle.byte_calls.proofs.AnswerLemmas.{refused_told, answered_told}
use Rattle.byte_calls.proofs.answers.call.Goals as goal

pub returns-in_default-clause-told : goal.returns-in_default-clause-told
returns-in_default-clause-told c =
    refused_told c.args.reading c.args.bytes.now _ _ _ _ _ _ _ _ _ _ c.new-source.ensures c.new-out.ensures.taken c.new-out.ensures.faults
    (search rules) c.new-err.ensures.taken c.new-err.ensures.faults (search rules) c.run_reading-status.result
    c.in_default.not-Done c.in_default.not-Invalid c.in_default.not-NoMemory c.run_reading-status.ensures.ends

pub returns-in_default-clause-answered : goal.returns-in_default-clause-answered
returns-in_default-clause-answered c =
    answered_told c.args.reading c.args.bytes.now _ c.run_reading-status.new.source.rest.now _ c.run_reading-status.new.out.bytes.items _
    c.run_reading-status.new.err.bytes.items _ c.run_reading-status.new.out.faults _ c.run_reading-status.new.err.faults
    c.new-source.ensures c.new-out.ensures.taken c.new-out.ensures.faults (search rules) c.new-err.ensures.taken c.new-err.ensures.faults
    (search rules) c.run_reading-status.result c.run_reading-status.ensures.answered
