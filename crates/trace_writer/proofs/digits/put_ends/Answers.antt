use Rattle.std.proofs.Common.{arith}
use Rattle.trace_writer.proofs.HeldLemmas.{ends_put}
use Rattle.trace_writer.proofs.digits.put_ends.Goals as goal

pub returns-clause-text : goal.returns-clause-text
returns-clause-text c = rw (c.copy_from_slice.ensures.after, c.copy_from_slice-2.ensures.after)
    (ends_put c.args.bytes.now c.args.text.now _ _ c.args.at c.args.some (omega arith) c.requires.within c.requires.whole)
