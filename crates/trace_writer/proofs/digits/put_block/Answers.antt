use Rattle.std.proofs.Common.{arith}
use Rattle.trace_writer.proofs.HeldLemmas.{block_put}
use Rattle.trace_writer.proofs.digits.put_block.Goals as goal

pub returns-clause-text : goal.returns-clause-text
returns-clause-text c = rw c.copy_from_slice.ensures.after (block_put c.args.bytes.now c.args.block.now _ c.args.at c.args.len (omega arith) c.requires.within)
