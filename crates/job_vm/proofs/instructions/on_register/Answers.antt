use Rattle.job_vm.proofs.instructions.on_register.Goals as goal

pub word_of-requires-clause-operation : goal.word_of-requires-clause-operation
word_of-requires-clause-operation c = c.requires.operation
