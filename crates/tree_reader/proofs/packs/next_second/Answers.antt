use Rattle.tree_reader.proofs.packs.next_second.Goals as goal

pub second_number-requires-clause-first : goal.second_number-requires-clause-first
second_number-requires-clause-first c = c.requires.first

pub second_number-requires-clause-second : goal.second_number-requires-clause-second
second_number-requires-clause-second c = c.requires.second
