use Rattle.task_reader.specs.Pieces.{full_lines_of}
use Rattle.task_reader.proofs.PiecesLemmas.{count_pieces}
use Rattle.task_reader.proofs.JoinedPieces.{pieces_again}
use Rattle.task_reader.proofs.pieces.pieces_law.Goals as goal

pub returns-clause-count : goal.returns-clause-count
returns-clause-count c bytes = count_pieces (full_lines_of bytes)

pub returns-clause-again : goal.returns-clause-again
returns-clause-again c = pieces_again
