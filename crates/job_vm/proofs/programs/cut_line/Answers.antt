use Rattle.text_words.specs.Words.{lines_of}
use Rattle.job_vm.proofs.LinesLemmas.{cut_at_feed, lines_cut}
use Rattle.job_vm.proofs.programs.cut_line.Goals as goal

pub returns-clause-line : goal.returns-clause-line
returns-clause-line c =
    lines_cut c.args.text.now c.first_line.result.0.now (lines_of c.first_line.result.1.now) c.min.result c.requires c.first_line.ensures.line c.min.ensures

pub returns-clause-rest : goal.returns-clause-rest
returns-clause-rest c =
    cut_at_feed c.args.text.now c.first_line.result.0.now (lines_of c.first_line.result.1.now) c.min.result c.requires c.first_line.ensures.line c.min.ensures
