use Rattle.std.proofs.Common.{codes, ◌∙◌, ap₂}
use Rattle.clap.specs.Words.{found_of}
use Rattle.clap.proofs.WalkLemmas.{first_value-rows}
use Rattle.command_words.specs.Words.{drawn}
use Rattle.command_words.proofs.command_line.draw_in.Goals as goal

pub returns : goal.returns
returns c =
    let found = found_of c.args.options.now in
    c.drawn.ensures ∙ ap₂ drawn (c.bytes_of-from.ensures ∙ c.get_str.ensures ∙ first_value-rows found (codes "from"))
    (c.bytes_of-units.ensures ∙ c.get_str-2.ensures ∙ first_value-rows found (codes "units"))
