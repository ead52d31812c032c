use Rattle.std.proofs.Common.{◌≡◌, true, false, codes, ◌∙◌, sym}
use Rattle.clap.specs.Words.{found_of}
use Rattle.clap.proofs.WalkLemmas.{one_text-rows}
use Rattle.command_words.proofs.command_line.table_in.Goals as goal

pub returns-then-get_flag-clause-plain : goal.returns-then-get_flag-clause-plain
returns-then-get_flag-clause-plain c = λ unmet. absurd
    (let bad : true ≡ false = sym c.if-get_flag.true ∙ c.get_flag.ensures.other (one_text-rows (found_of c.args.options.now) (codes "repeat") ∙ unmet) in cc)

pub returns-else-get_flag-clause-repeat : goal.returns-else-get_flag-clause-repeat
returns-else-get_flag-clause-repeat c = λ met. absurd
    (let bad : true ≡ false = sym (c.get_flag.ensures.value (one_text-rows (found_of c.args.options.now) (codes "repeat") ∙ met)) ∙ c.if-get_flag.false in cc)
