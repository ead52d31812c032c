use Rattle.std.proofs.Common.{◌≡◌, true, false, codes, ◌∙◌, sym}
use Rattle.clap.specs.Words.{found_of}
use Rattle.clap.proofs.WalkLemmas.{one_text-rows}
use Rattle.command_words.proofs.command_line.trace_in.Goals as goal

pub returns-then-get_flag-clause-repeat : goal.returns-then-get_flag-clause-repeat
returns-then-get_flag-clause-repeat c = λ unmet given. absurd
    (let bad : true ≡ false = sym c.if-get_flag.true ∙ c.get_flag.ensures.other (one_text-rows (found_of c.args.options.now) (codes "met") ∙ unmet) in cc)

pub returns-then-get_flag-clause-plain : goal.returns-then-get_flag-clause-plain
returns-then-get_flag-clause-plain c = λ unmet unrepeated none. absurd
    (let bad : true ≡ false = sym c.if-get_flag.true ∙ c.get_flag.ensures.other (one_text-rows (found_of c.args.options.now) (codes "met") ∙ unmet) in cc)

pub returns-then-get_flag-clause-wrap : goal.returns-then-get_flag-clause-wrap
returns-then-get_flag-clause-wrap c = λ unmet unrepeated given. absurd
    (let bad : true ≡ false = sym c.if-get_flag.true ∙ c.get_flag.ensures.other (one_text-rows (found_of c.args.options.now) (codes "met") ∙ unmet) in cc)

pub returns-clause-met : goal.returns-clause-met
returns-clause-met c = λ met. absurd
    (let bad : true ≡ false = sym (c.get_flag.ensures.value (one_text-rows (found_of c.args.options.now) (codes "met") ∙ met)) ∙ c.if-get_flag.false in cc)

pub returns-clause-repeat : goal.returns-clause-repeat
returns-clause-repeat c = λ unmet given. c.trace_unmet.ensures.repeat given

pub returns-clause-plain : goal.returns-clause-plain
returns-clause-plain c = λ unmet unrepeated none. c.trace_unmet.ensures.plain unrepeated none

pub returns-clause-wrap : goal.returns-clause-wrap
returns-clause-wrap c = λ unmet unrepeated given. c.trace_unmet.ensures.wrap unrepeated given
