use Rattle.std.proofs.Common.{◌∙◌, ap, sym, None, Some}
use Rattle.std.specs.Str.{bytes_eq}
use Rattle.job_vm.proofs.InstructionsLemmas.{halt_is, words_are}
use Rattle.job_vm.proofs.instructions.instruction_of.Goals as goal

pub returns-then-eq : goal.returns-then-eq
returns-then-eq c =
    ap Some c.word_of.ensures ∙ halt_is c.args.count c.args.line.now (ap (bytes_eq c.args.line.now) (sym c.as_slice.ensures) ∙ sym c.if-eq.ensures)

pub returns-in_err-name : goal.returns-in_err-name
returns-in_err-name c =
    c.from_residual.ensures
    ∙ words_are c.args.count c.args.line.now None (ap (bytes_eq c.args.line.now) (sym c.as_slice.ensures) ∙ sym c.if-eq.ensures) c.in_err-name.ensures

pub returns : goal.returns
returns c =
    c.instruction_named.ensures
    ∙ words_are c.args.count c.args.line.now (Some (c.in_ok-name.name.now, c.in_ok-name.operands.now))
    (ap (bytes_eq c.args.line.now) (sym c.as_slice.ensures) ∙ sym c.if-eq.ensures) c.in_ok-name.ensures
