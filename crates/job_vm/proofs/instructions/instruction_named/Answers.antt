use Rattle.std.proofs.Common.{◌∙◌, ap, sym, Some, option_map, arith}
use Rattle.std.specs.Str.{bytes_eq}
use Rattle.job_vm.specs.Instructions.{word_of}
use Rattle.job_vm.proofs.InstructionsLemmas.{named_set, named_add, named_sub, named_mul, named_jz, named_jump, named_none}
use Rattle.job_vm.proofs.instructions.instruction_named.Goals as goal

pub returns-then-eq : goal.returns-then-eq
returns-then-eq c =
    c.on_register.ensures
    ∙ named_set c.args.count c.args.name.now c.args.operands.now (ap (bytes_eq c.args.name.now) (sym c.as_slice.ensures) ∙ sym c.if-eq.ensures)

pub returns-then-eq-2 : goal.returns-then-eq-2
returns-then-eq-2 c =
    c.on_register-then-eq-2.ensures
    ∙ named_add c.args.count c.args.name.now c.args.operands.now
    (ap (bytes_eq c.args.name.now) (sym c.as_slice.ensures) ∙ sym c.if-eq.ensures)
    (ap (bytes_eq c.args.name.now) (sym c.as_slice-else-eq.ensures) ∙ sym c.if-eq-2.ensures)

pub returns-then-eq-3 : goal.returns-then-eq-3
returns-then-eq-3 c =
    c.on_register-then-eq-3.ensures
    ∙ named_sub c.args.count c.args.name.now c.args.operands.now
    (ap (bytes_eq c.args.name.now) (sym c.as_slice.ensures) ∙ sym c.if-eq.ensures)
    (ap (bytes_eq c.args.name.now) (sym c.as_slice-else-eq.ensures) ∙ sym c.if-eq-2.ensures)
    (ap (bytes_eq c.args.name.now) (sym c.as_slice-else-eq-2.ensures) ∙ sym c.if-eq-3.ensures)

pub returns-then-eq-4 : goal.returns-then-eq-4
returns-then-eq-4 c =
    c.on_register-then-eq-4.ensures
    ∙ named_mul c.args.count c.args.name.now c.args.operands.now
    (ap (bytes_eq c.args.name.now) (sym c.as_slice.ensures) ∙ sym c.if-eq.ensures)
    (ap (bytes_eq c.args.name.now) (sym c.as_slice-else-eq.ensures) ∙ sym c.if-eq-2.ensures)
    (ap (bytes_eq c.args.name.now) (sym c.as_slice-else-eq-2.ensures) ∙ sym c.if-eq-3.ensures)
    (ap (bytes_eq c.args.name.now) (sym c.as_slice-else-eq-3.ensures) ∙ sym c.if-eq-4.ensures)

pub returns-then-eq-5 : goal.returns-then-eq-5
returns-then-eq-5 c =
    c.on_register-then-eq-5.ensures
    ∙ named_jz c.args.count c.min-targets.result c.args.name.now c.args.operands.now
    (record {
      no_set = ap (bytes_eq c.args.name.now) (sym c.as_slice.ensures) ∙ sym c.if-eq.ensures;
      no_add = ap (bytes_eq c.args.name.now) (sym c.as_slice-else-eq.ensures) ∙ sym c.if-eq-2.ensures;
      no_sub = ap (bytes_eq c.args.name.now) (sym c.as_slice-else-eq-2.ensures) ∙ sym c.if-eq-3.ensures;
      no_mul = ap (bytes_eq c.args.name.now) (sym c.as_slice-else-eq-3.ensures) ∙ sym c.if-eq-4.ensures;
    })
    (ap (bytes_eq c.args.name.now) (sym c.as_slice-else-eq-4.ensures) ∙ sym c.if-eq-5.ensures)
    (omega (arith, c.min-targets.ensures, c.saturating_add.ensures))

pub returns-in_err-operand : goal.returns-in_err-operand
returns-in_err-operand c =
    c.from_residual.ensures
    ∙ (ap (option_map (word_of 5 0)) (sym (c.in_err-operand.was) ∙ c.operand.ensures)
    ∙ named_jump c.args.count c.min-targets.result c.args.name.now c.args.operands.now
    (record {
      no_set = ap (bytes_eq c.args.name.now) (sym c.as_slice.ensures) ∙ sym c.if-eq.ensures;
      no_add = ap (bytes_eq c.args.name.now) (sym c.as_slice-else-eq.ensures) ∙ sym c.if-eq-2.ensures;
      no_sub = ap (bytes_eq c.args.name.now) (sym c.as_slice-else-eq-2.ensures) ∙ sym c.if-eq-3.ensures;
      no_mul = ap (bytes_eq c.args.name.now) (sym c.as_slice-else-eq-3.ensures) ∙ sym c.if-eq-4.ensures;
    })
    (ap (bytes_eq c.args.name.now) (sym c.as_slice-else-eq-4.ensures) ∙ sym c.if-eq-5.ensures)
    (ap (bytes_eq c.args.name.now) (sym c.as_slice-else-eq-5.ensures) ∙ sym c.if-eq-6.ensures)
    (omega (arith, c.min-targets.ensures, c.saturating_add.ensures)))

pub returns-in_ok-operand : goal.returns-in_ok-operand
returns-in_ok-operand c =
    ap Some c.word_of.ensures
    ∙ (ap (option_map (word_of 5 0)) (sym (c.in_ok-operand.was) ∙ c.operand.ensures)
    ∙ named_jump c.args.count c.min-targets.result c.args.name.now c.args.operands.now
    (record {
      no_set = ap (bytes_eq c.args.name.now) (sym c.as_slice.ensures) ∙ sym c.if-eq.ensures;
      no_add = ap (bytes_eq c.args.name.now) (sym c.as_slice-else-eq.ensures) ∙ sym c.if-eq-2.ensures;
      no_sub = ap (bytes_eq c.args.name.now) (sym c.as_slice-else-eq-2.ensures) ∙ sym c.if-eq-3.ensures;
      no_mul = ap (bytes_eq c.args.name.now) (sym c.as_slice-else-eq-3.ensures) ∙ sym c.if-eq-4.ensures;
    })
    (ap (bytes_eq c.args.name.now) (sym c.as_slice-else-eq-4.ensures) ∙ sym c.if-eq-5.ensures)
    (ap (bytes_eq c.args.name.now) (sym c.as_slice-else-eq-5.ensures) ∙ sym c.if-eq-6.ensures)
    (omega (arith, c.min-targets.ensures, c.saturating_add.ensures)))

pub returns-else-eq-6 : goal.returns-else-eq-6
returns-else-eq-6 c =
    named_none c.args.count c.args.name.now c.args.operands.now
    (record {
      no_set = ap (bytes_eq c.args.name.now) (sym c.as_slice.ensures) ∙ sym c.if-eq.ensures;
      no_add = ap (bytes_eq c.args.name.now) (sym c.as_slice-else-eq.ensures) ∙ sym c.if-eq-2.ensures;
      no_sub = ap (bytes_eq c.args.name.now) (sym c.as_slice-else-eq-2.ensures) ∙ sym c.if-eq-3.ensures;
      no_mul = ap (bytes_eq c.args.name.now) (sym c.as_slice-else-eq-3.ensures) ∙ sym c.if-eq-4.ensures;
    })
    (ap (bytes_eq c.args.name.now) (sym c.as_slice-else-eq-4.ensures) ∙ sym c.if-eq-5.ensures)
    (ap (bytes_eq c.args.name.now) (sym c.as_slice-else-eq-5.ensures) ∙ sym c.if-eq-6.ensures)

pub on_register-requires-clause-operation : goal.on_register-requires-clause-operation
on_register-requires-clause-operation _ = omega arith

pub on_register-requires-clause-limit : goal.on_register-requires-clause-limit
on_register-requires-clause-limit _ = omega arith

pub on_register-requires-then-eq-2-clause-operation : goal.on_register-requires-then-eq-2-clause-operation
on_register-requires-then-eq-2-clause-operation _ = omega arith

pub on_register-requires-then-eq-2-clause-limit : goal.on_register-requires-then-eq-2-clause-limit
on_register-requires-then-eq-2-clause-limit _ = omega arith

pub on_register-requires-then-eq-3-clause-operation : goal.on_register-requires-then-eq-3-clause-operation
on_register-requires-then-eq-3-clause-operation _ = omega arith

pub on_register-requires-then-eq-3-clause-limit : goal.on_register-requires-then-eq-3-clause-limit
on_register-requires-then-eq-3-clause-limit _ = omega arith

pub on_register-requires-then-eq-4-clause-operation : goal.on_register-requires-then-eq-4-clause-operation
on_register-requires-then-eq-4-clause-operation _ = omega arith

pub on_register-requires-then-eq-4-clause-limit : goal.on_register-requires-then-eq-4-clause-limit
on_register-requires-then-eq-4-clause-limit _ = omega arith

pub on_register-requires-then-eq-5-clause-operation : goal.on_register-requires-then-eq-5-clause-operation
on_register-requires-then-eq-5-clause-operation _ = omega arith

pub word_of-requires-clause-operation : goal.word_of-requires-clause-operation
word_of-requires-clause-operation _ = omega arith

pub word_of-requires-clause-register : goal.word_of-requires-clause-register
word_of-requires-clause-register _ = omega arith
