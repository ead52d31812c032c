use Rattle.std.proofs.Common.{◌/◌, ◌%◌, ◌^◌, ◌+◌, ◌≡◌, ◌≢◌, ◌∙◌, ap, arith}
use Rattle.std.specs.Prelude.{slice_index}
use Rattle.sched_edges.specs.JobMachine.{jump}
use Rattle.job_vm.proofs.ObeyedLemmas.{no_register, set_is, add_is, sub_is, mul_is, no_second, zero_is, not_zero_is, jump_is, no_jump, no_operation}
use Rattle.job_vm.proofs.vm.Vm.obey.Goals as goal

pub returns-then-a-ge8 : goal.returns-then-a-ge8
returns-then-a-ge8 c = no_register (c.args.word / 2 ^ 40) (c.args.word / 2 ^ 32 % 2 ^ 8) (c.args.word % 2 ^ 32) c.args.self.now c.if-a-ge8.true

pub returns-in-0 : goal.returns-in-0
returns-in-0 c =
    c.put.ensures ∙ set_is (c.args.word / 2 ^ 40) (c.args.word / 2 ^ 32 % 2 ^ 8) (c.args.word % 2 ^ 32) c.args.self.now c.in-0.is c.if-a-ge8.false (omega arith)

pub returns-in-1 : goal.returns-in-1
returns-in-1 c = cc (add_is (c.args.word / 2 ^ 40) (c.args.word / 2 ^ 32 % 2 ^ 8) (c.args.word % 2 ^ 32) c.args.self.now c.in-1.is c.if-a-ge8.false
    c.if-b-lt8.true)

pub returns-else-b-lt8 : goal.returns-else-b-lt8
returns-else-b-lt8 c =
    no_second (c.args.word / 2 ^ 40) (c.args.word / 2 ^ 32 % 2 ^ 8) (c.args.word % 2 ^ 32) c.args.self.now (omega arith) (omega arith) c.if-b-lt8.false

pub returns-in-2 : goal.returns-in-2
returns-in-2 c = cc (sub_is (c.args.word / 2 ^ 40) (c.args.word / 2 ^ 32 % 2 ^ 8) (c.args.word % 2 ^ 32) c.args.self.now c.in-2.is c.if-a-ge8.false
    c.if-b-lt8-2.true)

pub returns-else-b-lt8-2 : goal.returns-else-b-lt8-2
returns-else-b-lt8-2 c =
    no_second (c.args.word / 2 ^ 40) (c.args.word / 2 ^ 32 % 2 ^ 8) (c.args.word % 2 ^ 32) c.args.self.now (omega arith) (omega arith) c.if-b-lt8-2.false

pub returns-in-3 : goal.returns-in-3
returns-in-3 c = cc (mul_is (c.args.word / 2 ^ 40) (c.args.word / 2 ^ 32 % 2 ^ 8) (c.args.word % 2 ^ 32) c.args.self.now c.in-3.is c.if-a-ge8.false
    c.if-b-lt8-3.true)

pub returns-else-b-lt8-3 : goal.returns-else-b-lt8-3
returns-else-b-lt8-3 c =
    no_second (c.args.word / 2 ^ 40) (c.args.word / 2 ^ 32 % 2 ^ 8) (c.args.word % 2 ^ 32) c.args.self.now (omega arith) (omega arith) c.if-b-lt8-3.false

pub returns-in-4 : goal.returns-in-4
returns-in-4 c =
    let zero : slice_index c.args.self.now.registers (c.args.word / 2 ^ 32 % 2 ^ 8) ≡ 0 = cc in
    c.jump.ensures ∙ zero_is (c.args.word / 2 ^ 40) (c.args.word / 2 ^ 32 % 2 ^ 8) (c.args.word % 2 ^ 32) c.args.self.now c.in-4.is c.if-a-ge8.false zero

pub returns-in-4-2 : goal.returns-in-4-2
returns-in-4-2 c =
    let other : slice_index c.args.self.now.registers (c.args.word / 2 ^ 32 % 2 ^ 8) ≢ 0 = λ e. c.if-register-eq0.false (cc) in
    c.jump-in-4-2.ensures
    ∙ (ap (λ n. jump (n + 1) c.args.self.now) c.counter.ensures
    ∙ not_zero_is (c.args.word / 2 ^ 40) (c.args.word / 2 ^ 32 % 2 ^ 8) (c.args.word % 2 ^ 32) c.args.self.now c.in-4.is c.if-a-ge8.false other)

pub returns-in-5 : goal.returns-in-5
returns-in-5 c =
    c.jump-in-5.ensures ∙ jump_is (c.args.word / 2 ^ 40) (c.args.word / 2 ^ 32 % 2 ^ 8) (c.args.word % 2 ^ 32) c.args.self.now c.in-5.is c.if-a-eq0.true

pub returns-else-a-eq0 : goal.returns-else-a-eq0
returns-else-a-eq0 c = no_jump (c.args.word / 2 ^ 40) (c.args.word / 2 ^ 32 % 2 ^ 8) (c.args.word % 2 ^ 32) c.args.self.now c.in-5.is c.if-a-eq0.false

pub returns-else-a-ge8 : goal.returns-else-a-ge8
returns-else-a-ge8 c =
    no_operation (c.args.word / 2 ^ 40) (c.args.word / 2 ^ 32 % 2 ^ 8) (c.args.word % 2 ^ 32) c.args.self.now (λ e. absurd (omega arith))
    (λ e. absurd (omega arith))
    (λ e. absurd (omega arith)) (λ e. absurd (omega arith)) (λ e. absurd (omega arith)) (λ e. absurd (omega arith))
