use Rattle.std.proofs.lemmas.Result.{IfOk-from_err, err_from_is_err_and}
use Rattle.std.proofs.Common.{arith}
use Rattle.std.proofs.lemmas.Grind.{common_steps}
use Rattle.job_vm.proofs.NamesLemmas.{still_named}
use Rattle.job_vm.proofs.programs.Programs.begin.Goals as goal

pub invariant_of-self-2 : goal.invariant_of-self-2
invariant_of-self-2 c = (
  omega (arith, c.push_reserved.ensures.len, c.in_ok-reserve.ensures.len, c.len.ensures),
  λ name. rw (c.push_reserved.ensures.items, c.reserve.ensures.items)
      (still_named (λ k. k.items) c.self.inside.names.keys c.insert.new.self.keys c.in_ok-to_vec.field-0 c.self.inside.list.items _
      c.self.invariant.1 c.in_ok-insert.ensures.keys (let h = c.in_ok-to_vec.ensures in let k = c.new.ensures in grind (arith, common_steps)) name),
)

pub returns-in_err-reserve-clause-begun : goal.returns-in_err-reserve-clause-begun
returns-in_err-reserve-clause-begun c = IfOk-from_err _ _ c.from_residual.ensures.0

pub returns-in_err-reserve-clause-fault : goal.returns-in_err-reserve-clause-fault
returns-in_err-reserve-clause-fault c = let why = err_from_is_err_and c.from_residual.result c.from_residual.ensures.1 in rw (why.1, why.2) tt

pub returns-in_err-to_vec-clause-begun : goal.returns-in_err-to_vec-clause-begun
returns-in_err-to_vec-clause-begun c = IfOk-from_err _ _ c.from_residual-in_err-to_vec.ensures.0

pub returns-in_err-to_vec-clause-fault : goal.returns-in_err-to_vec-clause-fault
returns-in_err-to_vec-clause-fault c = let why = err_from_is_err_and c.from_residual-in_err-to_vec.result c.from_residual-in_err-to_vec.ensures.1 in
    rw (why.1, why.2) tt

pub returns-in_err-insert-clause-begun : goal.returns-in_err-insert-clause-begun
returns-in_err-insert-clause-begun c = IfOk-from_err _ _ c.from_residual-in_err-insert.ensures.0

pub returns-in_err-insert-clause-fault : goal.returns-in_err-insert-clause-fault
returns-in_err-insert-clause-fault c = let why = err_from_is_err_and c.from_residual-in_err-insert.result c.from_residual-in_err-insert.ensures.1 in
    rw (why.1, why.2) tt
