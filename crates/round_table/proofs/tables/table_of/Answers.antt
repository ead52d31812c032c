use Rattle.std.proofs.lemmas.Result.{IfOk-from_err}
use Rattle.std.proofs.Common.{[], ap, replicate, sym, ◌∙◌}
use Rattle.run_tree.specs.Tree.{Tree}
use Rattle.sched_laws.proofs.TableRows.{lanes_valid}
use Rattle.round_table.proofs.tables.table_of.Goals as goal

pub returns-clause-valid : goal.returns-clause-valid
returns-clause-valid c = lanes_valid c.args.plan.now c.tree.ensures.lawful c.push_rounds.new.table.lanes c.push_rounds.ensures.lanes c.know_whole.ensures.lawful

pub returns-in_err-table-clause-lanes : goal.returns-in_err-table-clause-lanes
returns-in_err-table-clause-lanes c = IfOk-from_err c.from_residual.result _ c.from_residual.ensures.0

pub returns-in_err-table-clause-rounds : goal.returns-in_err-table-clause-rounds
returns-in_err-table-clause-rounds c = IfOk-from_err c.from_residual.result _ c.from_residual.ensures.0

pub returns-in_err-table-clause-full : goal.returns-in_err-table-clause-full
returns-in_err-table-clause-full c = IfOk-from_err c.from_residual.result _ c.from_residual.ensures.0

pub returns-in_err-table-clause-valid : goal.returns-in_err-table-clause-valid
returns-in_err-table-clause-valid c = IfOk-from_err c.from_residual.result _ c.from_residual.ensures.0

pub returns-in_err-rows-clause-lanes : goal.returns-in_err-rows-clause-lanes
returns-in_err-rows-clause-lanes c = IfOk-from_err c.from_residual-in_err-rows.result _ c.from_residual-in_err-rows.ensures.0

pub returns-in_err-rows-clause-rounds : goal.returns-in_err-rows-clause-rounds
returns-in_err-rows-clause-rounds c = IfOk-from_err c.from_residual-in_err-rows.result _ c.from_residual-in_err-rows.ensures.0

pub returns-in_err-rows-clause-full : goal.returns-in_err-rows-clause-full
returns-in_err-rows-clause-full c = IfOk-from_err c.from_residual-in_err-rows.result _ c.from_residual-in_err-rows.ensures.0

pub returns-in_err-rows-clause-valid : goal.returns-in_err-rows-clause-valid
returns-in_err-rows-clause-valid c = IfOk-from_err c.from_residual-in_err-rows.result _ c.from_residual-in_err-rows.ensures.0

pub returns-in_err-core-clause-lanes : goal.returns-in_err-core-clause-lanes
returns-in_err-core-clause-lanes c = IfOk-from_err c.from_residual-in_err-core.result _ c.from_residual-in_err-core.ensures.0

pub returns-in_err-core-clause-rounds : goal.returns-in_err-core-clause-rounds
returns-in_err-core-clause-rounds c = IfOk-from_err c.from_residual-in_err-core.result _ c.from_residual-in_err-core.ensures.0

pub returns-in_err-core-clause-full : goal.returns-in_err-core-clause-full
returns-in_err-core-clause-full c = IfOk-from_err c.from_residual-in_err-core.result _ c.from_residual-in_err-core.ensures.0

pub returns-in_err-core-clause-valid : goal.returns-in_err-core-clause-valid
returns-in_err-core-clause-valid c = IfOk-from_err c.from_residual-in_err-core.result _ c.from_residual-in_err-core.ensures.0

pub push_rounds-requires-clause-belongs : goal.push_rounds-requires-clause-belongs
push_rounds-requires-clause-belongs c = c.in_ok-core.ensures.1

pub push_rounds-requires-clause-first : goal.push_rounds-requires-clause-first
push_rounds-requires-clause-first c = c.in_ok-core.ensures.0

pub push_rounds-requires-clause-room : goal.push_rounds-requires-clause-room
push_rounds-requires-clause-room c = c.in_ok-table.ensures.room ∙ c.requires.rounds

pub push_rounds-requires-clause-none : goal.push_rounds-requires-clause-none
push_rounds-requires-clause-none c = c.in_ok-table.ensures.none ∙ ap (λ n. replicate n []) (c.processors.ensures.value ∙ ap (λ (t : Tree). t.processors)
    c.tree.ensures.value)

pub returns-clause-lanes : goal.returns-clause-lanes
returns-clause-lanes c = c.push_rounds.ensures.lanes

pub returns-clause-rounds : goal.returns-clause-rounds
returns-clause-rounds c = c.push_rounds.ensures.count ∙ sym c.requires.rounds

pub returns-clause-full : goal.returns-clause-full
returns-clause-full c = c.push_rounds.ensures.full
