use Rattle.std.proofs.Common.{refl, sym, ap, ◌∙◌}
use Rattle.toml.specs.View.{table_view}
use Rattle.task_reader.specs.declared.refusals.Key.TheVariants.{Processors}
use Rattle.task_reader.specs.Members.{first_refusal, flawed_key}
use Rattle.task_reader.proofs.MembersLemmas.{flawed_in, first_found, first_more, first_past}
use Rattle.task_reader.proofs.members.KeyFlaw.refusal_in.Goals as goal

pub loop-key-init : goal.loop-key-init
loop-key-init c = refl

pub returns-in-Some : goal.returns-in-Some
returns-in-Some c =
    sym (first_found (flawed_key c.args.self c.args.place (table_view c.args.table.now)) c.keys_of-key-items.result.now c.loop-key.key-index Processors
    c.refusal_of.result c.in-Some.refusal c.loop-key-test.true
    c.refusal_of.ensures c.in-Some.is)
    ∙ c.loop-key.invariant ∙ ap (first_refusal (flawed_key c.args.self c.args.place (table_view c.args.table.now))) c.keys_of-key-items.ensures
    ∙ flawed_in c.args.self c.args.place (table_view c.args.table.now)

pub loop-key-preserved : goal.loop-key-preserved
loop-key-preserved c =
    sym (first_more (flawed_key c.args.self c.args.place (table_view c.args.table.now)) c.keys_of-key-items.result.now c.loop-key.key-index Processors
    c.refusal_of.result c.loop-key-test.true c.refusal_of.ensures
    c.in_default.is)
    ∙ c.loop-key.invariant

pub returns : goal.returns
returns c =
    sym (first_past (flawed_key c.args.self c.args.place (table_view c.args.table.now)) c.keys_of-key-items.result.now c.loop-key.key-index
    c.loop-key-test.false)
    ∙ c.loop-key.invariant ∙ ap (first_refusal (flawed_key c.args.self c.args.place (table_view c.args.table.now))) c.keys_of-key-items.ensures
    ∙ flawed_in c.args.self c.args.place (table_view c.args.table.now)
