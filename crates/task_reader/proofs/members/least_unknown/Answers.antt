use Rattle.std.proofs.Common.{◌≡◌, true, false, string_bytes, sym}
use Rattle.toml.specs.View.{table_view}
use Rattle.task_reader.specs.Keys.{is_known}
use Rattle.task_reader.proofs.MembersLemmas.{least_unknown-first, least_unknown-known}
use Rattle.task_reader.proofs.members.least_unknown.Goals as goal

pub returns-then-not-is_known : goal.returns-then-not-is_known
returns-then-not-is_known c =
    let other : is_known c.args.place (string_bytes c.in-Some.text.now) ≡ false = rw (← c.as_str.ensures.value, ← c.is_known.ensures) c.if-not-is_known.true in
    let first =
    least_unknown-first c.args.place (table_view c.args.table.now) c.loop-text.text-iterator (c.in-Some.text.now, c.in-Some._value.now) c.next.new.self
    c.in-Some.ensures.steps c.loop-text.invariant.2 c.loop-text.invariant.3 other in
    rw c.as_str-then-not-is_known.ensures.value (sym first)

pub loop-text-preserved : goal.loop-text-preserved
loop-text-preserved c =
    let known : is_known c.args.place (string_bytes c.in-Some.text.now) ≡ true = rw (← c.as_str.ensures.value, ← c.is_known.ensures) c.if-not-is_known.false in
    let (sorted, same) =
    least_unknown-known c.args.place (table_view c.args.table.now) c.loop-text.text-iterator (c.in-Some.text.now, c.in-Some._value.now) c.next.new.self
    c.in-Some.ensures.steps c.loop-text.invariant.2 c.loop-text.invariant.3 known in
    (tt, tt, sorted, same)
