use Rattle.std.proofs.Common.{◌≡◌}
use Rattle.std.specs.List.Sorted.{IsStrictlySortedBy}
use Rattle.std.specs.Map.{keys_of}
use Rattle.std.specs.String.{string_cmp}
use Rattle.toml.specs.View.{members_view}
use Rattle.task_reader.specs.Members.{least_unknown}
use Rattle.task_reader.proofs.members.least_unknown.Given as goal

abbrev pub invariant-loop-text : goal.invariant-loop-text
invariant-loop-text l =
    (goal.iterator-loop-text).can_next l.text-iterator
    × (goal.iterator-loop-text).is_finite l.text-iterator
    × IsStrictlySortedBy string_cmp (keys_of l.text-iterator)
    × (least_unknown l.place (members_view l.text-iterator) ≡ least_unknown l.place (members_view l.table.entries))
