-- Parts of definitions that the lemmas name.
use Rattle.std.specs.Prelude.{Bool, List, Option}
use Rattle.toml.specs.Data.{Members}
use Rattle.task_reader.specs.declared.limits.Flaw.TheVariants as flaws
use Rattle.task_reader.specs.declared.refusals.ReadSet.{ReadSet}
use Rattle.task_reader.specs.Written.{WrittenTask}
use Rattle.task_reader.specs.Members.{unknown_at, missing_at, wrong_at, in_tables}
use Rattle.task_reader.specs.Flaws.{has_flaw, first_flaw}

-- what may be wrong with a task by itself
abbrev pub has_bad_name : WrittenTask → Bool
has_bad_name = has_flaw flaws.Name

abbrev pub has_bad_period : WrittenTask → Bool
has_bad_period = has_flaw flaws.Period

abbrev pub has_bad_work : WrittenTask → Bool
has_bad_work = has_flaw flaws.Work

abbrev pub has_bad_offset : WrittenTask → Bool
has_bad_offset = has_flaw flaws.Offset

-- the refusals for the first task with it
abbrev pub bad_name : List WrittenTask → Option ReadSet
bad_name = first_flaw flaws.Name

abbrev pub bad_period : List WrittenTask → Option ReadSet
bad_period = first_flaw flaws.Period

abbrev pub bad_work : List WrittenTask → Option ReadSet
bad_work = first_flaw flaws.Work

abbrev pub bad_offset : List WrittenTask → Option ReadSet
bad_offset = first_flaw flaws.Offset

-- the refusals for the keys of all tables
abbrev pub unknown : Members → Option ReadSet
unknown = in_tables unknown_at

abbrev pub missing : Members → Option ReadSet
missing = in_tables missing_at

abbrev pub wrong : Members → Option ReadSet
wrong = in_tables wrong_at
