-- What may be wrong with a task by itself.
use Rattle.std.specs.Prelude.{ℕ, Bool, not, List, Option, option_map}
use Rattle.std.specs.List.{position}
use Rattle.sched_base.specs.Limits.{unit_limit}
use Rattle.sched_base.specs.Names.{is_lawful_name}
use Rattle.task_reader.specs.declared.limits.Flaw.{Flaw}
use Rattle.task_reader.specs.declared.limits.Flaw.TheVariants as flaws
use Rattle.task_reader.specs.declared.refusals.ReadSet.{ReadSet}
use Rattle.task_reader.specs.declared.refusals.ReadSet.TheVariants.{BadName, BadPeriod, BadWork, BadOffset}
use Rattle.task_reader.specs.Written.{WrittenTask, natural}
use Rattle.task_reader.specs.Limits.{is_within}

-- whether the task has this flaw: a name that isn't lawful, a period that isn't 1 unit up to the limit, work that isn't 1 unit up to the period,
-- which is looked at before, or an offset above the limit
abbrev pub has_flaw : Flaw → WrittenTask → Bool
has_flaw flaws.Name = λ t. not (is_lawful_name t.name)
has_flaw flaws.Period = λ t. not (is_within 1 unit_limit t.period)
has_flaw flaws.Work = λ t. not (is_within 1 (natural t.period) t.work)
has_flaw flaws.Offset = λ t. not (is_within 0 unit_limit t.offset)

-- the refusal of the task of this index for this flaw
abbrev pub refusal_at : Flaw → ℕ → ReadSet
refusal_at flaws.Name = λ i. BadName i
refusal_at flaws.Period = λ i. BadPeriod i
refusal_at flaws.Work = λ i. BadWork i
refusal_at flaws.Offset = λ i. BadOffset i

-- the refusal of the first task that has this flaw
abbrev pub first_flaw : Flaw → List WrittenTask → Option ReadSet
first_flaw flaw ts = option_map (refusal_at flaw) (position (has_flaw flaw) ts)
