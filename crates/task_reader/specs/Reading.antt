-- The reading of a set: the set that bytes write, or why they are refused.
use Rattle.std.specs.Prelude.{ℕ, if◌then◌else◌, List, [], ◌∷◌, map, Option, Some, None, Result, Ok, Err}
use Rattle.std.specs.Str.{is_utf8}
use Rattle.toml.specs.Data.{Members}
use Rattle.toml.specs.Parse.{parse_document}
use Rattle.sched_base.specs.Sets.{SetContents}
use Rattle.task_reader.specs.declared.limits.Flaw.TheVariants as flaws
use Rattle.task_reader.specs.declared.refusals.Key.TheVariants as key
use Rattle.task_reader.specs.declared.refusals.ReadSet.{ReadSet}
use Rattle.task_reader.specs.declared.refusals.ReadSet.TheVariants.{NotToml}
use Rattle.task_reader.specs.Tree.{number_at, tasks_of}
use Rattle.task_reader.specs.Written.{WrittenTask, natural, written_tasks, task_of}
use Rattle.task_reader.specs.Members.{first_refusal, unknown_at, missing_at, wrong_at, in_tables}
use Rattle.task_reader.specs.Limits.{bad_processors, bad_horizon, too_many, same_name}
use Rattle.task_reader.specs.Flaws.{first_flaw}

-- those of them for missing keys, for kinds, and for the numbers of the top table
abbrev pub top_refusals : Members → List (Option ReadSet)
top_refusals top =
    in_tables missing_at top ∷ in_tables wrong_at top ∷ bad_processors (number_at key.Processors top) ∷ bad_horizon (number_at key.Horizon top) ∷ []

-- those of them for what the tasks write, but for their count
abbrev pub task_refusals : List WrittenTask → List (Option ReadSet)
task_refusals tasks =
    first_flaw flaws.Name tasks ∷ same_name tasks ∷ first_flaw flaws.Period tasks ∷ first_flaw flaws.Work tasks ∷ first_flaw flaws.Offset tasks ∷ []

-- the refusal of the lowest number over the whole document
abbrev pub refusal_of : Members → Option ReadSet
refusal_of top =
    first_refusal (λ refusal. refusal) (in_tables unknown_at top
    ∷ in_tables missing_at top
    ∷ in_tables wrong_at top
    ∷ bad_processors (number_at key.Processors top)
    ∷ bad_horizon (number_at key.Horizon top)
    ∷ too_many (written_tasks (tasks_of top))
    ∷ first_flaw flaws.Name (written_tasks (tasks_of top))
    ∷ same_name (written_tasks (tasks_of top))
    ∷ first_flaw flaws.Period (written_tasks (tasks_of top))
    ∷ first_flaw flaws.Work (written_tasks (tasks_of top))
    ∷ first_flaw flaws.Offset (written_tasks (tasks_of top)) ∷ [])

-- the set of a document that isn't refused
abbrev pub set_of : Members → SetContents
set_of top = record {
  processors = natural (number_at key.Processors top);
  horizon = natural (number_at key.Horizon top);
  tasks = map task_of (written_tasks (tasks_of top));
}

-- the answer where this is the refusal, if any
abbrev pub answer_of : Members → Option ReadSet → Result SetContents ReadSet
answer_of top None = Ok (set_of top)
answer_of top (Some refusal) = Err refusal

-- the answer for a document, if there is one
abbrev pub document_read_from : Option Members → Result SetContents ReadSet
document_read_from None = Err NotToml
document_read_from (Some top) = answer_of top (refusal_of top)

-- the set that the bytes write, or why they are refused
unfoldable pub set_read_from : List ℕ → Result SetContents ReadSet
set_read_from bytes = document_read_from (if is_utf8 bytes then parse_document bytes else None)
