-- Row lines of a text of which more may follow.
use Rattle.std.specs.Prelude.{ℕ, ◌+◌, ◌≡◌, ◌<◌, ◌≤◌, List, [], ◌∷◌, ◌++◌, length, Ok, Err}
use Rattle.sched_base.specs.declared.rows.Row.{Row}
use Rattle.sched_base.specs.declared.sets.Task.{Task}
use Rattle.sched_base.specs.Tables.{row_limit}
use Rattle.text_words.specs.Words.{lines_of}
use Rattle.text_window.specs.Lines.{LacksFeed}
use Rattle.trace_check.specs.declared.row_reader.NextLine.{NextLine}
use Rattle.trace_check.specs.declared.row_reader.NextLine.TheVariants as nexts
use Rattle.trace_check.specs.declared.row_reader.Stop.{Stop}
use Rattle.trace_check.specs.declared.row_reader.Stop.TheVariants as stops
use Rattle.trace_check.specs.RowLines.{rows_from, IsRead, AreTotals}
use Rattle.trace_check.specs.RowsRead.{AreRead}

-- why no more rows are taken after the rows `done`, whatever follows the text: no row line, one at fault, or a line without a line feed
abbrev pub StopIs : List Task → List Row → List ℕ → Stop → Type 0
StopIs tasks done text stops.Ends = (first : ℕ) (more : List ℕ) → rows_from first tasks done (lines_of (text ++ more)) ≡ Ok (done, lines_of (text ++ more))
StopIs tasks done text stops.Fault = (first : ℕ) (more : List ℕ) → rows_from first tasks done (lines_of (text ++ more)) ≡ Err (first + length done)
StopIs tasks done text stops.Cut = LacksFeed text

-- what the first line of the text is, after the rows `done`, whatever follows the text
abbrev pub NextWhole : List Task → List Row → List ℕ → NextLine → Type 0
NextWhole tasks done text (nexts.Row r later) = IsRead tasks done r × ((gone : List ℕ) × (text ≡ gone ++ later.now)) × (length later.now < length text)
    × ((first : ℕ) (more : List ℕ) → rows_from first tasks done (lines_of (text ++ more))
    ≡ rows_from first tasks (done ++ r ∷ []) (lines_of (later.now ++ more)))
NextWhole tasks done text nexts.Ends = StopIs tasks done text stops.Ends
NextWhole tasks done text nexts.Fault = StopIs tasks done text stops.Fault
NextWhole tasks done text nexts.Cut = StopIs tasks done text stops.Cut

-- whatever follows: these rows stand at the front of the text, with these totals, and these bytes are still to be gone through
pub record AreRowsOf (tasks : List Task) (text : List ℕ) (done : List Row) (sums rest : List ℕ) : Type 0 where
  pub lines : (more : List ℕ) → rows_from (6 + length tasks) tasks [] (lines_of (text ++ more))
      ≡ rows_from (6 + length tasks) tasks done (lines_of (rest ++ more))
  pub totals : AreTotals done sums
  pub count : length sums ≡ length tasks
  pub each : AreRead tasks done
  pub few : length done ≤ row_limit

-- these are all rows of the text, with their totals, and these bytes follow
pub record AreAllRows (tasks : List Task) (text : List ℕ) (done : List Row) (sums rest : List ℕ) : Type 0 where
  pub rows : rows_from (6 + length tasks) tasks [] (lines_of text) ≡ Ok (done, lines_of rest)
  pub totals : AreTotals done sums
  pub count : length sums ≡ length tasks
  pub each : AreRead tasks done
  pub few : length done ≤ row_limit

-- the rows of the text, or that the line after so many is at fault
abbrev pub RowsEnd : List Task → List ℕ → List Row → List ℕ → List ℕ → Stop → Type 0
RowsEnd tasks text done sums rest stops.Fault =
    (rows_from (6 + length tasks) tasks [] (lines_of text) ≡ Err (6 + length tasks + length done)) × (length done ≤ row_limit)
RowsEnd tasks text done sums rest stops.Ends = AreAllRows tasks text done sums rest
RowsEnd tasks text done sums rest stops.Cut = AreAllRows tasks text done sums rest
