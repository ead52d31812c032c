-- Row lines that go on where the line before ends.
use Rattle.std.proofs.Common.{zero, suc, ℕ, ◌+◌, ◌-◌, ◌<◌, ◌≤◌, ◌≡◌, ◌≢◌, true, List, [], ◌∷◌, ◌++◌, length, take, drop, get_or, Some, sym, ◌∙◌, arith}
use Rattle.sched_base.specs.declared.rows.Row.{Row}
use Rattle.sched_base.specs.declared.sets.Task.{Task}
use Rattle.sched_base.specs.Names.{is_lawful_name}
use Rattle.text_words.specs.Words.{lines_of}
use Rattle.text_window.specs.Lines.{IsWholeLine, LacksFeed}
use Rattle.text_window.proofs.LineLemmas.{whole_line_is}
use Rattle.trace_check.specs.declared.row_words.RowWords.{RowWords}
use Rattle.trace_check.specs.RowLines.{row_from, rows_from}
use Rattle.trace_check.specs.RowWords.{SaysWholeRow}
use Rattle.trace_check.proofs.WordLemmas.{IsWord, name_word}
use Rattle.trace_check.proofs.WholeRowLemmas.{row_taken}

-- ---- names

word_lacks : (word : List ℕ) → IsWord word → LacksFeed word
word_lacks [] h = tt
word_lacks (b ∷ word) h = (h.0.1, word_lacks word h.1)

-- no name has a line feed
pub name_lacks : (name : List ℕ) → is_lawful_name name ≡ true → LacksFeed name
name_lacks name h = word_lacks name (name_word name h)

lacks_at : (bs : List ℕ) (n k : ℕ) → n ≤ length bs → k < n → LacksFeed (take n bs) → get_or bs k 0 ≢ 10
lacks_at bs zero k h l none = absurd (omega (arith, l))
lacks_at [] (suc n) k h l none = absurd (omega (arith, h))
lacks_at (b ∷ bs) (suc n) zero h l none = none.0
lacks_at (b ∷ bs) (suc n) (suc k) h l none = lacks_at bs n k (omega (arith, h)) (omega (arith, l)) none.1

-- the line up to a line feed, where no byte before it is one
pub line_up_to : (bs : List ℕ) (n : ℕ) → n < length bs → get_or bs n 0 ≡ 10 → LacksFeed (take n bs) → IsWholeLine bs (take n bs) (take (length bs - (n + 1))
    (drop (n + 1) bs))
line_up_to bs n h at none =
    let few : n ≤ length bs = omega (arith, h) in
    whole_line_is bs n few (λ e. omega (arith, e, h)) (λ k l. lacks_at bs n k few l none) (λ below. at)

-- ---- one row more

-- the row of the words of a whole line
pub run_taken : (tasks : List Task) (done : List Row) (r : Row) (text : List ℕ) (w : RowWords) → SaysWholeRow text w → Some r ≡ row_from tasks done
    w.processor w.start w.end w.name.now
    → (first : ℕ) (more : List ℕ) → rows_from first tasks done (lines_of (text ++ more)) ≡ rows_from first tasks (done ++ r ∷ [])
    (lines_of (w.later.now ++ more))
run_taken tasks done r text w says row = row_taken tasks done r text says.line w.later.now says.first says.begins (says.row tasks done ∙ sym row)
