-- Row lines of a text of which more may follow.
use Rattle.std.proofs.Common.{ℕ, ◌+◌, ◌-◌, ◌<◌, ◌≤◌, ◌≡◌, true, false, List, [], ◌∷◌, ◌++◌, length, drop, codes, Some, None, Ok, Err, sym, refl, ap}
use Rattle.std.proofs.Common.{◌∙◌, arith, subst, append_assoc, append-nil, length-append}
use Rattle.std.proofs.Math.Seq.{drop-append_seam}
use Rattle.sched_base.specs.declared.rows.Row.{Row}
use Rattle.sched_base.specs.declared.sets.Task.{Task}
use Rattle.sched_base.specs.Tables.{row_limit}
use Rattle.text_words.specs.Words.{lines_of, BeginsWith}
use Rattle.text_window.specs.Lines.{IsWholeLine, EndsLine}
use Rattle.text_window.proofs.LineLemmas.{nothing_left}
use Rattle.trace_verdict.proofs.EntryLemmas.{AllByRecursion-append}
use Rattle.trace_check.specs.declared.row_words.RowWords.{RowWords}
use Rattle.trace_check.specs.declared.row_reader.Stop.{Stop}
use Rattle.trace_check.specs.declared.row_reader.Stop.TheVariants as stops
use Rattle.trace_check.specs.RowLines.{row_of, begins_row, rows_from, IsRead, AreTotals}
use Rattle.trace_check.specs.RowsRead.{AreRead}
use Rattle.trace_check.specs.RowWords.{SaysWholeRow}
use Rattle.trace_check.specs.WholeRows.{StopIs, AreRowsOf, RowsEnd}
use Rattle.trace_check.proofs.WordLemmas.{word_of, bare}
use Rattle.trace_check.proofs.FastRowLemmas.{number_word, lines_after, shorter, row_of_words}
use Rattle.trace_check.proofs.RowLemmas.{ReadSoFar}

-- ---- one line

abbrev pub FirstOf : List ℕ → List ℕ → List ℕ → Type 0
FirstOf text line later = (more : List ℕ) → lines_of (text ++ more) ≡ line ∷ lines_of (later ++ more)

pub row_taken : (tasks : List Task) (done : List Row) (r : Row) (text line later : List ℕ) → FirstOf text line later → begins_row line ≡ true →
    row_of tasks done line ≡ Some r
    → (first : ℕ) (more : List ℕ) → rows_from first tasks done (lines_of (text ++ more)) ≡ rows_from first tasks (done ++ r ∷ []) (lines_of (later ++ more))
row_taken tasks done r text line later whole begins row first more = rw (whole more, begins, row) refl

pub row_refused : (tasks : List Task) (done : List Row) (text line later : List ℕ) → FirstOf text line later → begins_row line ≡ true →
    row_of tasks done line ≡ None
    → StopIs tasks done text stops.Fault
row_refused tasks done text line later whole begins row first more = rw (whole more, begins, row) refl

pub no_row : (tasks : List Task) (done : List Row) (text line later : List ℕ) → FirstOf text line later → begins_row line ≡ false → StopIs tasks done text
    stops.Ends
no_row tasks done text line later whole begins first more = rw (whole more, begins) refl

-- what the words of a whole line tell
pub row_next : (tasks : List Task) (done : List Row) (r : Row) (text line later : List ℕ) → IsWholeLine text line later → begins_row line ≡ true →
    IsRead tasks done r → Some r ≡ row_of tasks done line
    → IsRead tasks done r × ((gone : List ℕ) × (text ≡ gone ++ later)) × (length later < length text)
    × ((first : ℕ) (more : List ℕ) → rows_from first tasks done (lines_of (text ++ more)) ≡ rows_from first tasks (done ++ r ∷ []) (lines_of (later ++ more)))
row_next tasks done r text line later whole begins read row =
    let long = ap length whole.bytes ∙ length-append line (10 ∷ later) in (
      read,
      (line ++ 10 ∷ [], whole.bytes ∙ sym (append_assoc line (10 ∷ []) later)),
      omega (arith, long),
      row_taken tasks done r text line later whole.first
          begins (sym row),
    )

-- ---- a line in one pass

abbrev Tail : List ℕ → List ℕ → Type 0
Tail text rest = (gone : List ℕ) × (text ≡ gone ++ rest)

tail_after : (text word : List ℕ) (c : ℕ) (mid rest : List ℕ) → text ≡ word ++ c ∷ mid → Tail mid rest → Tail text rest
tail_after text word c mid rest e t = (word ++ c ∷ t.0, e ∙ ap (λ m. word ++ c ∷ m) t.1 ∙ sym (append_assoc word (c ∷ t.0) rest))

first_after : (text word mid line later : List ℕ) → text ≡ word ++ 32 ∷ mid → ((l : List ℕ) (more : List ℕ) (lines : List (List ℕ)) →
    lines_of (mid ++ more) ≡ l ∷ lines → lines_of (word ++ 32 ∷ (mid ++ more)) ≡ (word ++ 32 ∷ l) ∷ lines)
    → FirstOf mid line later → FirstOf text (word ++ 32 ∷ line) later
first_after text word mid line later e onto first more =
    ap (λ t. lines_of (t ++ more)) e ∙ ap lines_of (append_assoc word (32 ∷ mid) more) ∙ onto line more (lines_of (later ++ more)) (first more)

pub says_whole_row : (text a b c d : List ℕ) (w : RowWords) → text ≡ codes "row" ++ 32 ∷ a → BeginsWith w.processor a b → BeginsWith w.start b c →
    BeginsWith w.end c d
    → IsWholeLine d w.name.now w.later.now → SaysWholeRow text w
says_whole_row text a b c d w is p s e whole =
    let hp = number_word p.0 w.processor p.2 in
    let hs = number_word s.0 w.start s.2 in
    let he = number_word e.0 w.end e.2 in
    let fc : FirstOf c (e.0 ++ 32 ∷ w.name.now) w.later.now = first_after c e.0 d w.name.now w.later.now e.1 (λ l more lines. lines_after e.0 (d ++ more) l
    lines he) whole.first in
    let fb : FirstOf b (s.0 ++ 32 ∷ (e.0 ++ 32 ∷ w.name.now)) w.later.now = first_after b s.0 c _ w.later.now s.1 (λ l more lines. lines_after s.0
    (c ++ more) l lines hs) fc in
    let fa : FirstOf a (p.0 ++ 32 ∷ (s.0 ++ 32 ∷ (e.0 ++ 32 ∷ w.name.now))) w.later.now = first_after a p.0 b _ w.later.now p.1 (λ l more lines. lines_after
    p.0 (b ++ more) l lines hp) fb in
    let la = shorter text (codes "row") a is in
    let lp = shorter a p.0 b p.1 in
    let ls = shorter b s.0 c s.1 in
    let le = shorter c e.0 d e.1 in
    let ld : length w.later.now < length d = (let l = ap length whole.bytes ∙ length-append w.name.now (10 ∷ w.later.now) in omega (arith, l)) in
    let td : Tail d w.later.now = tail_after d w.name.now 10 w.later.now w.later.now whole.bytes ([], refl) in
    record {
      line = bare (codes "row") (p.0 ∷ (s.0 ∷ (e.0 ∷ (w.name.now ∷ []))));
      split = tail_after text (codes "row") 32 a _ is (tail_after a p.0 32 b _ p.1 (tail_after b s.0 32 c _ s.1 (tail_after c e.0 32 d _ e.1 td)));
      first = first_after text (codes "row") a _ w.later.now is (λ l more lines. lines_after (codes "row") (a ++ more) l lines (word_of (codes "row") refl)) fa;
      begins = refl;
      row = λ tasks done. row_of_words tasks done p.0 s.0 e.0 w.name.now w.processor w.start w.end hp hs he p.2 s.2 e.2;
      less = omega (arith, la, lp, ls, le, ld);
    }

-- ---- one row more

pub rows_none : (tasks : List Task) (text : List ℕ) (done : List Row) (sums : List ℕ) → ReadSoFar tasks text done sums text → done ≡ [] →
    AreRowsOf tasks text done sums text
rows_none tasks text done sums so none =
    record {
      lines = λ more. ap (λ d. rows_from (6 + length tasks) tasks d (lines_of (text ++ more))) (sym none);
      totals = so.totals;
      count = so.count;
      each = so.each;
      few = so.few;
    }

pub rows_more : (tasks : List Task) (text rest later : List ℕ) (done more : List Row) (r : Row) (sums new : List ℕ) → AreRowsOf tasks text done sums rest →
    IsRead tasks done r
    → ((first : ℕ) (follows : List ℕ) → rows_from first tasks done (lines_of (rest ++ follows)) ≡ rows_from first tasks (done ++ r ∷ [])
    (lines_of (later ++ follows))) → more ≡ done ++ r ∷ []
    → AreTotals (done ++ r ∷ []) new → length new ≡ length sums → AreRowsOf tasks text more new later
rows_more tasks text rest later done more r sums new so read next now totals long =
    let count = length-append done (r ∷ []) in
    let room = read.room in
    subst (λ (rows : List Row). AreRowsOf tasks text rows new later) (sym now) (record {
      lines = λ follows. so.lines follows ∙ next (6 + length tasks) follows;
      totals = totals;
      count = long ∙ so.count;
      each = AllByRecursion-append (λ q. (before : List Row) × IsRead tasks before q) done (r ∷ []) so.each ((done, read), tt);
      few = omega (arith, count, room);
    })

-- bytes more behind the text
pub rows_behind : (tasks : List Task) (text rest : List ℕ) (done : List Row) (sums more : List ℕ) → AreRowsOf tasks text done sums rest →
    AreRowsOf tasks (text ++ more) done sums (rest ++ more)
rows_behind tasks text rest done sums more so = record {
  lines = λ later. ap (λ t. rows_from (6 + length tasks) tasks [] (lines_of t)) (append_assoc text more later) ∙ so.lines (more ++ later)
      ∙ ap (λ t. rows_from (6 + length tasks) tasks done (lines_of t)) (sym (append_assoc rest more later));
  totals = so.totals;
  count = so.count;
  each = so.each;
  few = so.few;
}

-- ---- no row more

-- where the text is there as a whole
abbrev pub AtEnd : List Task → List ℕ → List Row → List ℕ → List ℕ → Type 0
AtEnd tasks text done sums rest = (rows_from (6 + length tasks) tasks [] (lines_of text) ≡ rows_from (6 + length tasks) tasks done (lines_of rest))
    × AreTotals done sums × (length sums ≡ length tasks) × AreRead tasks done × (length done ≤ row_limit)

pub at_end : (tasks : List Task) (text rest : List ℕ) (done : List Row) (sums : List ℕ) → AreRowsOf tasks text done sums rest → AtEnd tasks text done sums rest
at_end tasks text rest done sums so = (
  ap (λ t. rows_from (6 + length tasks) tasks [] (lines_of t)) (sym (append-nil text)) ∙ so.lines [] ∙ ap (λ t. rows_from (6 + length tasks) tasks done
      (lines_of t)) (append-nil rest),
  so.totals,
  so.count,
  so.each,
  so.few,
)

-- bytes behind a text after whose rows the rest was told of
pub stop_behind : (tasks : List Task) (done : List Row) (rest more : List ℕ) (stop : Stop) → (stop ≡ stops.Cut → ⊥) → StopIs tasks done rest stop →
    StopIs tasks done (rest ++ more) stop
stop_behind tasks done rest more stops.Ends ne is = λ first later. rw (append_assoc rest more later) (is first (more ++ later))
stop_behind tasks done rest more stops.Fault ne is = λ first later. rw (append_assoc rest more later) (is first (more ++ later))
stop_behind tasks done rest more stops.Cut ne is = absurd (ne refl)

ends_alone : (tasks : List Task) (done : List Row) (rest : List ℕ) → StopIs tasks done rest stops.Ends → (first : ℕ) → rows_from first tasks done
    (lines_of rest) ≡ Ok (done, lines_of rest)
ends_alone tasks done rest is first = subst (λ t. rows_from first tasks done (lines_of t) ≡ Ok (done, lines_of t)) (append-nil rest) (is first [])

fault_alone : (tasks : List Task) (done : List Row) (rest : List ℕ) → StopIs tasks done rest stops.Fault → (first : ℕ) → rows_from first tasks done
    (lines_of rest) ≡ Err (first + length done)
fault_alone tasks done rest is first = subst (λ t. rows_from first tasks done (lines_of t) ≡ Err (first + length done)) (append-nil rest) (is first [])

pub rows_end : (tasks : List Task) (text rest : List ℕ) (done : List Row) (sums : List ℕ) (stop : Stop) → AtEnd tasks text done sums rest →
    (stop ≡ stops.Cut → rest ≡ []) → StopIs tasks done rest stop
    → RowsEnd tasks text done sums rest stop
rows_end tasks text rest done sums stops.Ends so none is =
    record { rows = so.0 ∙ ends_alone tasks done rest is (6 + length tasks); totals = so.1; count = so.2; each = so.3; few = so.4 }
rows_end tasks text rest done sums stops.Fault so none is = (so.0 ∙ fault_alone tasks done rest is (6 + length tasks), so.4)
rows_end tasks text rest done sums stops.Cut so none is =
    let nil = none refl in
    let over : rows_from (6 + length tasks) tasks done (lines_of rest) ≡ Ok (done, lines_of rest) = rw nil refl in
    record { rows = so.0 ∙ over; totals = so.1; count = so.2; each = so.3; few = so.4 }

-- what is left behind so many bytes
pub rest_is : (text gone rest : List ℕ) → text ≡ gone ++ rest → drop (length text - length rest) text ≡ rest
rest_is text gone rest split =
    let long = ap length split ∙ length-append gone rest in
    let same : length text - length rest ≡ length gone = omega (arith, long) in
    ap (λ n. drop n text) same ∙ ap (drop (length gone)) split ∙ drop-append_seam gone rest

pub rows_left : (tasks : List Task) (text gone rest whole : List ℕ) (done : List Row) (sums : List ℕ) → text ≡ gone ++ rest → AreRowsOf tasks whole done
    sums rest
    → AreRowsOf tasks whole done sums (drop (length text - length rest) text)
rows_left tasks text gone rest whole done sums split so = subst (λ t. AreRowsOf tasks whole done sums t) (sym (rest_is text gone rest split)) so

-- the last rows of a text whose last line was given its line feed
pub last_rows : (tasks : List Task) (whole ahead fed new gone rest : List ℕ) (done next : List Row) (sums sums' : List ℕ) (stop : Stop) →
    AreRowsOf tasks whole done sums ahead → new ≡ ahead ++ fed
    → lines_of new ≡ lines_of ahead → EndsLine new → ((text : List ℕ) → AreRowsOf tasks text done sums new → AreRowsOf tasks text next sums' rest) →
    new ≡ gone ++ rest → StopIs tasks next rest stop
    → RowsEnd tasks whole next sums' rest stop
last_rows tasks whole ahead fed new gone rest done next sums sums' stop so grown lines ends read split is =
    let before : AreRowsOf tasks (whole ++ fed) done sums new = subst (λ t. AreRowsOf tasks (whole ++ fed) done sums t) (sym grown) (rows_behind tasks whole
    ahead done sums fed so) in
    let start = at_end tasks whole ahead done sums so in
    let middle = at_end tasks (whole ++ fed) new done sums before in
    let after = at_end tasks (whole ++ fed) rest next sums' (read (whole ++ fed) before) in
    rows_end tasks whole rest next sums' stop (
      start.0 ∙ ap (λ ls. rows_from (6 + length tasks) tasks done ls) (sym lines) ∙ sym middle.0 ∙ after.0,
      after.1,
      after.2,
      after.3,
      after.4,
    )
    (λ cut. nothing_left new rest gone ends split (subst (λ s. StopIs tasks next rest s) cut is)) is
