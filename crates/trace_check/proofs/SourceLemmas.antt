-- Reading a source by way of a window.
use Rattle.std.proofs.Common.{ℕ, ◌+◌, ◌≤◌, ◌<◌, ◌≡◌, inl, inr, Bool, true, false, List, [], ◌++◌, length, take, drop, Option, Result, Ok, Err, IfOk}
use Rattle.std.proofs.Common.{sym, refl, ap, ◌∙◌, arith, subst, append_assoc, append-nil, length-append}
use Rattle.std.proofs.KnownBytes.{Consumes-nil, Consumes-trans}
use Rattle.std.specs.Io.KnownBytes.{Consumes, IsAtEnd}
use Rattle.sched_base.specs.declared.rows.Row.{Row}
use Rattle.sched_base.specs.declared.sets.Task.{Task}
use Rattle.sched_edges.specs.declared.read.TakeFault.{TakeFault}
use Rattle.text_window.specs.Windows.{WindowHeld, Fills, GaveRest, StopsFilling}
use Rattle.text_window.proofs.WindowLemmas.{stops_after}
use Rattle.trace_check.specs.declared.row_reader.Stop.{Stop}
use Rattle.trace_check.specs.declared.row_reader.Stop.TheVariants as stops
use Rattle.std.proofs.lemmas.List.{take-append-drop}
use Rattle.sched_base.specs.Sets.{SetContents}
use Rattle.sched_edges.specs.Streams.{GaveAll, GaveAtMost, GaveCount}
use Rattle.sched_edges.specs.declared.read.TakeFault.TheVariants as take_fault
use Rattle.text_words.specs.Words.{lines_of}
use Rattle.trace_check.specs.declared.faults.SourceFault.{SourceFault}
use Rattle.trace_check.specs.declared.faults.SourceFault.TheVariants as source_fault
use Rattle.trace_check.specs.declared.faults.TraceFault.{TraceFault}
use Rattle.trace_check.specs.declared.faults.TraceFault.TheVariants.{BadLine, NoMemory}
use Rattle.trace_check.specs.declared.front.Front.{Front}
use Rattle.trace_check.specs.declared.head_lines.Head.{Head}
use Rattle.trace_check.specs.Faults.{NamesBadLine}
use Rattle.trace_check.specs.Fronts.{IsTextFront}
use Rattle.trace_check.specs.Reading.{body, ending, reading, set_of}
use Rattle.trace_check.specs.RowLines.{rows_from}
use Rattle.trace_check.specs.Sources.{of_trace, GaveNoTraceText, StopsInRest, GaveSome, GaveLast, RowsStopAt, StopsInTail}
use Rattle.trace_check.specs.Steps.{and_then}
use Rattle.trace_check.specs.declared.source_reading.RowsStop.{RowsStop}
use Rattle.trace_check.specs.Tails.{MayFollow}
use Rattle.sched_base.specs.Tables.{row_limit}
use Rattle.std.proofs.lemmas.Bool.{cases_Bool}
use Rattle.trace_check.specs.TailLines.{first_other, tail_lines}
use Rattle.trace_check.specs.WholeRows.{AreAllRows, AreRowsOf, RowsEnd, StopIs}
use Rattle.trace_check.proofs.WholeRowLemmas.{at_end, rows_behind, rows_end, stop_behind}

-- since a window stood as `w`, more was read, and rows were gone past: now it stands as `u`
pub record Going (a b : Option (List ℕ)) (fa fb : ℕ) (w u : WindowHeld) (tasks : List Task) (done : List Row) (sums : List ℕ) : Type 0 where
  pub more : List ℕ
  pub gave : Consumes a b more
  pub count : u.count ≡ w.count + length more
  pub limit : u.limit ≡ w.limit
  pub within : u.count ≤ u.limit
  pub rows : AreRowsOf tasks (w.ahead ++ more) done sums u.ahead
  pub later : fa ≤ fb

pub going_none : (a : Option (List ℕ)) (fa : ℕ) (w : WindowHeld) (tasks : List Task) (done : List Row) (sums : List ℕ) → w.count ≤ w.limit →
    AreRowsOf tasks w.ahead done sums w.ahead
    → Going a a fa fa w w tasks done sums
going_none a fa w tasks done sums within rows = record {
  more = [];
  gave = Consumes-nil a;
  count = omega arith;
  limit = refl;
  within = within;
  rows = subst (λ t. AreRowsOf tasks t done sums w.ahead) (sym (append-nil w.ahead)) rows;
  later = omega arith;
}

pub going_passed : (a b : Option (List ℕ)) (fa fb : ℕ) (w u v : WindowHeld) (tasks : List Task) (done next : List Row) (sums new : List ℕ) →
    Going a b fa fb w u tasks done sums
    → ((whole : List ℕ) → AreRowsOf tasks whole done sums u.ahead → AreRowsOf tasks whole next new v.ahead) → v.count ≡ u.count → v.limit ≡ u.limit →
    Going a b fa fb w v tasks next new
going_passed a b fa fb w u v tasks done next sums new g read count limit =
    let within = g.within in
    let n = g.count in
    record {
      more = g.more;
      gave = g.gave;
      count = omega (arith, count, n);
      limit = limit ∙ g.limit;
      within = omega (arith, within, count, limit);
      rows = read _ g.rows;
      later = g.later;
    }

pub going_filled : (a b c : Option (List ℕ)) (fa fb fc : ℕ) (w u v : WindowHeld) (tasks : List Task) (done : List Row) (sums : List ℕ) →
    Going a b fa fb w u tasks done sums → Fills b c u v → fb ≤ fc
    → Going a c fa fc w v tasks done sums
going_filled a b c fa fb fc w u v tasks done sums g f on =
    let n = g.count in
    let m = f.count in
    let later = g.later in
    record {
      more = g.more ++ f.more;
      gave = Consumes-trans a b c g.more f.more g.gave f.gave;
      count = omega (arith, n, m, length-append g.more f.more);
      limit = f.limit ∙ g.limit;
      within = f.within;
      rows = rw f.ahead (subst (λ t. AreRowsOf tasks t done sums (u.ahead ++ f.more)) (append_assoc w.ahead g.more f.more)
          (rows_behind tasks (w.ahead ++ g.more) u.ahead done sums f.more g.rows));
      later = omega (arith, later, on);
    }

pub going_stops : (a b c : Option (List ℕ)) (fa fb fc : ℕ) (w u : WindowHeld) (tasks : List Task) (done : List Row) (sums : List ℕ) (fault : TakeFault) →
    Going a b fa fb w u tasks done sums
    → StopsFilling b c fb fc u fault → StopsFilling a c fa fc w fault
going_stops a b c fa fb fc w u tasks done sums fault g s = stops_after a b c fa fb fc w u g.more fault g.gave g.count g.limit g.within g.later s

pub going_over : (a b : Option (List ℕ)) (fa fb : ℕ) (w u : WindowHeld) (tasks : List Task) (done : List Row) (sums : List ℕ) →
    (g : Going a b fa fb w u tasks done sums) → IsAtEnd b → GaveRest a b w g.more
going_over a b fa fb w u tasks done sums g end =
    let n = g.count in
    let l = g.limit in
    let within = g.within in
    record { gave = g.gave; ended = end; within = omega (arith, n, l, within) }

-- the source goes on, or is known to be at its end
pub going_some : (a b : Option (List ℕ)) (fa fb : ℕ) (w u : WindowHeld) (tasks : List Task) (done : List Row) (sums : List ℕ) (ended : Bool) →
    (g : Going a b fa fb w u tasks done sums)
    → (ended ≡ true → IsAtEnd b) → GaveSome a b w u ended g.more
going_some a b fa fb w u tasks done sums ended g end =
    let n = g.count in
    let l = g.limit in
    let within = g.within in
    record { gave = g.gave; within = omega (arith, n, l, within); at_end = end; count = λ _. n; limit = λ _. l }

pub going_ended : (a b : Option (List ℕ)) (fa fb : ℕ) (w u v : WindowHeld) (tasks : List Task) (done : List Row) (sums : List ℕ) →
    (g : Going a b fa fb w u tasks done sums)
    → IsAtEnd b → GaveSome a b w v true g.more
going_ended a b fa fb w u v tasks done sums g end =
    let n = g.count in
    let l = g.limit in
    let within = g.within in
    record {
      gave = g.gave;
      within = omega (arith, n, l, within);
      at_end = λ _. end;
      count = λ (e : true ≡ false). absurd (let x : ⊥ = cc in x);
      limit = λ (e : true ≡ false). absurd (let x : ⊥ = cc in x);
    }

-- no more rows are taken, whatever follows
pub rows_stop : (tasks : List Task) (text rest : List ℕ) (done : List Row) (sums : List ℕ) (stop : Stop) (ended : Bool) → AreRowsOf tasks text done sums
    rest → (stop ≡ stops.Cut → ⊥) → StopIs tasks done rest stop
    → RowsStopAt tasks text done sums rest (record { stop = stop; ended = ended })
rows_stop tasks text rest done sums stop ended so ne is =
    λ behind may. rows_end tasks (text ++ behind) (rest ++ behind) done sums stop (at_end tasks (text ++ behind) (rest ++ behind) done sums
    (rows_behind tasks text rest done sums behind so)) (λ cut. absurd (ne cut))
    (stop_behind tasks done rest behind stop ne is)

-- and where the text is there as a whole
pub rows_stop_ended : (tasks : List Task) (text rest : List ℕ) (done : List Row) (sums : List ℕ) (stop : Stop) → RowsEnd tasks text done sums rest stop
    → RowsStopAt tasks text done sums rest (record { stop = stop; ended = true })
rows_stop_ended tasks text rest done sums stop end =
    λ behind may. subst (λ b. RowsEnd tasks (text ++ b) done sums (rest ++ b) stop) (sym (may refl))
    (subst (λ t. RowsEnd tasks t done sums (rest ++ []) stop) (sym (append-nil text)) (subst (λ r. RowsEnd tasks text done sums r stop)
    (sym (append-nil rest)) end))

-- ---- the row lines and what follows them

pub body_stops : (h : Head) (tasks : List Task) (lines : List (List ℕ)) (line : ℕ) → rows_from (6 + length tasks) tasks [] lines ≡ Err line →
    body h tasks lines ≡ Err line
body_stops h tasks lines line e = rw e refl

pub all_rows : (tasks : List Task) (text : List ℕ) (done : List Row) (sums rest : List ℕ) (stop : Stop) → RowsEnd tasks text done sums rest stop →
    (stop ≡ stops.Fault → ⊥) → AreAllRows tasks text done sums rest
all_rows tasks text done sums rest stops.Ends end ne = end
all_rows tasks text done sums rest stops.Cut end ne = end
all_rows tasks text done sums rest stops.Fault end ne = absurd (ne refl)

pub row_at_fault : (tasks : List Task) (text : List ℕ) (done : List Row) (sums rest : List ℕ) (stop : Stop) → RowsEnd tasks text done sums rest stop →
    stop ≡ stops.Fault
    → rows_from (6 + length tasks) tasks [] (lines_of text) ≡ Err (6 + length tasks + length done)
row_at_fault tasks text done sums rest stop end is = (subst (λ s. RowsEnd tasks text done sums rest s) is end).0

pub body_ending : (head : Head) (s : SetContents) (lines rest : List (List ℕ)) (rows : List Row) → s ≡ set_of head s.tasks → rows_from (6 + length s.tasks)
    s.tasks [] lines ≡ Ok (rows, rest)
    → body head s.tasks lines ≡ ending (6 + length s.tasks + length rows) (record { set = s; scale = head.scale; rows = rows })
    (first_other (tail_lines head.version s head.scale rows) rest)
body_ending head s lines rest rows f g =
    ap (λ r. and_then r (λ p. ending (6 + length s.tasks + length p.0) (record { set = set_of head s.tasks; scale = head.scale; rows = p.0 })
    (first_other (tail_lines head.version (set_of head s.tasks) head.scale p.0) p.1))) g
    ∙ ap (λ w. ending (6 + length s.tasks + length rows) (record { set = w; scale = head.scale; rows = rows })
    (first_other (tail_lines head.version w head.scale rows) rest)) (sym f)

-- what a source gave before its end is known, and what it gave then
pub some_last : (a b c : Option (List ℕ)) (w u : WindowHeld) (ended : Bool) (one two : List ℕ) → GaveSome a b w u ended one → GaveLast b c ended u two →
    GaveRest a c w (one ++ two)
some_last a b c w u ended one two s l =
    record {
      gave = Consumes-trans a b c one two s.gave l.gave;
      ended = l.at_end;
      within = (let long = length-append one two in (elim (cases_Bool ended) [
        | inl t ↦ (let none : length two ≡ 0 = ap length (l.none t) in let within = s.within in omega (arith, within, long, none))
        | inr f ↦ (let count = s.count f in let limit = s.limit f in let within = l.within f in omega (arith, within, long, count, limit))
      ]));
    }

pub some_within : (a b : Option (List ℕ)) (w u : WindowHeld) (ended : Bool) (one : List ℕ) → GaveSome a b w u ended one → ended ≡ false → u.count ≤ u.limit
some_within a b w u ended one s f = (let count = s.count f in let limit = s.limit f in let within = s.within in omega (arith, within, count, limit))

pub some_small : (a b : Option (List ℕ)) (w u : WindowHeld) (ended : Bool) (one : List ℕ) (most : ℕ) → GaveSome a b w u ended one → w.limit < most →
    ended ≡ false → u.limit < most
some_small a b w u ended one most s small f = (let limit = s.limit f in omega (arith, limit, small))

pub some_stops : (a b c : Option (List ℕ)) (fa fb fc : ℕ) (w u : WindowHeld) (ended : Bool) (one : List ℕ) (fault : TakeFault) → GaveSome a b w u ended one
    → fa ≤ fb
    → (ended ≡ false) × StopsFilling b c fb fc u fault → StopsFilling a c fa fc w fault
some_stops a b c fa fb fc w u ended one fault s later stops =
    stops_after a b c fa fb fc w u one fault s.gave (s.count stops.0) (s.limit stops.0) (some_within a b w u ended one s stops.0) later stops.1

pub tail_unread : (a b c : Option (List ℕ)) (fa fb fc : ℕ) (w u : WindowHeld) (ended : Bool) (one : List ℕ) (h : Head) (tasks : List Task)
    (fault : SourceFault) → GaveSome a b w u ended one → fa ≤ fb
    → StopsInTail b c fb fc u ended fault → StopsInRest a c fa fc w h tasks fault
tail_unread a b c fa fb fc w u ended one h tasks (source_fault.Unread take_fault.Read) s later stops = some_stops a b c fa fb fc w u ended one
    take_fault.Read s later stops
tail_unread a b c fa fb fc w u ended one h tasks (source_fault.Unread (take_fault.TooLong count)) s later stops = some_stops a b c fa fb fc w u ended one
    (take_fault.TooLong count) s later stops
tail_unread a b c fa fb fc w u ended one h tasks (source_fault.Unread take_fault.NoMemory) s later stops = tt
tail_unread a b c fa fb fc w u ended one h tasks (source_fault.BadLine line) s later stops = absurd stops

-- the rows of the text, as far as it is known
pub rows_known : (tasks : List Task) (text : List ℕ) (done : List Row) (sums rest : List ℕ) (r : RowsStop) → RowsStopAt tasks text done sums rest r →
    (r.stop ≡ stops.Fault → ⊥)
    → AreAllRows tasks (text ++ []) done sums (rest ++ [])
rows_known tasks text done sums rest r at ne = all_rows tasks (text ++ []) done sums (rest ++ []) r.stop (at [] (λ _. refl)) ne

pub rows_few : (tasks : List Task) (text : List ℕ) (done : List Row) (sums rest : List ℕ) (stop : Stop) → RowsEnd tasks text done sums rest stop →
    length done ≤ row_limit
rows_few tasks text done sums rest stops.Ends end = end.few
rows_few tasks text done sums rest stops.Cut end = end.few
rows_few tasks text done sums rest stops.Fault end = end.1

pub row_told : (h : Head) (tasks : List Task) (ahead one two rest : List ℕ) (done : List Row) (sums : List ℕ) (r : RowsStop) →
    RowsStopAt tasks (ahead ++ one) done sums rest r → r.stop ≡ stops.Fault
    → MayFollow r.ended two → body h tasks (lines_of (ahead ++ (one ++ two))) ≡ Err (6 + length tasks + length done)
row_told h tasks ahead one two rest done sums r at is may =
    ap (λ t. body h tasks (lines_of t)) (sym (append_assoc ahead one two))
    ∙ body_stops h tasks (lines_of ((ahead ++ one) ++ two)) (6 + length tasks + length done) (row_at_fault tasks ((ahead ++ one) ++ two) done sums
    (rest ++ two) r.stop (at two may) is)

pub tail_told : (h : Head) (s : SetContents) (ahead one two rest : List ℕ) (done : List Row) (sums : List ℕ) (r : RowsStop) (other : Option ℕ) →
    s ≡ set_of h s.tasks
    → RowsStopAt s.tasks (ahead ++ one) done sums rest r → (r.stop ≡ stops.Fault → ⊥) → MayFollow r.ended two →
    first_other (tail_lines h.version s h.scale done) (lines_of (rest ++ two)) ≡ other
    → body h s.tasks (lines_of (ahead ++ (one ++ two))) ≡ ending (6 + length s.tasks + length done) (record { set = s; scale = h.scale; rows = done }) other
tail_told h s ahead one two rest done sums r other is at ne may told =
    let all = all_rows s.tasks ((ahead ++ one) ++ two) done sums (rest ++ two) r.stop (at two may) ne in
    ap (λ t. body h s.tasks (lines_of t)) (sym (append_assoc ahead one two)) ∙ body_ending h s (lines_of ((ahead ++ one) ++ two)) (lines_of (rest ++ two))
    done is all.rows
    ∙ ap (ending (6 + length s.tasks + length done) (record { set = s; scale = h.scale; rows = done })) told

-- ---- from the front of the source on

-- the whole text of a source whose front was gone past
pub front_gone : (text front ahead more : List ℕ) (n : ℕ) (f : Front) → IsTextFront text f → n ≡ f.count → ahead ≡ drop n text →
    reading (text ++ more) ≡ body f.head f.set.tasks (lines_of (ahead ++ more))
front_gone text front ahead more n f is same rest =
    ap (λ t. reading (t ++ more)) (sym (take-append-drop n text)) ∙ ap reading (append_assoc (take n text) (drop n text) more)
    ∙ ap (λ k. reading (take k text ++ (drop n text ++ more))) same ∙ is.whole (drop n text ++ more)
    ∙ ap (λ t. body f.head f.set.tasks (lines_of (t ++ more))) (sym rest)

-- what the source gave to a window and then besides
pub gave_whole : (a b c : Option (List ℕ)) (w v u : WindowHeld) (limit : ℕ) (more : List ℕ) → w.ahead ≡ [] → w.count ≡ 0 → w.limit ≡ limit → Fills a b w v →
    u.count ≡ v.count → u.limit ≡ v.limit → GaveRest b c u more
    → GaveAll a c limit (v.ahead ++ more)
gave_whole a b c w v u limit more none zero top f count same rest =
    let all : v.ahead ≡ f.more = f.ahead ∙ ap (λ t. t ++ f.more) none in
    let n = f.count in
    let l = f.limit in
    let within = rest.within in
    record {
      gave = rw all (Consumes-trans a b c f.more more f.gave rest.gave);
      ended = rest.ended;
      within = rw all (omega (arith, zero, top, n, l, count, same, within, length-append f.more more));
    }

pub unread_stops : (a c : Option (List ℕ)) (fa fc : ℕ) (w : WindowHeld) (limit : ℕ) (fault : TakeFault) → w.count ≡ 0 → w.limit ≡ limit →
    StopsFilling a c fa fc w fault
    → GaveNoTraceText a c fa fc limit (source_fault.Unread fault)
unread_stops a c fa fc w limit take_fault.Read zero top s = (s.0, subst (λ n. GaveAtMost a c n) (omega (arith, zero, top)) s.1)
unread_stops a c fa fc w limit (take_fault.TooLong count) zero top s = (s.0 ∙ ap (λ n. n + 1) top, subst (λ n. GaveCount a c n) (omega (arith, zero)) s.1)
unread_stops a c fa fc w limit take_fault.NoMemory zero top s = tt

pub rest_stops : (a b c : Option (List ℕ)) (fa fb fc : ℕ) (w v u : WindowHeld) (limit : ℕ) (h : Head) (tasks : List Task) (fault : SourceFault) →
    w.ahead ≡ [] → w.count ≡ 0 → w.limit ≡ limit → Fills a b w v
    → u.count ≡ v.count → u.limit ≡ v.limit → fa ≤ fb → ((more : List ℕ) → reading (v.ahead ++ more) ≡ body h tasks (lines_of (u.ahead ++ more))) →
    StopsInRest b c fb fc u h tasks fault
    → GaveNoTraceText a c fa fc limit fault
rest_stops a b c fa fb fc w v u limit h tasks (source_fault.Unread fault) none zero top f count same later whole s =
    unread_stops a c fa fc w limit fault zero top (stops_after a b c fa fb fc w u f.more fault f.gave (count ∙ f.count) (same ∙ f.limit) (let within =
    f.within in omega (arith, within, count, same)) later s)
rest_stops a b c fa fb fc w v u limit h tasks (source_fault.BadLine line) none zero top f count same later whole s =
    (v.ahead ++ s.0, gave_whole a b c w v u limit s.0 none zero top f count same s.1, whole s.0 ∙ s.2)

-- the whole text was held
pub held_stops : (a c : Option (List ℕ)) (fa fc : ℕ) (limit : ℕ) (bytes : List ℕ) (fault : TraceFault) → GaveAll a c limit bytes →
    NamesBadLine (reading bytes) fault → GaveNoTraceText a c fa fc limit (of_trace fault)
held_stops a c fa fc limit bytes (BadLine line) all e = (bytes, all, e)
held_stops a c fa fc limit bytes NoMemory all e = tt

-- a window that was filled, and then to the end of the source, has all its bytes
pub filled_rest : (a b c : Option (List ℕ)) (w v u : WindowHeld) (limit : ℕ) → w.ahead ≡ [] → w.count ≡ 0 → w.limit ≡ limit → Fills a b w v →
    Fills b c v u → IsAtEnd c → GaveAll a c limit u.ahead
filled_rest a b c w v u limit none zero top f h end =
    let within = h.within in
    let n = h.count in
    let l = h.limit in
    rw h.ahead (gave_whole a b c w v v limit h.more none zero top f refl refl (record { gave = h.gave; ended = end; within = omega (arith, within, n, l) }))

pub ok_then : {T E : Type 0} (r : Result T E) (P Q : T → Type 0) → ((x : T) → P x → Q x) → IfOk r P → IfOk r Q
ok_then (Ok x) P Q f p = f x p
ok_then (Err e) P Q f p = tt
