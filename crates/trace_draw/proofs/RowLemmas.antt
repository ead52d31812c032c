-- Of the rows that reach into a window the first ones are drawn.
use Rattle.std.proofs.Common.{ℕ, Option, Result, [], zero, suc, ◌+◌, ◌<◌, ◌≤◌, ◌≡◌, Bool, true, false, cond, min, List, ◌∷◌, ◌++◌, take, drop, get_or}
use Rattle.std.proofs.Common.{filter, length, length-append, drop-cons, sym, ap, ◌∙◌, subst, arith}
use Rattle.std.proofs.lemmas.Bool.{cond-true, cond-false}
use Rattle.std.proofs.lemmas.List.{take-append-drop, take_all, length-take, get_or-take}
use Rattle.std.proofs.lemmas.List.Elements.{filter-append}
use Rattle.std.proofs.lemmas.List.Filters.{length-filter_more}
use Rattle.std.proofs.Math.Seq.{get_or-append_seam}
use Rattle.sched_base.specs.declared.rows.Row.{Row}
use Rattle.trace_draw.specs.declared.shown_units.ShownUnits.{ShownUnits}
use Rattle.std.specs.List.{AllByRecursion, concat}
use Rattle.sched_base.specs.Sets.{SetContents}
use Rattle.sched_edges.specs.Streams.{Wrote}
use Rattle.trace_verdict.specs.Faults.{IsTraceRow, row_at}
use Rattle.trace_draw.specs.declared.rows.Part.{Part}
use Rattle.trace_draw.specs.declared.rows.Part.TheVariants.{Boxes, Words}
use Rattle.trace_draw.specs.Rows.{boxes_lines, words_lines, task_row_text}
use Rattle.trace_draw.specs.ShownUnits.{most_drawn, reaches, place, span}
use Rattle.trace_draw.proofs.Parts.{drawn_rows}

-- what passes is what passed before an item that does, this item, and what passes behind it
filter_split : {X : Type 0} (p : X → Bool) (xs : List X) (i : ℕ) (x : X) → i < length xs → x ≡ get_or xs i x → p x ≡ true
    → filter p xs ≡ filter p (take i xs) ++ (x ∷ filter p (drop (suc i) xs))
filter_split p xs i x within at passes =
    let rest : drop i xs ≡ x ∷ drop (suc i) xs = drop-cons xs i x within ∙ ap (λ y. y ∷ drop (suc i) xs) (sym at) in
    ap (filter p) (sym (take-append-drop i xs)) ∙ filter-append p (take i xs) (drop i xs)
    ∙ ap (λ ys. filter p (take i xs) ++ filter p ys) rest
    ∙ ap (λ ys. filter p (take i xs) ++ ys) (cond-true (p x) (x ∷ filter p (drop (suc i) xs)) (filter p (drop (suc i) xs)) passes)

-- it stands among the first n that pass, where fewer passed before it
pub stands_first : {X : Type 0} (p : X → Bool) (xs : List X) (i n : ℕ) (x : X) → i < length xs → x ≡ get_or xs i x → p x ≡ true →
    length (filter p (take i xs)) < n
    → (length (filter p (take i xs)) < length (take n (filter p xs))) × (x ≡ get_or (take n (filter p xs)) (length (filter p (take i xs))) x)
stands_first p xs i n x within at passes few =
    let before = filter p (take i xs) in
    let split = filter_split p xs i x within at passes in
    let long = ap length split ∙ length-append before (x ∷ filter p (drop (suc i) xs)) in
    let most = length-take n (filter p xs) in (
      omega (arith, few, long, most),
      sym (get_or-take n (filter p xs) (length before) x few
          ∙ ap (λ ys. get_or ys (length before) x) split
          ∙ get_or-append_seam before x (filter p (drop (suc i) xs)) x),
    )

-- what holds of each row of a trace holds of row i
pub trace_row_at : (s : SetContents) (rows : List Row) (i : ℕ) → i < length rows → AllByRecursion (IsTraceRow s) rows → IsTraceRow s (row_at rows i)
trace_row_at s [] i within all = absurd (omega (arith, within))
trace_row_at s (r ∷ rows) zero within all = all.0
trace_row_at s (r ∷ rows) (suc i) within all = trace_row_at s rows i (omega (arith, within)) all.1

text_wrote : {T E : Type 0} (a b : Option (List ℕ)) (xs ys : List ℕ) (result : Result T E) → xs ≡ ys → Wrote a b xs result → Wrote a b ys result
text_wrote a b xs ys result same wrote = subst (λ text. Wrote a b text result) same wrote

-- the lines of a part of a row were written
pub boxes_wrote : {T E : Type 0} (a b : Option (List ℕ)) (part : Part) (s : SetContents) (w : ShownUnits) (j : ℕ) (r : Row) (x width : ℕ)
    (lines : List (List ℕ)) (result : Result T E)
    → part ≡ Boxes → x ≡ place w r.start → width ≡ span w r.start r.end → lines ≡ boxes_lines s j r x width → Wrote a b (concat lines) result →
    Wrote a b (task_row_text part s w j r) result
boxes_wrote a b part s w j r x width lines result is left wide told wrote =
    text_wrote a b _ _ result (ap concat told ∙ ap (λ n. concat (boxes_lines s j r n width)) left ∙ ap (λ n. concat (boxes_lines s j r (place w r.start) n))
    wide ∙ ap (λ p. task_row_text p s w j r) (sym is)) wrote

pub words_wrote : {T E : Type 0} (a b : Option (List ℕ)) (part : Part) (s : SetContents) (w : ShownUnits) (j : ℕ) (r : Row) (x width : ℕ)
    (lines : List (List ℕ)) (result : Result T E)
    → part ≡ Words → x ≡ place w r.start → width ≡ span w r.start r.end → lines ≡ words_lines s j r x width → Wrote a b (concat lines) result →
    Wrote a b (task_row_text part s w j r) result
words_wrote a b part s w j r x width lines result is left wide told wrote =
    text_wrote a b _ _ result (ap concat told ∙ ap (λ n. concat (words_lines s j r n width)) left ∙ ap (λ n. concat (words_lines s j r (place w r.start) n))
    wide ∙ ap (λ p. task_row_text p s w j r) (sym is)) wrote

-- ---- rows that are gone through, of which so many were drawn

pub next_drawn : (w : ShownUnits) (rows : List Row) (i drawn : ℕ) (r : Row) → i < length rows → r ≡ get_or rows i r → reaches w r ≡ true
    → drawn ≡ min most_drawn (length (filter (reaches w) (take i rows))) → drawn < most_drawn
    → (drawn < length (drawn_rows w rows)) × (r ≡ get_or (drawn_rows w rows) drawn r)
next_drawn w rows i drawn r within at reached is few =
    let before = length (filter (reaches w) (take i rows)) in
    let same : before ≡ drawn = omega (arith, is, few) in
    subst (λ n. (n < length (drawn_rows w rows)) × (r ≡ get_or (drawn_rows w rows) n r)) same
    (stands_first (reaches w) rows i most_drawn r within at reached (omega (arith, same, few)))

pub count_next : (w : ShownUnits) (rows : List Row) (i drawn : ℕ) (r : Row) → i < length rows → r ≡ get_or rows i r → reaches w r ≡ true
    → drawn ≡ min most_drawn (length (filter (reaches w) (take i rows))) → drawn < most_drawn
    → drawn + 1 ≡ min most_drawn (length (filter (reaches w) (take (i + 1) rows)))
count_next w rows i drawn r within at reached is few =
    let more = length-filter_more (reaches w) rows i r within in
    let here : ◌≡◌ {A = ℕ} (cond (reaches w (get_or rows i r)) 1 0) 1 = cond-true _ _ _ (subst (λ (x : Row). reaches w x ≡ true) at reached) in
    omega (arith, is, few, more, here)

pub count_past : (w : ShownUnits) (rows : List Row) (i drawn : ℕ) (r : Row) → i < length rows → r ≡ get_or rows i r → reaches w r ≡ false
    → drawn ≡ min most_drawn (length (filter (reaches w) (take i rows))) → drawn ≡ min most_drawn (length (filter (reaches w) (take (i + 1) rows)))
count_past w rows i drawn r within at apart is =
    let more = length-filter_more (reaches w) rows i r within in
    let here : ◌≡◌ {A = ℕ} (cond (reaches w (get_or rows i r)) 1 0) 0 = cond-false _ _ _ (subst (λ (x : Row). reaches w x ≡ false) at apart) in
    omega (arith, is, more, here)

pub count_full : (w : ShownUnits) (rows : List Row) (i drawn : ℕ) (r : Row) → i < length rows → most_drawn ≤ drawn
    → drawn ≡ min most_drawn (length (filter (reaches w) (take i rows))) → drawn ≡ min most_drawn (length (filter (reaches w) (take (i + 1) rows)))
count_full w rows i drawn r within full is = (let more = length-filter_more (reaches w) rows i r within in omega (arith, is, more, full))

-- behind the last row all that are drawn were
pub all_drawn : (w : ShownUnits) (rows : List Row) (i drawn : ℕ) → length rows ≤ i → drawn ≡ min most_drawn (length (filter (reaches w) (take i rows)))
    → take drawn (drawn_rows w rows) ≡ drawn_rows w rows
all_drawn w rows i drawn past is =
    let whole = ap (λ (rs : List Row). min most_drawn (length (filter (reaches w) rs))) (take_all i rows past) in
    let long = length-take most_drawn (filter (reaches w) rows) in
    take_all drawn (drawn_rows w rows) (omega (arith, is, whole, long))
