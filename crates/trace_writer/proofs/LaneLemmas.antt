-- The lines of the rows, processor by processor.
use Rattle.std.proofs.Common.{ℕ, zero, suc, ◌+◌, ◌<◌, ◌≤◌, ◌≡◌, ◌≢◌, inl, inr, List, [], ◌∷◌, ◌++◌, length, Option, Some, None, Result, Ok, Err, sym}
use Rattle.std.proofs.Common.{refl, ap, ◌∙◌, subst, arith, append_assoc, append-nil, length-append}
use Rattle.std.proofs.lemmas.Bool.{cases_lt}
use Rattle.std.specs.Prelude.{IsErr, IfNone}
use Rattle.std.specs.List.{AllByRecursion, flat_map}
use Rattle.std.specs.Io.KnownBytes.{Appends}
use Rattle.std.proofs.KnownBytes.{Appends-trans}
use Rattle.std.proofs.lemmas.List.Concat.{flat_map-append}
use Rattle.sched_base.specs.declared.rows.Row.{Row}
use Rattle.sched_base.specs.declared.sets.Task.{Task}
use Rattle.sched_base.specs.Tables.{lane_of}
use Rattle.sched_edges.specs.Streams.{Wrote}
use Rattle.sched_edges.proofs.CauseLemmas.{took_none}
use Rattle.sched_edges.proofs.Wrote.{part_then, part_cut, wrote_part}
use Rattle.row_totals.specs.Sums.{IsAmong, NamesAmong}
use Rattle.trace_format.specs.Lines.{row_line}
use Rattle.trace_writer.specs.Parts.{IsPage}

-- ---- one page

pub page_begun : (tasks : List Task) (rows : List Row) → IsPage tasks rows rows 0 []
page_begun tasks rows = record { parts = ([], refl, refl, refl) }

-- one line more
pub page_with : (tasks : List Task) (rows left later : List Row) (r : Row) (lines : ℕ) (page : List ℕ) → left ≡ r ∷ later → IsPage tasks rows left lines page
    → IsPage tasks rows later (lines + 1) (page ++ row_line tasks r)
page_with tasks rows left later r lines page first so_far =
    let (shown, whole, text, many) = so_far.parts in
    let one : flat_map (row_line tasks) (shown ++ r ∷ []) ≡ flat_map (row_line tasks) shown ++ row_line tasks r =
    flat_map-append (row_line tasks) shown (r ∷ []) ∙ ap (λ t. flat_map (row_line tasks) shown ++ t) (append-nil (row_line tasks r)) in
    record {
      parts = (
        shown ++ r ∷ [],
        whole ∙ ap (λ rs. shown ++ rs) first ∙ sym (append_assoc shown (r ∷ []) later),
        ap (λ t. t ++ row_line tasks r) text ∙ sym one,
        omega (arith, many, length-append shown (r ∷ [])),
      );
    }

-- each row has a line, or is left
pub page_counts : (tasks : List Task) (rows left : List Row) (lines : ℕ) (page : List ℕ) → IsPage tasks rows left lines page → lines + length left ≡ length rows
page_counts tasks rows left lines page h =
    let (shown, whole, text, many) = h.parts in
    let e : length rows ≡ length shown + length left = ap length whole ∙ length-append shown left in
    omega (arith, e, many)

nothing : (rows : List Row) → length rows ≡ 0 → rows ≡ []
nothing [] e = refl
nothing (r ∷ rows) e = absurd (omega (arith, e))

-- the lines of a page are no more than its rows
pub page_few : (tasks : List Task) (rows left : List Row) (lines most : ℕ) (page : List ℕ) → IsPage tasks rows left lines page → length rows ≤ most →
    lines ≤ most
page_few tasks rows left lines most page is few = (let each = page_counts tasks rows left lines page is in omega (arith, each, few))

-- one row fewer is left
pub left_smaller : (left later : List Row) (r : Row) → left ≡ r ∷ later → length later < length left
left_smaller left later r first = (let more = ap length first in omega (arith, more))

-- what holds where there is no next row
pub none_next : {A P : Type 0} (next : Option A) → ((r : A) → next ≢ Some r) → IfNone next P → P
none_next None none h = h
none_next (Some r) none h = absurd (none r refl)

-- where none is left and none has a line there was none
pub page_empty : (tasks : List Task) (rows left : List Row) (lines : ℕ) (page : List ℕ) → left ≡ [] → IsPage tasks rows left lines page → lines ≡ 0 → rows ≡ []
page_empty tasks rows left lines page none h few =
    let count = page_counts tasks rows left lines page h in
    let last = ap length none in
    nothing rows (omega (arith, count, last, few))

-- ---- one processor

-- of these rows some were written, of so many lines, and these are left
pub record Written (tasks : List Task) (a b : Option (List ℕ)) (rows left : List Row) (count : ℕ) : Type 0 where
  pub parts : (written : List Row) × (rows ≡ written ++ left) × Appends a b (flat_map (row_line tasks) written) × (count ≡ length written)

pub written_none : (tasks : List Task) (a : Option (List ℕ)) (rows left : List Row) → left ≡ rows → Written tasks a a rows left 0
written_none tasks a rows left same = record { parts = ([], sym same, took_none a, refl) }

-- each row is written or left
pub written_counts : (tasks : List Task) (a b : Option (List ℕ)) (rows left : List Row) (count : ℕ) → Written tasks a b rows left count →
    count + length left ≡ length rows
written_counts tasks a b rows left count h =
    let (written, all, took, counted) = h.parts in
    let e : length rows ≡ length written + length left = ap length all ∙ length-append written left in
    omega (arith, e, counted)

-- those that are left are no more than all
pub written_few : (tasks : List Task) (a b : Option (List ℕ)) (rows left : List Row) (count most : ℕ) → Written tasks a b rows left count →
    length rows ≤ most → length left ≤ most
written_few tasks a b rows left count most h few = (let each = written_counts tasks a b rows left count h in omega (arith, each, few))

-- the lines of a page more are no more than all rows
pub written_fits : (tasks : List Task) (a b : Option (List ℕ)) (rows left later : List Row) (count lines most : ℕ) (page : List ℕ) → IsPage tasks left later
    lines page
    → Written tasks a b rows left count → length rows ≤ most → count + lines ≤ most
written_fits tasks a b rows left later count lines most page is h few =
    let each = written_counts tasks a b rows left count h in
    let more = page_counts tasks left later lines page is in
    omega (arith, each, more, few)

-- a page that has a line leaves fewer rows
pub page_smaller : (tasks : List Task) (rows left : List Row) (lines : ℕ) (page : List ℕ) → IsPage tasks rows left lines page → (lines ≡ 0 → ⊥) →
    length left < length rows
page_smaller tasks rows left lines page is some =
    let more = page_counts tasks rows left lines page is in
    let one : 0 < lines = elim (cases_lt 0 lines) [
      | inl above ↦ above
      | inr none ↦ absurd (some (omega (arith, none)))
    ] in
    omega (arith, more, one)

-- a page more
pub written_more : (tasks : List Task) (a b c : Option (List ℕ)) (rows left later : List Row) (count lines : ℕ) (page : List ℕ) → IsPage tasks left later
    lines page
    → Written tasks a b rows left count → Appends b c page → Written tasks a c rows later (count + lines)
written_more tasks a b c rows left later count lines page is so_far now =
    let (written, all, took, counted) = so_far.parts in
    let (shown, whole, text, many) = is.parts in
    let both : flat_map (row_line tasks) (written ++ shown) ≡ flat_map (row_line tasks) written ++ page =
    flat_map-append (row_line tasks) written shown ∙ ap (λ t. flat_map (row_line tasks) written ++ t) (sym text) in
    record {
      parts = (
        written ++ shown,
        all ∙ ap (λ rs. written ++ rs) whole ∙ sym (append_assoc written shown later),
        subst (Appends a c) (sym both) (Appends-trans a b c _ _ took now),
        omega (arith, counted, many, length-append written shown),
      );
    }

-- the write of a page failed
pub written_cut : {T U E F : Type 0} (tasks : List Task) (a b c : Option (List ℕ)) (rows left later : List Row) (count lines : ℕ) (page : List ℕ) (e : F)
    (result : Result T E) → IsPage tasks left later lines page
    → Written tasks a b rows left count → Wrote {T = U} b c page (Err e) → IsErr result → Wrote a c (flat_map (row_line tasks) rows) result
written_cut tasks a b c rows left later count lines page e result is so_far wrote failed =
    let (written, all, took, counted) = so_far.parts in
    let (shown, whole, shown_text, many) = is.parts in
    let rest : flat_map (row_line tasks) (shown ++ later) ≡ page ++ flat_map (row_line tasks) later =
    flat_map-append (row_line tasks) shown later ∙ ap (λ t. t ++ flat_map (row_line tasks) later) (sym shown_text) in
    let text : flat_map (row_line tasks) rows ≡ flat_map (row_line tasks) written ++ (page ++ flat_map (row_line tasks) later) =
    ap (flat_map (row_line tasks)) (all ∙ ap (λ rs. written ++ rs) whole) ∙ flat_map-append (row_line tasks) written (shown ++ later)
    ∙ ap (λ t. flat_map (row_line tasks) written ++ t) rest in
    wrote_part a c _ result failed (rw text (part_then a b c _ _ took (part_cut b c page (flat_map (row_line tasks) later) wrote.err)))

-- none is left
pub written_all : {T E : Type 0} (tasks : List Task) (a b : Option (List ℕ)) (rows left : List Row) (count : ℕ) (v : T) → left ≡ [] → Written tasks a b rows
    left count
    → Wrote {E = E} a b (flat_map (row_line tasks) rows) (Ok v) × (count ≡ length rows)
written_all tasks a b rows left count v none so_far =
    let (written, all, took, counted) = so_far.parts in
    let whole : rows ≡ written = all ∙ ap (λ rs. written ++ rs) none ∙ append-nil written in
    (record { ok = subst (Appends a b) (ap (flat_map (row_line tasks)) (sym whole)) took; err = tt }, counted ∙ ap length (sym whole))

-- where the rows name the first n tasks alone, the first of them does, and so do those after it
pub names_next : (n : ℕ) (left later : List Row) (r : Row) → left ≡ r ∷ later → NamesAmong n left → IsAmong n r.leaf × NamesAmong n later
names_next n left later r first names = subst (NamesAmong n) first names

-- ---- all processors

-- what holds of each lane holds of lane p
pub lane_has : (P : List Row → Type 0) (lanes : List (List Row)) (p : ℕ) → p < length lanes → AllByRecursion P lanes → P (lane_of lanes p)
lane_has P [] p within all = absurd (omega (arith, within))
lane_has P (lane ∷ lanes) zero within all = all.0
lane_has P (lane ∷ lanes) (suc p) within all = lane_has P lanes p (omega (arith, within)) all.1
