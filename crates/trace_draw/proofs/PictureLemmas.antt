-- The frames of the row at fault: which row it is, and where there is none.
use Rattle.std.proofs.Common.{ℕ, Option, Result, ◌+◌, ◌-◌, ◌<◌, ◌≤◌, ◌≡◌, ◌&&◌, leb, ltb, Bool, true, false, List, [], length, sym, ap, ◌∙◌, subst, arith}
use Rattle.std.specs.List.{concat}
use Rattle.std.proofs.lemmas.Bool.{and_parts, and_from, both_ways, leb-true, le-leb, ltb-true, lt-ltb, false_from_ne_true, cond-true, cond-false}
use Rattle.trace_verdict.specs.declared.faults.FaultKind.{FaultKind}
use Rattle.trace_verdict.specs.declared.faults.Verdict.TheVariants.{Fault}
use Rattle.trace_verdict.specs.Faults.{row_at}
use Rattle.trace_check.specs.Traces.{Trace}
use Rattle.trace_draw.specs.declared.shown_units.ShownUnits.{ShownUnits}
use Rattle.sched_base.specs.declared.rows.Row.{Row}
use Rattle.trace_draw.specs.ShownUnits.{reaches, place, span}
use Rattle.sched_edges.specs.Streams.{Wrote}
use Rattle.sched_base.specs.Sets.{SetContents}
use Rattle.trace_draw.specs.declared.rows.Part.{Part}
use Rattle.trace_draw.specs.Rows.{frame_lines, rows_text}
use Rattle.trace_draw.specs.Picture.{framed_row, fault_text}

pub fault_framed : (t : Trace) (w : ShownUnits) (line : ℕ) (kind : FaultKind) (first i : ℕ) → first ≡ 6 + length t.set.tasks → first ≤ line → i ≡ line - first
    → fault_text t w (Fault line kind) ≡ framed_row t w i
fault_framed t w line kind first i at within is =
    let below : 6 + length t.set.tasks ≤ line = subst (λ n. n ≤ line) at within in
    cond-true (leb (6 + length t.set.tasks) line) _ _ (le-leb _ _ below) ∙ ap (framed_row t w) (ap (λ n. line - n) (sym at) ∙ sym is)

pub fault_before : (t : Trace) (w : ShownUnits) (line : ℕ) (kind : FaultKind) (first : ℕ) → first ≡ 6 + length t.set.tasks → (first ≤ line → ⊥) →
    fault_text t w (Fault line kind) ≡ []
fault_before t w line kind first at before =
    cond-false (leb (6 + length t.set.tasks) line) _ _ (false_from_ne_true _ (λ h. before (subst (λ n. n ≤ line) (sym at) (leb-true _ _ h))))

pub framed_past : (t : Trace) (w : ShownUnits) (i : ℕ) → length t.rows ≤ i → framed_row t w i ≡ []
framed_past t w i past =
    cond-false (ltb i (length t.rows) && reaches w (row_at t.rows i)) _ _ (false_from_ne_true _ (λ h. (
    let within = ltb-true i (length t.rows) (and_parts (ltb i (length t.rows)) (reaches w (row_at t.rows i)) h).0 in
    absurd (omega (arith, within, past)))))

-- where the window doesn't reach the row, it has no frames, and else it has those of that row
pub framed_apart : (t : Trace) (w : ShownUnits) (rows : List Row) (i : ℕ) (b : Bool) → rows ≡ t.rows → b ≡ reaches w (row_at rows i) → b ≡ false →
    framed_row t w i ≡ []
framed_apart t w rows i b same is off =
    let apart : reaches w (row_at t.rows i) ≡ false = ap (λ (rs : List Row). reaches w (row_at rs i)) (sym same) ∙ sym is ∙ off in
    cond-false (ltb i (length t.rows) && reaches w (row_at t.rows i)) _ _ (false_from_ne_true _ (λ h. both_ways _ apart (and_parts (ltb i (length t.rows))
    (reaches w (row_at t.rows i)) h).1))

pub framed_shown : (t : Trace) (w : ShownUnits) (i : ℕ) → i < length t.rows → reaches w (row_at t.rows i) ≡ true
    → framed_row t w i ≡ concat (frame_lines t.set (row_at t.rows i) (place w (row_at t.rows i).start) (span w (row_at t.rows i).start (row_at t.rows i).end))
framed_shown t w i within is = cond-true (ltb i (length t.rows) && reaches w (row_at t.rows i)) _ _ (and_from _ _ (lt-ltb i (length t.rows) within) is)

wrote_same : {T E : Type 0} (a b : Option (List ℕ)) (text : SetContents → List Row → List ℕ) (known told : SetContents) (rows shown : List Row)
    (r : Result T E) → told ≡ known → shown ≡ rows
    → Wrote a b (text told shown) r → Wrote a b (text known rows) r
wrote_same a b text known told rows shown r same these wrote =
    subst (λ (xs : List Row). Wrote a b (text known xs) r) these (subst (λ (x : SetContents). Wrote a b (text x shown) r) same wrote)

-- a write of rows of a set, where these are the rows and the set of a trace
pub rows_wrote : {T E : Type 0} (a b : Option (List ℕ)) (part : Part) (w : ShownUnits) (known told : SetContents) (rows shown : List Row) (r : Result T E) →
    told ≡ known → shown ≡ rows
    → Wrote a b (rows_text part told w shown) r → Wrote a b (rows_text part known w rows) r
rows_wrote a b part w = wrote_same a b (λ s rows. rows_text part s w rows)
